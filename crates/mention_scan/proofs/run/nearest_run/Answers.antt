use Rattle.std.proofs.Common.{arith, sym}
use Rattle.mention_scan.proofs.Runs.{Searched-end, Searched-found, Searched-on}
use Rattle.mention_scan.proofs.run.nearest_run.Goals as goal

pub loop-place-preserved : goal.loop-place-preserved
loop-place-preserved c =
    Searched-on c.args.n c.loop-place.place c.run_of-run.result c.args.bytes.now c.requires.some c.run_of-run.ensures.value c.if-run-n.false c.loop-place-test.true c.loop-place.invariant

pub returns-then-run-n : goal.returns-then-run-n
returns-then-run-n c =
    sym (Searched-found c.args.n c.loop-place.place c.run_of-run.result c.args.bytes.now c.requires.some c.run_of-run.ensures.value c.if-run-n.true c.loop-place-test.true c.loop-place.invariant)

pub returns : goal.returns
returns c = sym (Searched-end c.args.n c.loop-place.place c.args.bytes.now c.requires.some (omega arith) c.loop-place.invariant)
