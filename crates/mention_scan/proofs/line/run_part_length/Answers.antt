use Rattle.std.proofs.Common.{◌≡◌, ◌+◌, ◌∙◌, ◌≤◌, Some, ap, arith, drop, length}
use Rattle.std.proofs.lemmas.List.{take_rest}
use Rattle.mention_scan.specs.Division.{nearest_run}
use Rattle.mention_scan.proofs.Runs.{code-length, run_part-fits}
use Rattle.mention_scan.proofs.line.run_part_length.Goals as goal

place-in_Some : (c : goal.In-Some) → Some c.in-Some.inside ≡ nearest_run c.args.run (drop c.args.run c.args.bytes.now)
place-in_Some c = c.in-Some.ensures ∙ ap (nearest_run c.args.run) (take_rest c.args.bytes.now c.args.run)

code-fits : (c : goal.In-Some) → c.args.run + (c.in-Some.inside + c.args.run) ≤ length c.args.bytes.now
code-fits c =
    let size = code-length c.args.run c.in-Some.inside (drop c.args.run c.args.bytes.now) (place-in_Some c) in
    let fits = run_part-fits c.args.run c.args.bytes.now c.requires.begins in
    omega (arith, size, fits)

pub overflow_add-result : goal.overflow_add-result
overflow_add-result c = omega (arith, code-fits c)

pub overflow_add-result-in-Some : goal.overflow_add-result-in-Some
overflow_add-result-in-Some c = omega (arith, code-fits c)

pub returns-in-Some-clause-value : goal.returns-in-Some-clause-value
returns-in-Some-clause-value c = omega (arith, code-length c.args.run c.in-Some.inside (drop c.args.run c.args.bytes.now) (place-in_Some c))

pub returns-in-Some-clause-bound : goal.returns-in-Some-clause-bound
returns-in-Some-clause-bound c = omega (arith, code-fits c)
