use Rattle.std.proofs.Common.{◌≡◌, ◌+◌, drop}
use Rattle.mention_scan.specs.Fences.{run_of}
use Rattle.mention_scan.proofs.run.run_of.Given as goal

abbrev pub invariant-loop-i : goal.invariant-loop-i
invariant-loop-i l = run_of l.character l.bytes ≡ l.i + run_of l.character (drop l.i l.bytes)
