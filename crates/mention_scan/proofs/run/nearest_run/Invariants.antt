use Rattle.std.proofs.Common.{◌+◌, ◌-◌, length}
use Rattle.mention_scan.proofs.Runs.{Searched}
use Rattle.mention_scan.proofs.run.nearest_run.Given as goal

abbrev pub invariant-loop-place : goal.invariant-loop-place
invariant-loop-place l = Searched l.n l.place l.bytes

abbrev pub decreases-loop-place : goal.decreases-loop-place
decreases-loop-place l = length l.bytes + 1 - l.place
