use Rattle.std.proofs.Common.{◌≡◌, ◌+◌, drop}
use Rattle.std.specs.List.{prefix_len}
use Rattle.mention_scan.specs.Division.{is_inner}
use Rattle.mention_scan.proofs.form.inner_length.Given as goal

abbrev pub invariant-loop-i : goal.invariant-loop-i
invariant-loop-i l = prefix_len is_inner l.bytes ≡ l.i + prefix_len is_inner (drop l.i l.bytes)
