use Rattle.std.proofs.Common.{◌≡◌, ◌+◌, ◌-◌, ◌≤◌, take, length}
use Rattle.std.specs.List.{suffix_len}
use Rattle.std.specs.Prelude.{◌==◌}
use Rattle.mention_scan.proofs.fence.spaces_at_end.Given as goal

abbrev pub invariant-loop-end : goal.invariant-loop-end
invariant-loop-end l = record {
  counted : suffix_len (λ b. b == 32) l.bytes ≡ (length l.bytes - l.end) + suffix_len (λ b. b == 32) (take l.end l.bytes);
  bound : l.end ≤ length l.bytes;
}

abbrev pub decreases-loop-end : goal.decreases-loop-end
decreases-loop-end l = l.end
