use Rattle.std.proofs.Common.{◌≡◌, ◌-◌, ◌≤◌, length, take}
use Rattle.chat_model.proofs.list.common.Given as goal

abbrev pub invariant-loop-count : goal.invariant-loop-count
invariant-loop-count g l = record {
  in_first : l.count ≤ length l.xs;
  in_second : l.count ≤ length l.ys;
  same : take l.count l.xs ≡ take l.count l.ys;
}

abbrev pub decreases-loop-count : goal.decreases-loop-count
decreases-loop-count g l = length l.xs - l.count
