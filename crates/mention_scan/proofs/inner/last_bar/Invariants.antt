use Rattle.std.proofs.Common.{◌≡◌, ◌+◌, ◌-◌, ◌≤◌, false, not, take, drop, length}
use Rattle.std.specs.List.{list_any, suffix_len}
use Rattle.mention_scan.specs.Mentions.{is_bar}
use Rattle.mention_scan.proofs.inner.last_bar.Given as goal

abbrev pub invariant-loop-end : goal.invariant-loop-end
invariant-loop-end l = record {
  counted : suffix_len (λ b. not (is_bar b)) l.inner ≡ (length l.inner - l.end) + suffix_len (λ b. not (is_bar b)) (take l.end l.inner);
  bound : l.end ≤ length l.inner;
  none : list_any is_bar (drop l.end l.inner) ≡ false;
}

abbrev pub decreases-loop-end : goal.decreases-loop-end
decreases-loop-end l = l.end
