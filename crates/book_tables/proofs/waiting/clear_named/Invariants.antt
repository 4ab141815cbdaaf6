use Rattle.std.proofs.Common.{◌≡◌, ◌≤◌, ◌+◌, ◌*◌, ◌&&◌, false, not, filter, take, map, length}
use Rattle.std.specs.Vec.{vec_len, vec_capacity}
use Rattle.book_tables.specs.Notices.{is_named, is_undecided, moved, put_all_in_order, IsInOrder, AreSorted}
use Rattle.book_tables.proofs.waiting.clear_named.Given as goal

abbrev pub invariant-loop-deal : goal.invariant-loop-deal
invariant-loop-deal l = record {
  waiting : IsInOrder l.fn.waiting.items → l.waiting.items ≡ filter (λ w. not (is_named l.user (take l.deal-index l.deals) w && is_undecided w)) l.fn.waiting.items;
  cleared : IsInOrder l.fn.waiting.items → AreSorted l.fn.cleared.items
      → l.cleared.items ≡ put_all_in_order (map (moved false) (filter (λ w. is_named l.user (take l.deal-index l.deals) w && is_undecided w) l.fn.waiting.items)) l.fn.cleared.items;
  room : vec_len l.cleared + 2 * length l.deals ≤ vec_capacity l.cleared + 2 * l.deal-index;
}
