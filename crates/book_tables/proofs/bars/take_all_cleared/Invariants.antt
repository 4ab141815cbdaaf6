use Rattle.std.proofs.Common.{◌≡◌, not, filter, take}
use Rattle.book_tables.specs.Notices.{IsInOrder, AreNumbered}
use Rattle.book_tables.specs.Bars.{is_one_of_pairs}
use Rattle.book_tables.proofs.bars.take_all_cleared.Given as goal

abbrev pub invariant-loop-pair : goal.invariant-loop-pair
invariant-loop-pair l = IsInOrder l.fn.cleared.items → AreNumbered l.fn.cleared.items → l.cleared.items ≡ filter (λ w. not (is_one_of_pairs (take l.pair-index l.pairs) w)) l.fn.cleared.items
