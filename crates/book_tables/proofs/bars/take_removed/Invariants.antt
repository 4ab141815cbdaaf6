use Rattle.std.proofs.Common.{◌≡◌, not, filter, take}
use Rattle.book_tables.specs.Notices.{IsInOrder, AreNumbered}
use Rattle.book_tables.specs.Bars.{is_removed}
use Rattle.book_tables.proofs.bars.take_removed.Given as goal

abbrev pub invariant-loop-message : goal.invariant-loop-message
invariant-loop-message l = IsInOrder l.fn.active.items → AreNumbered l.fn.active.items → l.active.items ≡ filter (λ w. not (is_removed l.user (take l.message-index l.messages) w)) l.fn.active.items
