use Rattle.std.proofs.Common.{◌≡◌, not, filter, take}
use Rattle.book_tables.specs.Notices.{is_one_batch_row, IsInOrder, AreNumbered}
use Rattle.book_tables.proofs.waiting.take_batch_rows.Given as goal

abbrev pub invariant-loop-message : goal.invariant-loop-message
invariant-loop-message l = IsInOrder l.fn.waiting.items → AreNumbered l.fn.waiting.items → l.waiting.items ≡ filter (λ w. not (is_one_batch_row l.user (take l.message-index l.messages) w)) l.fn.waiting.items
