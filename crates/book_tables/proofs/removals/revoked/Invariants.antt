use Rattle.std.proofs.Common.{◌≡◌, take}
use Rattle.book_tables.specs.Notices.{IsInOrder, AreNumbered}
use Rattle.book_tables.specs.Bars.{revoked_in}
use Rattle.book_tables.proofs.removals.revoked.Given as goal

abbrev pub invariant-loop-message : goal.invariant-loop-message
invariant-loop-message l = IsInOrder l.active → AreNumbered l.active → l.made.items ≡ revoked_in l.active l.user (take l.message-index l.messages)
