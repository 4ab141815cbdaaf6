use Rattle.std.proofs.Common.{◌≡◌, ◌++◌, map, take}
use Rattle.book_tables.specs.Prepared.{removed_push}
use Rattle.book_tables.proofs.removals.remove_active.Given as goal

abbrev pub invariant-loop-message : goal.invariant-loop-message
invariant-loop-message l = l.changes.items ≡ l.fn.changes.items ++ map (removed_push l.user) (take l.message-index l.messages)
