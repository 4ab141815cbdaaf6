use Rattle.std.proofs.Common.{◌≡◌, List, drop}
use Rattle.std.specs.List.{list_all}
use Rattle.chat_model.specs.declared.event.Stamped.{Stamped}
use Rattle.notice_ledger.specs.Past.Refusals.{may_read}
use Rattle.book_tables.specs.Tables.{Holds}
use Rattle.book_tables.proofs.tables.Tables.may_read_all.Given as goal

abbrev pub invariant-loop-message : goal.invariant-loop-message
invariant-loop-message l = (past : List Stamped) → Holds l.self past → list_all (may_read past l.user) (drop l.message-index l.messages) ≡ list_all (may_read past l.user) l.messages
