use Rattle.std.proofs.Common.{◌≡◌, List, map}
use Rattle.chat_model.specs.declared.event.Stamped.{Stamped}
use Rattle.mail_batches.specs.Batches.{rows_of}
use Rattle.notice_ledger.specs.Past.Outbox.{ready_item}
use Rattle.book_tables.specs.Tables.{Holds}
use Rattle.book_tables.proofs.MailedRows.{free_rows}
use Rattle.book_tables.proofs.tables.Tables.ready_items.Given as goal

abbrev pub invariant-loop-message : goal.invariant-loop-message
invariant-loop-message l = (past : List Stamped) (h : Holds l.self past) (same : l.message-items ≡ rows_of l.self.batches l.user) → l.items ≡ map (ready_item past) (free_rows l.self past h l.user l.message-items same l.message-index)
