use Rattle.std.proofs.Common.{◌≡◌, ◌≤◌, List, length}
use Rattle.chat_model.specs.declared.event.Stamped.{Stamped}
use Rattle.mail_batches.specs.Batches.{rows_of}
use Rattle.book_tables.specs.Tables.{Holds}
use Rattle.book_tables.proofs.MailedRows.{free_rows}
use Rattle.book_tables.proofs.tables.Tables.mailed_count.Given as goal

abbrev pub invariant-loop-message : goal.invariant-loop-message
invariant-loop-message l = (l.count ≤ l.message-index) × ((past : List Stamped) (h : Holds l.self past) (same : l.message-items ≡ rows_of l.self.batches l.user) → l.count ≡ length (free_rows l.self past h l.user l.message-items same l.message-index))
