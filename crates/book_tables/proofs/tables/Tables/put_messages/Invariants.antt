use Rattle.std.proofs.Common.{◌≡◌, ◌++◌, List, map, take}
use Rattle.chat_model.specs.declared.event.Stamped.{Stamped}
use Rattle.chat_model.specs.declared.row.RowChange.TheVariants.{Put}
use Rattle.notice_ledger.specs.Past.Values.{messages}
use Rattle.book_tables.specs.Tables.{Holds}
use Rattle.book_tables.proofs.RowLists.{rows_by, message_row}
use Rattle.book_tables.proofs.tables.Tables.put_messages.Given as goal

abbrev pub invariant-loop-i : goal.invariant-loop-i
invariant-loop-i l = (past : List Stamped) → Holds l.self past → l.puts.items ≡ l.fn.puts.items ++ map Put (take l.i (rows_by (message_row past) 1 (messages past)))
