use Rattle.std.proofs.Common.{◌≡◌, ◌++◌, List, map, take}
use Rattle.chat_model.specs.declared.event.Stamped.{Stamped}
use Rattle.chat_model.specs.declared.row.RowChange.TheVariants.{Put}
use Rattle.notice_ledger.specs.Past.Values.{people}
use Rattle.book_tables.specs.Tables.{Holds}
use Rattle.book_tables.proofs.RowLists.{rows_by, user_row}
use Rattle.book_tables.proofs.tables.Tables.put_users.Given as goal

abbrev pub invariant-loop-name : goal.invariant-loop-name
invariant-loop-name l = (past : List Stamped) → Holds l.self past → l.puts.items ≡ l.fn.puts.items ++ map Put (take l.name-index (rows_by (user_row past) 1 (people past)))
