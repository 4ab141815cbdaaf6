use Rattle.std.proofs.Common.{◌≡◌, ◌+◌, ◌++◌, map, take}
use Rattle.chat_model.specs.declared.row.RowChange.TheVariants.{Put}
use Rattle.notice_ledger.specs.Past.Rows.{outbox_rows_from}
use Rattle.book_tables.proofs.prepared.put_entries.Given as goal

abbrev pub invariant-loop-i : goal.invariant-loop-i
invariant-loop-i l =
    l.changes.items ≡ l.fn.changes.items ++ map Put (outbox_rows_from (l.before + 1) (take l.i l.entries))
