-- The rows of any list of events.
use Rattle.std.specs.Prelude.{List}
use Rattle.std.specs.List.Sorted.{IsPermutation}
use Rattle.chat_model.specs.declared.event.Stamped.{Stamped}
use Rattle.chat_model.specs.declared.row.Row.{Row}
use Rattle.chat_model.specs.Rows.{IsAscending}
use Rattle.notice_ledger.specs.Past.Rows as past
use Rattle.notice_ledger.specs.Lawful.{lawful}

-- what has a row after the lawful events, table by table
abbrev pub listed_rows : List Stamped → List Row
listed_rows j = past.listed_rows (lawful j)

-- the rows of the kept tables after the lawful events, by table and key
abbrev pub rows : List Stamped → List Row
rows j = past.rows (lawful j)

-- ---- laws

-- the rows ascend strictly by table and key, so that no key stands twice
abbrev pub RowsAscend : Type 0
RowsAscend = (j : List Stamped) → IsAscending (rows j)

-- they are exactly what has a row, each once
abbrev pub RowsAreListed : Type 0
RowsAreListed = (j : List Stamped) → IsPermutation (listed_rows j) (rows j)
