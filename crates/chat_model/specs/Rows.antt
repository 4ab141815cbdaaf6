-- Rows by their keys: the order of the keys, look-ups, and what a change of a row leaves.
use Rattle.std.specs.Prelude.{ℕ, List, [], ◌∷◌, ◌++◌, Option, map, filter, find}
use Rattle.std.specs.declared.cmp.Ordering.{Ordering}
use Rattle.std.specs.Ordering.{nat_cmp, is_eq, is_lt, is_gt}
use Rattle.std.specs.Cmp.Lexicographic.{slice_cmp}
use Rattle.std.specs.List.Sorted.{IsStrictlySortedBy}
use Rattle.chat_model.specs.declared.trigger.Way.{Way}
use Rattle.chat_model.specs.declared.trigger.Way.TheVariants.{Mail, Push}
use Rattle.chat_model.specs.declared.row.Row.{Row}
use Rattle.chat_model.specs.declared.row.Row.TheVariants as row
use Rattle.chat_model.specs.declared.row.RowKey.{RowKey}
use Rattle.chat_model.specs.declared.row.RowKey.TheVariants as key
use Rattle.chat_model.specs.declared.row.RowChange.{RowChange}
use Rattle.chat_model.specs.declared.row.RowChange.TheVariants.{Put, Remove}

-- mail comes before push
abbrev pub way_place : Way → ℕ
way_place Mail = 0
way_place Push = 1

-- a key's place: its table, then the numbers in it, the user first
abbrev pub key_place : RowKey → List ℕ
key_place (key.User user) = 0 ∷ user.0 ∷ []
key_place (key.Message message) = 1 ∷ message.0 ∷ []
key_place (key.Pending user message way) = 2 ∷ user.0 ∷ message.0 ∷ way_place way ∷ []
key_place (key.Active user message) = 3 ∷ user.0 ∷ message.0 ∷ []
key_place (key.Outbox number) = 4 ∷ number.0 ∷ []

-- keys stand in the order of their places, number by number
unfoldable pub key_cmp : RowKey → RowKey → Ordering
key_cmp a b = slice_cmp nat_cmp (key_place a) (key_place b)

-- the table and the key of a row
abbrev pub key_of : Row → RowKey
key_of (row.User id name bot settings) = key.User id
key_of (row.Message id sender text deleted) = key.Message id
key_of (row.Pending user message way trigger deal stage) = key.Pending user message way
key_of (row.Active user message) = key.Active user message
key_of (row.Outbox number entry spooled) = key.Outbox number

-- each row's key is below the keys of the rows after it
abbrev pub IsAscending : List Row → Type 0
IsAscending rows = IsStrictlySortedBy key_cmp (map key_of rows)

-- the first row of the key, if there is one
abbrev pub row_at : RowKey → List Row → Option Row
row_at k rows = find (λ row. is_eq (key_cmp (key_of row) k)) rows

-- the rows whose keys are below the key
abbrev pub rows_below : RowKey → List Row → List Row
rows_below k rows = filter (λ row. is_lt (key_cmp (key_of row) k)) rows

-- the rows whose keys are above the key
abbrev pub rows_above : RowKey → List Row → List Row
rows_above k rows = filter (λ row. is_gt (key_cmp (key_of row) k)) rows

-- a row that is put stands at its key's place, and a key that is removed has no row
abbrev pub changed : RowChange → List Row → List Row
changed (Put row) rows = rows_below (key_of row) rows ++ row ∷ rows_above (key_of row) rows
changed (Remove k) rows = rows_below k rows ++ rows_above k rows

-- the changes made one after another, the first one first
abbrev pub changed_all : List RowChange → List Row → List Row
changed_all [] rows = rows
changed_all (change ∷ changes) rows = changed_all changes (changed change rows)
