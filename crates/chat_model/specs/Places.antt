-- The place of a key in a list of rows.
use Rattle.std.specs.Prelude.{ℕ, Bool, List, slice_get}
use Rattle.std.specs.Option.{option_map_or}
use Rattle.std.specs.Ordering.{is_eq}
use Rattle.std.specs.Prelude.{false}
use Rattle.chat_model.specs.declared.row.Row.{Row}
use Rattle.chat_model.specs.declared.row.RowKey.{RowKey}
use Rattle.chat_model.specs.Rows.{key_cmp, key_of}

-- whether the row at the place has the key
abbrev pub stands_at : RowKey → List Row → ℕ → Bool
stands_at k rows i = option_map_or (λ row. is_eq (key_cmp (key_of row) k)) (slice_get rows i) false
