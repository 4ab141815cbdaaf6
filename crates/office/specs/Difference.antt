-- The first row in which two lists of rows differ.
use Rattle.std.specs.Prelude.{◌≡◌, ◌≢◌, List, Option}
use Rattle.std.specs.declared.cmp.Ordering.TheVariants.{Less}
use Rattle.chat_model.specs.declared.row.Row.{Row}
use Rattle.chat_model.specs.declared.row.RowKey.{RowKey}
use Rattle.chat_model.specs.Rows.{key_cmp, row_at}

-- of some key the first list has this row or none, and the second that one or none, which differ; of each key below it
-- both lists have the same
pub record IsFirstDifference (xs ys : List Row) (x y : Option Row) : Type 0 where
  pub key : RowKey
  pub first : row_at key xs ≡ x
  pub second : row_at key ys ≡ y
  pub differ : x ≢ y
  pub same_below : (k : RowKey) → key_cmp k key ≡ Less → row_at k xs ≡ row_at k ys
