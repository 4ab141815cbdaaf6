use Rattle.std.proofs.Common.{◌-◌, ◌≤◌, length}
use Rattle.chat_model.specs.Rows.{rows_below}
use Rattle.chat_model.proofs.places.place.Given as goal

abbrev pub invariant-loop-low : goal.invariant-loop-low
invariant-loop-low l = record {
  from : l.low ≤ length (rows_below l.key l.rows);
  to : length (rows_below l.key l.rows) ≤ l.high;
  within : l.high ≤ length l.rows;
}

abbrev pub decreases-loop-low : goal.decreases-loop-low
decreases-loop-low l = l.high - l.low
