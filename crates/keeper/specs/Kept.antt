-- What a call leaves of what is kept, and what its answer says of the count of faults.
use Rattle.std.specs.Prelude.{ℕ, List, [], ◌∷◌, ◌++◌, Result, Err}
use Rattle.chat_model.specs.declared.event.Stamped.{Stamped}
use Rattle.chat_model.specs.declared.row.RowChange.{RowChange}
use Rattle.chat_model.specs.Rows.{changed_all}
use Rattle.keeper.specs.declared.keeper.KeepFault.{KeepFault}
use Rattle.keeper.specs.declared.keeper.KeepFault.TheVariants.{Failed}
use Rattle.keeper.specs.declared.keeper.Kept.{Kept}

-- the event stands at the end of the journal, and the changes are made in the rows
abbrev pub committed : Stamped → List RowChange → Kept → Kept
committed event changes kept = record { journal = kept.journal ++ event ∷ []; rows = changed_all changes kept.rows }

-- how many faults an answer tells of: one where the keeper failed, else none
abbrev pub faults_told : {T : Type 0} → Result T KeepFault → ℕ
faults_told (Err Failed) = 1
faults_told _ = 0
