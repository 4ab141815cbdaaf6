-- What stands for a journal conserves its notices.
use Rattle.std.proofs.Common.{List, [], Option, Some, None, ap, ◌∙◌, subst}
use Rattle.std.specs.Prelude.{IfSome}
use Rattle.chat_model.specs.declared.event.Stamped.{Stamped}
use Rattle.chat_model.specs.declared.row.Row.{Row}
use Rattle.keeper.specs.declared.keeper.Kept.{Kept}
use Rattle.notice_ledger.specs.Past.Rows.{rows}
use Rattle.notice_ledger.specs.Conserved.{IsConserved}
use Rattle.notice_ledger.proofs.LawfulLemmas.{IsLawful-nil}
use Rattle.notice_ledger.proofs.Conservation.{rows-conserved}
use Rattle.book_tables.proofs.RowsAfter.{rows-nil}
use Rattle.office.specs.Office.{KeptStandsFor}

pub kept-conserved : (told : Option Kept) (j : List Stamped) → IfSome told (KeptStandsFor j) → IfSome told (λ kept. IsConserved kept.journal kept.rows)
kept-conserved None j h = tt
kept-conserved (Some kept) j h = rw (h.0, h.1) (rows-conserved j)

-- nothing conserves no notices
pub nothing-conserved : IsConserved [] []
nothing-conserved = subst (λ (rs : List Row). IsConserved [] rs) (ap rows IsLawful-nil ∙ rows-nil) (rows-conserved [])
