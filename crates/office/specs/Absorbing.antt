-- The hub's outcomes in the office: which one is absorbed, what that answers, and what has reached the office.
use Rattle.std.specs.Prelude.{◌≡◌, ℕ, List, [], ◌∷◌, ◌++◌, Option, Some, None, Result, Ok, Err}
use Rattle.std.specs.Option.{option_to_list}
use Rattle.chat_model.specs.declared.deal.Outcome.{Outcome}
use Rattle.chat_model.specs.declared.event.Event.TheVariants as event
use Rattle.chat_model.specs.declared.event.Stamped.{Stamped}
use Rattle.notice_ledger.specs.Deals.{absorbed_since_start}
use Rattle.office.specs.Office.{OfficeSeen}
use Rattle.office.specs.declared.answer.Absorbed.{Absorbed}
use Rattle.office.specs.declared.answer.Absorbed.TheVariants as absorbed
use Rattle.office.specs.declared.answer.StepFault.{StepFault}

-- what has reached the office since its start: the absorbed outcomes, then the one in hand
abbrev pub reached : {K : Type 0} → OfficeSeen K → List Outcome
reached office = absorbed_since_start office.journal ++ option_to_list office.in_hand

-- what an absorption uses: the outcome in hand, and nothing is taken; or what one take gives, where none is in hand
abbrev pub Uses : {P : Type 0} → (P → Option Outcome → P → Type 0) → Option Outcome → P → Option Outcome → P → Type 0
Uses took (Some o) before used after = (used ≡ Some o) × (after ≡ before)
Uses took None before used after = took before used after

-- what an absorption of what it uses answers, the journal after it, and what is in hand then: an outcome is absorbed, or
-- is in hand after a fault; and without an outcome nothing waits, which isn't a fault
abbrev pub IsAbsorption : List Stamped → ℕ → Option Outcome → Result Absorbed StepFault → List Stamped → Option Outcome → Type 0
IsAbsorption j at None (Ok absorbed.NothingWaiting) after in_hand = (after ≡ j) × (in_hand ≡ None)
IsAbsorption j at (Some o) (Ok (absorbed.Outcome answer)) after in_hand =
    (answer ≡ o) × (after ≡ j ++ record { at = at; event = event.Absorbed o } ∷ []) × (in_hand ≡ None)
IsAbsorption j at (Some o) (Err fault) after in_hand = (after ≡ j) × (in_hand ≡ Some o)
IsAbsorption j at _ _ after in_hand = ⊥

-- an absorption from a pipe, with what one take says of it
pub record HasAbsorbed {P K : Type 0} (took : P → Option Outcome → P → Type 0) (pipe now_pipe : P) (office : OfficeSeen K) (at : ℕ) (answer : Result Absorbed StepFault) (now_office : OfficeSeen K) : Type 0 where
  pub used : Option Outcome
  pub uses : Uses took office.in_hand pipe used now_pipe
  pub came : IsAbsorption office.journal at used answer now_office.journal now_office.in_hand
