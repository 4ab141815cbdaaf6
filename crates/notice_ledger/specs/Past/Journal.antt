-- The journal as occurrences, and the two ways in which a definition looks at it: the first event behind
-- a place that passes a test, and the value that the last change gives.
use Rattle.std.specs.Prelude.{ℕ, ◌++◌, Bool, false, ◌&&◌, List, [], ◌∷◌, Option, Some, None, unwrap_or, is_some, length, nat_lt, find, fold, max}
use Rattle.chat_model.specs.declared.event.Stamped.{Stamped}
use Rattle.chat_model.specs.declared.event.Event.{Event}
use Rattle.chat_model.specs.declared.event.Event.TheVariants.{Absorbed}
use Rattle.chat_model.specs.declared.deal.Outcome.{Outcome}

-- an event with its place in the journal, from 0, and the events before it
pub record Occurrence : Type 0 where
  pub place : ℕ
  pub past : List Stamped
  pub at : ℕ
  pub event : Event

-- an event behind these
abbrev pub occurrence : List Stamped → Stamped → Occurrence
occurrence past s = record { place = length past; past = past; at = s.at; event = s.event }

-- events, each with those before it, behind these
abbrev pub occurrences_after : List Stamped → List Stamped → List Occurrence
occurrences_after past [] = []
occurrences_after past (s ∷ ss) = occurrence past s ∷ occurrences_after (past ++ s ∷ []) ss

-- each event of the journal, in order
unfoldable pub occurrences : List Stamped → List Occurrence
occurrences j = occurrences_after [] j

-- the first event behind a place that passes a test
abbrev pub first_behind : ℕ → (Occurrence → Bool) → List Stamped → Option Occurrence
first_behind place test j = find (λ o. nat_lt place o.place && test o) (occurrences j)

-- an event behind a place passes a test
abbrev pub some_behind : ℕ → (Occurrence → Bool) → List Stamped → Bool
some_behind place test j = is_some (first_behind place test j)

-- the outcome that an event absorbs, if it absorbs one
abbrev pub outcome_of : Event → Option Outcome
outcome_of (Absorbed o) = Some o
outcome_of _ = None

-- an event absorbs an outcome that passes a test
abbrev pub absorbs : (Outcome → Bool) → Event → Bool
absorbs test (Absorbed o) = test o
absorbs test _ = false

-- the value that the last of the changes in a journal gives, or the one that stood at the start
abbrev pub last_given : {A : Type 0} → (Occurrence → Option A) → A → List Stamped → A
last_given change start j = fold (λ before o. unwrap_or (change o) before) start (occurrences j)

-- the last stamp, 0 where there is none
abbrev pub last_stamp : List Stamped → ℕ
last_stamp j = fold (λ before s. s.at) 0 j

-- what is stamped at a moment: the greater of the moment and the last stamp
abbrev pub stamp : List Stamped → ℕ → ℕ
stamp j now = max now (last_stamp j)
