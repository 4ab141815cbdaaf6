-- The starts of the office, each of which begins a run, and what was absorbed since the last one.
use Rattle.std.specs.Prelude.{ℕ, Bool, true, false, ◌||◌, not, List, [], ◌∷◌, is_some, count_by, if◌then◌else◌}
use Rattle.std.specs.List.{filter_map, list_any}
use Rattle.chat_model.specs.declared.event.Stamped.{Stamped}
use Rattle.chat_model.specs.declared.event.Event.{Event}
use Rattle.chat_model.specs.declared.event.Event.TheVariants.{Restart}
use Rattle.chat_model.specs.declared.deal.Outcome.{Outcome}
use Rattle.notice_ledger.specs.Past.Journal.{outcome_of}
use Rattle.notice_ledger.specs.Past.Values.{makes_deal}

-- an event is a start of the office
abbrev pub is_restart : Event → Bool
is_restart Restart = true
is_restart _ = false

-- the number of starts
unfoldable pub start_count : List Stamped → ℕ
start_count j = count_by (λ s. is_restart s.event) j

-- the events behind the last start, or all where there is none: the longest end of the list without a start
abbrev pub since_start : List Stamped → List Stamped
since_start [] = []
since_start (s ∷ ss) = if list_any (λ t. is_restart t.event) (s ∷ ss) then since_start ss else s ∷ ss

-- the outcomes that were absorbed after the last start
unfoldable pub absorbed_since_start : List Stamped → List Outcome
absorbed_since_start j = filter_map (λ s. outcome_of s.event) (since_start j)

-- no deal was made and no outcome absorbed after the last start
unfoldable pub is_fresh : List Stamped → Bool
is_fresh j = not (list_any (λ s. makes_deal s.event || is_some (outcome_of s.event)) (since_start j))
