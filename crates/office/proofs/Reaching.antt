-- What has reached the office and whether its journal is fresh, with one event more.
use Rattle.std.proofs.Common.{◌≡◌, ℕ, Bool, true, false, cond, List, [], ◌∷◌, ◌++◌, Option, Some, None, refl, sym, ap, ◌∙◌}
use Rattle.std.specs.Prelude.{if◌then◌else◌, nat_le}
use Rattle.std.specs.Option.{option_to_list}
use Rattle.std.proofs.lemmas.List.{append-nil}
use Rattle.chat_model.specs.declared.deal.Outcome.{Outcome}
use Rattle.chat_model.specs.declared.event.Stamped.{Stamped}
use Rattle.chat_model.specs.declared.event.Event.TheVariants.{Absorbed}
use Rattle.notice_ledger.specs.Journal.{stamp}
use Rattle.notice_ledger.specs.Deals as any
use Rattle.notice_ledger.specs.Lawful.{lawful, is_lawful_after}
use Rattle.notice_ledger.specs.Past.Journal.{last_stamp, outcome_of}
use Rattle.notice_ledger.specs.Past.Lawful.{may_stand}
use Rattle.notice_ledger.specs.Past.Runs.{is_restart, absorbed_since_start, is_fresh}
use Rattle.notice_ledger.proofs.LawfulLemmas.{lawful-append, lawful-next}
use Rattle.notice_ledger.proofs.RunLemmas.{absorbed_since_start-append, is_fresh-append}
use Rattle.office.specs.Office.{fresh_after}
use Rattle.office.proofs.Offices.{both_hold, not_below}

-- an event that is no start and absorbs nothing leaves what was absorbed
pub absorbed-same : (j : List Stamped) (s : Stamped) → is_restart s.event ≡ false → outcome_of s.event ≡ None → any.absorbed_since_start (j ++ s ∷ []) ≡ any.absorbed_since_start j
absorbed-same j s no_start nothing = by (is_lawful_after j s) (lawful-append j s)
  where
    by : (b : Bool) → lawful (j ++ s ∷ []) ≡ (if b then lawful j ++ s ∷ [] else lawful j) → absorbed_since_start (lawful (j ++ s ∷ [])) ≡ absorbed_since_start (lawful j)
    by true next =
        ap absorbed_since_start next
        ∙ (absorbed_since_start-append (lawful j) s
        ∙ (ap (λ b. cond b [] (absorbed_since_start (lawful j) ++ option_to_list (outcome_of s.event))) no_start
        ∙ (ap (λ o. absorbed_since_start (lawful j) ++ option_to_list o) nothing
        ∙ append-nil (absorbed_since_start (lawful j)))))
    by false next = ap absorbed_since_start next

-- an absorbed outcome is the last of what was absorbed
pub absorbed-more : (j : List Stamped) (at : ℕ) (o : Outcome) → is_lawful_after j (record { at = at; event = Absorbed o }) ≡ true → any.absorbed_since_start (j ++ record { at = at; event = Absorbed o } ∷ []) ≡ any.absorbed_since_start j ++ o ∷ []
absorbed-more j at o next =
    let s : Stamped = record { at = at; event = Absorbed o } in
    ap absorbed_since_start (lawful-next j s next) ∙ absorbed_since_start-append (lawful j) s

-- a start leaves nothing absorbed
pub absorbed-started : (j : List Stamped) (s : Stamped) → is_lawful_after j s ≡ true → is_restart s.event ≡ true → any.absorbed_since_start (j ++ s ∷ []) ≡ []
absorbed-started j s next start =
    ap absorbed_since_start (lawful-next j s next)
    ∙ (absorbed_since_start-append (lawful j) s
    ∙ ap (λ b. cond b [] (absorbed_since_start (lawful j) ++ option_to_list (outcome_of s.event))) start)

-- whether the journal is fresh with a lawful event more
pub fresh-more : (j : List Stamped) (s : Stamped) → is_lawful_after j s ≡ true → any.is_fresh (j ++ s ∷ []) ≡ fresh_after (any.is_fresh j) s.event
fresh-more j s next = ap is_fresh (lawful-next j s next) ∙ is_fresh-append (lawful j) s

-- an absorbed outcome is lawful at a stamp that is not below the last one
pub absorbed_lawful : (j : List Stamped) (now at : ℕ) (o : Outcome) → at ≡ stamp j now → is_lawful_after j (record { at = at; event = Absorbed o }) ≡ true
absorbed_lawful j now at o stamped = both_hold (nat_le (last_stamp (lawful j)) at) (may_stand (lawful j) at (Absorbed o)) (not_below (last_stamp (lawful j)) now at stamped) refl

-- an outcome that was in hand and is absorbed has reached the office as before
pub reached-absorbed : (j after : List Stamped) (now at : ℕ) (o copy : Outcome) (in_hand left : Option Outcome) → at ≡ stamp j now → copy ≡ o → in_hand ≡ Some o → left ≡ None → after ≡ j ++ record { at = at; event = Absorbed copy } ∷ []
    → any.absorbed_since_start after ++ option_to_list left ≡ any.absorbed_since_start j ++ option_to_list in_hand
reached-absorbed j after now at o copy in_hand left stamped same held none added =
    ap (λ x. any.absorbed_since_start after ++ option_to_list x) none
    ∙ (append-nil (any.absorbed_since_start after)
    ∙ (ap any.absorbed_since_start added
    ∙ (absorbed-more j at copy (absorbed_lawful j now at copy stamped)
    ∙ ap (λ x. any.absorbed_since_start j ++ option_to_list x) (ap Some same ∙ sym held))))

-- an event that is no start and absorbs nothing leaves what has reached the office
pub reached-kept : (j after : List Stamped) (s : Stamped) (in_hand left : Option Outcome) → is_restart s.event ≡ false → outcome_of s.event ≡ None → after ≡ j ++ s ∷ [] → left ≡ in_hand
    → any.absorbed_since_start after ++ option_to_list left ≡ any.absorbed_since_start j ++ option_to_list in_hand
reached-kept j after s in_hand left no_start nothing added same =
    ap (λ x. any.absorbed_since_start after ++ option_to_list x) same
    ∙ ap (λ os. os ++ option_to_list in_hand) (ap any.absorbed_since_start added ∙ absorbed-same j s no_start nothing)
