-- What the slow computation finds of bars and turns.
use Rattle.std.proofs.Common.{◌≡◌, ℕ, ◌≤◌, Bool, true, false, not, ◌&&◌, cond, List, [], ◌∷◌, length, take, refl, sym, ap, ◌∙◌, subst, arith}
use Rattle.std.specs.Prelude.{Option, Some, None, option_map, option_and_then, is_some, is_none, nat_lt, find, if◌then◌else◌}
use Rattle.chat_model.specs.declared.event.Stamped.{Stamped}
use Rattle.chat_model.specs.declared.row.Cause.{Cause}
use Rattle.notice_ledger.specs.declared.bars.FoundBar.{FoundBar}
use Rattle.notice_ledger.specs.declared.owed.Owed.{Owed}
use Rattle.notice_ledger.specs.declared.readiness.Spot.{Spot}
use Rattle.notice_ledger.specs.Past.Journal.{Occurrence, occurrences, some_behind}
use Rattle.notice_ledger.specs.Past.Owed.{bar_cause, bar_behind, clears, readies}
use Rattle.notice_ledger.specs.Plain.{bar_kept, bar_found, decided_kept, handed_kept, is_unbarred_kept, ready_kept, revocation_kept, spot_of, turn_found, unbarred_ready_kept}
use Rattle.notice_ledger.proofs.Behind.{first_behind-placed, first_behind-take}

-- an event bars the notice
abbrev pub bars : Owed → Occurrence → Bool
bars n o = is_some (bar_cause n.user n.message n.way o)

-- what is found by what it gives gives it
find-gives : {A C : Type 0} (give : A → Option C) (test : A → Bool) (xs : List A) → is_none (option_and_then give (find (λ x. test x && is_some (give x)) xs)) ≡ is_none (find (λ x. test x && is_some (give x)) xs)
find-gives give test [] = refl
find-gives {A} {C} give test (x ∷ xs) = by (test x) (give x) refl (find-gives give test xs)
  where
    by : (b : Bool) (c : Option C) → give x ≡ c → is_none (option_and_then give (find (λ x. test x && is_some (give x)) xs)) ≡ is_none (find (λ x. test x && is_some (give x)) xs)
        → is_none (option_and_then give (cond (b && is_some c) (Some x) (find (λ x. test x && is_some (give x)) xs))) ≡ is_none (cond (b && is_some c) (Some x) (find (λ x. test x && is_some (give x)) xs))
    by true (Some y) e later = ap is_none e
    by true None e later = later
    by false c e later = later

-- what the library says of none, turned round
pub none-told : {A : Type 0} (o : Option A) (b : Bool) → is_some o ≡ not b → b ≡ is_none o
none-told None true e = refl
none-told None false e = absurd (cc)
none-told (Some x) true e = absurd (cc)
none-told (Some x) false e = refl

-- a bar is found where there is one
pub bar-is_found : (place : ℕ) (n : Owed) (j : List Stamped) → is_none (option_and_then (bar_found n) (bar_behind place n.user n.message n.way j)) ≡ is_none (bar_behind place n.user n.message n.way j)
bar-is_found place n j = same (bar_behind place n.user n.message n.way j) ∙ find-gives (bar_cause n.user n.message n.way) (λ o. nat_lt place o.place) (occurrences j)
  where
    one : (o : Occurrence) (c : Option Cause) → is_none (option_map (λ (c : Cause). let b : FoundBar = record { place = o.place; cause = c } in b) c) ≡ is_none c
    one o None = refl
    one o (Some c) = refl

    same : (b : Option Occurrence) → is_none (option_and_then (bar_found n) b) ≡ is_none (option_and_then (bar_cause n.user n.message n.way) b)
    same None = refl
    same (Some o) = one o (bar_cause n.user n.message n.way o)

-- with its cause
pub bar-cause : (n : Owed) (b : Option Occurrence) → option_map (λ f. f.cause) (option_and_then (bar_found n) b) ≡ option_and_then (bar_cause n.user n.message n.way) b
bar-cause n None = refl
bar-cause n (Some o) = one (bar_cause n.user n.message n.way o)
  where
    one : (c : Option Cause) → option_map (λ (f : FoundBar). f.cause) (option_map (λ (c : Cause). let b : FoundBar = record { place = o.place; cause = c } in b) c) ≡ c
    one None = refl
    one (Some c) = refl

-- what the turn that is found decided
pub turn-decided : (n : Owed) (t : Option Occurrence) → option_and_then (λ f. f.decided) (option_map (turn_found n) t) ≡ option_and_then (λ t. if is_none (bar_kept t.past n) then Some (decided_kept n t) else None) t
turn-decided n None = refl
turn-decided n (Some o) = refl

-- ---- ready events

-- the spot of a ready event stands in the journal
pub spot-placed : (j : List Stamped) (n : Owed) (spot : Spot) → Some spot ≡ option_map spot_of (ready_kept j n) → spot.place ≤ length j
spot-placed j n spot found = by (ready_kept j n) refl found
  where
    by : (r : Option Occurrence) → ready_kept j n ≡ r → Some spot ≡ option_map spot_of r → spot.place ≤ length j
    by None e f = absurd (cc)
    by (Some o) e f =
        let same : spot ≡ spot_of o = cc in
        subst (λ (t : Spot). t.place ≤ length j) (sym same)
        (omega (arith, first_behind-placed n.place (λ o. readies n.user n.deal n.online o.event && not (some_behind n.place (λ p. clears n.user n.deal p.event) o.past)) j o e))

-- whether a bar stands before the ready event is seen in the events before its place
pub ready-unbarred : (j : List Stamped) (n : Owed) (spot : Spot) (b : Bool) → Some spot ≡ option_map spot_of (ready_kept j n) → b ≡ is_none (bar_kept (take spot.place j) n) → cond b (Some spot) None ≡ option_map spot_of (unbarred_ready_kept j n)
ready-unbarred j n spot b found told = by (ready_kept j n) refl found
  where
    choose : (b : Bool) (o : Occurrence) → spot ≡ spot_of o → cond b (Some spot) None ≡ option_map spot_of (if b then Some o else None)
    choose true o same = ap Some same
    choose false o same = refl

    by : (r : Option Occurrence) → ready_kept j n ≡ r → Some spot ≡ option_map spot_of r → cond b (Some spot) None ≡ option_map spot_of (option_and_then (λ r. if is_unbarred_kept n r then Some r else None) r)
    by None e f = absurd (cc)
    by (Some o) e f =
        let same : spot ≡ spot_of o = cc in
        let past : o.past ≡ take o.place j = first_behind-take n.place (λ o. readies n.user n.deal n.online o.event && not (some_behind n.place (λ p. clears n.user n.deal p.event) o.past)) j o e in
        choose b o same
        ∙ ap (λ x. option_map spot_of (if x then Some o else None))
        (told ∙ (ap (λ (t : Spot). is_none (bar_kept (take t.place j) n)) same ∙ ap (λ k. is_none (bar_kept k n)) (sym past)))

-- without a ready event there is none
pub unready-unbarred : (j : List Stamped) (n : Owed) → ◌≡◌ {A = Option Spot} None (option_map spot_of (ready_kept j n)) → ◌≡◌ {A = Option Spot} None (option_map spot_of (unbarred_ready_kept j n))
unready-unbarred j n found = by (ready_kept j n) found
  where
    by : (r : Option Occurrence) → ◌≡◌ {A = Option Spot} None (option_map spot_of r) → ◌≡◌ {A = Option Spot} None (option_map spot_of (option_and_then (λ r. if is_unbarred_kept n r then Some r else None) r))
    by None e = refl
    by (Some o) e = absurd (cc)

-- ---- revocations

-- where no bar is found behind the turn that handed the notice over, nothing revokes it
pub revocation-none : (j : List Stamped) (n : Owed) (place : ℕ) → Some place ≡ option_map (λ t. t.place) (handed_kept j n)
    → ◌≡◌ {A = Option FoundBar} None (option_and_then (bar_found n) (bar_behind place n.user n.message n.way j)) → ◌≡◌ {A = Option ℕ} None (option_map (λ o. o.place) (revocation_kept j n))
revocation-none j n place handed unbarred = by (handed_kept j n) handed
  where
    none : (o : Option Occurrence) → is_none o ≡ true → ◌≡◌ {A = Option ℕ} None (option_map (λ o. o.place) o)
    none None e = refl
    none (Some o) e = absurd (cc)

    by : (t : Option Occurrence) → Some place ≡ option_map (λ t. t.place) t → ◌≡◌ {A = Option ℕ} None (option_map (λ o. o.place) (option_and_then (λ t. bar_behind t.place n.user n.message n.way j) t))
    by None e = absurd (cc)
    by (Some t) e =
        let same : place ≡ t.place = cc in
        none (bar_behind t.place n.user n.message n.way j)
        (ap (λ k. is_none (bar_behind k n.user n.message n.way j)) (sym same) ∙ (sym (bar-is_found place n j) ∙ sym (ap (λ (b : Option FoundBar). is_none b) unbarred)))
