-- Where a notice stands, event by event: when it is ready, when it has its turn, and what an event makes of its account.
use Rattle.std.proofs.Common.{◌≡◌, ◌≢◌, ℕ, ◌+◌, ◌<◌, ◌≤◌, Bool, true, false, ◌&&◌, ◌||◌, not, cond, List, [], ◌∷◌, ◌++◌, length, drop, refl, sym, ap, ◌∙◌, arith}
use Rattle.std.specs.Prelude.{Option, Some, None, option_and_then, is_some, is_none, nat_lt, if◌then◌else◌}
use Rattle.std.specs.Option.{option_map_or, option_or}
use Rattle.std.proofs.lemmas.Bool.{and_parts}
use Rattle.std.proofs.lemmas.List.{length_push, take-append-drop}
use Rattle.chat_model.specs.Outcomes.{is_dealt}
use Rattle.chat_model.specs.declared.event.Stamped.{Stamped}
use Rattle.chat_model.specs.declared.row.Cause.{Cause}
use Rattle.chat_model.specs.declared.row.Cause.TheVariants.{Read, Deleted, SwitchedOff}
use Rattle.chat_model.specs.declared.row.Stage.{Stage}
use Rattle.chat_model.specs.declared.row.Stage.TheVariants as stage
use Rattle.notice_ledger.specs.declared.accounts.Account.{Account}
use Rattle.notice_ledger.specs.declared.accounts.Account.TheVariants.{NotOwed, Flight, Held, Ready, Handed, Cancelled, LiveQueue}
use Rattle.notice_ledger.specs.Past.Journal.{Occurrence, occurrence, occurrences, first_behind, some_behind, absorbs}
use Rattle.notice_ledger.specs.Past.Values.{reads, deletes}
use Rattle.notice_ledger.specs.Past.Owed.{Notice, pushes_online, readies, clears, ready, was_cleared, was_dealt, bar_cause, bar, cause_of_bar, is_unbarred, is_turn_of, turn, switch_on, decided, account_by, account_of, is_pending}
use Rattle.notice_ledger.specs.Past.Rows.{stage_of}
use Rattle.notice_ledger.proofs.Behind.{find-passes, first_behind-next, first_behind-past, first_behind-placed, first_behind-take, found-longer, some_behind-next}

-- ---- what an event is to a notice

-- it makes the notice ready, if nothing cleared it before
abbrev pub is_readying : Stamped → Notice → Bool
is_readying s n = readies n.user n.deal (pushes_online n) s.event

-- it clears the notice
abbrev pub is_clearing : Stamped → Notice → Bool
is_clearing s n = clears n.user n.deal s.event

-- it absorbs the notice's deal
abbrev pub is_dealing : Stamped → Notice → Bool
is_dealing s n = absorbs (is_dealt n.deal) s.event

-- it is a turn of the notice
abbrev pub is_turn : Stamped → Notice → Bool
is_turn s n = is_turn_of n.user n.number n.way s.event

-- ---- ready events and turns

pub ready-append : (j : List Stamped) (s : Stamped) (n : Notice) → n.owing.place < length j → ready (j ++ s ∷ []) n ≡ option_or (ready j n) (cond (is_readying s n && not (was_cleared j n)) (Some (occurrence j s)) None)
ready-append j s n placed =
    first_behind-next n.owing.place (λ o. readies n.user n.deal (pushes_online n) o.event && not (some_behind n.owing.place (λ p. clears n.user n.deal p.event) o.past)) j s placed

pub was_cleared-append : (j : List Stamped) (s : Stamped) (n : Notice) → n.owing.place < length j → was_cleared (j ++ s ∷ []) n ≡ (was_cleared j n || is_clearing s n)
was_cleared-append j s n placed = some_behind-next n.owing.place (λ o. clears n.user n.deal o.event) j s placed

pub was_dealt-append : (j : List Stamped) (s : Stamped) (n : Notice) → n.owing.place < length j → was_dealt (j ++ s ∷ []) n ≡ (was_dealt j n || is_dealing s n)
was_dealt-append j s n placed = some_behind-next n.owing.place (λ o. absorbs (is_dealt n.deal) o.event) j s placed

-- an event is the turn of a notice that was ready before it
pub turn-append : (j : List Stamped) (s : Stamped) (n : Notice) → n.owing.place < length j → turn (j ++ s ∷ []) n ≡ option_or (turn j n) (cond (is_some (ready j n) && is_turn s n) (Some (occurrence j s)) None)
turn-append j s n placed =
    ap (option_and_then (λ r. first_behind r.place (λ o. is_turn_of n.user n.number n.way o.event) (j ++ s ∷ []))) (ready-append j s n placed) ∙ by (ready j n) refl
  where
    is_its_turn : Occurrence → Bool
    is_its_turn o = is_turn_of n.user n.number n.way o.event

    last_ready : (b : Bool) → option_and_then (λ r. first_behind r.place is_its_turn (j ++ s ∷ [])) (cond b (Some (occurrence j s)) None) ≡ None
    last_ready true = first_behind-past (length j) is_its_turn (j ++ s ∷ []) (omega (arith, length_push j s))
    last_ready false = refl

    by : (r : Option Occurrence) → ready j n ≡ r → option_and_then (λ r. first_behind r.place is_its_turn (j ++ s ∷ [])) (option_or r (cond (is_readying s n && not (was_cleared j n)) (Some (occurrence j s)) None)) ≡ option_or (option_and_then (λ r. first_behind r.place is_its_turn j) r) (cond (is_some r && is_turn s n) (Some (occurrence j s)) None)
    by None e = last_ready (is_readying s n && not (was_cleared j n))
    by (Some r) e =
        first_behind-next r.place is_its_turn j s
        (first_behind-placed n.owing.place (λ o. readies n.user n.deal (pushes_online n) o.event && not (some_behind n.owing.place (λ p. clears n.user n.deal p.event) o.past)) j r e)

-- ---- bars

-- the cause with which the event bars the notice, if it bars it
abbrev pub barring : List Stamped → Stamped → Notice → Option Cause
barring j s n = bar_cause n.user n.number n.way (occurrence j s)

-- the event bars the notice: it is a read of its message by its user, or the message's deletion
abbrev pub is_barring : Stamped → Notice → Bool
is_barring s n = reads n.user n.number s.event || deletes n.number s.event

pub barring-is : (j : List Stamped) (s : Stamped) (n : Notice) → is_some (barring j s n) ≡ is_barring s n
unfolding bar_cause
barring-is j s n = by (reads n.user n.number s.event) (deletes n.number s.event)
  where
    by : (r d : Bool) → is_some (if r then Some Read else if d then Some Deleted else None) ≡ (r || d)
    by true d = refl
    by false true = refl
    by false false = refl

-- an event with no cause for it bars nothing
pub barring-none : (j : List Stamped) (s : Stamped) (n : Notice) → is_barring s n ≡ false → barring j s n ≡ None
barring-none j s n h = none_if (barring j s n) (barring-is j s n ∙ h)
  where
    none_if : {X : Type 0} (o : Option X) → is_some o ≡ false → o ≡ None
    none_if None e = refl
    none_if (Some x) e = absurd (cc)

pub bar-append : (j : List Stamped) (s : Stamped) (n : Notice) → n.owing.place < length j → bar (j ++ s ∷ []) n ≡ option_or (bar j n) (cond (is_some (barring j s n)) (Some (occurrence j s)) None)
bar-append j s n placed = first_behind-next n.owing.place (λ o. is_some (bar_cause n.user n.number n.way o)) j s placed

-- what is found by what it gives gives something
gives : (j : List Stamped) (n : Notice) (o : Occurrence) → bar j n ≡ Some o → is_some (bar_cause n.user n.number n.way o) ≡ true
gives j n o found =
    (and_parts (nat_lt n.owing.place o.place) (is_some (bar_cause n.user n.number n.way o)) (find-passes (λ o. nat_lt n.owing.place o.place && is_some (bar_cause n.user n.number n.way o)) (occurrences j) o found)).1

-- a bar has a cause
pub cause_of_bar-is : (j : List Stamped) (n : Notice) → is_some (cause_of_bar j n) ≡ is_some (bar j n)
cause_of_bar-is j n = by (bar j n) (gives j n)
  where
    by : (b : Option Occurrence) → ((o : Occurrence) → b ≡ Some o → is_some (bar_cause n.user n.number n.way o) ≡ true) → is_some (option_and_then (bar_cause n.user n.number n.way) b) ≡ is_some b
    by None h = refl
    by (Some o) h = h o refl

pub cause_of_bar-append : (j : List Stamped) (s : Stamped) (n : Notice) → n.owing.place < length j → cause_of_bar (j ++ s ∷ []) n ≡ option_or (cause_of_bar j n) (barring j s n)
cause_of_bar-append j s n placed =
    ap (option_and_then (bar_cause n.user n.number n.way)) (bar-append j s n placed) ∙ by (bar j n) (gives j n)
  where
    now : (c : Option Cause) → barring j s n ≡ c → option_and_then (bar_cause n.user n.number n.way) (cond (is_some c) (Some (occurrence j s)) None) ≡ c
    now None e = refl
    now (Some cause) e = e

    first : (c d : Option Cause) → is_some c ≡ true → c ≡ option_or c d
    first None d h = absurd (cc)
    first (Some cause) d h = refl

    by : (b : Option Occurrence) → ((o : Occurrence) → b ≡ Some o → is_some (bar_cause n.user n.number n.way o) ≡ true)
        → option_and_then (bar_cause n.user n.number n.way) (option_or b (cond (is_some (barring j s n)) (Some (occurrence j s)) None)) ≡ option_or (option_and_then (bar_cause n.user n.number n.way) b) (barring j s n)
    by None h = now (barring j s n) refl
    by (Some o) h = first (bar_cause n.user n.number n.way o) (barring j s n) (h o refl)

-- a notice that is owed at the last place has no bar
pub bar-last : (j : List Stamped) (n : Notice) → length j ≤ n.owing.place + 1 → bar j n ≡ None
bar-last j n last = first_behind-past n.owing.place (λ o. is_some (bar_cause n.user n.number n.way o)) j last

-- a bar before an event of the journal is a bar
pub barred-before : (j : List Stamped) (n : Notice) (place : ℕ) (test : Occurrence → Bool) (o : Occurrence) → first_behind place test j ≡ Some o → is_unbarred n o ≡ false → is_some (bar j n) ≡ true
barred-before j n place test o found barred = by (bar o.past n) refl barred
  where
    by : (b : Option Occurrence) → bar o.past n ≡ b → is_none b ≡ false → is_some (bar j n) ≡ true
    by None e h = absurd (cc)
    by (Some x) e h =
        ap (λ k. is_some (bar k n)) (sym (take-append-drop o.place j) ∙ ap (λ k. k ++ drop o.place j) (sym (first_behind-take place test j o found)))
        ∙ ap is_some (found-longer n.owing.place (λ o. is_some (bar_cause n.user n.number n.way o)) o.past (drop o.place j) x e)

-- the turn's case of this
pub barred-turn : (j : List Stamped) (n : Notice) (t : Occurrence) → turn j n ≡ Some t → is_unbarred n t ≡ false → is_some (bar j n) ≡ true
barred-turn j n t found barred = by (ready j n) found
  where
    by : (r : Option Occurrence) → option_and_then (λ r. first_behind r.place (λ o. is_turn_of n.user n.number n.way o.event) j) r ≡ Some t → is_some (bar j n) ≡ true
    by None e = absurd (cc)
    by (Some r) e = barred-before j n r.place (λ o. is_turn_of n.user n.number n.way o.event) t e barred

-- ---- accounts

-- cancelled where there is a cause
abbrev pub barred_or : Option Cause → Account → Account
barred_or barring account = option_map_or Cancelled barring account

-- where a notice stands after an event, by whether the event is its turn, makes it ready, clears it and absorbs its deal, by
-- the cause with which it bars it, by what its turn would decide, and by where it stood before
abbrev pub moved_by : Bool → Bool → Bool → Bool → Option Cause → Account → Account → Account
moved_by is_turn readies clears deals barring decision Ready = if is_turn then decision else barred_or barring Ready
moved_by is_turn readies clears deals barring decision Held = barred_or barring (if readies then Ready else if clears then LiveQueue else Held)
moved_by is_turn readies clears deals barring decision Flight = barred_or barring (if readies then Ready else if clears then LiveQueue else if deals then Held else Flight)
moved_by is_turn readies clears deals barring decision LiveQueue = barred_or barring LiveQueue
moved_by is_turn readies clears deals barring decision account = account

-- where a notice stands after an event, by where it stood before
abbrev pub moved : List Stamped → Stamped → Notice → Account → Account
moved j s n account = moved_by (is_turn s n) (is_readying s n) (is_clearing s n) (is_dealing s n) (barring j s n) (decided n (occurrence j s)) account

-- what a turn decided, where no bar stands before it
abbrev pub decided_by : Notice → Option Occurrence → Option Account
decided_by n t = option_and_then (λ t. if is_unbarred n t then Some (decided n t) else None) t

decided_stays : (n : Notice) (x : Occurrence) (tn rd cl dl : Bool) (c : Option Cause) (decision : Account) → decided n x ≡ moved_by tn rd cl dl c decision (decided n x)
decided_stays n x tn rd cl dl c decision =
    elim (switch_on x.past n.user n.way) as (λ b. (if b then Handed else Cancelled SwitchedOff) ≡ moved_by tn rd cl dl c decision (if b then Handed else Cancelled SwitchedOff)) [
      | true ↦ refl
      | false ↦ refl
    ]

one_step : (n : Notice) (o : Occurrence) (t : Option Occurrence) (b : Option Cause) (r : Option Occurrence) (c d tn rd cl dl : Bool) (barring : Option Cause)
    → is_unbarred n o ≡ is_none b → ((x : Occurrence) → t ≡ Some x → is_unbarred n x ≡ false → is_some b ≡ true)
    → account_by (decided_by n (option_or t (cond (is_some r && tn) (Some o) None))) (option_or b barring) (is_some (option_or r (cond (rd && not c) (Some o) None))) (c || cl) (d || dl)
    ≡ moved_by tn rd cl dl barring (decided n o) (account_by (decided_by n t) b (is_some r) c d)
one_step n o (Some x) b r c d tn rd cl dl barring here before = by (is_unbarred n x) b (before x refl)
  where
    by : (free : Bool) (b : Option Cause) → (free ≡ false → is_some b ≡ true)
        → account_by (if free then Some (decided n x) else None) (option_or b barring) (is_some (option_or r (cond (rd && not c) (Some o) None))) (c || cl) (d || dl)
        ≡ moved_by tn rd cl dl barring (decided n o) (account_by (if free then Some (decided n x) else None) b (is_some r) c d)
    by true b h = decided_stays n x tn rd cl dl barring (decided n o)
    by false None h = let no : false ≡ true = h refl in absurd (cc)
    by false (Some cause) h = refl
one_step n o None (Some cause) r c d tn rd cl dl barring here before =
    ap (λ a. account_by a (Some cause) (is_some (option_or r (cond (rd && not c) (Some o) None))) (c || cl) (d || dl)) (none (is_some r && tn))
  where
    none : (turned : Bool) → decided_by n (cond turned (Some o) None) ≡ None
    none true = ap (λ b. if b then Some (decided n o) else None) here
    none false = refl
one_step n o None None (Some y) c d true rd cl dl barring here before =
    ap (λ b. account_by (if b then Some (decided n o) else None) barring true (c || cl) (d || dl)) here
one_step n o None None (Some y) c d false rd cl dl None here before = refl
one_step n o None None (Some y) c d false rd cl dl (Some cause) here before = refl
one_step n o None None None true d tn rd cl dl (Some cause) here before = refl
one_step n o None None None true d tn true cl dl None here before = refl
one_step n o None None None true d tn false cl dl None here before = refl
one_step n o None None None false true tn rd cl dl (Some cause) here before = refl
one_step n o None None None false true tn true cl dl None here before = refl
one_step n o None None None false true tn false true dl None here before = refl
one_step n o None None None false true tn false false dl None here before = refl
one_step n o None None None false false tn rd cl dl (Some cause) here before = refl
one_step n o None None None false false tn true cl dl None here before = refl
one_step n o None None None false false tn false true dl None here before = refl
one_step n o None None None false false tn false false true None here before = refl
one_step n o None None None false false tn false false false None here before = refl

not_some : {X Y : Type 0} (a : Option X) (b : Option Y) → is_some a ≡ is_some b → is_none b ≡ is_none a
not_some None None e = refl
not_some None (Some y) e = absurd (cc)
not_some (Some x) None e = absurd (cc)
not_some (Some x) (Some y) e = refl

-- no bar, as the cause says it
pub unbarred-cause : (j : List Stamped) (n : Notice) → is_none (bar j n) ≡ is_none (cause_of_bar j n)
unbarred-cause j n = not_some (cause_of_bar j n) (bar j n) (cause_of_bar-is j n)

-- a notice of the journal
pub account_of-append : (j : List Stamped) (s : Stamped) (n : Notice) → n.owing.place < length j → account_of (j ++ s ∷ []) n ≡ moved j s n (account_of j n)
account_of-append j s n placed =
    (λ i. account_by (decided_by n (turn-append j s n placed i)) (cause_of_bar-append j s n placed i) (is_some (ready-append j s n placed i)) (was_cleared-append j s n placed i) (was_dealt-append j s n placed i))
    ∙ one_step n (occurrence j s) (turn j n) (cause_of_bar j n) (ready j n) (was_cleared j n) (was_dealt j n) (is_turn s n) (is_readying s n) (is_clearing s n) (is_dealing s n) (barring j s n)
    (unbarred-cause j n) (λ x found barred. cause_of_bar-is j n ∙ barred-turn j n x found barred)

-- a notice that is owed at the last place is in flight
pub ready-last : (j : List Stamped) (n : Notice) → length j ≤ n.owing.place + 1 → ready j n ≡ None
ready-last j n last =
    first_behind-past n.owing.place (λ o. readies n.user n.deal (pushes_online n) o.event && not (some_behind n.owing.place (λ p. clears n.user n.deal p.event) o.past)) j last

pub account_of-last : (j : List Stamped) (n : Notice) → length j ≤ n.owing.place + 1 → account_of j n ≡ Flight
account_of-last j n last =
    let not_ready = ready-last j n last in
    let no_turn : turn j n ≡ None = ap (option_and_then (λ r. first_behind r.place (λ o. is_turn_of n.user n.number n.way o.event) j)) not_ready in
    let not_cleared : was_cleared j n ≡ false = ap is_some (first_behind-past n.owing.place (λ o. clears n.user n.deal o.event) j last) in
    let not_dealt : was_dealt j n ≡ false = ap is_some (first_behind-past n.owing.place (λ o. absorbs (is_dealt n.deal) o.event) j last) in
    (λ i. account_by (decided_by n (no_turn i)) (option_and_then (bar_cause n.user n.number n.way) (bar-last j n last i)) (is_some (not_ready i)) (not_cleared i) (not_dealt i))

-- an owed notice has one of the other accounts
pub account_of-owed : (j : List Stamped) (n : Notice) → account_of j n ≢ NotOwed
account_of-owed j n e = by (turn j n) (cause_of_bar j n) (is_some (ready j n)) (was_cleared j n) (was_dealt j n) e
  where
    was_decided : (b : Bool) → (if b then Handed else Cancelled SwitchedOff) ≡ NotOwed → ⊥
    was_decided true h = cc
    was_decided false h = cc

    undecided : (b : Option Cause) (r c d : Bool) → account_by None b r c d ≡ NotOwed → ⊥
    undecided (Some cause) r c d h = cc
    undecided None true c d h = cc
    undecided None false true d h = cc
    undecided None false false true h = cc
    undecided None false false false h = cc

    turned : (t : Occurrence) (free : Bool) (b : Option Cause) (r c d : Bool) → account_by (if free then Some (decided n t) else None) b r c d ≡ NotOwed → ⊥
    turned t true b r c d h = was_decided (switch_on t.past n.user n.way) h
    turned t false b r c d h = undecided b r c d h

    by : (t : Option Occurrence) (b : Option Cause) (r c d : Bool) → account_by (decided_by n t) b r c d ≡ NotOwed → ⊥
    by (Some t) b r c d h = turned t (is_unbarred n t) b r c d h
    by None b r c d h = undecided b r c d h

-- what is not pending stays
pub moved-pending : (tn rd cl dl : Bool) (barring : Option Cause) (decision account : Account) → is_pending (moved_by tn rd cl dl barring decision account) ≡ (is_pending account && is_pending (moved_by tn rd cl dl barring decision account))
moved-pending tn rd cl dl barring decision Flight = refl
moved-pending tn rd cl dl barring decision Held = refl
moved-pending tn rd cl dl barring decision Ready = refl
moved-pending tn rd cl dl None decision LiveQueue = refl
moved-pending tn rd cl dl (Some cause) decision LiveQueue = refl
moved-pending tn rd cl dl barring decision account = refl

-- ---- stages

-- the stage of a pending notice after an event, none where it is pending no more, by the same tests
abbrev pub stage_by : Bool → Bool → Bool → Bool → Bool → Stage → Option Stage
stage_by is_turn readies clears deals true before = None
stage_by is_turn readies clears deals false stage.Ready = if is_turn then None else Some stage.Ready
stage_by is_turn readies clears deals false stage.Held = if readies then Some stage.Ready else if clears then None else Some stage.Held
stage_by is_turn readies clears deals false stage.Flight = if readies then Some stage.Ready else if clears then None else if deals then Some stage.Held else Some stage.Flight

abbrev pub stage_after : Stamped → Notice → Stage → Option Stage
stage_after s n before = stage_by (is_turn s n) (is_readying s n) (is_clearing s n) (is_dealing s n) (is_barring s n) before

pub stage_of-append : (j : List Stamped) (s : Stamped) (n : Notice) → n.owing.place < length j → stage_of (account_of (j ++ s ∷ []) n) ≡ option_and_then (stage_after s n) (stage_of (account_of j n))
stage_of-append j s n placed =
    ap stage_of (account_of-append j s n placed)
    ∙ (by (is_turn s n) (is_readying s n) (is_clearing s n) (is_dealing s n) (barring j s n) (account_of j n)
    ∙ ap (λ b. option_and_then (stage_by (is_turn s n) (is_readying s n) (is_clearing s n) (is_dealing s n) b) (stage_of (account_of j n))) (barring-is j s n))
  where
    was_decided : (b : Bool) → stage_of (if b then Handed else Cancelled SwitchedOff) ≡ None
    was_decided true = refl
    was_decided false = refl

    by : (tn rd cl dl : Bool) (c : Option Cause) (a : Account) → stage_of (moved_by tn rd cl dl c (decided n (occurrence j s)) a) ≡ option_and_then (stage_by tn rd cl dl (is_some c)) (stage_of a)
    by true rd cl dl None Ready = was_decided (switch_on j n.user n.way)
    by true rd cl dl (Some cause) Ready = was_decided (switch_on j n.user n.way)
    by false rd cl dl None Ready = refl
    by false rd cl dl (Some cause) Ready = refl
    by tn rd cl dl (Some cause) Held = refl
    by tn true cl dl None Held = refl
    by tn false true dl None Held = refl
    by tn false false dl None Held = refl
    by tn rd cl dl (Some cause) Flight = refl
    by tn true cl dl None Flight = refl
    by tn false true dl None Flight = refl
    by tn false false true None Flight = refl
    by tn false false false None Flight = refl
    by tn rd cl dl (Some cause) LiveQueue = refl
    by tn rd cl dl None LiveQueue = refl
    by tn rd cl dl c a = refl

-- an event that is none of these to a notice leaves it
pub stage_after-same : (s : Stamped) (n : Notice) (g : Stage) → is_turn s n ≡ false → is_readying s n ≡ false → is_clearing s n ≡ false → is_dealing s n ≡ false → is_barring s n ≡ false → stage_after s n g ≡ Some g
stage_after-same s n g tn rd cl dl bar =
    ap (λ b. stage_by (is_turn s n) (is_readying s n) (is_clearing s n) (is_dealing s n) b g) bar ∙ by g
  where
    by : (g : Stage) → stage_by (is_turn s n) (is_readying s n) (is_clearing s n) (is_dealing s n) false g ≡ Some g
    by stage.Ready = ap (λ b. if b then None else Some stage.Ready) tn
    by stage.Held = (λ i. if rd i then Some stage.Ready else if cl i then None else Some stage.Held)
    by stage.Flight = (λ i. if rd i then Some stage.Ready else if cl i then None else if dl i then Some stage.Held else Some stage.Flight)
