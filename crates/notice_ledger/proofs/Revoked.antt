-- Revocations: where a push was handed over, what revokes it afterwards, and the removals that an event makes.
use Rattle.std.proofs.Common.{◌≡◌, ℕ, zero, suc, ◌+◌, ◌<◌, ◌≤◌, Bool, true, false, ◌&&◌, ◌||◌, ◌==◌, cond, List, [], ◌∷◌, ◌++◌, length, map, refl, sym, ap, ◌∙◌, arith, ⊎_elim}
use Rattle.std.specs.Prelude.{Option, Some, None, filter, option_and_then, option_map, option_to_list, is_none, is_some, sum_by, count_by, if◌then◌else◌}
use Rattle.std.specs.Option.{option_map_or, option_or}
use Rattle.std.specs.List.{flat_map, list_any, range_with_len}
use Rattle.std.proofs.Math.Bool.{and-false}
use Rattle.std.proofs.lemmas.Bool.{and_parts, eq-eqb, ne_eqb, cases_eq, cases_lt}
use Rattle.std.proofs.lemmas.Grind.{flat_map-append}
use Rattle.std.proofs.lemmas.List.{append-nil, length_push}
use Rattle.std.proofs.lemmas.List.Elements.{filter-append}
use Rattle.std.proofs.lemmas.List.Sums.{sum_by-cons}
use Rattle.chat_model.specs.Ascending.{ascending_once_by}
use Rattle.chat_model.specs.declared.event.Stamped.{Stamped}
use Rattle.chat_model.specs.declared.event.Event.{Event}
use Rattle.chat_model.specs.declared.event.Event.TheVariants.{Asked, PushTurn}
use Rattle.chat_model.specs.declared.ids.UserId.{UserId}
use Rattle.chat_model.specs.declared.ids.MessageId.{MessageId}
use Rattle.chat_model.specs.declared.push_item.PushItem.{PushItem}
use Rattle.chat_model.specs.declared.row.Cause.{Cause}
use Rattle.chat_model.specs.declared.row.Cause.TheVariants.{SwitchedOff}
use Rattle.chat_model.specs.declared.trigger.Way.{Way}
use Rattle.chat_model.specs.declared.trigger.Way.TheVariants.{Push}
use Rattle.revocation.specs.Removals.{removals_of}
use Rattle.notice_ledger.specs.declared.accounts.Account.TheVariants.{Ready, Handed, Cancelled}
use Rattle.notice_ledger.specs.Past.Journal.{Occurrence, occurrence, first_behind}
use Rattle.notice_ledger.specs.Past.Values.{Person, person_of, people, users, reads, deletes}
use Rattle.notice_ledger.specs.Past.Owed.{Notice, is_of, same_way, owed_by, notices, ready, was_cleared, was_dealt, bar_cause, bar_behind, bar, cause_of_bar, is_unbarred, is_turn_of, turn, switch_on, decided, account_by, account_of, is_handed}
use Rattle.notice_ledger.specs.Past.Audit.{same_account}
use Rattle.notice_ledger.specs.Past.Pushes.{handed_at, revocation, is_revoked, is_revoked_by, revoked_messages, removals_by}
use Rattle.notice_ledger.specs.Conserved.{removals_in_item}
use Rattle.notice_ledger.proofs.Apart.{Pairwise, Differ, notices-apart}
use Rattle.notice_ledger.proofs.Appended.{notices-append}
use Rattle.notice_ledger.proofs.Behind.{first_behind-next, first_behind-past, first_behind-placed}
use Rattle.notice_ledger.proofs.FirstDue.{IsWithin, notices-within}
use Rattle.notice_ledger.proofs.Found.{other_notice}
use Rattle.notice_ledger.proofs.Lists.{by_appending, filter_same_where, filter_none}
use Rattle.notice_ledger.proofs.Parts.{removals_of-named, named-ascending, sum_by-flat_map}
use Rattle.notice_ledger.proofs.Same.{same_user, same_ways}
use Rattle.notice_ledger.proofs.Standing.{is_turn, barring, barring-is, bar-append, barred-turn, cause_of_bar-is, unbarred-cause, decided_by, ready-last, turn-append}
use Rattle.notice_ledger.proofs.Sums.{sum_by_same, sum_by_none_where, none_plus, plus_none}
use Rattle.notice_ledger.proofs.There.{added_user, users-append}
use Rattle.notice_ledger.proofs.Waiting.{IsOwedBy, owed_by-each, owed-last, notices-placed}

-- ---- where a push was handed over

-- the event hands the push over: it is its turn, it is ready, and its switch is on
abbrev pub is_handed_now : List Stamped → Stamped → Notice → Bool
is_handed_now j s n = same_way n.way Push && (is_turn s n && (same_account (account_of j n) Ready && switch_on j n.user n.way))

-- the push that a turn hands over
abbrev handed_by : Notice → Option Occurrence → Option Occurrence
handed_by n t = option_and_then (λ t. if is_unbarred n t && is_handed (decided n t) then Some t else None) t

handed_decision : (on : Bool) → is_handed (if on then Handed else Cancelled SwitchedOff) ≡ on
handed_decision true = refl
handed_decision false = refl

-- what had its turn is not ready
turned_unready : (j : List Stamped) (n : Notice) (t : Occurrence) → turn j n ≡ Some t → (c : Option Cause) → cause_of_bar j n ≡ c → (r cl dl : Bool) → same_account (account_by (decided_by n (Some t)) c r cl dl) Ready ≡ false
turned_unready j n t found c cause r cl dl = by (is_unbarred n t) refl c cause
  where
    was_decided : (on : Bool) → same_account (if on then Handed else Cancelled SwitchedOff) Ready ≡ false
    was_decided true = refl
    was_decided false = refl

    by : (free : Bool) → is_unbarred n t ≡ free → (c : Option Cause) → cause_of_bar j n ≡ c → same_account (account_by (if free then Some (decided n t) else None) c r cl dl) Ready ≡ false
    by true e c h = was_decided (switch_on t.past n.user n.way)
    by false e (Some cause) h = refl
    by false e None h = let no : false ≡ true = sym (ap is_some h) ∙ (cause_of_bar-is j n ∙ barred-turn j n t found e) in absurd (cc)

pub handed_at-append : (j : List Stamped) (s : Stamped) (n : Notice) → n.owing.place < length j → handed_at (j ++ s ∷ []) n ≡ option_or (handed_at j n) (cond (is_handed_now j s n) (Some (occurrence j s)) None)
handed_at-append j s n placed = by (same_way n.way Push)
  where
    k : List Stamped
    k = j ++ s ∷ []

    none_later : (o : Option Occurrence) → o ≡ option_or o None
    none_later None = refl
    none_later (Some x) = refl

    unturned : (r : Option Occurrence) (c : Option Cause) (tn on cl dl : Bool) → handed_by n (cond (is_some r && tn) (Some (occurrence j s)) None) ≡ cond (is_some r && tn && (is_unbarred n (occurrence j s) && is_handed (decided n (occurrence j s)))) (Some (occurrence j s)) None
    unturned None c tn on cl dl = refl
    unturned (Some y) c false on cl dl = refl
    unturned (Some y) c true on cl dl = refl

    ready_if : (r : Option Occurrence) (c : Option Cause) (tn on cl dl : Bool) → (is_some r && tn && (is_none c && on)) ≡ (tn && (same_account (account_by None c (is_some r) cl dl) Ready && on))
    ready_if None None tn on true dl = sym (and-false tn)
    ready_if None None tn on false true = sym (and-false tn)
    ready_if None None tn on false false = sym (and-false tn)
    ready_if None (Some cause) tn on cl dl = sym (and-false tn)
    ready_if (Some y) None tn on cl dl = refl
    ready_if (Some y) (Some cause) tn on cl dl = refl

    turned : (t : Option Occurrence) → turn j n ≡ t
        → handed_by n (option_or t (cond (is_some (ready j n) && is_turn s n) (Some (occurrence j s)) None))
        ≡ option_or (handed_by n t) (cond (is_turn s n && (same_account (account_by (decided_by n t) (cause_of_bar j n) (is_some (ready j n)) (was_cleared j n) (was_dealt j n)) Ready && switch_on j n.user n.way)) (Some (occurrence j s)) None)
    turned (Some t) e =
        none_later (handed_by n (Some t))
        ∙ ap (λ b. option_or (handed_by n (Some t)) (cond b (Some (occurrence j s)) None)) (sym (
        ap (λ b. is_turn s n && (b && switch_on j n.user n.way)) (turned_unready j n t e (cause_of_bar j n) refl (is_some (ready j n)) (was_cleared j n) (was_dealt j n))
        ∙ and-false (is_turn s n)))
    turned None e =
        unturned (ready j n) (cause_of_bar j n) (is_turn s n) (switch_on j n.user n.way) (was_cleared j n) (was_dealt j n)
        ∙ ap (λ b. cond b (Some (occurrence j s)) None) (
        (λ i. is_some (ready j n) && is_turn s n && (unbarred-cause j n i && handed_decision (switch_on j n.user n.way) i))
        ∙ ready_if (ready j n) (cause_of_bar j n) (is_turn s n) (switch_on j n.user n.way) (was_cleared j n) (was_dealt j n))

    by : (push : Bool) → (if push then handed_by n (turn k n) else None)
        ≡ option_or (if push then handed_by n (turn j n) else None) (cond (push && (is_turn s n && (same_account (account_of j n) Ready && switch_on j n.user n.way))) (Some (occurrence j s)) None)
    by false = refl
    by true = ap (handed_by n) (turn-append j s n placed) ∙ turned (turn j n) refl

-- a push was handed over exactly where its account says so
pub handed_at-handed : (j : List Stamped) (n : Notice) → same_way n.way Push ≡ true → is_some (handed_at j n) ≡ is_handed (account_of j n)
handed_at-handed j n push = ap (λ b. is_some (if b then handed_by n (turn j n) else None)) push ∙ by (turn j n) refl (cause_of_bar j n) refl (is_some (ready j n)) (was_cleared j n) (was_dealt j n)
  where
    by : (t : Option Occurrence) → turn j n ≡ t → (c : Option Cause) → cause_of_bar j n ≡ c → (r cl dl : Bool) → is_some (handed_by n t) ≡ is_handed (account_by (decided_by n t) c r cl dl)
    by None e (Some cause) h r cl dl = refl
    by None e None h true cl dl = refl
    by None e None h false true dl = refl
    by None e None h false false true = refl
    by None e None h false false false = refl
    by (Some t) e c h r cl dl = turned (is_unbarred n t) refl c h
      where
        here : (on : Bool) → is_some (if on then Some t else None) ≡ on
        here true = refl
        here false = refl

        turned : (free : Bool) → is_unbarred n t ≡ free → (c : Option Cause) → cause_of_bar j n ≡ c → is_some (if free && is_handed (decided n t) then Some t else None) ≡ is_handed (account_by (if free then Some (decided n t) else None) c r cl dl)
        turned true u c h = here (is_handed (decided n t))
        turned false u (Some cause) h = refl
        turned false u None h = let no : false ≡ true = sym (ap is_some h) ∙ (cause_of_bar-is j n ∙ barred-turn j n t e u) in absurd (cc)

-- nothing but a push is handed over so
pub handed_at-push : (j : List Stamped) (n : Notice) → is_some (handed_at j n) ≡ true → same_way n.way Push ≡ true
handed_at-push j n h = by (same_way n.way Push) h
  where
    by : (push : Bool) → is_some (if push then handed_by n (turn j n) else None) ≡ true → push ≡ true
    by true e = refl
    by false e = absurd (cc)

-- what is owed at the last place is not handed over
pub handed_at-last : (j : List Stamped) (n : Notice) → length j ≤ n.owing.place + 1 → handed_at j n ≡ None
handed_at-last j n last =
    ap (λ r. if same_way n.way Push then handed_by n (option_and_then (λ r. first_behind r.place (λ o. is_turn_of n.user n.number n.way o.event) j) r) else None) (ready-last j n last)
    ∙ none (same_way n.way Push)
  where
    none : (push : Bool) → (if push then handed_by n None else None) ≡ None
    none true = refl
    none false = refl

-- it stands in the journal
handed_at-placed : (j : List Stamped) (n : Notice) (t : Occurrence) → handed_at j n ≡ Some t → t.place < length j
handed_at-placed j n t found = by (ready j n) (same_way n.way Push) found
  where
    at_turn : (t x : Occurrence) (b : Bool) → (if b then Some x else None) ≡ Some t → x.place < length j → t.place < length j
    at_turn t x true e h = let same : x ≡ t = cc in rw (sym same) h
    at_turn t x false e h = absurd (cc)

    turned : (o : Option Occurrence) → ((x : Occurrence) → o ≡ Some x → x.place < length j) → handed_by n o ≡ Some t → t.place < length j
    turned None h e = absurd (cc)
    turned (Some x) h e = at_turn t x (is_unbarred n x && is_handed (decided n x)) e (h x refl)

    by : (r : Option Occurrence) (push : Bool) → (if push then handed_by n (option_and_then (λ r. first_behind r.place (λ o. is_turn_of n.user n.number n.way o.event) j) r) else None) ≡ Some t → t.place < length j
    by r false e = absurd (cc)
    by None true e = absurd (cc)
    by (Some r) true e = turned (first_behind r.place (λ o. is_turn_of n.user n.number n.way o.event) j) (λ x h. first_behind-placed r.place (λ o. is_turn_of n.user n.number n.way o.event) j x h) e

-- ---- what revokes it

pub revocation-append : (j : List Stamped) (s : Stamped) (n : Notice) → n.owing.place < length j → revocation (j ++ s ∷ []) n ≡ option_or (revocation j n) (cond (is_some (handed_at j n) && is_some (barring j s n)) (Some (occurrence j s)) None)
revocation-append j s n placed = ap (option_and_then later) (handed_at-append j s n placed) ∙ by (handed_at j n) refl
  where
    later : Occurrence → Option Occurrence
    later t = bar_behind t.place n.user n.number n.way (j ++ s ∷ [])

    past_last : (b : Bool) → option_and_then later (cond b (Some (occurrence j s)) None) ≡ None
    past_last true = first_behind-past (length j) (λ o. is_some (bar_cause n.user n.number n.way o)) (j ++ s ∷ []) (omega (arith, length_push j s))
    past_last false = refl

    by : (t : Option Occurrence) → handed_at j n ≡ t
        → option_and_then later (option_or t (cond (is_handed_now j s n) (Some (occurrence j s)) None))
        ≡ option_or (option_and_then (λ t. bar_behind t.place n.user n.number n.way j) t) (cond (is_some t && is_some (barring j s n)) (Some (occurrence j s)) None)
    by None e = past_last (is_handed_now j s n)
    by (Some t) e = first_behind-next t.place (λ o. is_some (bar_cause n.user n.number n.way o)) j s (handed_at-placed j n t e)

-- a push turn bars nothing
turn-bars_nothing : (u : UserId) (m : MessageId) (e : Event) → is_turn_of u m Push e ≡ true → (reads u m e || deletes m e) ≡ false
turn-bars_nothing u m (PushTurn i) h = refl
turn-bars_nothing u m (Asked r) h = absurd (cc)
turn-bars_nothing u m e h = refl

or_none : {A : Type 0} (o : Option A) (b : Bool) (x : A) → is_some (option_or o (cond b (Some x) None)) ≡ (is_some o || b)
or_none None true x = refl
or_none None false x = refl
or_none (Some y) b x = refl

-- a push is revoked exactly where it was handed over and has a bar
pub revoked-barred : (j : List Stamped) (n : Notice) → is_revoked j n ≡ (is_some (handed_at j n) && is_some (bar j n))
revoked-barred j n = by_appending (λ j. is_revoked j n ≡ (is_some (handed_at j n) && is_some (bar j n))) (outside [] (omega arith)) step j
  where
    outside : (j : List Stamped) → length j ≤ n.owing.place + 1 → is_revoked j n ≡ (is_some (handed_at j n) && is_some (bar j n))
    outside j last =
        ap (λ t. is_some (option_and_then (λ t. bar_behind t.place n.user n.number n.way j) t)) (handed_at-last j n last)
        ∙ ap (λ t. is_some t && is_some (bar j n)) (sym (handed_at-last j n last))

    -- what an event hands over has no bar, and the event bars nothing
    fresh : (j : List Stamped) (s : Stamped) → is_handed_now j s n ≡ true → (is_some (bar j n) || is_some (barring j s n)) ≡ false
    fresh j s now =
        let push = and_parts (same_way n.way Push) (is_turn s n && (same_account (account_of j n) Ready && switch_on j n.user n.way)) now in
        let turned = and_parts (is_turn s n) (same_account (account_of j n) Ready && switch_on j n.user n.way) push.1 in
        let at_ready = and_parts (same_account (account_of j n) Ready) (switch_on j n.user n.way) turned.1 in
        let at_turn : is_turn_of n.user n.number Push s.event ≡ true = ap (λ (w : Way). is_turn_of n.user n.number w s.event) (sym (same_ways n.way Push push.0)) ∙ turned.0 in
        (λ i. (sym (cause_of_bar-is j n) i || barring-is j s n i))
        ∙ ((λ i. unbarred (cause_of_bar j n) (at_turn_of j) at_ready.0 i || turn-bars_nothing n.user n.number s.event at_turn i))
      where
        unbarred : (c : Option Cause) → (is_some c ≡ true → same_account (account_of j n) Ready ≡ false) → same_account (account_of j n) Ready ≡ true → is_some c ≡ false
        unbarred None f h = refl
        unbarred (Some cause) f h = let no : false ≡ true = sym (f refl) ∙ h in absurd (cc)

        at_turn_of : (j : List Stamped) → is_some (cause_of_bar j n) ≡ true → same_account (account_of j n) Ready ≡ false
        at_turn_of j barred = each (turn j n) refl (cause_of_bar j n) refl barred
          where
            each : (t : Option Occurrence) → turn j n ≡ t → (c : Option Cause) → cause_of_bar j n ≡ c → is_some c ≡ true → same_account (account_by (decided_by n t) c (is_some (ready j n)) (was_cleared j n) (was_dealt j n)) Ready ≡ false
            each (Some t) e c f h = turned_unready j n t e c f (is_some (ready j n)) (was_cleared j n) (was_dealt j n)
            each None e None f h = absurd (cc)
            each None e (Some cause) f h = refl

    one_more : (r h b now barred : Bool) → r ≡ (h && b) → (now ≡ true → (b || barred) ≡ false) → (r || (h && barred)) ≡ ((h || now) && (b || barred))
    one_more r true true now barred e f = ap (λ x. x || barred) e
    one_more r true false now barred e f = ap (λ x. x || barred) e
    one_more r false b true barred e f = ap (λ x. x || false) e ∙ sym (f refl)
    one_more r false b false barred e f = ap (λ x. x || false) e

    step : (j : List Stamped) (s : Stamped) → is_revoked j n ≡ (is_some (handed_at j n) && is_some (bar j n)) → is_revoked (j ++ s ∷ []) n ≡ (is_some (handed_at (j ++ s ∷ []) n) && is_some (bar (j ++ s ∷ []) n))
    step j s before =
        ⊎_elim (λ placed.
        (ap is_some (revocation-append j s n placed) ∙ or_none (revocation j n) (is_some (handed_at j n) && is_some (barring j s n)) (occurrence j s))
        ∙ (one_more (is_revoked j n) (is_some (handed_at j n)) (is_some (bar j n)) (is_handed_now j s n) (is_some (barring j s n)) before (fresh j s)
        ∙ (λ i. sym (ap is_some (handed_at-append j s n placed) ∙ or_none (handed_at j n) (is_handed_now j s n) (occurrence j s)) i
        && sym (ap is_some (bar-append j s n placed) ∙ or_none (bar j n) (is_some (barring j s n)) (occurrence j s)) i)))
        (λ past. outside (j ++ s ∷ []) (omega (arith, length_push j s, past))) (cases_lt n.owing.place (length j))

-- ---- what an event revokes

-- the event revokes the push: it was handed over, had no bar, and the event bars it
abbrev pub revokes_now : List Stamped → Stamped → Notice → Bool
revokes_now j s n = is_some (handed_at j n) && (is_none (bar j n) && is_some (barring j s n))

-- the event revokes the push of the user now
abbrev pub is_revoked_now : List Stamped → Stamped → UserId → Notice → Bool
is_revoked_now j s u n = n.user.0 == u.0 && revokes_now j s n

-- a push is revoked after an event where it was, or where the event revokes it
pub is_revoked-append : (j : List Stamped) (s : Stamped) (n : Notice) → n.owing.place < length j → is_revoked (j ++ s ∷ []) n ≡ (is_revoked j n || revokes_now j s n)
is_revoked-append j s n placed =
    ap is_some (revocation-append j s n placed)
    ∙ (or_none (revocation j n) (is_some (handed_at j n) && is_some (barring j s n)) (occurrence j s)
    ∙ by (is_some (handed_at j n)) (bar j n) (is_some (barring j s n)) (is_revoked j n) (revoked-barred j n))
  where
    by : (h : Bool) (b : Option Occurrence) (barred r : Bool) → r ≡ (h && is_some b) → (r || (h && barred)) ≡ (r || (h && (is_none b && barred)))
    by false b barred r e = refl
    by true None barred r e = refl
    by true (Some x) barred r e = ap (λ t. t || barred) e ∙ sym (ap (λ t. t || false) e)

-- no event revokes it again
pub revoked-once : (j : List Stamped) (s : Stamped) (n : Notice) → is_revoked j n ≡ true → revokes_now j s n ≡ false
revoked-once j s n revoked = by (is_some (handed_at j n)) (bar j n) (sym (revoked-barred j n) ∙ revoked)
  where
    by : (h : Bool) (b : Option Occurrence) → (h && is_some b) ≡ true → (h && (is_none b && is_some (barring j s n))) ≡ false
    by true (Some x) e = refl
    by true None e = absurd (cc)
    by false b e = refl

-- what an event owes is not revoked
pub is_revoked-new : (j : List Stamped) (s : Stamped) (n : Notice) → IsOwedBy (occurrence j s) n → is_revoked (j ++ s ∷ []) n ≡ false
is_revoked-new j s n owed =
    ap (λ t. is_some (option_and_then (λ t. bar_behind t.place n.user n.number n.way (j ++ s ∷ [])) t)) (handed_at-last (j ++ s ∷ []) n (owed-last j s n owed))

revocation-placed : (j : List Stamped) (n : Notice) (r : Occurrence) → revocation j n ≡ Some r → r.place < length j
revocation-placed j n r found = by (handed_at j n) found
  where
    by : (t : Option Occurrence) → option_and_then (λ t. bar_behind t.place n.user n.number n.way j) t ≡ Some r → r.place < length j
    by None e = absurd (cc)
    by (Some t) e = first_behind-placed t.place (λ o. is_some (bar_cause n.user n.number n.way o)) j r e

-- the last event revokes what was handed over and had no bar
pub revoked-last : (j : List Stamped) (s : Stamped) (u : UserId) (n : Notice) → n.owing.place < length j → is_revoked_by (j ++ s ∷ []) (occurrence j s) u n ≡ is_revoked_now j s u n
revoked-last j s u n placed =
    ap (λ r. n.user.0 == u.0 && option_map_or (λ r. r.place == length j) r false) (revocation-append j s n placed)
    ∙ ap (λ b. n.user.0 == u.0 && b) (by (revocation j n) refl (is_some (handed_at j n)) (bar j n) (is_some (barring j s n)) (revoked-barred j n))
  where
    by : (r : Option Occurrence) → revocation j n ≡ r → (h : Bool) (b : Option Occurrence) (barred : Bool) → is_revoked j n ≡ (h && is_some b)
        → option_map_or (λ r. r.place == length j) (option_or r (cond (h && barred) (Some (occurrence j s)) None)) false ≡ (h && (is_none b && barred))
    by (Some r) e h b barred was =
        let before : r.place < length j = revocation-placed j n r e in
        ne_eqb r.place (length j) (λ f. omega arith) ∙ revoked h b (sym (ap is_some e) ∙ was)
      where
        revoked : (h : Bool) (b : Option Occurrence) → true ≡ (h && is_some b) → false ≡ (h && (is_none b && barred))
        revoked true (Some x) f = refl
        revoked true None f = absurd (cc)
        revoked false b f = absurd (cc)
    by None e false b barred was = refl
    by None e true (Some x) barred was = let no : false ≡ true = sym (ap is_some e) ∙ was in absurd (cc)
    by None e true None true was = eq-eqb (length j) (length j) refl
    by None e true None false was = refl

-- an event of the journal revokes what it did
revoked-before : (j : List Stamped) (s : Stamped) (p : Occurrence) (u : UserId) → p.place < length j → (n : Notice) → n.owing.place < length j → is_revoked_by (j ++ s ∷ []) p u n ≡ is_revoked_by j p u n
revoked-before j s p u there n placed =
    ap (λ r. n.user.0 == u.0 && option_map_or (λ r. r.place == p.place) r false) (revocation-append j s n placed)
    ∙ ap (λ b. n.user.0 == u.0 && b) (by (revocation j n) (is_some (handed_at j n) && is_some (barring j s n)))
  where
    by : (r : Option Occurrence) (b : Bool) → option_map_or (λ r. r.place == p.place) (option_or r (cond b (Some (occurrence j s)) None)) false ≡ option_map_or (λ r. r.place == p.place) r false
    by (Some o) b = refl
    by None true = ne_eqb (length j) p.place (λ e. omega arith)
    by None false = refl

-- nothing revokes what the last event owes
revoked-owed : (j : List Stamped) (s : Stamped) (p : Occurrence) (u : UserId) (n : Notice) → IsOwedBy (occurrence j s) n → is_revoked_by (j ++ s ∷ []) p u n ≡ false
revoked-owed j s p u n owed =
    ap (λ t. n.user.0 == u.0 && option_map_or (λ r. r.place == p.place) (option_and_then (λ t. bar_behind t.place n.user n.number n.way (j ++ s ∷ [])) t) false) (handed_at-last (j ++ s ∷ []) n (owed-last j s n owed))
    ∙ and-false (n.user.0 == u.0)

-- of the notices with one more event those of before it are revoked
among_old : (j : List Stamped) (s : Stamped) (p : Occurrence) (u : UserId) → filter (is_revoked_by (j ++ s ∷ []) p u) (notices (j ++ s ∷ [])) ≡ filter (is_revoked_by (j ++ s ∷ []) p u) (notices j)
among_old j s p u =
    let test = is_revoked_by (j ++ s ∷ []) p u in
    ap (filter test) (notices-append j s)
    ∙ (filter-append test (notices j) (owed_by (occurrence j s))
    ∙ (ap (λ ns. filter test (notices j) ++ ns)
    (filter_same_where (IsOwedBy (occurrence j s)) test (λ n. false) (revoked-owed j s p u) (owed_by (occurrence j s)) (owed_by-each (occurrence j s)) ∙ filter_none (λ n. false) (λ n. refl) (owed_by (occurrence j s)))
    ∙ append-nil (filter test (notices j))))

-- ---- the removals that an event makes

-- the messages whose pushes to a user the event revokes, ascending
abbrev pub messages_revoked : List Stamped → Stamped → UserId → List MessageId
messages_revoked j s u = ascending_once_by (λ m. m.0) (map (λ n. n.number) (filter (is_revoked_now j s u) (notices j)))

-- the removals that the event adds
abbrev pub removals_added : List Stamped → Stamped → List PushItem
removals_added j s = flat_map (λ u. removals_of u (messages_revoked j s u)) (users j)

pub flat_map_same : {X Y : Type 0} (f g : X → List Y) → ((x : X) → f x ≡ g x) → (xs : List X) → flat_map f xs ≡ flat_map g xs
flat_map_same f g h [] = refl
flat_map_same f g h (x ∷ xs) = (λ i. h x i ++ flat_map_same f g h xs i)

-- a user whom the event adds had no push before it
no_push : (j : List Stamped) (s : Stamped) (test : UserId → Notice → Bool) → ((u : UserId) (n : Notice) → (n.user.0 == u.0) ≡ false → test u n ≡ false)
    → flat_map (λ u. removals_of u (ascending_once_by (λ m. m.0) (map (λ n. n.number) (filter (test u) (notices j))))) (option_to_list (added_user j s)) ≡ []
no_push j s test other = by (person_of s.event)
  where
    of_user : UserId → List PushItem
    of_user u = removals_of u (ascending_once_by (λ m. m.0) (map (λ n. n.number) (filter (test u) (notices j))))

    none : (u : UserId) → length (people j) < u.0 → of_user u ≡ []
    none u high =
        ap (λ ns. removals_of u (ascending_once_by (λ m. m.0) (map (λ n. n.number) ns)))
        (filter_same_where (λ n. IsWithin (length (people j)) n.user) (test u) (λ n. false) (λ n within. other u n (ne_eqb n.user.0 u.0 (λ e. omega (arith, within.1, e)))) (notices j) (notices-within j)
        ∙ filter_none (λ n. false) (λ n. refl) (notices j))

    by : (o : Option Person) → flat_map of_user (option_to_list (option_map (λ (p : Person). let u : UserId = record { 0 = length (people j) + 1 } in u) o)) ≡ []
    by None = refl
    by (Some p) = ap (λ is. is ++ []) (none (record { 0 = length (people j) + 1 }) (omega arith))

-- the removals of the users there were are those of the users there are
of_users : (j : List Stamped) (s : Stamped) (test : UserId → Notice → Bool) → ((u : UserId) (n : Notice) → (n.user.0 == u.0) ≡ false → test u n ≡ false)
    → flat_map (λ u. removals_of u (ascending_once_by (λ m. m.0) (map (λ n. n.number) (filter (test u) (notices j))))) (users (j ++ s ∷ []))
    ≡ flat_map (λ u. removals_of u (ascending_once_by (λ m. m.0) (map (λ n. n.number) (filter (test u) (notices j))))) (users j)
of_users j s test other =
    let of_user : UserId → List PushItem = λ u. removals_of u (ascending_once_by (λ m. m.0) (map (λ n. n.number) (filter (test u) (notices j)))) in
    ap (flat_map of_user) (users-append j s)
    ∙ (flat_map-append of_user (users j) (option_to_list (added_user j s))
    ∙ (ap (λ is. flat_map of_user (users j) ++ is) (no_push j s test other) ∙ append-nil (flat_map of_user (users j))))

-- the last event makes the removals of what it revokes
pub removals_by-last : (j : List Stamped) (s : Stamped) → removals_by (j ++ s ∷ []) (occurrence j s) ≡ removals_added j s
removals_by-last j s =
    flat_map_same (λ u. removals_of u (revoked_messages (j ++ s ∷ []) (occurrence j s) u)) (λ u. removals_of u (messages_revoked j s u)) (λ u.
    ap (λ ns. removals_of u (ascending_once_by (λ m. m.0) (map (λ n. n.number) ns)))
    (among_old j s (occurrence j s) u ∙ filter_same_where (λ n. n.owing.place < length j) (is_revoked_by (j ++ s ∷ []) (occurrence j s) u) (is_revoked_now j s u) (revoked-last j s u) (notices j) (notices-placed j)))
    (users (j ++ s ∷ []))
    ∙ of_users j s (is_revoked_now j s) (λ u n other. ap (λ b. b && (is_some (handed_at j n) && (is_none (bar j n) && is_some (barring j s n)))) other)

-- an event of the journal makes those that it did
pub removals_by-past : (j : List Stamped) (s : Stamped) (o : Occurrence) → o.place < length j → removals_by (j ++ s ∷ []) o ≡ removals_by j o
removals_by-past j s o there =
    flat_map_same (λ u. removals_of u (revoked_messages (j ++ s ∷ []) o u)) (λ u. removals_of u (revoked_messages j o u)) (λ u.
    ap (λ ns. removals_of u (ascending_once_by (λ m. m.0) (map (λ n. n.number) ns)))
    (among_old j s o u ∙ filter_same_where (λ n. n.owing.place < length j) (is_revoked_by (j ++ s ∷ []) o u) (is_revoked_by j o u) (revoked-before j s o u there) (notices j) (notices-placed j)))
    (users (j ++ s ∷ []))
    ∙ of_users j s (is_revoked_by j o) (λ u n other. ap (λ b. b && option_map_or (λ r. r.place == o.place) (revocation j n) false) other)

-- an event that bars nothing adds none
pub removals_added-none : (j : List Stamped) (s : Stamped) → ((n : Notice) → barring j s n ≡ None) → removals_added j s ≡ []
removals_added-none j s never =
    flat_map_same (λ u. removals_of u (messages_revoked j s u)) (λ u. []) (λ u.
    ap (λ ns. removals_of u (ascending_once_by (λ m. m.0) (map (λ n. n.number) ns)))
    (filter_none (is_revoked_now j s u) (λ n. ap (λ (c : Option Cause). n.user.0 == u.0 && (is_some (handed_at j n) && (is_none (bar j n) && is_some c))) (never n) ∙ nothing (n.user.0 == u.0) (is_some (handed_at j n)) (is_none (bar j n))) (notices j)))
    (users j)
    ∙ empty (users j)
  where
    nothing : (a b c : Bool) → (a && (b && (c && false))) ≡ false
    nothing true true true = refl
    nothing true true false = refl
    nothing true false c = refl
    nothing false b c = refl

    empty : (us : List UserId) → flat_map (λ u. let none : List PushItem = [] in none) us ≡ []
    empty [] = refl
    empty (u ∷ us) = empty us

-- ---- how often the removals name a push

-- the push of a user's message that the event revokes
abbrev pub is_revoked_push : List Stamped → Stamped → UserId → MessageId → Notice → Bool
is_revoked_push j s u m n = is_of u m Push n && is_revoked_now j s u n

-- of one user there is one push of a message
pub one_push : (j : List Stamped) (s : Stamped) (u : UserId) (m : MessageId) (ns : List Notice) → Pairwise Differ ns
    → cond (list_any (λ k. k.0 == m.0) (map (λ n. n.number) (filter (is_revoked_now j s u) ns))) 1 0 ≡ count_by (is_revoked_push j s u m) ns
one_push j s u m [] apart = refl
one_push j s u m (n ∷ ns) apart =
    by (is_revoked_now j s u n) refl (n.number.0 == m.0) refl (one_push j s u m ns apart.1)
    ∙ sym (sum_by-cons (λ n. cond (is_revoked_push j s u m n) 1 0) n ns)
  where
    rest : List Notice
    rest = filter (is_revoked_now j s u) ns

    numbers : List Notice → List MessageId
    numbers ms = map (λ n. n.number) ms

    of_it : is_revoked_now j s u n ≡ true → (b : Bool) → (n.number.0 == m.0) ≡ b → is_of u m Push n ≡ b
    of_it revoked b e =
        let parts = and_parts (n.user.0 == u.0) (is_some (handed_at j n) && (is_none (bar j n) && is_some (barring j s n))) revoked in
        let handed = and_parts (is_some (handed_at j n)) (is_none (bar j n) && is_some (barring j s n)) parts.1 in
        (λ i. parts.0 i && e i && handed_at-push j n handed.0 i) ∙ whole b
      where
        whole : (b : Bool) → (true && b && true) ≡ b
        whole true = refl
        whole false = refl

    by : (revoked : Bool) → is_revoked_now j s u n ≡ revoked → (it : Bool) → (n.number.0 == m.0) ≡ it
        → cond (list_any (λ k. k.0 == m.0) (numbers (filter (is_revoked_now j s u) ns))) 1 0 ≡ count_by (is_revoked_push j s u m) ns
        → cond (list_any (λ k. k.0 == m.0) (numbers (cond revoked (n ∷ filter (is_revoked_now j s u) ns) (filter (is_revoked_now j s u) ns)))) 1 0 ≡ cond (is_of u m Push n && is_revoked_now j s u n) 1 0 + count_by (is_revoked_push j s u m) ns
    by false e it f later = later ∙ (none_plus (count_by (is_revoked_push j s u m) ns) ∙ ap (λ b. cond b 1 0 + count_by (is_revoked_push j s u m) ns) (sym (ap (λ b. is_of u m Push n && b) e ∙ and-false (is_of u m Push n))))
    by true e true f later =
        let it = of_it e true f in
        ap (λ b. cond (b || list_any (λ k. k.0 == m.0) (numbers (filter (is_revoked_now j s u) ns))) 1 0) f
        ∙ (λ i. cond (sym it i && sym e i) 1 0 + sym (sum_by_none_where (Differ n) (λ b. cond (is_revoked_push j s u m b) 1 0) (λ b d. ap (λ t. cond (t && is_revoked_now j s u b) 1 0) (other_notice u m Push n b it d)) ns apart.0) i)
    by true e false f later =
        ap (λ b. cond (b || list_any (λ k. k.0 == m.0) (numbers (filter (is_revoked_now j s u) ns))) 1 0) f
        ∙ (later ∙ (none_plus (count_by (is_revoked_push j s u m) ns) ∙ ap (λ b. cond (b && is_revoked_now j s u n) 1 0 + count_by (is_revoked_push j s u m) ns) (sym (of_it e false f))))

-- one user counts, of a stretch of numbers
user_none : (u : UserId) (c start len : ℕ) → u.0 < start → sum_by (λ (v : UserId). if v.0 == u.0 then c else 0) (map (λ n. let v : UserId = record { 0 = n } in v) (range_with_len start len)) ≡ 0
user_none u c start zero before = refl
user_none u c start (suc len) before =
    sum_by-cons (λ (v : UserId). if v.0 == u.0 then c else 0) (record { 0 = start }) (map (λ n. let v : UserId = record { 0 = n } in v) (range_with_len (start + 1) len))
    ∙ (λ i. (if ne_eqb start u.0 (λ e. omega arith) i then c else 0) + user_none u c (start + 1) len (omega arith) i)

pub user_once : (u : UserId) (c start len : ℕ) → start ≤ u.0 → u.0 < start + len → sum_by (λ (v : UserId). if v.0 == u.0 then c else 0) (map (λ n. let v : UserId = record { 0 = n } in v) (range_with_len start len)) ≡ c
user_once u c start zero low high = absurd (omega arith)
user_once u c start (suc len) low high =
    sum_by-cons (λ (v : UserId). if v.0 == u.0 then c else 0) (record { 0 = start }) (map (λ n. let v : UserId = record { 0 = n } in v) (range_with_len (start + 1) len))
    ∙ ⊎_elim (λ same.
    (λ i. (if eq-eqb start u.0 same i then c else 0) + user_none u c (start + 1) len (omega arith) i) ∙ sym (plus_none c))
    (λ other. (λ i. (if ne_eqb start u.0 other i then c else 0) + user_once u c (start + 1) len (omega arith) (omega arith) i) ∙ sym (none_plus c))
    (cases_eq start u.0)

-- the removals that the event adds name each push that it revokes, once
pub removals_added-named : (j : List Stamped) (s : Stamped) (u : UserId) (m : MessageId) → sum_by (removals_in_item u m) (removals_added j s) ≡ count_by (is_revoked_push j s u m) (notices j)
removals_added-named j s u m =
    sum_by-flat_map (removals_in_item u m) (λ v. removals_of v (messages_revoked j s v)) (users j)
    ∙ (sum_by_same (λ v. sum_by (removals_in_item u m) (removals_of v (messages_revoked j s v))) (λ v. if v.0 == u.0 then named else 0) (λ v. removals_of-named v u m (messages_revoked j s v) ∙ by v (v.0 == u.0) refl) (users j)
    ∙ (of_one (length (people j)) ∙ counted))
  where
    named : ℕ
    named = count_by (λ n. n.0 == m.0) (messages_revoked j s u)

    by : (v : UserId) (b : Bool) → (v.0 == u.0) ≡ b → (if b then count_by (λ n. n.0 == m.0) (messages_revoked j s v) else 0) ≡ (if b then named else 0)
    by v true e = ap (λ (x : UserId). count_by (λ n. n.0 == m.0) (messages_revoked j s x)) (same_user v u e)
    by v false e = refl

    counted : named ≡ count_by (is_revoked_push j s u m) (notices j)
    counted = named-ascending m (map (λ n. n.number) (filter (is_revoked_now j s u) (notices j))) ∙ one_push j s u m (notices j) (notices-apart j)

    -- a user who isn't there has none
    nobody : ((n : Notice) → IsWithin (length (people j)) n.user → (n.user.0 == u.0) ≡ false) → named ≡ 0
    nobody other =
        ap (λ ns. count_by (λ n. n.0 == m.0) (ascending_once_by (λ m. m.0) (map (λ n. n.number) ns)))
        (filter_same_where (λ n. IsWithin (length (people j)) n.user) (is_revoked_now j s u) (λ n. false) (λ n within. ap (λ b. b && (is_some (handed_at j n) && (is_none (bar j n) && is_some (barring j s n)))) (other n within)) (notices j) (notices-within j)
        ∙ filter_none (λ n. false) (λ n. refl) (notices j))

    none : sum_by (λ (v : UserId). if v.0 == u.0 then 0 else 0) (users j) ≡ 0
    none = sum_by_same (λ (v : UserId). if v.0 == u.0 then 0 else 0) (λ v. 0) (λ v. no (v.0 == u.0)) (users j) ∙ zeros (users j)
      where
        no : (b : Bool) → ◌≡◌ {A = ℕ} (if b then 0 else 0) 0
        no true = refl
        no false = refl

        zeros : (us : List UserId) → sum_by (λ (v : UserId). 0) us ≡ 0
        zeros [] = refl
        zeros (v ∷ us) = sum_by-cons (λ (v : UserId). 0) v us ∙ (sym (none_plus (sum_by (λ (v : UserId). 0) us)) ∙ zeros us)

    absent : ((n : Notice) → IsWithin (length (people j)) n.user → (n.user.0 == u.0) ≡ false) → sum_by (λ (v : UserId). if v.0 == u.0 then named else 0) (users j) ≡ named
    absent other =
        let no : named ≡ 0 = nobody other in
        ap (λ c. sum_by (λ (v : UserId). if v.0 == u.0 then c else 0) (users j)) no ∙ (none ∙ sym no)

    of_one : (many : ℕ) → sum_by (λ (v : UserId). if v.0 == u.0 then named else 0) (users j) ≡ named
    of_one many =
        ⊎_elim (λ low. absent (λ n within. ne_eqb n.user.0 u.0 (λ e. omega (arith, within.0, e, low))))
        (λ from. ⊎_elim (λ high. user_once u named 1 (length (people j)) from (omega (arith, high))) (λ high. absent (λ n within. ne_eqb n.user.0 u.0 (λ e. omega (arith, within.1, e, high)))) (cases_lt u.0 (length (people j) + 1)))
        (cases_lt u.0 1)
