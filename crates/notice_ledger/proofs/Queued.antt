-- What is kept of the notices that are still to be handed over, barred or not, event by event.
use Rattle.std.proofs.Common.{◌≡◌, ◌<◌, Bool, true, false, ◌&&◌, ◌||◌, not, cond, List, [], ◌∷◌, ◌++◌, length, refl, sym, ap, ◌∙◌}
use Rattle.std.specs.Prelude.{Option, Some, None, option_and_then, is_some, is_none, filter, if◌then◌else◌}
use Rattle.std.specs.Option.{option_map_or, option_or}
use Rattle.std.specs.List.{AllByRecursion}
use Rattle.std.proofs.Math.Bool.{and-false}
use Rattle.std.proofs.lemmas.List.Elements.{filter-append}
use Rattle.chat_model.specs.declared.event.Stamped.{Stamped}
use Rattle.chat_model.specs.declared.row.Cause.{Cause}
use Rattle.chat_model.specs.declared.row.Cause.TheVariants.{SwitchedOff}
use Rattle.notice_ledger.specs.declared.accounts.Account.{Account}
use Rattle.notice_ledger.specs.declared.accounts.Account.TheVariants.{Ready, Handed, Cancelled, LiveQueue}
use Rattle.notice_ledger.specs.Past.Journal.{Occurrence, occurrence, first_behind, some_behind}
use Rattle.notice_ledger.specs.Past.Audit.{same_account}
use Rattle.notice_ledger.specs.Past.Owed.{Notice, notices, owed_by, pushes_online, readies, clears, ready, was_cleared, was_dealt, cause_of_bar, is_unbarred, is_turn_of, turn, switch_on, decided, account_by, account_of, is_pending, waiting}
use Rattle.notice_ledger.proofs.Appended.{notices-nil, notices-append}
use Rattle.notice_ledger.proofs.Lists.{AllByRecursion-filter, filter_all_where, filter_same, filter_same_where, filter-filter, filter-passed}
use Rattle.notice_ledger.proofs.Standing.{is_turn, is_readying, is_clearing, is_dealing, barring, moved_by, moved, decided_by, ready-append, ready-last, turn-append, cause_of_bar-is, unbarred-cause, barred-before, barred-turn, moved-pending, account_of-append}
use Rattle.notice_ledger.proofs.Waiting.{IsOwedBy, owed_by-each, owed-last, account_of-new, notices-placed}

-- it became ready with no bar before, and had no turn: a batch row or an item, barred since or not
abbrev pub is_queued : List Stamped → Notice → Bool
is_queued j n = option_map_or (is_unbarred n) (ready j n) false && is_none (turn j n)

-- it is pending, or queued
abbrev pub is_kept : List Stamped → Notice → Bool
is_kept j n = is_pending (account_of j n) || is_queued j n

-- what is kept, in the order of the events that owe it
unfoldable pub kept : List Stamped → List Notice
kept j = filter (is_kept j) (notices j)

-- ---- accounts of what is queued and of what is pending

-- no bar, or else a cause
abbrev IsCaused : Notice → Option Occurrence → Option Cause → Type 0
IsCaused n o c = (x : Occurrence) → o ≡ Some x → is_unbarred n x ≡ false → is_some c ≡ true

turn_caused : (j : List Stamped) (n : Notice) → IsCaused n (turn j n) (cause_of_bar j n)
turn_caused j n x found barred = cause_of_bar-is j n ∙ barred-turn j n x found barred

ready_caused : (j : List Stamped) (n : Notice) → IsCaused n (ready j n) (cause_of_bar j n)
ready_caused j n x found barred =
    cause_of_bar-is j n ∙ barred-before j n n.owing.place (λ o. readies n.user n.deal (pushes_online n) o.event && not (some_behind n.owing.place (λ p. clears n.user n.deal p.event) o.past)) x found barred

not_pending : (b : Bool) → is_pending (if b then Handed else Cancelled SwitchedOff) ≡ false
not_pending true = refl
not_pending false = refl

-- what had its turn is pending no more
turned-settled : (n : Notice) (x : Occurrence) (b : Option Cause) (r c d : Bool) → IsCaused n (Some x) b → is_pending (account_by (decided_by n (Some x)) b r c d) ≡ false
turned-settled n x b r c d caused = by (is_unbarred n x) b (caused x refl)
  where
    by : (free : Bool) (b : Option Cause) → (free ≡ false → is_some b ≡ true) → is_pending (account_by (if free then Some (decided n x) else None) b r c d) ≡ false
    by true b h = not_pending (switch_on x.past n.user n.way)
    by false None h = let no : false ≡ true = h refl in absurd (cc)
    by false (Some cause) h = refl

-- what is queued is ready, or was cancelled by a bar since
pub queued-account : (j : List Stamped) (n : Notice) → is_queued j n ≡ true → account_of j n ≡ option_map_or Cancelled (cause_of_bar j n) Ready
queued-account j n queued = by (turn j n) (ready j n) (cause_of_bar j n) queued
  where
    by : (t r : Option Occurrence) (b : Option Cause) → (option_map_or (is_unbarred n) r false && is_none t) ≡ true → account_by (decided_by n t) b (is_some r) (was_cleared j n) (was_dealt j n) ≡ option_map_or Cancelled b Ready
    by (Some x) r b h = let no : false ≡ true = sym (and-false (option_map_or (is_unbarred n) r false)) ∙ h in absurd (cc)
    by None None b h = absurd (cc)
    by None (Some o) None h = refl
    by None (Some o) (Some cause) h = refl

-- what is ready is queued
pub ready-queued : (j : List Stamped) (n : Notice) → account_of j n ≡ Ready → is_queued j n ≡ true
ready-queued j n at = by (turn j n) (ready j n) (cause_of_bar j n) (was_cleared j n) (was_dealt j n) (turn_caused j n) (ready_caused j n) at
  where
    by : (t r : Option Occurrence) (b : Option Cause) (c d : Bool) → IsCaused n t b → IsCaused n r b → account_by (decided_by n t) b (is_some r) c d ≡ Ready → (option_map_or (is_unbarred n) r false && is_none t) ≡ true
    by (Some x) r b c d f g h = let no : true ≡ false = sym (ap is_pending h) ∙ turned-settled n x b (is_some r) c d f in absurd (cc)
    by None r (Some cause) c d f g h = absurd (cc)
    by None (Some o) None c d f g h = one (is_unbarred n o) (g o refl)
      where
        one : (free : Bool) → (free ≡ false → false ≡ true) → (free && true) ≡ true
        one true k = refl
        one false k = k refl
    by None None None true d f g h = absurd (cc)
    by None None None false true f g h = absurd (cc)
    by None None None false false f g h = absurd (cc)

-- what is pending has no bar
pub pending-unbarred : (j : List Stamped) (n : Notice) → is_pending (account_of j n) ≡ true → cause_of_bar j n ≡ None
pending-unbarred j n pending = by (turn j n) (cause_of_bar j n) (turn_caused j n) pending
  where
    by : (t : Option Occurrence) (b : Option Cause) → IsCaused n t b → is_pending (account_by (decided_by n t) b (is_some (ready j n)) (was_cleared j n) (was_dealt j n)) ≡ true → b ≡ None
    by (Some x) b f h = let no : false ≡ true = sym (turned-settled n x b (is_some (ready j n)) (was_cleared j n) (was_dealt j n) f) ∙ h in absurd (cc)
    by None None f h = refl
    by None (Some cause) f h = absurd (cc)

-- what a live queue cleared has no bar
pub cleared-unbarred : (j : List Stamped) (n : Notice) → account_of j n ≡ LiveQueue → cause_of_bar j n ≡ None
cleared-unbarred j n at = by (turn j n) (cause_of_bar j n) (turn_caused j n) at
  where
    decided_other : (b : Bool) → (if b then Handed else Cancelled SwitchedOff) ≡ LiveQueue → ⊥
    decided_other true h = cc
    decided_other false h = cc

    turned : (x : Occurrence) (free : Bool) (b : Option Cause) → account_by (if free then Some (decided n x) else None) b (is_some (ready j n)) (was_cleared j n) (was_dealt j n) ≡ LiveQueue → b ≡ None
    turned x true b h = absurd (decided_other (switch_on x.past n.user n.way) h)
    turned x false None h = refl
    turned x false (Some cause) h = absurd (cc)

    by : (t : Option Occurrence) (b : Option Cause) → IsCaused n t b → account_by (decided_by n t) b (is_some (ready j n)) (was_cleared j n) (was_dealt j n) ≡ LiveQueue → b ≡ None
    by (Some x) b f h = turned x (is_unbarred n x) b h
    by None None f h = refl
    by None (Some cause) f h = absurd (cc)

-- a notice is ready where it is queued and has no bar
pub ready-is : (j : List Stamped) (n : Notice) → same_account (account_of j n) Ready ≡ (is_queued j n && is_none (cause_of_bar j n))
ready-is j n = by (is_queued j n) refl
  where
    cause : (c : Option Cause) → same_account (option_map_or Cancelled c Ready) Ready ≡ is_none c
    cause None = refl
    cause (Some x) = refl

    by : (b : Bool) → is_queued j n ≡ b → same_account (account_of j n) Ready ≡ (b && is_none (cause_of_bar j n))
    by true h = ap (λ a. same_account a Ready) (queued-account j n h) ∙ cause (cause_of_bar j n)
    by false h = not_ready (account_of j n) (λ at. let no : false ≡ true = sym h ∙ ready-queued j n at in absurd (cc))
      where
        not_ready : (a : Account) → (a ≡ Ready → ⊥) → same_account a Ready ≡ false
        not_ready Ready k = absurd (k refl)
        not_ready a k = refl

-- and pending where it is kept and has no bar
pub pending-is : (j : List Stamped) (n : Notice) → is_pending (account_of j n) ≡ (is_kept j n && is_none (cause_of_bar j n))
pending-is j n = by (is_pending (account_of j n)) (is_queued j n) refl refl
  where
    barred : (c : Option Cause) → is_pending (option_map_or Cancelled c Ready) ≡ is_none c
    barred None = refl
    barred (Some x) = refl

    by : (p q : Bool) → is_pending (account_of j n) ≡ p → is_queued j n ≡ q → p ≡ ((p || q) && is_none (cause_of_bar j n))
    by true q h k = sym (ap is_none (pending-unbarred j n h))
    by false true h k = sym h ∙ (ap is_pending (queued-account j n k) ∙ barred (cause_of_bar j n))
    by false false h k = refl

-- what is pending and not queued has no ready event, and wasn't cleared
pub record IsUnready (j : List Stamped) (n : Notice) : Type 0 where
  pub no_event : ready j n ≡ None
  pub not_cleared : was_cleared j n ≡ false

pub unqueued-unready : (j : List Stamped) (n : Notice) → is_pending (account_of j n) ≡ true → is_queued j n ≡ false → IsUnready j n
unqueued-unready j n pending unqueued =
    by (turn j n) (ready j n) (cause_of_bar j n) (was_cleared j n) (was_dealt j n) (turn_caused j n) (ready_caused j n) refl refl pending unqueued
  where
    by : (t r : Option Occurrence) (b : Option Cause) (c d : Bool) → IsCaused n t b → IsCaused n r b → ready j n ≡ r → was_cleared j n ≡ c
        → is_pending (account_by (decided_by n t) b (is_some r) c d) ≡ true → (option_map_or (is_unbarred n) r false && is_none t) ≡ false → IsUnready j n
    by (Some x) r b c d f g er ec h q = let no : false ≡ true = sym (turned-settled n x b (is_some r) c d f) ∙ h in absurd (cc)
    by None r (Some cause) c d f g er ec h q = absurd (cc)
    by None (Some o) None c d f g er ec h q = absurd (one (is_unbarred n o) (g o refl) q)
      where
        one : (free : Bool) → (free ≡ false → false ≡ true) → (free && true) ≡ false → ⊥
        one true k q = cc
        one false k q = let no : false ≡ true = k refl in cc
    by None None None true d f g er ec h q = absurd (cc)
    by None None None false d f g er ec h q = record { no_event = er; not_cleared = ec }

-- what is queued has a ready event
pub queued-ready : (j : List Stamped) (n : Notice) → is_queued j n ≡ true → (o : Occurrence) × (ready j n ≡ Some o)
queued-ready j n queued = by (ready j n) refl queued
  where
    by : (r : Option Occurrence) → ready j n ≡ r → (option_map_or (is_unbarred n) r false && is_none (turn j n)) ≡ true → (o : Occurrence) × (ready j n ≡ Some o)
    by None e h = absurd (cc)
    by (Some o) e h = (o, e)

-- ---- one more event

pub is_queued-append : (j : List Stamped) (s : Stamped) (n : Notice) → n.owing.place < length j → is_queued (j ++ s ∷ []) n ≡ (if is_queued j n then not (is_turn s n) else (is_pending (account_of j n) && is_readying s n))
is_queued-append j s n placed =
    (λ i. option_map_or (is_unbarred n) (ready-append j s n placed i) false && is_none (turn-append j s n placed i))
    ∙ by (turn j n) (ready j n) (cause_of_bar j n) (was_cleared j n) (was_dealt j n) (is_turn s n) (is_readying s n) (turn_caused j n) (ready_caused j n) (turn-ready) (unbarred-cause j n)
  where
    turn-ready : ready j n ≡ None → turn j n ≡ None
    turn-ready e = ap (option_and_then (λ r. first_behind r.place (λ o. is_turn_of n.user n.number n.way o.event) j)) e

    by : (t r : Option Occurrence) (b : Option Cause) (c d tn rd : Bool) → IsCaused n t b → IsCaused n r b → (r ≡ None → t ≡ None) → is_unbarred n (occurrence j s) ≡ is_none b
        → (option_map_or (is_unbarred n) (option_or r (cond (rd && not c) (Some (occurrence j s)) None)) false && is_none (option_or t (cond (is_some r && tn) (Some (occurrence j s)) None)))
        ≡ (if option_map_or (is_unbarred n) r false && is_none t then not tn else (is_pending (account_by (decided_by n t) b (is_some r) c d) && rd))
    by (Some x) (Some y) b c d tn rd f g h here =
        and-false (is_unbarred n y)
        ∙ (sym (ap (λ p. p && rd) (turned-settled n x b true c d f))
        ∙ ap (λ q. if q then not tn else (is_pending (account_by (decided_by n (Some x)) b true c d) && rd)) (sym (and-false (is_unbarred n y))))
    by (Some x) None b c d tn rd f g h here = let no : Some x ≡ None = h refl in absurd (cc)
    by None (Some y) b c d tn rd f g h here = one (is_unbarred n y) b tn (g y refl)
      where
        one : (free : Bool) (b : Option Cause) (tn : Bool) → (free ≡ false → is_some b ≡ true) → (free && is_none (cond tn (Some (occurrence j s)) None)) ≡ (if free && true then not tn else (is_pending (account_by None b true c d) && rd))
        one true b true k = refl
        one true b false k = refl
        one false None tn k = let no : false ≡ true = k refl in absurd (cc)
        one false (Some cause) tn k = refl
    by None None b c d tn false f g h here = sym (and-false (is_pending (account_by None b false c d)))
    by None None b true d tn true f g h here = settled b
      where
        settled : (b : Option Cause) → false ≡ (is_pending (account_by None b false true d) && true)
        settled None = refl
        settled (Some cause) = refl
    by None None (Some cause) false d tn true f g h here = ap (λ q. q && true) here
    by None None None false true tn true f g h here = ap (λ q. q && true) here
    by None None None false false tn true f g h here = ap (λ q. q && true) here

-- it is kept on after the event, by where it stood before
abbrev pub keeps : List Stamped → Stamped → Notice → Bool
keeps j s n = if is_queued j n then not (is_turn s n) else is_pending (moved j s n (account_of j n)) || is_readying s n

pub is_kept-append : (j : List Stamped) (s : Stamped) (n : Notice) → n.owing.place < length j → is_kept (j ++ s ∷ []) n ≡ (is_kept j n && keeps j s n)
is_kept-append j s n placed =
    (λ i. is_pending (account_of-append j s n placed i) || is_queued-append j s n placed i) ∙ by (is_queued j n) refl
  where
    not_handed : (b : Bool) (c : Option Cause) (rd cl dl : Bool) → is_pending (moved_by true rd cl dl c (if b then Handed else Cancelled SwitchedOff) Ready) ≡ false
    not_handed true c rd cl dl = refl
    not_handed false c rd cl dl = refl

    turned : (b c : Option Cause) → is_pending (moved_by true (is_readying s n) (is_clearing s n) (is_dealing s n) b (decided n (occurrence j s)) (option_map_or Cancelled c Ready)) ≡ false
    turned b None = not_handed (switch_on j n.user n.way) b (is_readying s n) (is_clearing s n) (is_dealing s n)
    turned b (Some cause) = refl

    queued : (tn : Bool) → is_pending (account_of j n) ≡ is_pending (option_map_or Cancelled (cause_of_bar j n) Ready) → account_of j n ≡ option_map_or Cancelled (cause_of_bar j n) Ready
        → (is_pending (moved_by tn (is_readying s n) (is_clearing s n) (is_dealing s n) (barring j s n) (decided n (occurrence j s)) (account_of j n)) || not tn) ≡ ((is_pending (account_of j n) || true) && not tn)
    queued true p e = ap (λ q. q || false) (ap (λ x. is_pending (moved_by true (is_readying s n) (is_clearing s n) (is_dealing s n) (barring j s n) (decided n (occurrence j s)) x)) e ∙ turned (barring j s n) (cause_of_bar j n)) ∙ sym (and-false (is_pending (account_of j n) || true))
    queued false p e = or_true (is_pending (moved_by false (is_readying s n) (is_clearing s n) (is_dealing s n) (barring j s n) (decided n (occurrence j s)) (account_of j n))) ∙ sym (ap (λ q. q && true) (or_true (is_pending (account_of j n))))
      where
        or_true : (q : Bool) → (q || true) ≡ true
        or_true true = refl
        or_true false = refl

    unqueued : (p m rd : Bool) → m ≡ (p && m) → (m || (p && rd)) ≡ ((p || false) && (m || rd))
    unqueued true m rd e = refl
    unqueued false true rd e = e
    unqueued false false rd e = refl

    by : (q : Bool) → is_queued j n ≡ q → (is_pending (moved j s n (account_of j n)) || (if q then not (is_turn s n) else (is_pending (account_of j n) && is_readying s n))) ≡ ((is_pending (account_of j n) || q) && (if q then not (is_turn s n) else is_pending (moved j s n (account_of j n)) || is_readying s n))
    by true h = queued (is_turn s n) (ap is_pending (queued-account j n h)) (queued-account j n h)
    by false h = unqueued (is_pending (account_of j n)) (is_pending (moved j s n (account_of j n))) (is_readying s n) (moved-pending (is_turn s n) (is_readying s n) (is_clearing s n) (is_dealing s n) (barring j s n) (decided n (occurrence j s)) (account_of j n))

-- what an event owes is kept, and not queued
pub is_queued-new : (j : List Stamped) (s : Stamped) (n : Notice) → IsOwedBy (occurrence j s) n → is_queued (j ++ s ∷ []) n ≡ false
is_queued-new j s n owed = ap (λ r. option_map_or (is_unbarred n) r false && is_none (turn (j ++ s ∷ []) n)) (ready-last (j ++ s ∷ []) n (owed-last j s n owed))

pub is_kept-new : (j : List Stamped) (s : Stamped) (n : Notice) → IsOwedBy (occurrence j s) n → is_kept (j ++ s ∷ []) n ≡ true
is_kept-new j s n owed = ap (λ a. is_pending a || is_queued (j ++ s ∷ []) n) (account_of-new j s n owed)

-- ---- the list

pub kept-nil : kept [] ≡ []
unfolding kept
kept-nil = ap (filter (is_kept [])) notices-nil

-- what is kept is owed by an event of the journal
pub kept-placed : (j : List Stamped) → AllByRecursion (λ n. n.owing.place < length j) (kept j)
unfolding kept
kept-placed j = AllByRecursion-filter (λ n. n.owing.place < length j) (is_kept j) (notices j) (notices-placed j)

pub kept-each : (j : List Stamped) → AllByRecursion (λ n. is_kept j n ≡ true) (kept j)
unfolding kept
kept-each j = filter-passed (is_kept j) (notices j)

-- a notice that is kept
pub record IsKept (j : List Stamped) (n : Notice) : Type 0 where
  pub placed : n.owing.place < length j
  pub kept : is_kept j n ≡ true

pub all_kept : (j : List Stamped) → AllByRecursion (IsKept j) (kept j)
all_kept j = both (kept j) (kept-placed j) (kept-each j)
  where
    both : (ns : List Notice) → AllByRecursion (λ n. n.owing.place < length j) ns → AllByRecursion (λ n. is_kept j n ≡ true) ns → AllByRecursion (IsKept j) ns
    both [] p q = tt
    both (n ∷ ns) p q = (record { placed = p.0; kept = q.0 }, both ns p.1 q.1)

-- a test after an event of what an event owes and of what was owed before
pub filter-notices : (j : List Stamped) (s : Stamped) (test before : Notice → Bool) → ((n : Notice) → n.owing.place < length j → test n ≡ before n) → filter test (notices (j ++ s ∷ [])) ≡ filter before (notices j) ++ filter test (owed_by (occurrence j s))
filter-notices j s test before same =
    ap (filter test) (notices-append j s)
    ∙ (filter-append test (notices j) (owed_by (occurrence j s))
    ∙ ap (λ ns. ns ++ filter test (owed_by (occurrence j s))) (filter_same_where (λ n. n.owing.place < length j) test before same (notices j) (notices-placed j)))

-- a test that only what is kept passes
pub kept-tested : (j : List Stamped) (test : Notice → Bool) → ((n : Notice) → test n ≡ (is_kept j n && test n)) → filter test (notices j) ≡ filter test (kept j)
unfolding kept
kept-tested j test within = filter_same test (λ n. is_kept j n && test n) within (notices j) ∙ sym (filter-filter test (is_kept j) (notices j))

-- an event takes away what it keeps no longer, and adds what it owes
pub kept-moved : (j : List Stamped) (s : Stamped) → kept (j ++ s ∷ []) ≡ filter (keeps j s) (kept j) ++ owed_by (occurrence j s)
unfolding kept
kept-moved j s =
    filter-notices j s (is_kept (j ++ s ∷ [])) (λ n. is_kept j n && keeps j s n) (is_kept-append j s)
    ∙ (ap (λ ns. filter (λ n. is_kept j n && keeps j s n) (notices j) ++ ns) (filter_all_where (IsOwedBy (occurrence j s)) (is_kept (j ++ s ∷ [])) (is_kept-new j s) (owed_by (occurrence j s)) (owed_by-each (occurrence j s)))
    ∙ ap (λ ns. ns ++ owed_by (occurrence j s)) (sym (filter-filter (keeps j s) (is_kept j) (notices j))))

-- the same by where a notice stands afterwards
pub kept-append : (j : List Stamped) (s : Stamped) → kept (j ++ s ∷ []) ≡ filter (is_kept (j ++ s ∷ [])) (kept j) ++ owed_by (occurrence j s)
kept-append j s =
    kept-moved j s
    ∙ ap (λ ns. ns ++ owed_by (occurrence j s)) (filter_same_where (IsKept j) (keeps j s) (is_kept (j ++ s ∷ [])) (λ n k. sym (is_kept-append j s n k.placed ∙ ap (λ b. b && keeps j s n) k.kept)) (kept j) (all_kept j))

-- those that wait are those that are kept and have no bar
pub waiting-kept : (j : List Stamped) → waiting j ≡ filter (λ n. is_none (cause_of_bar j n)) (kept j)
unfolding waiting kept
waiting-kept j =
    filter_same (λ n. is_pending (account_of j n)) (λ n. is_kept j n && is_none (cause_of_bar j n)) (pending-is j) (notices j)
    ∙ sym (filter-filter (λ n. is_none (cause_of_bar j n)) (is_kept j) (notices j))
