-- What an event makes of the notices that a live queue cleared: it clears some more, or bars some.
use Rattle.std.proofs.Common.{◌≡◌, ℕ, Bool, true, false, ◌&&◌, ◌||◌, cond, not, List, [], ◌∷◌, ◌++◌, map, refl, sym, ap, ◌∙◌, subst}
use Rattle.std.specs.Prelude.{Option, Some, None, is_some, filter, if◌then◌else◌}
use Rattle.std.specs.Option.{option_map_or}
use Rattle.std.specs.List.{AllByRecursion}
use Rattle.std.proofs.lemmas.List.{append-nil}
use Rattle.chat_model.specs.declared.event.Stamped.{Stamped}
use Rattle.chat_model.specs.declared.event.Event.TheVariants.{Absorbed}
use Rattle.chat_model.specs.declared.deal.Outcome.TheVariants.{Cleared}
use Rattle.chat_model.specs.declared.deal.QueueId.{QueueId}
use Rattle.chat_model.specs.declared.ids.DealNo.{DealNo}
use Rattle.chat_model.specs.declared.ids.UserId.{UserId}
use Rattle.chat_model.specs.declared.row.Cause.{Cause}
use Rattle.chat_model.specs.declared.row.Cause.TheVariants.{SwitchedOff}
use Rattle.chat_model.specs.Outcomes.{has_deal}
use Rattle.notice_ledger.specs.declared.accounts.Account.{Account}
use Rattle.notice_ledger.specs.declared.accounts.Account.TheVariants as account
use Rattle.notice_ledger.specs.Past.Journal.{occurrence}
use Rattle.notice_ledger.specs.Past.Owed.{Notice, notices, owed_by, pushes_online, readies, clears, ready, was_dealt, cause_of_bar, decided, is_pending, switch_on, account_of}
use Rattle.notice_ledger.specs.Past.Audit.{same_account}
use Rattle.notice_ledger.proofs.Counted.{is_cleared_now}
use Rattle.notice_ledger.proofs.Lists.{filter_all, filter_none, filter_same, filter_same_where, filter-filter, filter-passed}
use Rattle.notice_ledger.proofs.Queued.{is_queued, is_kept, kept, filter-notices, pending-unbarred, queued-account, unqueued-unready}
use Rattle.notice_ledger.proofs.Standing.{is_turn, is_readying, is_clearing, is_dealing, is_barring, barring, barring-none, moved_by, account_of-append, account_of-last}
use Rattle.notice_ledger.proofs.Waiting.{IsOwedBy, owed_by-each, owed-last}
use Rattle.book_tables.specs.declared.tables.Waiting.{Waiting}
use Rattle.book_tables.specs.Applied.{is_cleared}
use Rattle.book_tables.specs.Bars.{is_one_of_pairs}
use Rattle.book_tables.specs.declared.pushes.PushKey.{PushKey}
use Rattle.book_tables.specs.Pushes.{has_push}
use Rattle.book_tables.specs.Notices.{IsInOrder, moved, put_all_in_order, is_ready, is_named}
use Rattle.book_tables.specs.Tables.{stage_by, notice_kept, cleared_kept, is_live}
use Rattle.book_tables.proofs.Kept.{all_kept, kept_unqueued, ready-kept, unqueued-account}
use Rattle.book_tables.proofs.Moves.{swapped, never_turn, no_outcome}
use Rattle.book_tables.proofs.Ordered.{some-ordered}
use Rattle.book_tables.proofs.Placing.{put-alone, put-apart}

-- those that a live queue cleared, as the tables keep them
abbrev pub all_cleared : List Stamped → List Waiting
all_cleared j = map cleared_kept (filter (is_live j) (notices j))

-- ---- lists

-- of the mapped ones those pass a test whose originals pass another
pub filter-mapped : {X Y : Type 0} (m : X → Y) (p : Y → Bool) (q : X → Bool) (xs : List X) → AllByRecursion (λ x. p (m x) ≡ q x) xs → filter p (map m xs) ≡ map m (filter q xs)
filter-mapped m p q [] all = refl
filter-mapped m p q (x ∷ xs) all = (λ i. cond (all.0 i) (m x ∷ filter-mapped m p q xs all.1 i) (filter-mapped m p q xs all.1 i)) ∙ by (q x)
  where
    by : (b : Bool) → cond b (m x ∷ map m (filter q xs)) (map m (filter q xs)) ≡ map m (cond b (x ∷ filter q xs) (filter q xs))
    by true = refl
    by false = refl

pub each-same : {X Y : Type 0} (m : X → Y) (p : Y → Bool) (xs : List X) → AllByRecursion (λ x. p (m x) ≡ p (m x)) xs
each-same m p [] = tt
each-same m p (x ∷ xs) = (refl, each-same m p xs)

pub map-where : {X Y : Type 0} (P : X → Type 0) (f g : X → Y) → ((x : X) → P x → f x ≡ g x) → (xs : List X) → AllByRecursion P xs → map f xs ≡ map g xs
map-where P f g same [] all = refl
map-where P f g same (x ∷ xs) all = (λ i. same x all.0 i ∷ map-where P f g same xs all.1 i)

-- ---- one event

-- those that were cleared after an event are the ones that it leaves so or makes so
pub cleared-moved : (j : List Stamped) (s : Stamped) → filter (is_live (j ++ s ∷ [])) (notices (j ++ s ∷ [])) ≡ filter (is_cleared_now j s) (notices j)
cleared-moved j s =
    filter-notices j s (is_live (j ++ s ∷ [])) (is_cleared_now j s) (λ n placed. ap (λ a. same_account a account.LiveQueue) (account_of-append j s n placed))
    ∙ (ap (λ ns. filter (is_cleared_now j s) (notices j) ++ ns) none_new ∙ append-nil (filter (is_cleared_now j s) (notices j)))
  where
    none_new : filter (is_live (j ++ s ∷ [])) (owed_by (occurrence j s)) ≡ []
    none_new =
        filter_same_where (IsOwedBy (occurrence j s)) (is_live (j ++ s ∷ [])) (λ n. false) (λ n owed. ap (λ a. same_account a account.LiveQueue) (account_of-last (j ++ s ∷ []) n (owed-last j s n owed))) (owed_by (occurrence j s)) (owed_by-each (occurrence j s))
        ∙ filter_none (λ n. false) (λ n. refl) (owed_by (occurrence j s))

was_decided : (b : Bool) → same_account (if b then account.Handed else account.Cancelled SwitchedOff) account.LiveQueue ≡ false
was_decided true = refl
was_decided false = refl

-- in flight or held
abbrev is_open : Account → Bool
is_open account.Flight = true
is_open account.Held = true
is_open a = false

-- what isn't in flight or held is not cleared
closed : (tn rd cl dl on : Bool) (a : Account) → is_open a ≡ false → same_account (moved_by tn rd cl dl None (if on then account.Handed else account.Cancelled SwitchedOff) a) account.LiveQueue ≡ same_account a account.LiveQueue
closed tn rd cl dl on account.Flight h = absurd (cc)
closed tn rd cl dl on account.Held h = absurd (cc)
closed true rd cl dl on account.Ready h = was_decided on
closed false rd cl dl on account.Ready h = refl
closed tn rd cl dl on account.NotOwed h = refl
closed tn rd cl dl on account.Handed h = refl
closed tn rd cl dl on (account.Cancelled c) h = refl
closed tn rd cl dl on account.LiveQueue h = refl

-- nor is anything where the event clears nothing
plain : (tn rd dl on : Bool) (a : Account) → same_account (moved_by tn rd false dl None (if on then account.Handed else account.Cancelled SwitchedOff) a) account.LiveQueue ≡ same_account a account.LiveQueue
plain tn true dl on account.Flight = refl
plain tn false true on account.Flight = refl
plain tn false false on account.Flight = refl
plain tn true dl on account.Held = refl
plain tn false dl on account.Held = refl
plain tn rd dl on account.Ready = closed tn rd false dl on account.Ready refl
plain tn rd dl on account.NotOwed = refl
plain tn rd dl on account.Handed = refl
plain tn rd dl on (account.Cancelled c) = refl
plain tn rd dl on account.LiveQueue = refl

-- an event that clears none and bars none leaves them
pub cleared-left : (j : List Stamped) (s : Stamped) → ((u : UserId) (k : DealNo) → clears u k s.event ≡ false) → ((n : Notice) → is_barring s n ≡ false) → all_cleared (j ++ s ∷ []) ≡ all_cleared j
cleared-left j s not_cleared not_barred =
    ap (map cleared_kept) (cleared-moved j s ∙ filter_same (is_cleared_now j s) (is_live j) (λ n.
    (λ i. same_account (moved_by (is_turn s n) (is_readying s n) (not_cleared n.user n.deal i) (is_dealing s n) (barring-none j s n (not_barred n) i) (decided n (occurrence j s)) (account_of j n)) account.LiveQueue)
    ∙ plain (is_turn s n) (is_readying s n) (is_dealing s n) (switch_on j n.user n.way) (account_of j n)) (notices j))

-- an event that clears none takes those that it bars
pub cleared-barred : (j : List Stamped) (s : Stamped) → ((u : UserId) (k : DealNo) → clears u k s.event ≡ false) → (pairs : List PushKey)
    → AllByRecursion (λ n. has_push pairs n.user n.number ≡ is_some (barring j s n)) (notices j) → all_cleared (j ++ s ∷ []) ≡ filter (λ w. not (is_one_of_pairs pairs w)) (all_cleared j)
cleared-barred j s not_cleared pairs fits =
    ap (map cleared_kept) (cleared-moved j s ∙ (filter_same (is_cleared_now j s) (λ n. is_live j n && not (is_some (barring j s n))) one (notices j) ∙ sym (filter-filter (λ n. not (is_some (barring j s n))) (is_live j) (notices j))))
    ∙ sym (filter-mapped cleared_kept (λ w. not (is_one_of_pairs pairs w)) (λ n. not (is_some (barring j s n))) (filter (is_live j) (notices j)) (among (notices j) fits))
  where
    by : (tn rd dl on : Bool) (b : Option Cause) (a : Account) → same_account (moved_by tn rd false dl b (if on then account.Handed else account.Cancelled SwitchedOff) a) account.LiveQueue ≡ (same_account a account.LiveQueue && not (is_some b))
    by tn rd dl on None a = plain tn rd dl on a ∙ with_true (same_account a account.LiveQueue)
      where
        with_true : (x : Bool) → x ≡ (x && true)
        with_true true = refl
        with_true false = refl
    by tn true dl on (Some c) account.Flight = refl
    by tn false dl on (Some c) account.Flight = refl
    by tn true dl on (Some c) account.Held = refl
    by tn false dl on (Some c) account.Held = refl
    by true rd dl on (Some c) account.Ready = was_decided on
    by false rd dl on (Some c) account.Ready = refl
    by tn rd dl on (Some c) account.NotOwed = refl
    by tn rd dl on (Some c) account.Handed = refl
    by tn rd dl on (Some c) (account.Cancelled d) = refl
    by tn rd dl on (Some c) account.LiveQueue = refl

    one : (n : Notice) → is_cleared_now j s n ≡ (is_live j n && not (is_some (barring j s n)))
    one n =
        (λ i. same_account (moved_by (is_turn s n) (is_readying s n) (not_cleared n.user n.deal i) (is_dealing s n) (barring j s n) (decided n (occurrence j s)) (account_of j n)) account.LiveQueue)
        ∙ by (is_turn s n) (is_readying s n) (is_dealing s n) (switch_on j n.user n.way) (barring j s n) (account_of j n)

    among : (ns : List Notice) → AllByRecursion (λ n. has_push pairs n.user n.number ≡ is_some (barring j s n)) ns
        → AllByRecursion (λ n. not (is_one_of_pairs pairs (cleared_kept n)) ≡ not (is_some (barring j s n))) (filter (is_live j) ns)
    among [] all = tt
    among (n ∷ ns) all = elim (is_live j n) as (λ b. AllByRecursion (λ n. not (is_one_of_pairs pairs (cleared_kept n)) ≡ not (is_some (barring j s n))) (cond b (n ∷ filter (is_live j) ns) (filter (is_live j) ns))) [
      | true ↦ (ap not all.0, among ns all.1)
      | false ↦ among ns all.1
    ]

-- ---- a live queue clears a user's undecided notices of some deals

module _ (j : List Stamped) (at : ℕ) (u : UserId) (deals : List DealNo) (q : QueueId) where
  abbrev pub clearing : Stamped
  clearing = record { at = at; event = Absorbed (Cleared u deals q) }

  -- it is kept, undecided and named
  abbrev is_let : Notice → Bool
  is_let n = is_kept j n && is_cleared u deals (notice_kept j n)

  none_ready : (online : Bool) (n : Notice) → readies n.user n.deal online (Absorbed (Cleared u deals q)) ≡ false
  none_ready true n = refl
  none_ready false n = refl

  parts : (a b c : Bool) → (a && (b && not c)) ≡ true → (a ≡ true) × (b ≡ true) × (c ≡ false)
  parts true true false h = (refl, refl, refl)
  parts true true true h = absurd (cc)
  parts true false c h = absurd (cc)
  parts false b c h = absurd (cc)

  let-parts : (n : Notice) → is_let n ≡ true → (is_kept j n ≡ true) × (is_named u deals (notice_kept j n) ≡ true) × (is_queued j n ≡ false)
  let-parts n h =
      let all = parts (is_kept j n) (is_named u deals (notice_kept j n)) (is_ready (notice_kept j n)) h in
      (all.0, all.1, sym (ready-kept j n all.0) ∙ all.2)

  now : (n : Notice) → is_cleared_now j clearing n ≡ same_account (moved_by false false (is_named u deals (notice_kept j n)) (is_dealing clearing n) None (decided n (occurrence j clearing)) (account_of j n)) account.LiveQueue
  now n = (λ i. same_account (moved_by (never_turn clearing.event (no_outcome (Cleared u deals q)) n.user n.number n.way i) (none_ready (pushes_online n) n i) (swapped u.0 n.user.0 i && has_deal deals n.deal) (is_dealing clearing n) (barring-none j clearing n refl i) (decided n (occurrence j clearing)) (account_of j n)) account.LiveQueue)

  let-open : (n : Notice) → is_let n ≡ true → account_of j n ≡ cond (was_dealt j n) account.Held account.Flight
  let-open n h =
      let all = let-parts n h in unqueued-account j n (kept_unqueued j n all.0 all.2) all.2

  let-unlive : (n : Notice) → (not (is_live j n) && is_let n) ≡ is_let n
  let-unlive n = by (is_let n) refl
    where
      two : (d : Bool) → (not (same_account (cond d account.Held account.Flight) account.LiveQueue) && true) ≡ true
      two true = refl
      two false = refl

      never : (b : Bool) → (b && false) ≡ false
      never true = refl
      never false = refl

      by : (b : Bool) → is_let n ≡ b → (not (is_live j n) && is_let n) ≡ is_let n
      by true h = (λ i. not (same_account (let-open n h i) account.LiveQueue) && h i) ∙ (two (was_dealt j n) ∙ sym h)
      by false h = ap (λ b. not (is_live j n) && b) h ∙ (never (not (is_live j n)) ∙ sym h)

  -- one that isn't let keeps its account where it is named, for it is not open
  unlet-closed : (n : Notice) → is_let n ≡ false → is_named u deals (notice_kept j n) ≡ true → is_open (account_of j n) ≡ false
  unlet-closed n h named = by (is_pending (account_of j n)) (is_queued j n) refl refl
    where
      none : (a : Account) → is_pending a ≡ false → is_open a ≡ false
      none account.Flight e = absurd (cc)
      none account.Held e = absurd (cc)
      none account.Ready e = refl
      none account.NotOwed e = refl
      none account.Handed e = refl
      none (account.Cancelled c) e = refl
      none account.LiveQueue e = refl

      shut : (c : Option Cause) → is_open (option_map_or account.Cancelled c account.Ready) ≡ false
      shut None = refl
      shut (Some c) = refl

      whole : (k r : Bool) → (k && (true && not r)) ≡ false → k ≡ true → r ≡ true
      whole true true e f = refl
      whole true false e f = absurd (cc)
      whole false r e f = absurd (cc)

      either : (a b : Bool) → a ≡ true → (a || b) ≡ true
      either true b e = refl
      either false b e = absurd (cc)

      by : (p k : Bool) → is_pending (account_of j n) ≡ p → is_queued j n ≡ k → is_open (account_of j n) ≡ false
      by p true e f = ap is_open (queued-account j n f) ∙ shut (cause_of_bar j n)
      by false false e f = none (account_of j n) e
      by true false e f =
          let it : is_kept j n ≡ true = either (is_pending (account_of j n)) (is_queued j n) e in
          let ready : is_ready (notice_kept j n) ≡ true = whole (is_kept j n) (is_ready (notice_kept j n)) (sym (ap (λ b. is_kept j n && (b && not (is_ready (notice_kept j n)))) named) ∙ h) it in
          let both : true ≡ false = sym ready ∙ (ready-kept j n it ∙ f) in absurd (cc)

  cleared-one : (n : Notice) → is_cleared_now j clearing n ≡ (is_live j n || is_let n)
  cleared-one n = now n ∙ by (is_let n) refl
    where
      two : (d dl on : Bool) → same_account (moved_by false false true dl None (if on then account.Handed else account.Cancelled SwitchedOff) (cond d account.Held account.Flight)) account.LiveQueue ≡ (same_account (cond d account.Held account.Flight) account.LiveQueue || true)
      two true dl on = refl
      two false dl on = refl

      or_false : (b : Bool) → b ≡ (b || false)
      or_false true = refl
      or_false false = refl

      unlet : (m : Bool) → is_named u deals (notice_kept j n) ≡ m → is_let n ≡ false
          → same_account (moved_by false false (is_named u deals (notice_kept j n)) (is_dealing clearing n) None (decided n (occurrence j clearing)) (account_of j n)) account.LiveQueue ≡ is_live j n
      unlet true e h = closed false false (is_named u deals (notice_kept j n)) (is_dealing clearing n) (switch_on j n.user n.way) (account_of j n) (unlet-closed n h e)
      unlet false e h =
          ap (λ m. same_account (moved_by false false m (is_dealing clearing n) None (decided n (occurrence j clearing)) (account_of j n)) account.LiveQueue) e
          ∙ plain false false (is_dealing clearing n) (switch_on j n.user n.way) (account_of j n)

      by : (b : Bool) → is_let n ≡ b → same_account (moved_by false false (is_named u deals (notice_kept j n)) (is_dealing clearing n) None (decided n (occurrence j clearing)) (account_of j n)) account.LiveQueue ≡ (is_live j n || is_let n)
      by true h =
          let all = let-parts n h in
          (λ i. same_account (moved_by false false (all.1 i) (is_dealing clearing n) None (decided n (occurrence j clearing)) (let-open n h i)) account.LiveQueue)
          ∙ (two (was_dealt j n) (is_dealing clearing n) (switch_on j n.user n.way)
          ∙ sym (λ i. same_account (let-open n h i) account.LiveQueue || h i))
      by false h = unlet (is_named u deals (notice_kept j n)) refl h ∙ (or_false (is_live j n) ∙ ap (λ b. is_live j n || b) (sym h))

  held : (n : Notice) → is_let n ≡ true → moved false (notice_kept j n) ≡ cleared_kept n
  held n h =
      let all = let-parts n h in let pending = kept_unqueued j n all.0 all.2 in let un = unqueued-unready j n pending all.2 in
      (λ i. moved false (record (notice_kept j n) { stage = stage_by (was_dealt j n) (is_some (un.no_event i)); barred = pending-unbarred j n pending i }))
      ∙ two (was_dealt j n)
    where
      two : (d : Bool) → moved false (record (notice_kept j n) { stage = stage_by d false; barred = None }) ≡ cleared_kept n
      two true = refl
      two false = refl

  taken : map (moved false) (filter (is_cleared u deals) (all_kept j)) ≡ map cleared_kept (filter is_let (notices j))
  unfolding kept
  taken =
      ap (map (moved false)) (filter-mapped (notice_kept j) (is_cleared u deals) (λ n. is_cleared u deals (notice_kept j n)) (kept j) (each-same (notice_kept j) (is_cleared u deals) (kept j)))
      ∙ (ap (λ ns. map (moved false) (map (notice_kept j) ns)) (filter-filter (λ n. is_cleared u deals (notice_kept j n)) (is_kept j) (notices j))
      ∙ (twice (filter is_let (notices j))
      ∙ map-where (λ n. is_let n ≡ true) (λ n. moved false (notice_kept j n)) cleared_kept held (filter is_let (notices j)) (filter-passed is_let (notices j))))
    where
      twice : (ns : List Notice) → map (moved false) (map (notice_kept j) ns) ≡ map (λ n. moved false (notice_kept j n)) ns
      twice [] = refl
      twice (n ∷ ns) = ap (λ ws. moved false (notice_kept j n) ∷ ws) (twice ns)

  in_order : (test : Notice → Bool) → IsInOrder (map cleared_kept (filter test (notices j)))
  in_order test = some-ordered (λ n. stage_by true false) (λ n. None) test j

  all_in_order : IsInOrder (map cleared_kept (notices j))
  all_in_order = subst (λ ns. IsInOrder (map cleared_kept ns)) (filter_all (λ n. true) (λ n. refl) (notices j)) (in_order (λ n. true))

  pub cleared-cleared : all_cleared (j ++ clearing ∷ []) ≡ put_all_in_order (map (moved false) (filter (is_cleared u deals) (all_kept j))) (all_cleared j)
  cleared-cleared =
      ap (map cleared_kept) (cleared-moved j clearing ∙ filter_same (is_cleared_now j clearing) (λ n. is_live j n || is_let n) cleared-one (notices j))
      ∙ (sym (put-alone (map cleared_kept (filter (λ n. is_live j n || is_let n) (notices j))) (in_order (λ n. is_live j n || is_let n)))
      ∙ (sym (put-apart cleared_kept (is_live j) is_let (notices j) all_in_order (in_order (is_live j)))
      ∙ ap (λ ws. put_all_in_order ws (all_cleared j)) (ap (map cleared_kept) (filter_same (λ n. not (is_live j n) && is_let n) is_let let-unlive (notices j)) ∙ sym taken)))
