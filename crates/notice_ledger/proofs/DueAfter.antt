-- A user's batch rows and due moment at a journal with one more event.
use Rattle.std.proofs.Common.{◌≡◌, ℕ, ◌+◌, ◌-◌, ◌<◌, ◌≤◌, Bool, true, false, ◌&&◌, ◌||◌, ◌==◌, not, cond, List, [], ◌∷◌, ◌++◌, length, refl, sym, ap, ◌∙◌, subst, ◌⊎◌, inl, inr, arith}
use Rattle.std.specs.Prelude.{Option, Some, None, option_map, unwrap_or, nat_lt, filter, fold, if◌then◌else◌}
use Rattle.std.specs.Option.{option_or}
use Rattle.std.specs.List.{AllByRecursion, filter_map, list_any, cons_option, reduce}
use Rattle.std.specs.List.Sorted.{IsPermutation}
use Rattle.std.proofs.Math.Bool.{and-false}
use Rattle.std.proofs.lemmas.Bool.{and_parts, lt-ltb, le-ltb}
use Rattle.std.proofs.lemmas.List.{append-nil}
use Rattle.std.proofs.lemmas.List.Sorted.{IsPermutation-filter_both, IsPermutation-sym}
use Rattle.chat_model.specs.declared.event.Stamped.{Stamped}
use Rattle.chat_model.specs.declared.event.Event.{Event}
use Rattle.chat_model.specs.declared.event.Event.TheVariants.{MailTurn}
use Rattle.chat_model.specs.declared.ids.DealNo.{DealNo}
use Rattle.chat_model.specs.declared.ids.UserId.{UserId}
use Rattle.chat_model.specs.declared.trigger.Way.{Way}
use Rattle.chat_model.specs.declared.trigger.Way.TheVariants.{Mail}
use Rattle.notice_ledger.specs.Past.Journal.{Occurrence, occurrence, occurrences, last_stamp, some_behind}
use Rattle.notice_ledger.specs.Past.Values.{settings}
use Rattle.notice_ledger.specs.Past.Owed.{Notice, notices, same_way, pushes_online, readies, clears, ready, was_cleared, owed_by, is_mail_turn_of, is_turn_of, account_of, is_pending}
use Rattle.notice_ledger.specs.Past.Due.{is_batch_row, batch_rows, earlier, due}
use Rattle.notice_ledger.proofs.Batches.{is_mail_of, batch_rows-kept}
use Rattle.notice_ledger.proofs.Behind.{find_all, first_behind-placed}
use Rattle.notice_ledger.proofs.Lists.{filter-filter, filter_none, filter_or_none, filter_same, filter_same_where}
use Rattle.notice_ledger.proofs.Same.{same_user, same_ways}
use Rattle.notice_ledger.proofs.Stamps.{AreStamped}
use Rattle.notice_ledger.proofs.Standing.{is_turn, is_readying, ready-append}
use Rattle.notice_ledger.proofs.Queued.{is_queued, kept, IsKept, all_kept, unqueued-unready, queued-ready, is_queued-append, is_queued-new, filter-notices, kept-tested}
use Rattle.notice_ledger.proofs.Waiting.{IsOwedBy, owed_by-each}

-- ---- batch rows

-- a mail notice of the user that the event makes ready
abbrev pub is_readied : List Stamped → Stamped → UserId → Notice → Bool
is_readied j s u n = is_mail_of u n && (is_pending (account_of j n) && (not (is_queued j n) && is_readying s n))

-- the mail notices of the user that the event makes ready
abbrev pub readied : List Stamped → Stamped → UserId → List Notice
readied j s u = filter (is_readied j s u) (kept j)

-- the rows are those that had no turn by the event, and those that it makes ready
pub batch_rows-append : (j : List Stamped) (s : Stamped) (u : UserId) → batch_rows (j ++ s ∷ []) u ≡ filter (λ n. (is_batch_row j u n && not (is_turn s n)) || is_readied j s u n) (kept j)
batch_rows-append j s u =
    let row : Notice → Bool = is_batch_row (j ++ s ∷ []) u in
    let old : Notice → Bool = λ n. is_mail_of u n && (if is_queued j n then not (is_turn s n) else (is_pending (account_of j n) && is_readying s n)) in
    let owed = owed_by (occurrence j s) in
    let new : filter row owed ≡ [] =
    filter_same_where (IsOwedBy (occurrence j s)) row (λ n. false) (λ n is. ap (λ b. is_mail_of u n && b) (is_queued-new j s n is) ∙ and-false (is_mail_of u n)) owed (owed_by-each (occurrence j s))
    ∙ filter_none (λ n. false) (λ n. refl) owed in
    filter-notices j s row old (λ n placed. ap (λ b. is_mail_of u n && b) (is_queued-append j s n placed))
    ∙ (ap (λ ns. filter old (notices j) ++ ns) new
    ∙ (append-nil (filter old (notices j))
    ∙ (filter_same old (λ n. (is_batch_row j u n && not (is_turn s n)) || is_readied j s u n) (λ n. parts (is_mail_of u n) (is_queued j n) (is_pending (account_of j n)) (is_turn s n) (is_readying s n)) (notices j)
    ∙ kept-tested j (λ n. (is_batch_row j u n && not (is_turn s n)) || is_readied j s u n) (λ n. within (is_mail_of u n) (is_queued j n) (is_pending (account_of j n)) (is_turn s n) (is_readying s n)))))
  where
    parts : (mail queued pending tn rd : Bool) → (mail && (if queued then not tn else (pending && rd))) ≡ (((mail && queued) && not tn) || (mail && (pending && (not queued && rd))))
    parts false queued pending tn rd = refl
    parts true true true true rd = refl
    parts true true true false rd = refl
    parts true true false true rd = refl
    parts true true false false rd = refl
    parts true false pending tn rd = refl

    within : (mail queued pending tn rd : Bool) → (((mail && queued) && not tn) || (mail && (pending && (not queued && rd)))) ≡ ((pending || queued) && (((mail && queued) && not tn) || (mail && (pending && (not queued && rd)))))
    within mail queued true tn rd = refl
    within mail true false tn rd = refl
    within true false false tn rd = refl
    within false false false tn rd = refl

-- a mail of the user has its turn by the user's mail turn
turn_of_mail : (s : Stamped) (u : UserId) (n : Notice) → is_mail_of u n ≡ true → is_turn s n ≡ is_mail_turn_of u s.event
turn_of_mail s u n mail =
    let parts = and_parts (n.user.0 == u.0) (same_way n.way Mail) mail in
    ap (λ (w : Way). is_turn_of n.user n.number w s.event) (same_ways n.way Mail parts.1) ∙ ap (λ (v : UserId). is_mail_turn_of v s.event) (same_user n.user u parts.0)

-- where the event is no mail turn of the user, all rows stay
pub batch_rows-no_turn : (j : List Stamped) (s : Stamped) (u : UserId) → is_mail_turn_of u s.event ≡ false → batch_rows (j ++ s ∷ []) u ≡ filter (λ n. is_batch_row j u n || is_readied j s u n) (kept j)
batch_rows-no_turn j s u none = batch_rows-append j s u ∙ filter_same (λ n. (is_batch_row j u n && not (is_turn s n)) || is_readied j s u n) (λ n. is_batch_row j u n || is_readied j s u n) (λ n. by n (is_mail_of u n) refl) (kept j)
  where
    stays_row : (b : Bool) → ((true && b) && not false) ≡ (true && b)
    stays_row true = refl
    stays_row false = refl

    by : (n : Notice) (mail : Bool) → is_mail_of u n ≡ mail → ((is_batch_row j u n && not (is_turn s n)) || is_readied j s u n) ≡ (is_batch_row j u n || is_readied j s u n)
    by n true e =
        ap (λ b. b || is_readied j s u n)
        ((λ i. (e i && is_queued j n) && not ((turn_of_mail s u n e ∙ none) i)) ∙ (stays_row (is_queued j n) ∙ ap (λ b. b && is_queued j n) (sym e)))
    by n false e = ap (λ b. ((b && is_queued j n) && not (is_turn s n)) || is_readied j s u n) e ∙ ap (λ b. (b && is_queued j n) || is_readied j s u n) (sym e)

-- a mail turn makes no notice ready
turn_readies-none : (u v : UserId) (k : DealNo) (online : Bool) (e : Event) → is_mail_turn_of u e ≡ true → readies v k online e ≡ false
turn_readies-none u v k online (MailTurn w) h = refl
turn_readies-none u v k online e h = absurd (cc)

-- and the user's leaves no row
pub batch_rows-turn : (j : List Stamped) (s : Stamped) (u : UserId) → is_mail_turn_of u s.event ≡ true → batch_rows (j ++ s ∷ []) u ≡ []
batch_rows-turn j s u turned =
    batch_rows-append j s u
    ∙ (filter_same (λ n. (is_batch_row j u n && not (is_turn s n)) || is_readied j s u n) (λ n. false) (λ n. by n (is_mail_of u n) refl) (kept j)
    ∙ filter_none (λ n. false) (λ n. refl) (kept j))
  where
    none : (b pending : Bool) → (((true && b) && not true) || (true && (pending && (not b && false)))) ≡ false
    none true true = refl
    none true false = refl
    none false true = refl
    none false false = refl

    by : (n : Notice) (mail : Bool) → is_mail_of u n ≡ mail → ((is_batch_row j u n && not (is_turn s n)) || is_readied j s u n) ≡ false
    by n true e =
        (λ i. ((e i && is_queued j n) && not ((turn_of_mail s u n e ∙ turned) i)) || (e i && (is_pending (account_of j n) && (not (is_queued j n) && turn_readies-none u n.user n.deal (pushes_online n) s.event turned i))))
        ∙ none (is_queued j n) (is_pending (account_of j n))
    by n false e = ap (λ b. ((b && is_queued j n) && not (is_turn s n)) || (b && (is_pending (account_of j n) && (not (is_queued j n) && is_readying s n)))) e

-- what was ready isn't made ready
apart : (j : List Stamped) (s : Stamped) (u : UserId) (n : Notice) → ((is_batch_row j u n || is_readied j s u n) && not (is_batch_row j u n)) ≡ is_readied j s u n
apart j s u n = by (is_mail_of u n) (is_queued j n) (is_pending (account_of j n)) (is_readying s n)
  where
    by : (m r p d : Bool) → (((m && r) || (m && (p && (not r && d)))) && not (m && r)) ≡ (m && (p && (not r && d)))
    by true true true d = refl
    by true true false d = refl
    by true false true true = refl
    by true false true false = refl
    by true false false d = refl
    by false r p d = refl

-- the rows with one more event are the rows before it and those that it makes ready, in another order
pub batch_rows-grown : (j : List Stamped) (s : Stamped) (u : UserId) → is_mail_turn_of u s.event ≡ false → IsPermutation (batch_rows j u ++ readied j s u) (batch_rows (j ++ s ∷ []) u)
batch_rows-grown j s u none =
    let row : Notice → Bool = is_batch_row j u in
    let all = filter (λ n. row n || is_readied j s u n) (kept j) in
    let old : filter row all ≡ batch_rows j u =
    filter-filter row (λ n. row n || is_readied j s u n) (kept j)
    ∙ (filter_same (λ n. (row n || is_readied j s u n) && row n) row (λ n. still (row n) (is_readied j s u n)) (kept j) ∙ sym (batch_rows-kept j u)) in
    let new : filter (λ n. not (row n)) all ≡ readied j s u =
    filter-filter (λ n. not (row n)) (λ n. row n || is_readied j s u n) (kept j)
    ∙ filter_same (λ n. (row n || is_readied j s u n) && not (row n)) (is_readied j s u) (apart j s u) (kept j) in
    let parted : IsPermutation all (filter row all ++ filter (λ n. not (row n)) all) = IsPermutation-filter_both row (λ n. not (row n)) (λ n. refl) all in
    subst (IsPermutation (batch_rows j u ++ readied j s u)) (sym (batch_rows-no_turn j s u none))
    (IsPermutation-sym all (batch_rows j u ++ readied j s u) (subst (IsPermutation all) (λ i. old i ++ new i) parted))
  where
    still : (a b : Bool) → ((a || b) && a) ≡ a
    still true b = refl
    still false true = refl
    still false false = refl

-- ---- ready events

-- the first of the ready events of these notices
abbrev pub first_ready : List Stamped → List Notice → Option Occurrence
first_ready j ns = reduce earlier (filter_map (ready j) ns)

-- a batch row of before: its ready event stays
record IsOld (j : List Stamped) (s : Stamped) (u : UserId) (n : Notice) : Type 0 where
  at : Occurrence
  before : at.place < length j
  row : is_batch_row j u n ≡ true
  not_new : is_readied j s u n ≡ false
  was : ready j n ≡ Some at
  is : ready (j ++ s ∷ []) n ≡ Some at

-- one that the event makes ready
record IsNew (j : List Stamped) (s : Stamped) (u : UserId) (n : Notice) : Type 0 where
  not_row : is_batch_row j u n ≡ false
  new : is_readied j s u n ≡ true
  is : ready (j ++ s ∷ []) n ≡ Some (occurrence j s)

-- neither
record IsNeither (j : List Stamped) (s : Stamped) (u : UserId) (n : Notice) : Type 0 where
  not_row : is_batch_row j u n ≡ false
  not_new : is_readied j s u n ≡ false

classified : (j : List Stamped) (s : Stamped) (u : UserId) (n : Notice) → IsKept j n → IsOld j s u n ⊎ (IsNew j s u n ⊎ IsNeither j s u n)
classified j s u n is = by (is_mail_of u n) refl (is_queued j n) refl (is_readying s n) refl
  where
    later : ready (j ++ s ∷ []) n ≡ option_or (ready j n) (cond (is_readying s n && not (was_cleared j n)) (Some (occurrence j s)) None)
    later = ready-append j s n is.placed

    -- what is kept and not queued is pending
    pending : is_queued j n ≡ false → is_pending (account_of j n) ≡ true
    pending e = sym (or_none (is_pending (account_of j n))) ∙ (ap (λ b. is_pending (account_of j n) || b) (sym e) ∙ is.kept)
      where
        or_none : (b : Bool) → (b || false) ≡ b
        or_none true = refl
        or_none false = refl

    nothing : (a b : Bool) → (a && (b && false)) ≡ false
    nothing true true = refl
    nothing true false = refl
    nothing false b = refl

    by : (mail : Bool) → is_mail_of u n ≡ mail → (queued : Bool) → is_queued j n ≡ queued → (rd : Bool) → is_readying s n ≡ rd → IsOld j s u n ⊎ (IsNew j s u n ⊎ IsNeither j s u n)
    by false m queued e rd f =
        inr (inr (record { not_row = ap (λ b. b && is_queued j n) m; not_new = ap (λ b. b && (is_pending (account_of j n) && (not (is_queued j n) && is_readying s n))) m }))
    by true m true e rd f =
        let found = queued-ready j n e in
        inl (record {
          at = found.0;
          before = first_behind-placed n.owing.place (λ p. readies n.user n.deal (pushes_online n) p.event && not (some_behind n.owing.place (λ q. clears n.user n.deal q.event) p.past)) j found.0 found.1;
          row = λ i. m i && e i;
          not_new = (λ i. m i && (is_pending (account_of j n) && (not (e i) && is_readying s n))) ∙ and-false (is_pending (account_of j n));
          was = found.1;
          is = later ∙ ap (λ x. option_or x (cond (is_readying s n && not (was_cleared j n)) (Some (occurrence j s)) None)) found.1;
        })
    by true m false e true f =
        let unready = unqueued-unready j n (pending e) e in
        inr (inl (record {
          not_row = λ i. m i && e i;
          new = λ i. m i && (pending e i && (not (e i) && f i));
          is = later ∙ (λ i. option_or (unready.no_event i) (cond (f i && not (unready.not_cleared i)) (Some (occurrence j s)) None));
        }))
    by true m false e false f =
        inr (inr (record {
          not_row = λ i. m i && e i;
          not_new = (λ i. is_mail_of u n && (is_pending (account_of j n) && (not (e i) && f i))) ∙ nothing (is_mail_of u n) (is_pending (account_of j n));
        }))

module _ (j : List Stamped) (s : Stamped) (u : UserId) where
  is_row : Notice → Bool
  is_row n = is_batch_row j u n || is_readied j s u n

  -- the ready events of the rows among these, with the event and before it
  later : List Notice → List Occurrence
  later ns = filter_map (ready (j ++ s ∷ [])) (filter is_row ns)

  before : List Notice → List Occurrence
  before ns = filter_map (ready j) (filter (is_batch_row j u) ns)

  abbrev AllKept : List Notice → Type 0
  AllKept ns = AllByRecursion (IsKept j) ns

  later-old : (n : Notice) (ns : List Notice) (old : IsOld j s u n) → later (n ∷ ns) ≡ old.at ∷ later ns
  unfolding later is_row
  later-old n ns old =
      ap (λ b. filter_map (ready (j ++ s ∷ [])) (cond (b || is_readied j s u n) (n ∷ filter is_row ns) (filter is_row ns))) old.row
      ∙ ap (λ o. cons_option o (filter_map (ready (j ++ s ∷ [])) (filter is_row ns))) old.is

  before-old : (n : Notice) (ns : List Notice) (old : IsOld j s u n) → before (n ∷ ns) ≡ old.at ∷ before ns
  unfolding before
  before-old n ns old =
      ap (λ b. filter_map (ready j) (cond b (n ∷ filter (is_batch_row j u) ns) (filter (is_batch_row j u) ns))) old.row
      ∙ ap (λ o. cons_option o (filter_map (ready j) (filter (is_batch_row j u) ns))) old.was

  later-new : (n : Notice) (ns : List Notice) → IsNew j s u n → later (n ∷ ns) ≡ occurrence j s ∷ later ns
  unfolding later is_row
  later-new n ns new =
      (λ i. filter_map (ready (j ++ s ∷ [])) (cond (new.not_row i || new.new i) (n ∷ filter is_row ns) (filter is_row ns)))
      ∙ ap (λ o. cons_option o (filter_map (ready (j ++ s ∷ [])) (filter is_row ns))) new.is

  later-neither : (n : Notice) (ns : List Notice) → IsNeither j s u n → later (n ∷ ns) ≡ later ns
  unfolding later is_row
  later-neither n ns neither = λ i. filter_map (ready (j ++ s ∷ [])) (cond (neither.not_row i || neither.not_new i) (n ∷ filter is_row ns) (filter is_row ns))

  before-other : (n : Notice) (ns : List Notice) → is_batch_row j u n ≡ false → before (n ∷ ns) ≡ before ns
  unfolding before
  before-other n ns not_row = ap (λ b. filter_map (ready j) (cond b (n ∷ filter (is_batch_row j u) ns) (filter (is_batch_row j u) ns))) not_row

  -- an event of before stands before the last one
  earlier-old : (a : Occurrence) → a.place < length j → earlier a (occurrence j s) ≡ a
  earlier-old a lt = ap (λ b. if b then occurrence j s else a) (le-ltb (length j) a.place (omega arith))

  earlier-new : (a : Occurrence) → a.place < length j → earlier (occurrence j s) a ≡ a
  earlier-new a lt = ap (λ b. if b then a else occurrence j s) (lt-ltb a.place (length j) lt)

  earlier-placed : (a b : Occurrence) → a.place < length j → b.place < length j → (earlier a b).place < length j
  earlier-placed a b h k = elim (nat_lt b.place a.place) as (λ t. (if t then b else a).place < length j) [ true ↦ k | false ↦ h ]

  fold-old : (a : Occurrence) → a.place < length j → (ns : List Notice) → AllKept ns → fold earlier a (later ns) ≡ fold earlier a (before ns)
  unfolding later before
  fold-old a lt [] all = refl
  fold-old a lt (n ∷ ns) all = by (classified j s u n all.0) (λ b lt. fold-old b lt ns all.1)
    where
      by : IsOld j s u n ⊎ (IsNew j s u n ⊎ IsNeither j s u n) → ((b : Occurrence) → b.place < length j → fold earlier b (later ns) ≡ fold earlier b (before ns)) → fold earlier a (later (n ∷ ns)) ≡ fold earlier a (before (n ∷ ns))
      by (inl old) rest = ap (fold earlier a) (later-old n ns old) ∙ (rest (earlier a old.at) (earlier-placed a old.at lt old.before) ∙ ap (fold earlier a) (sym (before-old n ns old)))
      by (inr (inl new)) rest =
          ap (fold earlier a) (later-new n ns new)
          ∙ (ap (λ b. fold earlier b (later ns)) (earlier-old a lt) ∙ (rest a lt ∙ ap (fold earlier a) (sym (before-other n ns new.not_row))))
      by (inr (inr neither)) rest = ap (fold earlier a) (later-neither n ns neither) ∙ (rest a lt ∙ ap (fold earlier a) (sym (before-other n ns neither.not_row)))

  fold-new : (ns : List Notice) → AllKept ns → fold earlier (occurrence j s) (later ns) ≡ unwrap_or (reduce earlier (before ns)) (occurrence j s)
  unfolding later before
  fold-new [] all = refl
  fold-new (n ∷ ns) all = by (classified j s u n all.0) (fold-new ns all.1)
    where
      by : IsOld j s u n ⊎ (IsNew j s u n ⊎ IsNeither j s u n) → fold earlier (occurrence j s) (later ns) ≡ unwrap_or (reduce earlier (before ns)) (occurrence j s)
          → fold earlier (occurrence j s) (later (n ∷ ns)) ≡ unwrap_or (reduce earlier (before (n ∷ ns))) (occurrence j s)
      by (inl old) rest =
          ap (fold earlier (occurrence j s)) (later-old n ns old)
          ∙ (ap (λ b. fold earlier b (later ns)) (earlier-new old.at old.before)
          ∙ (fold-old old.at old.before ns all.1 ∙ ap (λ os. unwrap_or (reduce earlier os) (occurrence j s)) (sym (before-old n ns old))))
      by (inr (inl new)) rest =
          ap (fold earlier (occurrence j s)) (later-new n ns new)
          ∙ (ap (λ b. fold earlier b (later ns)) (ap (λ b. if b then occurrence j s else occurrence j s) (le-ltb (length j) (length j) (omega arith)))
          ∙ (rest ∙ ap (λ os. unwrap_or (reduce earlier os) (occurrence j s)) (sym (before-other n ns new.not_row))))
      by (inr (inr neither)) rest =
          ap (fold earlier (occurrence j s)) (later-neither n ns neither) ∙ (rest ∙ ap (λ os. unwrap_or (reduce earlier os) (occurrence j s)) (sym (before-other n ns neither.not_row)))

  -- the event, where it makes a notice ready
  at_event : Bool → Option Occurrence
  at_event b = cond b (Some (occurrence j s)) None

  reduce-both : (ns : List Notice) → AllKept ns → reduce earlier (later ns) ≡ option_or (reduce earlier (before ns)) (at_event (list_any (is_readied j s u) ns))
  unfolding later before at_event
  reduce-both [] all = refl
  reduce-both (n ∷ ns) all = by (classified j s u n all.0) (reduce-both ns all.1)
    where
      or_new : (o : Option Occurrence) → Some (unwrap_or o (occurrence j s)) ≡ option_or o (Some (occurrence j s))
      or_new None = refl
      or_new (Some o) = refl

      by : IsOld j s u n ⊎ (IsNew j s u n ⊎ IsNeither j s u n) → reduce earlier (later ns) ≡ option_or (reduce earlier (before ns)) (at_event (list_any (is_readied j s u) ns))
          → reduce earlier (later (n ∷ ns)) ≡ option_or (reduce earlier (before (n ∷ ns))) (at_event (is_readied j s u n || list_any (is_readied j s u) ns))
      by (inl old) rest =
          ap (reduce earlier) (later-old n ns old)
          ∙ (ap Some (fold-old old.at old.before ns all.1)
          ∙ ap (λ os. option_or (reduce earlier os) (at_event (is_readied j s u n || list_any (is_readied j s u) ns))) (sym (before-old n ns old)))
      by (inr (inl new)) rest =
          ap (reduce earlier) (later-new n ns new)
          ∙ (ap Some (fold-new ns all.1)
          ∙ (or_new (reduce earlier (before ns))
          ∙ (λ i. option_or (reduce earlier (sym (before-other n ns new.not_row) i)) (at_event (sym new.new i || list_any (is_readied j s u) ns)))))
      by (inr (inr neither)) rest =
          ap (reduce earlier) (later-neither n ns neither)
          ∙ (rest ∙ (λ i. option_or (reduce earlier (sym (before-other n ns neither.not_row) i)) (at_event (sym neither.not_new i || list_any (is_readied j s u) ns))))

  -- where the event is no mail turn of the user, the first ready event of the rows stays, or is the event where there was
  -- no row and it makes one ready
  pub first_ready-append : is_mail_turn_of u s.event ≡ false → first_ready (j ++ s ∷ []) (batch_rows (j ++ s ∷ []) u) ≡ option_or (first_ready j (batch_rows j u)) (cond (list_any (is_readied j s u) (kept j)) (Some (occurrence j s)) None)
  unfolding later before is_row at_event
  first_ready-append none =
      ap (first_ready (j ++ s ∷ [])) (batch_rows-no_turn j s u none)
      ∙ (reduce-both (kept j) (all_kept j)
      ∙ ap (λ ns. option_or (first_ready j ns) (cond (list_any (is_readied j s u) (kept j)) (Some (occurrence j s)) None)) (sym (batch_rows-kept j u)))

  -- ---- due moments

  -- the user's due moment moves by a new period less the old one, and where there was none, the rows that become ready are
  -- due a period after the event
  pub due-append : is_mail_turn_of u s.event ≡ false
      → due (j ++ s ∷ []) u
      ≡ option_or (option_map (λ d. d - (settings j u).period + (settings (j ++ s ∷ []) u).period) (due j u))
      (cond (list_any (is_readied j s u) (kept j)) (Some (s.at + (settings (j ++ s ∷ []) u).period)) None)
  due-append none =
      ap (option_map (λ o. o.at + (settings (j ++ s ∷ []) u).period)) (first_ready-append none)
      ∙ by (settings j u).period (settings (j ++ s ∷ []) u).period (first_ready j (batch_rows j u)) (list_any (is_readied j s u) (kept j))
    where
      moved_on : (at old new : ℕ) → at + new ≡ (at + old) - old + new
      moved_on at old new = omega arith

      by : (old new : ℕ) (o : Option Occurrence) (b : Bool) → option_map (λ (o : Occurrence). o.at + new) (option_or o (cond b (Some (occurrence j s)) None)) ≡ option_or (option_map (λ d. d - old + new) (option_map (λ (o : Occurrence). o.at + old) o)) (cond b (Some (s.at + new)) None)
      by old new (Some o) b = ap Some (moved_on o.at old new)
      by old new None true = refl
      by old new None false = refl

  -- with the period of before
  pub due-readied : is_mail_turn_of u s.event ≡ false → (settings (j ++ s ∷ []) u).period ≡ (settings j u).period
      → due (j ++ s ∷ []) u ≡ option_or (due j u) (cond (list_any (is_readied j s u) (kept j)) (Some (s.at + (settings j u).period)) None)
  due-readied none same =
      ap (option_map (λ o. o.at + (settings (j ++ s ∷ []) u).period)) (first_ready-append none)
      ∙ (ap (λ p. option_map (λ (o : Occurrence). o.at + p) (option_or (first_ready j (batch_rows j u)) (cond (list_any (is_readied j s u) (kept j)) (Some (occurrence j s)) None))) same
      ∙ by (settings j u).period (first_ready j (batch_rows j u)) (list_any (is_readied j s u) (kept j)))
    where
      by : (p : ℕ) (o : Option Occurrence) (b : Bool) → option_map (λ (o : Occurrence). o.at + p) (option_or o (cond b (Some (occurrence j s)) None)) ≡ option_or (option_map (λ (o : Occurrence). o.at + p) o) (cond b (Some (s.at + p)) None)
      by p (Some o) b = refl
      by p None true = refl
      by p None false = refl

  or_none : {X : Type 0} (o : Option X) → option_or o None ≡ o
  or_none None = refl
  or_none (Some x) = refl

  -- where the event makes no mail of the user ready
  pub due-moved : is_mail_turn_of u s.event ≡ false → list_any (is_readied j s u) (kept j) ≡ false → due (j ++ s ∷ []) u ≡ option_map (λ d. d - (settings j u).period + (settings (j ++ s ∷ []) u).period) (due j u)
  due-moved none nothing =
      due-append none
      ∙ (ap (λ b. option_or (option_map (λ d. d - (settings j u).period + (settings (j ++ s ∷ []) u).period) (due j u)) (cond b (Some (s.at + (settings (j ++ s ∷ []) u).period)) None)) nothing
      ∙ or_none (option_map (λ d. d - (settings j u).period + (settings (j ++ s ∷ []) u).period) (due j u)))

  -- nor changes the period
  pub due-left : is_mail_turn_of u s.event ≡ false → (settings (j ++ s ∷ []) u).period ≡ (settings j u).period → list_any (is_readied j s u) (kept j) ≡ false → due (j ++ s ∷ []) u ≡ due j u
  due-left none same nothing =
      due-readied none same
      ∙ (ap (λ b. option_or (due j u) (cond b (Some (s.at + (settings j u).period)) None)) nothing ∙ or_none (due j u))

  -- an event that makes nothing of the user ready
  pub readied-none : ((k : DealNo) (online : Bool) → readies u k online s.event ≡ false) → list_any (is_readied j s u) (kept j) ≡ false
  readied-none never = each (kept j)
    where
      one : (n : Notice) (mail : Bool) → is_mail_of u n ≡ mail → is_readied j s u n ≡ false
      one n true e =
          let same = same_user n.user u (and_parts (n.user.0 == u.0) (same_way n.way Mail) e).0 in
          let not_readying : is_readying s n ≡ false = ap (λ (v : UserId). readies v n.deal (pushes_online n) s.event) same ∙ never n.deal (pushes_online n) in
          (λ i. is_mail_of u n && (is_pending (account_of j n) && (not (is_queued j n) && not_readying i))) ∙ none (is_mail_of u n) (is_pending (account_of j n)) (not (is_queued j n))
        where
          none : (a p b : Bool) → (a && (p && (b && false))) ≡ false
          none true true true = refl
          none true true false = refl
          none true false b = refl
          none false p b = refl
      one n false e = ap (λ b. b && (is_pending (account_of j n) && (not (is_queued j n) && is_readying s n))) e

      each : (ns : List Notice) → list_any (is_readied j s u) ns ≡ false
      each [] = refl
      each (n ∷ ns) = ap (λ b. b || list_any (is_readied j s u) ns) (one n (is_mail_of u n) refl) ∙ each ns

  -- an event that makes nothing ready and is no mail turn, as a read or a deletion, moves no due moment
  pub due-asked : ((k : DealNo) (online : Bool) → readies u k online s.event ≡ false) → is_mail_turn_of u s.event ≡ false → (settings (j ++ s ∷ []) u).period ≡ (settings j u).period → due (j ++ s ∷ []) u ≡ due j u
  due-asked never none same = due-left none same (readied-none never)

  -- and changes no batch row
  pub batch_rows-asked : ((k : DealNo) (online : Bool) → readies u k online s.event ≡ false) → is_mail_turn_of u s.event ≡ false → batch_rows (j ++ s ∷ []) u ≡ batch_rows j u
  batch_rows-asked never none =
      batch_rows-no_turn j s u none
      ∙ (filter_or_none (is_batch_row j u) (is_readied j s u) (kept j) (readied-none never) ∙ sym (batch_rows-kept j u))

  -- the user's mail turn leaves no due moment
  pub due-turn : is_mail_turn_of u s.event ≡ true → due (j ++ s ∷ []) u ≡ None
  due-turn turned = ap (λ ns. option_map (λ o. o.at + (settings (j ++ s ∷ []) u).period) (first_ready (j ++ s ∷ []) ns)) (batch_rows-turn j s u turned)

-- ---- within what a due moment lies

-- it is no earlier than the period
pub due-above : (j : List Stamped) (u : UserId) (d : ℕ) → due j u ≡ Some d → (settings j u).period ≤ d
due-above j u d e = by (settings j u).period (first_ready j (batch_rows j u)) e
  where
    by : (p : ℕ) (o : Option Occurrence) → option_map (λ (o : Occurrence). o.at + p) o ≡ Some d → p ≤ d
    by p None e = absurd (cc)
    by p (Some o) e = let same : o.at + p ≡ d = cc in omega (arith, same)

-- what holds of each event holds of the one that stands first
reduce-holds : (P : Occurrence → Type 0) (os : List Occurrence) → AllByRecursion P os → (o : Occurrence) → reduce earlier os ≡ Some o → P o
reduce-holds P [] all o e = absurd (cc)
reduce-holds P (a ∷ os) all o e = let same : fold earlier a os ≡ o = some_same e in subst P same (fold-holds a os all.0 all.1)
  where
    some_same : {x y : Occurrence} → Some x ≡ Some y → x ≡ y
    some_same e = cc

    fold-holds : (a : Occurrence) (os : List Occurrence) → P a → AllByRecursion P os → P (fold earlier a os)
    fold-holds a [] h all = h
    fold-holds a (b ∷ os) h all = fold-holds (earlier a b) os (elim (nat_lt b.place a.place) as (λ t. P (if t then b else a)) [ true ↦ all.0 | false ↦ h ]) all.1

-- and no later than a period after the last stamp
pub due-below : (j : List Stamped) (u : UserId) (d : ℕ) → AreStamped j → due j u ≡ Some d → d ≤ last_stamp j + (settings j u).period
due-below j u d stamped e = by (settings j u).period (first_ready j (batch_rows j u)) (reduce-holds (λ o. o.at ≤ last_stamp j) (filter_map (ready j) (batch_rows j u)) (each (batch_rows j u))) e
  where
    each : (ns : List Notice) → AllByRecursion (λ o. o.at ≤ last_stamp j) (filter_map (ready j) ns)
    each [] = tt
    each (n ∷ ns) = one (ready j n) refl (each ns)
      where
        one : (o : Option Occurrence) → ready j n ≡ o → AllByRecursion (λ o. o.at ≤ last_stamp j) (filter_map (ready j) ns) → AllByRecursion (λ o. o.at ≤ last_stamp j) (cons_option o (filter_map (ready j) ns))
        one None e rest = rest
        one (Some o) e rest = (find_all (λ o. o.at ≤ last_stamp j) (λ o. nat_lt n.owing.place o.place && (readies n.user n.deal (pushes_online n) o.event && not (some_behind n.owing.place (λ p. clears n.user n.deal p.event) o.past))) (occurrences j) o stamped.bounded e, rest)

    by : (p : ℕ) (o : Option Occurrence) → ((x : Occurrence) → o ≡ Some x → x.at ≤ last_stamp j) → option_map (λ (o : Occurrence). o.at + p) o ≡ Some d → d ≤ last_stamp j + p
    by p None low e = absurd (cc)
    by p (Some o) low e = let same : o.at + p ≡ d = cc in let below = low o refl in omega (arith, same, below)
