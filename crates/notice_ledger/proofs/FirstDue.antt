-- The user with the least due moment is the one whom batches with these due moments give first.
use Rattle.std.proofs.Common.{◌≡◌, ℕ, zero, suc, ◌+◌, ◌<◌, ◌≤◌, true, false, ◌&&◌, ◌||◌, ◌==◌, List, [], ◌∷◌, ◌++◌, Option, Some, None, length, map, refl, sym, ap, ◌∙◌, subst, ◌⊎◌, inl, inr, ⊎_elim, arith, length-append}
use Rattle.std.specs.Prelude.{option_map, option_to_list, nat_lt, fold, is_none, if◌then◌else◌}
use Rattle.std.specs.Option.{MatchOption, option_map_or}
use Rattle.std.specs.List.{AllByRecursion, filter_map, flat_map, cons_option, reduce, range_with_len}
use Rattle.std.specs.Ordering.{nat_cmp}
use Rattle.std.specs.FinMap as finite
use Rattle.std.specs.FinMap.{get-empty}
use Rattle.std.proofs.lemmas.Bool.{and_parts, cases_lt, ltb-true}
use Rattle.std.proofs.lemmas.Bool.Decides.{nat_tests}
use Rattle.chat_model.specs.declared.event.Stamped.{Stamped}
use Rattle.chat_model.specs.declared.ids.UserId.{UserId}
use Rattle.chat_model.specs.declared.trigger.Trigger.{Trigger}
use Rattle.chat_model.specs.declared.trigger.Way.{Way}
use Rattle.chat_model.specs.declared.trigger.Way.TheVariants.{Mail, Push}
use Rattle.mail_batches.specs.declared.batches.DueUser.{DueUser as FoundDue}
use Rattle.mail_batches.specs.Batches.{Batch, Waiting, due_of, IsDueFirst}
use Rattle.notice_ledger.specs.Past.Journal.{Occurrence, occurrence}
use Rattle.notice_ledger.specs.Past.Values.{SentMessage, message_of, person_of, people, users, messages, deal_count, settings}
use Rattle.notice_ledger.specs.Past.Triggers.{trigger, came_by}
use Rattle.notice_ledger.specs.Past.Owed.{Notice, notices, owed_by, owed_of, notice_of, ready, is_unbarred, turn, same_way}
use Rattle.notice_ledger.specs.Past.Due.{DueUser, is_batch_row, batch_rows, due, due_user, earlier, first_due, sooner}
use Rattle.notice_ledger.proofs.Appended.{notices-nil, notices-append, people-append}
use Rattle.notice_ledger.proofs.Ascending.{Ascends}
use Rattle.notice_ledger.proofs.Batches.{is_mail_of}
use Rattle.notice_ledger.proofs.Lists.{AllByRecursion-append, AllByRecursion-weaker, AllByRecursion-filter, filter-passed, by_appending}
use Rattle.notice_ledger.proofs.Same.{same_user}

-- one user is due before another, or at the same moment with a number that isn't higher
abbrev pub Before : DueUser → DueUser → Type 0
Before a b = (a.due < b.due) ⊎ ((a.due ≡ b.due) × (a.user.0 ≤ b.user.0))

before-self : (a : DueUser) → Before a a
before-self a = inr (refl, omega arith)

before-then : (a b c : DueUser) → Before a b → Before b c → Before a c
before-then a b c (inl h) (inl k) = inl (omega arith)
before-then a b c (inl h) (inr k) = inl (omega (arith, k.0))
before-then a b c (inr h) (inl k) = inl (omega (arith, h.0))
before-then a b c (inr h) (inr k) = inr (h.0 ∙ k.0, omega (arith, h.1, k.1))

before-both : (a b : DueUser) → Before a b → Before b a → a ≡ b
before-both a b (inl h) (inl k) = absurd (omega arith)
before-both a b (inl h) (inr k) = absurd (omega (arith, k.0))
before-both a b (inr h) (inl k) = absurd (omega (arith, h.0))
before-both a b (inr h) (inr k) = both a.due b.due a.user b.user h.0 (ap (λ n. let w : UserId = record { 0 = n } in w) (omega (arith, h.1, k.1)))
  where
    both : (d e : ℕ) (u v : UserId) → d ≡ e → u ≡ v → let a : DueUser = record { due = d; user = u } in a ≡ record { due = e; user = v }
    both d e u v p q = ap (λ n. let a : DueUser = record { due = n; user = u } in a) p ∙ ap (λ w. let a : DueUser = record { due = e; user = w } in a) q

-- ---- the least of a list

-- what holds of each holds of the one that is chosen
fold-holds : (P : DueUser → Type 0) (f : DueUser → DueUser → DueUser) → ((a b : DueUser) → P a → P b → P (f a b)) → (a : DueUser) (ds : List DueUser) → P a → AllByRecursion P ds → P (fold f a ds)
fold-holds P f keeps a [] h all = h
fold-holds P f keeps a (d ∷ ds) h all = fold-holds P f keeps (f a d) ds (keeps a d h all.0) all.1

sooner-holds : (P : DueUser → Type 0) (a b : DueUser) → P a → P b → P (sooner a b)
sooner-holds P a b h k = elim (nat_lt b.due a.due) as (λ t. P (if t then b else a)) [ true ↦ k | false ↦ h ]

-- the first of two users, whose number is lower
sooner-both : (a b : DueUser) → a.user.0 ≤ b.user.0 → Before (sooner a b) a × Before (sooner a b) b
sooner-both a b le =
    elim (nat_lt b.due a.due) as (λ t. nat_lt b.due a.due ≡ t → Before (if t then b else a) a × Before (if t then b else a) b) [
      | true ↦ λ h. (inl (ltb-true b.due a.due h), before-self b)
      | false ↦ λ h. (before-self a, not_later a.due b.due a.user.0 b.user.0 h le)
    ] refl
  where
    not_later : (d e m n : ℕ) → nat_lt e d ≡ false → m ≤ n → (d < e) ⊎ ((d ≡ e) × (m ≤ n))
    not_later d e m n h le =
        ⊎_elim (λ lt. inl lt) (λ ge. inr (same d e ge h, le)) (cases_lt d e)
      where
        same : (d e : ℕ) → e ≤ d → nat_lt e d ≡ false → d ≡ e
        same d e ge h = grind (arith, nat_tests)

first-before : (a : DueUser) (ds : List DueUser) → AllByRecursion (λ d. a.user.0 ≤ d.user.0) ds → Ascends (λ d. d.user.0) ds → Before (fold sooner a ds) a × AllByRecursion (Before (fold sooner a ds)) ds
first-before a [] low up = (before-self a, tt)
first-before a (d ∷ ds) low up =
    let next : AllByRecursion (λ e. (sooner a d).user.0 ≤ e.user.0) ds = sooner-holds (λ x. AllByRecursion (λ e. x.user.0 ≤ e.user.0) ds) a d low.1 up.0 in
    let rest = first-before (sooner a d) ds next up.1 in
    let both = sooner-both a d low.0 in
    let chosen = fold sooner (sooner a d) ds in (
      before-then chosen (sooner a d) a rest.0 both.0,
      (before-then chosen (sooner a d) d rest.0 both.1, rest.1),
    )

-- ---- the users who are there

-- the user is one of the first so many
abbrev pub IsWithin : ℕ → UserId → Type 0
IsWithin n u = (0 < u.0) × (u.0 ≤ n)

in_range : (P : UserId → Type 0) (start len : ℕ) → ((n : ℕ) → start ≤ n → n < start + len → P (record { 0 = n })) → AllByRecursion P (map (λ n. let u : UserId = record { 0 = n } in u) (range_with_len start len))
in_range P start zero h = tt
in_range P start (suc len) h = (h start (omega arith) (omega arith), in_range P (start + 1) len (λ n low high. h n (omega arith) (omega arith)))

flat_all : {X Y : Type 0} (Q : X → Type 0) (P : Y → Type 0) (f : X → List Y) → ((x : X) → Q x → AllByRecursion P (f x)) → (xs : List X) → AllByRecursion Q xs → AllByRecursion P (flat_map f xs)
flat_all Q P f each [] all = tt
flat_all Q P f each (x ∷ xs) all = AllByRecursion-append P (f x) (flat_map f xs) (each x all.0) (flat_all Q P f each xs all.1)

users-within : (j : List Stamped) → AllByRecursion (IsWithin (length (people j))) (users j)
users-within j = in_range (IsWithin (length (people j))) 1 (length (people j)) (λ n low high. (omega arith, omega arith))

abbrev notice_by : Occurrence → SentMessage → UserId → Way → Option Trigger → Option Notice
notice_by o m u w t = option_map (λ (t : Trigger). let n : Notice = record {
  user = u;
  number = record { 0 = length (messages o.past) + 1 };
  way = w;
  message = m;
  trigger = t;
  via = came_by o.past m.text u t;
  deal = record { 0 = deal_count o.past };
  owing = o;
} in n) t

-- an event owes notices to users who are there
owed-within : (o : Occurrence) → AllByRecursion (λ n. IsWithin (length (people o.past)) n.user) (owed_by o)
owed-within o =
    elim (message_of o) as (λ m. AllByRecursion (λ n. IsWithin (length (people o.past)) n.user) (option_map_or (owed_of o) m [])) [
      | None ↦ tt
      | Some m ↦ flat_all (IsWithin (length (people o.past))) (λ (n : Notice). IsWithin (length (people o.past)) n.user) (λ u. filter_map (notice_of o m u) (Mail ∷ Push ∷ []))
          (λ u it. to_user m u it) (users o.past) (users-within o.past)
    ]
  where
    given : (m : SentMessage) (u : UserId) (w : Way) (t : Option Trigger) → IsWithin (length (people o.past)) u → (ns : List Notice) → AllByRecursion (λ n. IsWithin (length (people o.past)) n.user) ns → AllByRecursion (λ n. IsWithin (length (people o.past)) n.user) (cons_option (notice_by o m u w t) ns)
    given m u w None it ns all = all
    given m u w (Some t) it ns all = (it, all)

    to_user : (m : SentMessage) (u : UserId) → IsWithin (length (people o.past)) u → AllByRecursion (λ n. IsWithin (length (people o.past)) n.user) (filter_map (notice_of o m u) (Mail ∷ Push ∷ []))
    to_user m u it = given m u Mail (trigger o.past m m.text u Mail) it (cons_option (notice_of o m u Push) []) (given m u Push (trigger o.past m m.text u Push) it [] tt)

pub notices-within : (j : List Stamped) → AllByRecursion (λ n. IsWithin (length (people j)) n.user) (notices j)
notices-within = by_appending (λ j. AllByRecursion (λ n. IsWithin (length (people j)) n.user) (notices j)) (rw notices-nil tt) (λ j s h.
    let many : length (people (j ++ s ∷ [])) ≡ length (people j) + length (option_to_list (person_of s.event)) = ap length (people-append j s) ∙ length-append (people j) (option_to_list (person_of s.event)) in
    let grown = λ (n : Notice) (i : IsWithin (length (people j)) n.user). (let r : IsWithin (length (people (j ++ s ∷ []))) n.user = (i.0, omega (arith, many, i.1)) in r) in
    rw (notices-append j s) (AllByRecursion-append (λ n. IsWithin (length (people (j ++ s ∷ []))) n.user) (notices j) (owed_by (occurrence j s))
    (AllByRecursion-weaker (λ n. IsWithin (length (people j)) n.user) (λ n. IsWithin (length (people (j ++ s ∷ []))) n.user) grown (notices j) h)
    (AllByRecursion-weaker (λ n. IsWithin (length (people j)) n.user) (λ n. IsWithin (length (people (j ++ s ∷ []))) n.user) grown (owed_by (occurrence j s)) (owed-within (occurrence j s)))))

-- ---- who has a due moment

both : {X : Type 0} (P Q : X → Type 0) (xs : List X) → AllByRecursion P xs → AllByRecursion Q xs → AllByRecursion (λ x. P x × Q x) xs
both P Q [] p q = tt
both P Q (x ∷ xs) p q = ((p.0, q.0), both P Q xs p.1 q.1)

-- only a user who is there
pub due-within : (j : List Stamped) (u : UserId) (d : ℕ) → due j u ≡ Some d → IsWithin (length (people j)) u
due-within j u d e =
    by (batch_rows j u)
    (both (λ n. IsWithin (length (people j)) n.user) (λ n. n.user ≡ u) (batch_rows j u)
    (AllByRecursion-filter (λ n. IsWithin (length (people j)) n.user) (is_batch_row j u) (notices j) (notices-within j))
    (AllByRecursion-weaker (λ n. is_batch_row j u n ≡ true) (λ n. n.user ≡ u) (λ n row. of_user n row) (batch_rows j u) (filter-passed (is_batch_row j u) (notices j))))
    e
  where
    of_user : (n : Notice) → is_batch_row j u n ≡ true → n.user ≡ u
    of_user n row =
        let mail = (and_parts (is_mail_of u n) (option_map_or (is_unbarred n) (ready j n) false && is_none (turn j n)) row).0 in
        same_user n.user u (and_parts (n.user.0 == u.0) (same_way n.way Mail) mail).0

    by : (rows : List Notice) → AllByRecursion (λ n. IsWithin (length (people j)) n.user × (n.user ≡ u)) rows → option_map (λ (o : Occurrence). o.at + (settings j u).period) (reduce earlier (filter_map (ready j) rows)) ≡ Some d → IsWithin (length (people j)) u
    by [] all e = absurd (cc)
    by (n ∷ rows) all e = subst (IsWithin (length (people j))) all.0.1 all.0.0

-- the users of a stretch of numbers
abbrev numbered_users : ℕ → ℕ → List UserId
numbered_users start len = map (λ n. let u : UserId = record { 0 = n } in u) (range_with_len start len)

-- a user with the due moment, where there is one
abbrev with_user : UserId → Option ℕ → Option DueUser
with_user u o = option_map (λ (m : ℕ). let e : DueUser = record { due = m; user = u } in e) o

-- what holds of each user with a due moment
dues_hold : (P : DueUser → Type 0) (j : List Stamped) → ((u : UserId) (d : ℕ) → due j u ≡ Some d → P (record { due = d; user = u })) → (us : List UserId) → AllByRecursion P (filter_map (due_user j) us)
dues_hold P j each [] = tt
dues_hold P j each (u ∷ us) = by (due j u) (each u) (dues_hold P j each us)
  where
    by : (o : Option ℕ) → ((d : ℕ) → o ≡ Some d → P (record { due = d; user = u })) → AllByRecursion P (filter_map (due_user j) us) → AllByRecursion P (cons_option (with_user u o) (filter_map (due_user j) us))
    by None each rest = rest
    by (Some d) each rest = (each d refl, rest)

-- holds of a user who is there and has one
among_users : (P : DueUser → Type 0) (j : List Stamped) (start len : ℕ) → AllByRecursion P (filter_map (due_user j) (numbered_users start len)) → (k d : ℕ) → start ≤ k → k < start + len → due j (record { 0 = k }) ≡ Some d → P (record { due = d; user = record { 0 = k } })
among_users P j start zero all k d low high e = absurd (omega arith)
among_users P j start (suc len) all k d low high e =
    let here = here_or_later (due j (record { 0 = start })) (filter_map (due_user j) (numbered_users (start + 1) len)) all in
    ⊎_elim
    (λ lt. among_users P j (start + 1) len here.1 k d (omega arith) (omega arith) e)
    (λ ge. let same : start ≡ k = omega arith in subst (λ (n : ℕ). P (record { due = d; user = record { 0 = n } })) same (here.0 d (ap (λ n. due j (record { 0 = n })) same ∙ e)))
    (cases_lt start k)
  where
    here_or_later : (o : Option ℕ) (ds : List DueUser) → AllByRecursion P (cons_option (with_user (record { 0 = start }) o) ds) → ((d : ℕ) → o ≡ Some d → P (record { due = d; user = record { 0 = start } })) × AllByRecursion P ds
    here_or_later None ds all = (λ d e. absurd (cc), all)
    here_or_later (Some m) ds all = (λ d e. let same : m ≡ d = cc in subst (λ (n : ℕ). P (record { due = n; user = record { 0 = start } })) same all.0, all.1)

from_first : (j : List Stamped) (low first many : ℕ) → low ≤ first → AllByRecursion (λ d. low ≤ d.user.0) (filter_map (due_user j) (numbered_users first many))
from_first j low first zero le = tt
from_first j low first (suc many) le = by (due j (record { 0 = first })) (from_first j low (first + 1) many (omega arith))
  where
    by : (o : Option ℕ) → AllByRecursion (λ d. low ≤ d.user.0) (filter_map (due_user j) (numbered_users (first + 1) many)) → AllByRecursion (λ d. low ≤ d.user.0) (cons_option (with_user (record { 0 = first }) o) (filter_map (due_user j) (numbered_users (first + 1) many)))
    by None all = all
    by (Some m) all = (le, all)

-- users with a due moment ascend
dues-ascend : (j : List Stamped) (start len : ℕ) → Ascends (λ d. d.user.0) (filter_map (due_user j) (numbered_users start len))
dues-ascend j start zero = tt
dues-ascend j start (suc len) = by (due j (record { 0 = start })) (from_first j start (start + 1) len (omega arith)) (dues-ascend j (start + 1) len)
  where
    by : (o : Option ℕ) → AllByRecursion (λ d. start ≤ d.user.0) (filter_map (due_user j) (numbered_users (start + 1) len)) → Ascends (λ d. d.user.0) (filter_map (due_user j) (numbered_users (start + 1) len))
        → Ascends (λ d. d.user.0) (cons_option (with_user (record { 0 = start }) o) (filter_map (due_user j) (numbered_users (start + 1) len)))
    by None low up = up
    by (Some m) low up = (low, up)

-- ---- the first who is due

-- a user with a due moment, before whom nobody is due
pub first_due-least : (j : List Stamped) (first : DueUser) → due j first.user ≡ Some first.due → ((u : UserId) (d : ℕ) → due j u ≡ Some d → Before first (record { due = d; user = u })) → first_due j ≡ Some first
unfolding first_due
first_due-least j first is least =
    let there = due-within j first.user first.due is in
    by (filter_map (due_user j) (users j)) (dues_hold (Before first) j least (users j)) (dues-ascend j 1 (length (people j)))
    (λ P all. among_users P j 1 (length (people j)) all first.user.0 first.due (omega (arith, there.0)) (omega (arith, there.1)) is)
  where
    by : (ds : List DueUser) → AllByRecursion (Before first) ds → Ascends (λ d. d.user.0) ds → ((P : DueUser → Type 0) → AllByRecursion P ds → P first) → reduce sooner ds ≡ Some first
    by [] low up among = absurd (among (λ _. ⊥) tt)
    by (d ∷ ds) low up among =
        let chosen = fold sooner d ds in
        ap Some (before-both chosen first (among (Before chosen) (first-before d ds up.0 up.1)) (fold-holds (Before first) sooner (sooner-holds (Before first)) d ds low.0 low.1))

-- nobody
pub first_due-nobody : (j : List Stamped) → ((u : UserId) → due j u ≡ None) → first_due j ≡ None
unfolding first_due
first_due-nobody j none = ap (reduce sooner) (by (users j))
  where
    by : (us : List UserId) → filter_map (due_user j) us ≡ []
    by [] = refl
    by (u ∷ us) = ap (λ o. cons_option (with_user u o) (filter_map (due_user j) us)) (none u) ∙ by us

not_before : (d e m n : ℕ) → (nat_lt e d || (e == d && nat_lt n m)) ≡ false → (d < e) ⊎ ((d ≡ e) × (m ≤ n))
not_before d e m n h =
    ⊎_elim (λ lt. inl lt) (λ ge. inr (same d e m n ge h, ordered d e m n ge h)) (cases_lt d e)
  where
    same : (d e m n : ℕ) → e ≤ d → (nat_lt e d || (e == d && nat_lt n m)) ≡ false → d ≡ e
    same d e m n ge h = grind (arith, nat_tests)

    ordered : (d e m n : ℕ) → e ≤ d → (nat_lt e d || (e == d && nat_lt n m)) ≡ false → m ≤ n
    ordered d e m n ge h = grind (arith, nat_tests)

-- what was found first among batches with the journal's due moments is due first
pub first_due-batches : (j : List Stamped) (w : Waiting) → ((u : UserId) → due_of w u ≡ due j u) → (o : Option FoundDue) → MatchOption o (w.batches ≡ finite.empty) (IsDueFirst w)
    → option_map (λ (f : FoundDue). let d : DueUser = record { due = f.due; user = f.user } in d) o ≡ first_due j
first_due-batches j w same None empty =
    sym (first_due-nobody j (λ u.
    let none : finite.get w.batches u.0 ≡ None = ap (λ (m : finite.FinMap nat_cmp Batch). finite.get m u.0) empty ∙ get-empty nat_cmp u.0 in
    sym (same u) ∙ ap (option_map (λ (b : Batch). b.due)) none))
first_due-batches j w same (Some f) first =
    sym (first_due-least j (record { due = f.due; user = f.user }) (sym (same f.user) ∙ first.due)
    (λ u d e. not_before f.due d f.user.0 u.0 (first.least u d (same u ∙ e))))
