-- The notices that wait after any events stand in the order in which they are kept: by deal, by user, mail before push.
use Rattle.std.proofs.Common.{◌≡◌, ℕ, zero, suc, ◌+◌, ◌<◌, ◌≤◌, Bool, true, ◌&&◌, ◌||◌, ◌==◌, List, [], ◌∷◌, ◌++◌, length, map, refl, sym, ap, ◌∙◌, subst, arith, length-append}
use Rattle.std.specs.Prelude.{Option, Some, None, option_map, option_to_list, is_some, MatchOption, nat_lt}
use Rattle.std.specs.Option.{option_map_or}
use Rattle.std.specs.List.{AllByRecursion, filter_map, flat_map, cons_option, range_with_len}
use Rattle.std.proofs.lemmas.Bool.Decides.{nat_tests}
use Rattle.chat_model.specs.declared.event.Stamped.{Stamped}
use Rattle.chat_model.specs.declared.ids.UserId.{UserId}
use Rattle.chat_model.specs.declared.trigger.Way.{Way}
use Rattle.chat_model.specs.declared.trigger.Way.TheVariants.{Mail, Push}
use Rattle.chat_model.specs.declared.trigger.Trigger.{Trigger}
use Rattle.notice_ledger.specs.Past.Journal.{Occurrence, occurrence}
use Rattle.notice_ledger.specs.Past.Values.{SentMessage, message_of, messages, people, deal_count}
use Rattle.notice_ledger.specs.Past.Triggers.{trigger, came_by}
use Rattle.notice_ledger.specs.Past.Owed.{Notice, notice_of, owed_of, owed_by, notices, ready, was_dealt, cause_of_bar}
use Rattle.notice_ledger.proofs.Lists.{AllByRecursion-append, AllByRecursion-weaker, AllByRecursion-filter, AllByRecursion-filter_map, by_appending}
use Rattle.notice_ledger.proofs.Apart.{Pairwise, Pairwise-append, Pairwise-filter}
use Rattle.notice_ledger.proofs.Appended.{notices-nil, notices-append, messages-append}
use Rattle.notice_ledger.proofs.Sent.{deal_count-messages}
use Rattle.notice_ledger.proofs.Waiting.{IsOwedBy, owed_by-each}
use Rattle.book_tables.proofs.Sought.{all-both}
use Rattle.book_tables.specs.Notices.{rank, Precedes, IsInOrder, AreNumbered}
use Rattle.chat_model.specs.declared.row.Cause.{Cause}
use Rattle.chat_model.specs.declared.row.Stage.{Stage}
use Rattle.chat_model.specs.declared.row.Stage.TheVariants.{Held}
use Rattle.notice_ledger.specs.Past.Pushes.{is_active}
use Rattle.book_tables.specs.Tables.{Holds, stage_by, notice_at, stays, is_live as stays_live}
use Rattle.book_tables.specs.declared.tables.Tables.{Tables}
use Rattle.chat_model.specs.declared.deal.UserVerdict.{UserVerdict}
use Rattle.chat_model.specs.Outcomes.{is_idle, is_live, gives_idle, gives_live}
use Rattle.notice_ledger.specs.Past.Values.{is_one_of}
use Rattle.std.proofs.Common.{cond, false}
use Rattle.std.specs.Prelude.{filter}
use Rattle.std.proofs.Math.Bool.{and-true, and-false}

abbrev is_less : ℕ → ℕ → ℕ → ℕ → ℕ → ℕ → Bool
is_less k u r l v q = nat_lt k l || (k == l && (nat_lt u v || (u == v && nat_lt r q)))

-- the one notice stands before the other
abbrev Comes : Notice → Notice → Type 0
Comes a b = is_less a.deal.0 a.user.0 (rank a.way) b.deal.0 b.user.0 (rank b.way) ≡ true

by_deal : (k u r l v q : ℕ) → k < l → is_less k u r l v q ≡ true
by_deal k u r l v q h = grind (arith, nat_tests)

by_user : (k u r l v q : ℕ) → k ≡ l → u < v → is_less k u r l v q ≡ true
by_user k u r l v q e h = grind (arith, nat_tests)

by_way : (k u l v : ℕ) → k ≡ l → u ≡ v → is_less k u 0 l v 1 ≡ true
by_way k u l v e f = grind (arith, nat_tests)

-- what a send owes by its deal, user and way
record IsTo (o : Occurrence) (u : UserId) (w : Way) (n : Notice) : Type 0 where
  deal : n.deal.0 ≡ deal_count o.past
  user : n.user.0 ≡ u.0
  way : n.way ≡ w

notice_to : (o : Occurrence) (m : SentMessage) (u : UserId) (w : Way) (t : Option Trigger) (n : Notice) → option_map (λ (t : Trigger). let n : Notice = record {
  user = u;
  number = record { 0 = length (messages o.past) + 1 };
  way = w;
  message = m;
  trigger = t;
  via = came_by o.past m.text u t;
  deal = record { 0 = deal_count o.past };
  owing = o;
} in n) t ≡ Some n → IsTo o u w n
notice_to o m u w None n e = absurd (cc)
notice_to o m u w (Some t) n e =
    let P : Option Notice → Type 0 = λ x. MatchOption x (Unit {0}) (IsTo o u w) in
    subst P e (record { deal = refl; user = refl; way = refl })

abbrev owed_to : Occurrence → SentMessage → UserId → List Notice
owed_to o m u = filter_map (notice_of o m u) (Mail ∷ Push ∷ [])

-- a notice of the event to this user
record IsToUser (o : Occurrence) (u : UserId) (n : Notice) : Type 0 where
  deal : n.deal.0 ≡ deal_count o.past
  user : n.user.0 ≡ u.0

owed_to-each : (o : Occurrence) (m : SentMessage) (u : UserId) → AllByRecursion (IsToUser o u) (owed_to o m u)
owed_to-each o m u =
    AllByRecursion-filter_map (IsToUser o u) (notice_of o m u) (λ w n e. let it = notice_to o m u w (trigger o.past m m.text u w) n e in record { deal = it.deal; user = it.user }) (Mail ∷ Push ∷ [])

mail_first : (o : Occurrence) (u : UserId) (a b : Notice) → IsTo o u Mail a → IsTo o u Push b → Comes a b
mail_first o u a b ha hb =
    (λ i. is_less a.deal.0 a.user.0 (rank (ha.way i)) b.deal.0 b.user.0 (rank (hb.way i)))
    ∙ by_way a.deal.0 a.user.0 b.deal.0 b.user.0 (ha.deal ∙ sym hb.deal) (ha.user ∙ sym hb.user)

two_in_order : (o : Occurrence) (u : UserId) (x y : Option Notice) → ((n : Notice) → x ≡ Some n → IsTo o u Mail n) → ((n : Notice) → y ≡ Some n → IsTo o u Push n) → Pairwise Comes (cons_option x (cons_option y []))
two_in_order o u None None f g = tt
two_in_order o u None (Some b) f g = (tt, tt)
two_in_order o u (Some a) None f g = (tt, tt)
two_in_order o u (Some a) (Some b) f g = ((mail_first o u a b (f a refl) (g b refl), tt), (tt, tt))

owed_to-ordered : (o : Occurrence) (m : SentMessage) (u : UserId) → Pairwise Comes (owed_to o m u)
owed_to-ordered o m u =
    two_in_order o u (notice_of o m u Mail) (notice_of o m u Push)
    (λ n e. notice_to o m u Mail (trigger o.past m m.text u Mail) n e)
    (λ n e. notice_to o m u Push (trigger o.past m m.text u Push) n e)

-- a notice of the event to a user from a number on
record IsFrom (o : Occurrence) (low : ℕ) (n : Notice) : Type 0 where
  deal : n.deal.0 ≡ deal_count o.past
  user : low ≤ n.user.0

owed_from : (o : Occurrence) (m : SentMessage) (low k n : ℕ) → low ≤ k → AllByRecursion (IsFrom o low) (flat_map (owed_to o m) (map (λ i. record { 0 = i }) (range_with_len k n)))
owed_from o m low k zero h = tt
owed_from o m low k (suc n) h =
    let u : UserId = record { 0 = k } in
    AllByRecursion-append (IsFrom o low) (owed_to o m u) (flat_map (owed_to o m) (map (λ i. record { 0 = i }) (range_with_len (k + 1) n)))
    (AllByRecursion-weaker (IsToUser o u) (IsFrom o low) (λ a it. record { deal = it.deal; user = omega (arith, it.user) }) (owed_to o m u) (owed_to-each o m u))
    (owed_from o m low (k + 1) n (omega arith))

owed_range-ordered : (o : Occurrence) (m : SentMessage) (k n : ℕ) → Pairwise Comes (flat_map (owed_to o m) (map (λ i. record { 0 = i }) (range_with_len k n)))
owed_range-ordered o m k zero = tt
owed_range-ordered o m k (suc n) =
    let u : UserId = record { 0 = k } in
    let later = flat_map (owed_to o m) (map (λ i. record { 0 = i }) (range_with_len (k + 1) n)) in
    Pairwise-append Comes (owed_to o m u) later
    (owed_to-ordered o m u)
    (owed_range-ordered o m (k + 1) n)
    (AllByRecursion-weaker (IsToUser o u) (λ a. AllByRecursion (Comes a) later) (λ a it.
    AllByRecursion-weaker (IsFrom o (k + 1)) (Comes a) (λ b from. by_user a.deal.0 a.user.0 (rank a.way) b.deal.0 b.user.0 (rank b.way) (it.deal ∙ sym from.deal) (omega (arith, it.user, from.user)))
    later (owed_from o m (k + 1) (k + 1) n (omega arith))) (owed_to o m u) (owed_to-each o m u))

owed_by-ordered : (o : Occurrence) → Pairwise Comes (owed_by o)
owed_by-ordered o =
    elim (message_of o) as (λ m. Pairwise Comes (option_map_or (owed_of o) m [])) [
      | None ↦ tt
      | Some m ↦ owed_range-ordered o m 1 (length (people o.past))
    ]

-- the deal of what an event owes is the next one
owed_by-deal : (o : Occurrence) → AllByRecursion (λ n. n.deal.0 ≡ deal_count o.past) (owed_by o)
owed_by-deal o =
    elim (message_of o) as (λ m. AllByRecursion (λ n. n.deal.0 ≡ deal_count o.past) (option_map_or (owed_of o) m [])) [
      | None ↦ tt
      | Some m ↦ AllByRecursion-weaker (IsFrom o 1) (λ n. n.deal.0 ≡ deal_count o.past) (λ n it. it.deal)
          (flat_map (owed_to o m) (map (λ i. record { 0 = i }) (range_with_len 1 (length (people o.past))))) (owed_from o m 1 1 (length (people o.past)) (omega arith))
    ]

length_sent : (j : List Stamped) (s : Stamped) → length (messages (j ++ s ∷ [])) ≡ length (messages j) + length (option_to_list (message_of (occurrence j s)))
length_sent j s = ap length (messages-append j s) ∙ length-append (messages j) (option_to_list (message_of (occurrence j s)))

-- an event that owes anything makes the next deal
owed_below : (j : List Stamped) (s : Stamped) → AllByRecursion (λ n. n.deal.0 < deal_count (j ++ s ∷ [])) (owed_by (occurrence j s))
owed_below j s = by (message_of (occurrence j s)) refl
  where
    by : (m : Option SentMessage) → message_of (occurrence j s) ≡ m → AllByRecursion (λ n. n.deal.0 < deal_count (j ++ s ∷ [])) (option_map_or (owed_of (occurrence j s)) m [])
    by None e = tt
    by (Some m) e =
        let more : length (messages (j ++ s ∷ [])) ≡ length (messages j) + 1 = length_sent j s ∙ ap (λ (o : Option SentMessage). length (messages j) + length (option_to_list o)) e in
        let each : AllByRecursion (λ n. n.deal.0 ≡ deal_count j) (owed_of (occurrence j s) m) = subst (λ (x : Option SentMessage). AllByRecursion (λ n. n.deal.0 ≡ deal_count j) (option_map_or (owed_of (occurrence j s)) x [])) e (owed_by-deal (occurrence j s)) in
        AllByRecursion-weaker (λ n. n.deal.0 ≡ deal_count j) (λ n. n.deal.0 < deal_count (j ++ s ∷ [])) (λ n it. omega (arith, it, more, deal_count-messages j, deal_count-messages (j ++ s ∷ []))) (owed_of (occurrence j s) m) each

one_at_most : (j : List Stamped) (s : Stamped) → deal_count j ≤ deal_count (j ++ s ∷ [])
one_at_most j s = omega (arith, length_sent j s, deal_count-messages j, deal_count-messages (j ++ s ∷ []))

notices-dealt : (j : List Stamped) → AllByRecursion (λ n. n.deal.0 < deal_count j) (notices j)
notices-dealt = by_appending (λ j. AllByRecursion (λ n. n.deal.0 < deal_count j) (notices j)) (rw notices-nil tt) (λ j s h.
    rw (notices-append j s) (AllByRecursion-append (λ n. n.deal.0 < deal_count (j ++ s ∷ [])) (notices j) (owed_by (occurrence j s))
    (AllByRecursion-weaker (λ n. n.deal.0 < deal_count j) (λ n. n.deal.0 < deal_count (j ++ s ∷ [])) (λ n lt. omega (arith, one_at_most j s)) (notices j) h)
    (owed_below j s)))

notices-ordered : (j : List Stamped) → Pairwise Comes (notices j)
notices-ordered = by_appending (λ j. Pairwise Comes (notices j)) (rw notices-nil tt) (λ j s h.
    rw (notices-append j s) (Pairwise-append Comes (notices j) (owed_by (occurrence j s)) h (owed_by-ordered (occurrence j s))
    (AllByRecursion-weaker (λ a. a.deal.0 < deal_count j) (λ a. AllByRecursion (Comes a) (owed_by (occurrence j s))) (λ a lt.
    AllByRecursion-weaker (λ b. b.deal.0 ≡ deal_count j) (Comes a) (λ b it. by_deal a.deal.0 a.user.0 (rank a.way) b.deal.0 b.user.0 (rank b.way) (omega (arith, it))) (owed_by (occurrence j s)) (owed_by-deal (occurrence j s)))
    (notices j) (notices-dealt j))))

-- some notices, each at a stage and with a cause, stand in order
pub some-ordered : (g : Notice → Stage) (c : Notice → Option Cause) (test : Notice → Bool) (j : List Stamped) → IsInOrder (map (λ n. notice_at (g n) (c n) n) (filter test (notices j)))
some-ordered g c test j = each (filter test (notices j)) (Pairwise-filter Comes test (notices j) (notices-ordered j))
  where
    all_behind : (a : Notice) (ns : List Notice) → AllByRecursion (Comes a) ns → AllByRecursion (Precedes (notice_at (g a) (c a) a)) (map (λ n. notice_at (g n) (c n) n) ns)
    all_behind a [] all = tt
    all_behind a (n ∷ ns) all = (all.0, all_behind a ns all.1)

    each : (ns : List Notice) → Pairwise Comes ns → IsInOrder (map (λ n. notice_at (g n) (c n) n) ns)
    each [] p = tt
    each (n ∷ ns) p = (all_behind n ns p.0, each ns p.1)

-- each notice is of the message of its deal
notices-numbered : (j : List Stamped) → AllByRecursion (λ n. n.number.0 ≡ n.deal.0 + 1) (notices j)
notices-numbered = by_appending (λ j. AllByRecursion (λ n. n.number.0 ≡ n.deal.0 + 1) (notices j)) (rw notices-nil tt) (λ j s h.
    rw (notices-append j s) (AllByRecursion-append (λ n. n.number.0 ≡ n.deal.0 + 1) (notices j) (owed_by (occurrence j s)) h
    (all-both (IsOwedBy (occurrence j s)) (λ n. n.deal.0 ≡ deal_count j) (λ n. n.number.0 ≡ n.deal.0 + 1) (λ n owed dealt. omega (arith, owed.number, dealt, deal_count-messages j))
    (owed_by (occurrence j s)) (owed_by-each (occurrence j s)) (owed_by-deal (occurrence j s)))))

pub some-numbered : (g : Notice → Stage) (c : Notice → Option Cause) (test : Notice → Bool) (j : List Stamped) → AreNumbered (map (λ n. notice_at (g n) (c n) n) (filter test (notices j)))
some-numbered g c test j = each (filter test (notices j)) (AllByRecursion-filter (λ n. n.number.0 ≡ n.deal.0 + 1) test (notices j) (notices-numbered j))
  where
    each : (ns : List Notice) → AllByRecursion (λ n. n.number.0 ≡ n.deal.0 + 1) ns → AreNumbered (map (λ n. notice_at (g n) (c n) n) ns)
    each [] all = tt
    each (n ∷ ns) all = (all.0, each ns all.1)

-- so the tables keep them in order
abbrev stage_so : List Stamped → Notice → Stage
stage_so j n = stage_by (was_dealt j n) (is_some (ready j n))

pub in_order : (t : Tables) (j : List Stamped) → Holds t j → IsInOrder t.waiting.items
in_order t j holds = subst IsInOrder (sym holds.waiting) (some-ordered (stage_so j) (cause_of_bar j) (stays j) j)

pub numbered_so : (t : Tables) (j : List Stamped) → Holds t j → AreNumbered t.waiting.items
numbered_so t j holds = subst AreNumbered (sym holds.waiting) (some-numbered (stage_so j) (cause_of_bar j) (stays j) j)

pub cleared_in_order : (t : Tables) (j : List Stamped) → Holds t j → IsInOrder t.cleared.items
cleared_in_order t j holds = subst IsInOrder (sym holds.cleared) (some-ordered (λ n. Held) (λ n. None) (stays_live j) j)

pub cleared_numbered_so : (t : Tables) (j : List Stamped) → Holds t j → AreNumbered t.cleared.items
cleared_numbered_so t j holds = subst AreNumbered (sym holds.cleared) (some-numbered (λ n. Held) (λ n. None) (stays_live j) j)

pub active_in_order : (t : Tables) (j : List Stamped) → Holds t j → IsInOrder t.active.items
active_in_order t j holds = subst IsInOrder (sym holds.active) (some-ordered (stage_so j) (cause_of_bar j) (is_active j) j)

pub active_numbered_so : (t : Tables) (j : List Stamped) → Holds t j → AreNumbered t.active.items
active_numbered_so t j holds = subst AreNumbered (sym holds.active) (some-numbered (stage_so j) (cause_of_bar j) (is_active j) j)

-- ---- verdicts

-- who was found idle, and who live
pub given_idle : (verdicts : List UserVerdict) (u : UserId) → is_one_of (map (λ v. v.user) (filter (λ v. is_idle v.verdict) verdicts)) u ≡ gives_idle verdicts u
given_idle [] u = refl
given_idle (v ∷ vs) u = by (is_idle v.verdict) ∙ ap (λ b. (v.user.0 == u.0 && is_idle v.verdict) || b) (given_idle vs u)
  where
    by : (b : Bool) → is_one_of (map (λ v. v.user) (cond b (v ∷ filter (λ v. is_idle v.verdict) vs) (filter (λ v. is_idle v.verdict) vs))) u ≡ ((v.user.0 == u.0 && b) || is_one_of (map (λ v. v.user) (filter (λ v. is_idle v.verdict) vs)) u)
    by true = ap (λ b. b || is_one_of (map (λ v. v.user) (filter (λ v. is_idle v.verdict) vs)) u) (sym (and-true (v.user.0 == u.0)))
    by false = ap (λ b. b || is_one_of (map (λ v. v.user) (filter (λ v. is_idle v.verdict) vs)) u) (sym (and-false (v.user.0 == u.0)))

pub given_live : (verdicts : List UserVerdict) (u : UserId) → is_one_of (map (λ v. v.user) (filter (λ v. is_live v.verdict) verdicts)) u ≡ gives_live verdicts u
given_live [] u = refl
given_live (v ∷ vs) u = by (is_live v.verdict) ∙ ap (λ b. (v.user.0 == u.0 && is_live v.verdict) || b) (given_live vs u)
  where
    by : (b : Bool) → is_one_of (map (λ v. v.user) (cond b (v ∷ filter (λ v. is_live v.verdict) vs) (filter (λ v. is_live v.verdict) vs))) u ≡ ((v.user.0 == u.0 && b) || is_one_of (map (λ v. v.user) (filter (λ v. is_live v.verdict) vs)) u)
    by true = ap (λ b. b || is_one_of (map (λ v. v.user) (filter (λ v. is_live v.verdict) vs)) u) (sym (and-true (v.user.0 == u.0)))
    by false = ap (λ b. b || is_one_of (map (λ v. v.user) (filter (λ v. is_live v.verdict) vs)) u) (sym (and-false (v.user.0 == u.0)))
