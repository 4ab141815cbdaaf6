-- Lists whose elements differ from one another, and that no two notices are of one user, message and way.
use Rattle.std.proofs.Common.{◌≡◌, ℕ, zero, suc, ◌+◌, ◌<◌, ◌≤◌, Bool, true, false, ◌&&◌, eqb, cond, List, [], ◌∷◌, ◌++◌, length, map, refl, ap, ◌∙◌, subst, arith}
use Rattle.std.specs.Prelude.{Option, Some, None, option_map, filter, MatchOption}
use Rattle.std.specs.Option.{option_map_or}
use Rattle.std.specs.List.{AllByRecursion, filter_map, flat_map, cons_option, range_with_len}
use Rattle.std.proofs.lemmas.Bool.{ne_eqb}
use Rattle.chat_model.specs.declared.event.Stamped.{Stamped}
use Rattle.chat_model.specs.declared.ids.UserId.{UserId}
use Rattle.chat_model.specs.declared.trigger.Way.{Way}
use Rattle.chat_model.specs.declared.trigger.Way.TheVariants.{Mail, Push}
use Rattle.chat_model.specs.declared.trigger.Trigger.{Trigger}
use Rattle.notice_ledger.specs.Past.Journal.{Occurrence, occurrence}
use Rattle.notice_ledger.specs.Past.Values.{SentMessage, people, message_of, messages, deal_count}
use Rattle.notice_ledger.specs.Past.Triggers.{trigger, came_by}
use Rattle.notice_ledger.specs.Past.Owed.{Notice, is_of, same_way, notice_of, owed_of, owed_by, notices, account_of, is_pending, waiting}
use Rattle.notice_ledger.proofs.Lists.{AllByRecursion-append, AllByRecursion-weaker, AllByRecursion-filter_map, by_appending, AllByRecursion-filter}
use Rattle.notice_ledger.proofs.Appended.{notices-nil, notices-append}
use Rattle.notice_ledger.proofs.Waiting.{IsOwedBy, owed_by-each}
use Rattle.notice_ledger.proofs.Ascending.{notices-numbered}

-- each element stands in R to the elements after it
abbrev pub Pairwise : {X : Type 0} → (X → X → Type 0) → List X → Type 0
Pairwise R [] = Unit {0}
Pairwise R (x ∷ xs) = AllByRecursion (R x) xs × Pairwise R xs

pub Pairwise-append : {X : Type 0} (R : X → X → Type 0) (xs ys : List X) → Pairwise R xs → Pairwise R ys → AllByRecursion (λ x. AllByRecursion (R x) ys) xs → Pairwise R (xs ++ ys)
Pairwise-append R [] ys hx hy across = hy
Pairwise-append R (x ∷ xs) ys hx hy across =
    (AllByRecursion-append (R x) xs ys hx.0 across.0, Pairwise-append R xs ys hx.1 hy across.1)

pub Pairwise-filter : {X : Type 0} (R : X → X → Type 0) (p : X → Bool) (xs : List X) → Pairwise R xs → Pairwise R (filter p xs)
Pairwise-filter R p [] h = tt
Pairwise-filter R p (x ∷ xs) h =
    elim (p x) as (λ b. Pairwise R (cond b (x ∷ filter p xs) (filter p xs))) [
      | true ↦ (AllByRecursion-filter (R x) p xs h.0, Pairwise-filter R p xs h.1)
      | false ↦ Pairwise-filter R p xs h.1
    ]

pub AllByRecursion-map : {X Y : Type 0} (P : Y → Type 0) (f : X → Y) (xs : List X) → AllByRecursion (λ x. P (f x)) xs → AllByRecursion P (map f xs)
AllByRecursion-map P f [] h = tt
AllByRecursion-map P f (x ∷ xs) h = (h.0, AllByRecursion-map P f xs h.1)

pub AllByRecursion-from_all : {X : Type 0} (P : X → Type 0) → ((x : X) → P x) → (xs : List X) → AllByRecursion P xs
AllByRecursion-from_all P h [] = tt
AllByRecursion-from_all P h (x ∷ xs) = (h x, AllByRecursion-from_all P h xs)

pub Pairwise-map : {X Y : Type 0} (R : Y → Y → Type 0) (f : X → Y) (xs : List X) → Pairwise (λ a b. R (f a) (f b)) xs → Pairwise R (map f xs)
Pairwise-map R f [] h = tt
Pairwise-map R f (x ∷ xs) h = (AllByRecursion-map (R (f x)) f xs h.0, Pairwise-map R f xs h.1)

pub Pairwise-weaker : {X : Type 0} (R S : X → X → Type 0) → ((x y : X) → R x y → S x y) → (xs : List X) → Pairwise R xs → Pairwise S xs
Pairwise-weaker R S h [] p = tt
Pairwise-weaker R S h (x ∷ xs) p = (AllByRecursion-weaker (R x) (S x) (h x) xs p.0, Pairwise-weaker R S h xs p.1)

-- two notices are not of one user, message and way
abbrev pub Differ : Notice → Notice → Type 0
Differ a b = is_of a.user a.number a.way b ≡ false

and_no : (b : Bool) → (b && false) ≡ false
and_no true = refl
and_no false = refl

differ_by_user : (a b : Notice) → a.user.0 < b.user.0 → Differ a b
differ_by_user a b h = ap (λ t. t && eqb b.number.0 a.number.0 && same_way b.way a.way) (ne_eqb b.user.0 a.user.0 (λ e. omega arith))

differ_by_number : (a b : Notice) → a.number.0 < b.number.0 → Differ a b
differ_by_number a b h =
    ap (λ t. eqb b.user.0 a.user.0 && t && same_way b.way a.way) (ne_eqb b.number.0 a.number.0 (λ e. omega arith))
    ∙ ap (λ t. t && same_way b.way a.way) (and_no (eqb b.user.0 a.user.0))

-- ---- what one send owes

-- what a send owes is to the user by the way
pub record IsTo (u : UserId) (w : Way) (n : Notice) : Type 0 where
  pub user : n.user ≡ u
  pub way : n.way ≡ w

notice_to : (o : Occurrence) (m : SentMessage) (u : UserId) (w : Way) (t : Option Trigger) (n : Notice) → option_map (λ (t : Trigger). let n : Notice = record {
  user = u;
  number = record { 0 = length (messages o.past) + 1 };
  way = w;
  message = m;
  trigger = t;
  via = came_by o.past m.text u t;
  deal = record { 0 = deal_count o.past };
  owing = o;
} in n) t ≡ Some n → IsTo u w n
notice_to o m u w None n e = absurd (cc)
notice_to o m u w (Some t) n e =
    let P : Option Notice → Type 0 = λ x. MatchOption x (Unit {0}) (IsTo u w) in
    subst P e (record { user = refl; way = refl })

-- what a send owes a user
abbrev owed_to : Occurrence → SentMessage → UserId → List Notice
owed_to o m u = filter_map (notice_of o m u) (Mail ∷ Push ∷ [])

owed_to-user : (o : Occurrence) (m : SentMessage) (u : UserId) → AllByRecursion (λ n. n.user ≡ u) (owed_to o m u)
owed_to-user o m u =
    AllByRecursion-filter_map (λ n. n.user ≡ u) (notice_of o m u) (λ w n e. (notice_to o m u w (trigger o.past m m.text u w) n e).user) (Mail ∷ Push ∷ [])

by_two_ways : (a b : Notice) → a.way ≡ Mail → b.way ≡ Push → Differ a b
by_two_ways a b p q =
    ap (λ v. eqb b.user.0 a.user.0 && eqb b.number.0 a.number.0 && same_way b.way v) p
    ∙ (ap (λ v. eqb b.user.0 a.user.0 && eqb b.number.0 a.number.0 && same_way v Mail) q ∙ and_no (eqb b.user.0 a.user.0 && eqb b.number.0 a.number.0))

two_apart : (x y : Option Notice) → ((n : Notice) → x ≡ Some n → n.way ≡ Mail) → ((n : Notice) → y ≡ Some n → n.way ≡ Push) → Pairwise Differ (cons_option x (cons_option y []))
two_apart None None f g = tt
two_apart None (Some b) f g = (tt, tt)
two_apart (Some a) None f g = (tt, tt)
two_apart (Some a) (Some b) f g = ((by_two_ways a b (f a refl) (g b refl), tt), (tt, tt))

owed_to-apart : (o : Occurrence) (m : SentMessage) (u : UserId) → Pairwise Differ (owed_to o m u)
owed_to-apart o m u =
    two_apart (notice_of o m u Mail) (notice_of o m u Push)
    (λ n e. (notice_to o m u Mail (trigger o.past m m.text u Mail) n e).way)
    (λ n e. (notice_to o m u Push (trigger o.past m m.text u Push) n e).way)

-- what a send owes these users is to users from this one on
owed_from : (o : Occurrence) (m : SentMessage) (low k n : ℕ) → low ≤ k → AllByRecursion (λ a. low ≤ a.user.0) (flat_map (owed_to o m) (map (λ i. record { 0 = i }) (range_with_len k n)))
owed_from o m low k zero h = tt
owed_from o m low k (suc n) h =
    let u : UserId = record { 0 = k } in
    AllByRecursion-append (λ a. low ≤ a.user.0) (owed_to o m u) (flat_map (owed_to o m) (map (λ i. record { 0 = i }) (range_with_len (k + 1) n)))
    (AllByRecursion-weaker (λ a. a.user ≡ u) (λ a. low ≤ a.user.0) (λ a e. let f : a.user.0 ≡ k = ap (λ (v : UserId). v.0) e in omega arith) (owed_to o m u) (owed_to-user o m u))
    (owed_from o m low (k + 1) n (omega arith))

owed_range-apart : (o : Occurrence) (m : SentMessage) (k n : ℕ) → Pairwise Differ (flat_map (owed_to o m) (map (λ i. record { 0 = i }) (range_with_len k n)))
owed_range-apart o m k zero = tt
owed_range-apart o m k (suc n) =
    let u : UserId = record { 0 = k } in
    let later = flat_map (owed_to o m) (map (λ i. record { 0 = i }) (range_with_len (k + 1) n)) in
    Pairwise-append Differ (owed_to o m u) later
    (owed_to-apart o m u)
    (owed_range-apart o m (k + 1) n)
    (AllByRecursion-weaker (λ a. a.user ≡ u) (λ a. AllByRecursion (Differ a) later) (λ a e.
    let f : a.user.0 ≡ k = ap (λ (v : UserId). v.0) e in
    AllByRecursion-weaker (λ b. k + 1 ≤ b.user.0) (Differ a) (λ b le. differ_by_user a b (omega arith)) later (owed_from o m (k + 1) (k + 1) n (omega arith)))
    (owed_to o m u) (owed_to-user o m u))

owed_by-apart : (o : Occurrence) → Pairwise Differ (owed_by o)
owed_by-apart o =
    elim (message_of o) as (λ m. Pairwise Differ (option_map_or (owed_of o) m [])) [
      | None ↦ tt
      | Some m ↦ owed_range-apart o m 1 (length (people o.past))
    ]

-- no two notices are of one user, message and way
pub notices-apart : (j : List Stamped) → Pairwise Differ (notices j)
notices-apart = by_appending (λ j. Pairwise Differ (notices j)) (rw notices-nil tt) (λ j s h.
    rw (notices-append j s) (Pairwise-append Differ (notices j) (owed_by (occurrence j s)) h (owed_by-apart (occurrence j s))
    (AllByRecursion-weaker (λ a. a.number.0 ≤ length (messages j)) (λ a. AllByRecursion (Differ a) (owed_by (occurrence j s))) (λ a le.
    AllByRecursion-weaker (IsOwedBy (occurrence j s)) (Differ a) (λ b i. differ_by_number a b (omega (arith, i.number))) (owed_by (occurrence j s)) (owed_by-each (occurrence j s)))
    (notices j) (notices-numbered j))))

pub waiting-apart : (j : List Stamped) → Pairwise Differ (waiting j)
unfolding waiting
waiting-apart j = Pairwise-filter Differ (λ n. is_pending (account_of j n)) (notices j) (notices-apart j)
