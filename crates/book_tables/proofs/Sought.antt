-- The notices that wait in their order: what a binary search finds, and what a change of what it found makes of the list.
use Rattle.std.proofs.Common.{subst, ◌≡◌, ℕ, zero, suc, ◌+◌, ◌-◌, ◌<◌, ◌≤◌, Bool, true, false, ◌&&◌, ◌||◌, ◌==◌, not, cond, List, [], ◌∷◌, ◌++◌, length, map, take, drop, get_or, set, Some, refl, sym, ap, ◌∙◌, inl, inr, arith}
use Rattle.std.specs.Prelude.{IsPermutation, filter, slice_get, nat_lt, nat_le}
use Rattle.std.specs.List.{AllByRecursion, AllWithin, flat_map, list_any}
use Rattle.std.specs.List.Sorted.{IsPartitionedBy, IsPartitionPoint, IsNonDecreasingBy}
use Rattle.std.proofs.lemmas.Bool.{eq-eqb, eqb-true, false≢true}
use Rattle.std.proofs.lemmas.Bool.Decides.{nat_tests}
use Rattle.chat_model.specs.declared.ids.DealNo.{DealNo}
use Rattle.chat_model.specs.declared.ids.MessageId.{MessageId}
use Rattle.chat_model.specs.declared.ids.UserId.{UserId}
use Rattle.chat_model.specs.declared.trigger.Way.{Way}
use Rattle.chat_model.specs.declared.trigger.Way.TheVariants.{Mail, Push}
use Rattle.chat_model.specs.Outcomes.{has_deal}
use Rattle.std.proofs.Common.{eqb}
use Rattle.std.proofs.lemmas.List.{append-nil, append_assoc, map-append, take-append-drop, drop-drop, get_or-drop, length-take, length-drop}
use Rattle.std.proofs.lemmas.List.Elements.{filter-append}
use Rattle.std.proofs.lemmas.List.Sorted.{list_any-IsPermutation}
use Rattle.std.proofs.Math.Bool.{and-true}
use Rattle.notice_ledger.proofs.Lists.{filter_same}
use Rattle.book_tables.proofs.Permuted.{Has, has-all}
use Rattle.notice_ledger.proofs.Lists.{AllByRecursion-weaker, filter-filter, filter_all, filter_same_where}
use Rattle.chat_model.specs.declared.row.Stage.{Stage}
use Rattle.chat_model.specs.declared.row.Stage.TheVariants.{Flight, Held, Ready}
use Rattle.book_tables.specs.declared.tables.Waiting.{Waiting}
use Rattle.book_tables.specs.Notices.{rank, is_ready, is_ready_mail_to, is_before, is_at, is_undecided, is_undecided_at, is_ready_of, is_batch_row, is_one_batch_row, is_named, named_by, ready_if, readied_if, Precedes, IsInOrder, AreNumbered, NonePasses, IsOnly, IsStretchOf}
use Rattle.book_tables.specs.Batched.{messages_to}

-- ---- the order of deals, users and ways

abbrev is_less : ℕ → ℕ → ℕ → ℕ → ℕ → ℕ → Bool
is_less k u r l v q = nat_lt k l || (k == l && (nat_lt u v || (u == v && nat_lt r q)))

less-then : (k u r l v q m w p : ℕ) → is_less k u r l v q ≡ true → is_less l v q m w p ≡ true → is_less k u r m w p ≡ true
less-then k u r l v q m w p h g = grind (arith, nat_tests)

less-apart : (k u r l v q : ℕ) → is_less k u r l v q ≡ true → (k == l && (u == v && r == q)) ≡ false
less-apart k u r l v q h = grind (arith, nat_tests)

-- what stands behind one that isn't before a place isn't at it
behind-apart : (k u r l v q m w p : ℕ) → is_less k u r l v q ≡ true → is_less k u r m w p ≡ false → (l == m && (v == w && q == p)) ≡ false
behind-apart k u r l v q m w p h g = grind (arith, nat_tests)

less-deal : (k u r l v q : ℕ) → is_less k u r l v q ≡ true → k ≤ l
less-deal k u r l v q h = grind (arith, nat_tests)

-- ---- lists

all_at : {X : Type 0} (P : X → Type 0) (xs : List X) → AllByRecursion P xs → (i : ℕ) (d : X) → i < length xs → P (get_or xs i d)
all_at P [] all i d lt = absurd (omega arith)
all_at P (x ∷ xs) all zero d lt = all.0
all_at P (x ∷ xs) all (suc i) d lt = all_at P xs all.1 i d (omega arith)

-- what stands at a place, with whatever default
pub got : {X : Type 0} (xs : List X) (i : ℕ) (x d : X) → slice_get xs i ≡ Some x → get_or xs i d ≡ x
got [] i x d at = absurd (cc)
got (y ∷ ys) zero x d at = cc
got (y ∷ ys) (suc i) x d at = got ys i x d at

pub gets : {X : Type 0} (xs : List X) (i : ℕ) (d : X) → i < length xs → slice_get xs i ≡ Some (get_or xs i d)
gets [] i d lt = absurd (omega arith)
gets (y ∷ ys) zero d lt = refl
gets (y ∷ ys) (suc i) d lt = gets ys i d (omega arith)

pub none-there : {X : Type 0} (xs : List X) (i : ℕ) (x : X) → length xs ≤ i → slice_get xs i ≡ Some x → ⊥
none-there [] i x le at = cc
none-there (y ∷ ys) zero x le at = absurd (omega arith)
none-there (y ∷ ys) (suc i) x le at = none-there ys i x (omega arith) at

-- something stands at a place within the list
pub at_place : {X Q : Type 0} (xs : List X) (i : ℕ) → i < length xs → ((x : X) → slice_get xs i ≡ Some x → Q) → Q
at_place [] i lt f = absurd (omega arith)
at_place (y ∷ ys) zero lt f = f y refl
at_place (y ∷ ys) (suc i) lt f = at_place ys i (omega arith) f

-- ---- the search for one notice

-- what stands before a place stands in front of the others
pub before-partitioned : (k : DealNo) (u : UserId) (way : Way) (ws : List Waiting) → IsInOrder ws → IsPartitionedBy (is_before k u way) ws
before-partitioned k u way [] order i j d le lt p = absurd (omega arith)
before-partitioned k u way (w ∷ ws) order zero zero d le lt p = p
before-partitioned k u way (w ∷ ws) order (suc i) zero d le lt p = absurd (omega arith)
before-partitioned k u way (w ∷ ws) order (suc i) (suc j) d le lt p = before-partitioned k u way ws order.1 i j d (omega arith) (omega arith) p
before-partitioned k u way (w ∷ ws) order zero (suc j) d le lt p =
    let v = get_or ws j d in
    less-then w.deal.0 w.user.0 (rank w.way) v.deal.0 v.user.0 (rank v.way) k.0 u.0 (rank way) (all_at (Precedes w) ws order.0 j d (omega arith)) p

-- none is at a place behind one that isn't before it
none_behind : (k : DealNo) (u : UserId) (way : Way) (w : Waiting) → is_before k u way w ≡ false → (ws : List Waiting) → AllByRecursion (Precedes w) ws → NonePasses (is_at k u way) ws
none_behind k u way w h ws all =
    AllByRecursion-weaker (Precedes w) (λ v. is_at k u way v ≡ false) (λ v p. behind-apart w.deal.0 w.user.0 (rank w.way) v.deal.0 v.user.0 (rank v.way) k.0 u.0 (rank way) p h) ws all

and-left : (a b : Bool) → a ≡ false → (a && b) ≡ false
and-left true b h = absurd (cc)
and-left false b h = refl

abbrev IsPoint : (Waiting → Bool) → List Waiting → ℕ → Type 0
IsPoint p ws i = IsPartitionPoint (λ w. p w ≡ true) (λ w. p w ≡ false) ws i

point-next : (p : Waiting → Bool) (w : Waiting) (ws : List Waiting) (i : ℕ) → IsPoint p (w ∷ ws) (suc i) → (p w ≡ true) × IsPoint p ws i
point-next p w ws i point = (
  point.0 0 w (omega arith) (omega arith),
  (λ n d low high. point.0 (suc n) d (omega arith) (omega arith), λ n d low high. point.1 (suc n) d (omega arith) (omega arith)),
)

-- the one at the place where those before it end is the one sought, or none is
pub found-at : (k : DealNo) (u : UserId) (way : Way) (ws : List Waiting) (i : ℕ) (w : Waiting) → IsInOrder ws → IsPoint (is_before k u way) ws i → slice_get ws i ≡ Some w → is_at k u way w ≡ true → IsOnly (is_at k u way) ws i
found-at k u way [] i w order point at passes = absurd (cc)
found-at k u way (v ∷ ws) zero w order point at passes =
    let same : v ≡ w = cc in
    (ap (is_at k u way) same ∙ passes, none_behind k u way v (point.1 0 v (omega arith) (omega arith)) ws order.0)
found-at k u way (v ∷ ws) (suc i) w order point at passes =
    let next = point-next (is_before k u way) v ws i point in (
      less-apart v.deal.0 v.user.0 (rank v.way) k.0 u.0 (rank way) next.0,
      found-at k u way ws i w order.1 next.1 at passes,
    )

pub none-at : (k : DealNo) (u : UserId) (way : Way) (ws : List Waiting) (i : ℕ) → IsInOrder ws → IsPoint (is_before k u way) ws i → ((w : Waiting) → slice_get ws i ≡ Some w → is_at k u way w ≡ false) → NonePasses (is_at k u way) ws
none-at k u way [] i order point other = tt
none-at k u way (v ∷ ws) zero order point other = (other v refl, none_behind k u way v (point.1 0 v (omega arith) (omega arith)) ws order.0)
none-at k u way (v ∷ ws) (suc i) order point other =
    let next = point-next (is_before k u way) v ws i point in (
      less-apart v.deal.0 v.user.0 (rank v.way) k.0 u.0 (rank way) next.0,
      none-at k u way ws i order.1 next.1 other,
    )

-- ---- what passes a second test too

and-both : (a b : Bool) → a ≡ true → b ≡ true → (a && b) ≡ true
and-both a b h g = (λ n. h n && g n)

and-right : (a b : Bool) → b ≡ false → (a && b) ≡ false
and-right true b h = h
and-right false b h = refl

pub none-both : (p q : Waiting → Bool) (ws : List Waiting) → NonePasses p ws → NonePasses (λ w. p w && q w) ws
none-both p q ws none = AllByRecursion-weaker (λ w. p w ≡ false) (λ w. (p w && q w) ≡ false) (λ w h. and-left (p w) (q w) h) ws none

pub only-both : (p q : Waiting → Bool) (ws : List Waiting) (i : ℕ) (d : Waiting) → IsOnly p ws i → q (get_or ws i d) ≡ true → IsOnly (λ w. p w && q w) ws i
only-both p q [] i d only passes = absurd only
only-both p q (v ∷ ws) zero d only passes = (and-both (p v) (q v) only.0 passes, none-both p q ws only.1)
only-both p q (v ∷ ws) (suc i) d only passes = (and-left (p v) (q v) only.0, only-both p q ws i d only.1 passes)

pub none-second : (p q : Waiting → Bool) (ws : List Waiting) (i : ℕ) (d : Waiting) → IsOnly p ws i → q (get_or ws i d) ≡ false → NonePasses (λ w. p w && q w) ws
none-second p q [] i d only fails = absurd only
none-second p q (v ∷ ws) zero d only fails = (and-right (p v) (q v) fails, none-both p q ws only.1)
none-second p q (v ∷ ws) (suc i) d only fails = (and-left (p v) (q v) only.0, none-second p q ws i d only.1 fails)

-- the only one that passes does
pub only-passes : (p : Waiting → Bool) (ws : List Waiting) (i : ℕ) (w : Waiting) → IsOnly p ws i → slice_get ws i ≡ Some w → p w ≡ true
only-passes p [] i w only at = absurd only
only-passes p (v ∷ ws) zero w only at = let same : v ≡ w = cc in sym (ap p same) ∙ only.0
only-passes p (v ∷ ws) (suc i) w only at = only-passes p ws i w only.1 at

-- it is by the way that is sought
pub way-sought : (k : DealNo) (u : UserId) (way : Way) (w : Waiting) → is_undecided_at k u way w ≡ true → rank w.way ≡ rank way
way-sought k u way w passes = eqb-true (rank w.way) (rank way) (last (w.deal.0 == k.0) (w.user.0 == u.0) (rank w.way == rank way) (is_undecided w) passes)
  where
    last : (a b c d : Bool) → ((a && (b && c)) && d) ≡ true → c ≡ true
    last true true true d h = refl
    last true true false d h = absurd (cc)
    last true false c d h = absurd (cc)
    last false b c d h = absurd (cc)

-- tests that agree on all find the same
pub none-same : (p q : Waiting → Bool) (ws : List Waiting) → AllByRecursion (λ w. p w ≡ q w) ws → NonePasses p ws → NonePasses q ws
none-same p q [] same none = tt
none-same p q (v ∷ ws) same none = (sym same.0 ∙ none.0, none-same p q ws same.1 none.1)

pub only-same : (p q : Waiting → Bool) (ws : List Waiting) (i : ℕ) → AllByRecursion (λ w. p w ≡ q w) ws → IsOnly p ws i → IsOnly q ws i
only-same p q [] i same only = absurd only
only-same p q (v ∷ ws) zero same only = (sym same.0 ∙ only.0, none-same p q ws same.1 only.1)
only-same p q (v ∷ ws) (suc i) same only = (sym same.0 ∙ only.0, only-same p q ws i same.1 only.1)

-- ---- the stretch of a deal

pub deals-ascend : (ws : List Waiting) → IsInOrder ws → IsNonDecreasingBy (λ w. w.deal.0) ws
deals-ascend [] order i j d le lt = absurd (omega arith)
deals-ascend (w ∷ ws) order zero zero d le lt = omega arith
deals-ascend (w ∷ ws) order zero (suc j) d le lt =
    let v = get_or ws j d in less-deal w.deal.0 w.user.0 (rank w.way) v.deal.0 v.user.0 (rank v.way) (all_at (Precedes w) ws order.0 j d (omega arith))
deals-ascend (w ∷ ws) order (suc i) zero d le lt = absurd (omega arith)
deals-ascend (w ∷ ws) order (suc i) (suc j) d le lt = deals-ascend ws order.1 i j d (omega arith) (omega arith)

-- what holds up to a place, and from it on
pub within-take : {X : Type 0} (P : X → Type 0) (xs : List X) (i : ℕ) → i ≤ length xs → AllWithin P xs 0 i → AllByRecursion P (take i xs)
within-take P xs zero le h = tt
within-take P [] (suc i) le h = tt
within-take P (x ∷ xs) (suc i) le h = (h 0 x (omega arith) (omega arith), within-take P xs i (omega arith) (λ n d low high. h (suc n) d (omega arith) (omega arith)))

pub within-drop : {X : Type 0} (P : X → Type 0) (xs : List X) (i : ℕ) → AllWithin P xs i (length xs) → AllByRecursion P (drop i xs)
within-drop P [] zero h = tt
within-drop P [] (suc i) h = tt
within-drop P (x ∷ xs) zero h = (h 0 x (omega arith) (omega arith), within-drop P xs 0 (λ n d low high. h (suc n) d (omega arith) (omega arith)))
within-drop P (x ∷ xs) (suc i) h = within-drop P xs i (λ n d low high. h (suc n) d (omega arith) (omega arith))

pub all-take : {X : Type 0} (P : X → Type 0) (xs : List X) (i : ℕ) → AllByRecursion P xs → AllByRecursion P (take i xs)
all-take P xs zero all = tt
all-take P [] (suc i) all = tt
all-take P (x ∷ xs) (suc i) all = (all.0, all-take P xs i all.1)

pub all-both : {X : Type 0} (P Q R : X → Type 0) → ((x : X) → P x → Q x → R x) → (xs : List X) → AllByRecursion P xs → AllByRecursion Q xs → AllByRecursion R xs
all-both P Q R f [] p q = tt
all-both P Q R f (x ∷ xs) p q = (f x p.0 q.0, all-both P Q R f xs p.1 q.1)

pub deal_below : (n k : ℕ) → nat_lt n k ≡ true → (n == k) ≡ false
deal_below n k h = grind (arith, nat_tests)

pub deal_above : (n k : ℕ) → nat_le n k ≡ false → (n == k) ≡ false
deal_above n k h = grind (arith, nat_tests)

pub deal_there : (n k : ℕ) → nat_lt n k ≡ false → nat_le n k ≡ true → (n == k) ≡ true
deal_there n k h g = grind (arith, nat_tests)

-- ---- what a change makes of the list

pub none-changed : (test : Waiting → Bool) (f : Waiting → Waiting) (ws : List Waiting) → NonePasses test ws → map (λ v. cond (test v) (f v) v) ws ≡ ws
none-changed test f [] none = refl
none-changed test f (v ∷ ws) none = (λ n. cond (none.0 n) (f v) v ∷ none-changed test f ws none.1 n)

-- the only notice that passes a test changes
pub set-only : (test : Waiting → Bool) (f : Waiting → Waiting) (ws : List Waiting) (i : ℕ) (x w : Waiting) → IsOnly test ws i → x ≡ get_or ws i x → w ≡ f x → set ws i w ≡ map (λ v. cond (test v) (f v) v) ws
set-only test f [] i x w only at is = absurd only
set-only test f (v ∷ ws) zero x w only at is = (λ n. ((is ∙ ap f at) ∙ ap (λ b. cond b (f v) v) (sym only.0)) n ∷ sym (none-changed test f ws only.1) n)
set-only test f (v ∷ ws) (suc i) x w only at is = (λ n. cond (sym only.0 n) (f v) v ∷ set-only test f ws i x w only.1 at is n)

pub none-gone : (test : Waiting → Bool) (ws : List Waiting) → NonePasses test ws → filter (λ w. not (test w)) ws ≡ ws
none-gone test [] none = refl
none-gone test (v ∷ ws) none = ap (λ b. cond (not b) (v ∷ filter (λ w. not (test w)) ws) (filter (λ w. not (test w)) ws)) none.0 ∙ ap (λ vs. v ∷ vs) (none-gone test ws none.1)

-- it goes
pub remove-only : (test : Waiting → Bool) (ws : List Waiting) (i : ℕ) → IsOnly test ws i → take i ws ++ drop (i + 1) ws ≡ filter (λ w. not (test w)) ws
remove-only test [] i only = absurd only
remove-only test (v ∷ ws) zero only = sym (ap (λ b. cond (not b) (v ∷ filter (λ w. not (test w)) ws) (filter (λ w. not (test w)) ws)) only.0 ∙ none-gone test ws only.1)
remove-only test (v ∷ ws) (suc i) only =
    let e : suc i + 1 ≡ suc (i + 1) = omega arith in
    ap (λ n. take (suc i) (v ∷ ws) ++ drop n (v ∷ ws)) e
    ∙ (ap (λ vs. v ∷ vs) (remove-only test ws i only.1) ∙ sym (ap (λ b. cond (not b) (v ∷ filter (λ w. not (test w)) ws) (filter (λ w. not (test w)) ws)) only.0))

-- it alone passes
pub filter-none : (test : Waiting → Bool) (ws : List Waiting) → NonePasses test ws → filter test ws ≡ []
filter-none test [] none = refl
filter-none test (v ∷ ws) none = ap (λ b. cond b (v ∷ filter test ws) (filter test ws)) none.0 ∙ filter-none test ws none.1

pub filter-only : (test : Waiting → Bool) (ws : List Waiting) (i : ℕ) (d : Waiting) → IsOnly test ws i → filter test ws ≡ get_or ws i d ∷ []
filter-only test [] i d only = absurd only
filter-only test (v ∷ ws) zero d only = ap (λ b. cond b (v ∷ filter test ws) (filter test ws)) only.0 ∙ ap (λ vs. v ∷ vs) (filter-none test ws only.1)
filter-only test (v ∷ ws) (suc i) d only = ap (λ b. cond b (v ∷ filter test ws) (filter test ws)) only.0 ∙ filter-only test ws i d only.1

-- ---- what keeps the order

all-map : (f : Waiting → Waiting) → ((w : Waiting) → (f w).deal ≡ w.deal) → ((w : Waiting) → (f w).user ≡ w.user) → ((w : Waiting) → (f w).way ≡ w.way)
    → (v : Waiting) (ws : List Waiting) → AllByRecursion (Precedes v) ws → AllByRecursion (Precedes (f v)) (map f ws)
all-map f deal user way v [] all = tt
all-map f deal user way v (w ∷ ws) all = (
  (λ n. is_before (deal w n) (user w n) (way w n) (f v)) ∙ ((λ n. is_less (deal v n).0 (user v n).0 (rank (way v n)) w.deal.0 w.user.0 (rank w.way)) ∙ all.0),
  all-map f deal user way v ws all.1,
)

pub order-map : (f : Waiting → Waiting) → ((w : Waiting) → (f w).deal ≡ w.deal) → ((w : Waiting) → (f w).user ≡ w.user) → ((w : Waiting) → (f w).way ≡ w.way) → (ws : List Waiting) → IsInOrder ws → IsInOrder (map f ws)
order-map f deal user way [] order = tt
order-map f deal user way (w ∷ ws) order = (all-map f deal user way w ws order.0, order-map f deal user way ws order.1)

all-filter : {X : Type 0} (P : X → Type 0) (test : X → Bool) (ws : List X) → AllByRecursion P ws → AllByRecursion P (filter test ws)
all-filter P test [] all = tt
all-filter P test (w ∷ ws) all = elim (test w) as (λ b. AllByRecursion P (cond b (w ∷ filter test ws) (filter test ws))) [ true ↦ (all.0, all-filter P test ws all.1) | false ↦ all-filter P test ws all.1 ]

pub order-filter : (test : Waiting → Bool) (ws : List Waiting) → IsInOrder ws → IsInOrder (filter test ws)
order-filter test [] order = tt
order-filter test (w ∷ ws) order = elim (test w) as (λ b. IsInOrder (cond b (w ∷ filter test ws) (filter test ws))) [ true ↦ (all-filter (Precedes w) test ws order.0, order-filter test ws order.1) | false ↦ order-filter test ws order.1 ]

pub same_map : {X Y : Type 0} (f g : X → Y) → ((x : X) → f x ≡ g x) → (xs : List X) → map f xs ≡ map g xs
same_map f g same [] = refl
same_map f g same (x ∷ xs) = (λ n. same x n ∷ same_map f g same xs n)

-- ---- a loop that changes one after another

-- what stands at a place that is still to come is as it was
still : {X : Type 0} (f : X → X) (old : List X) (i : ℕ) (d : X) → get_or (map f (take i old) ++ drop i old) i d ≡ get_or old i d
still f [] zero d = refl
still f [] (suc i) d = refl
still f (v ∷ vs) zero d = refl
still f (v ∷ vs) (suc i) d = still f vs i d

next : {X : Type 0} (f : X → X) (old : List X) (i : ℕ) (y : X) (d : X) → i < length old → y ≡ f (get_or old i d) → set (map f (take i old) ++ drop i old) i y ≡ map f (take (i + 1) old) ++ drop (i + 1) old
next f [] i y d lt is = absurd (omega arith)
next f (v ∷ vs) zero y d lt is = ap (λ z. z ∷ vs) is
next f (v ∷ vs) (suc i) y d lt is =
    let e : suc i + 1 ≡ suc (i + 1) = omega arith in
    ap (λ zs. f v ∷ zs) (next f vs i y d (omega arith) is) ∙ ap (λ n. map f (take n (v ∷ vs)) ++ drop n (v ∷ vs)) (sym e)

pub in_place-next : {X : Type 0} (f : X → X) (old now : List X) (i : ℕ) (x y : X) → now ≡ map f (take i old) ++ drop i old → i < length old → x ≡ get_or now i x → y ≡ f x → set now i y ≡ map f (take (i + 1) old) ++ drop (i + 1) old
in_place-next f old now i x y so_far lt at is =
    ap (λ zs. set zs i y) so_far ∙ next f old i y x lt (is ∙ ap f (at ∙ (ap (λ zs. get_or zs i x) so_far ∙ still f old i x)))

pub in_place-item : {X : Type 0} (f : X → X) (old now : List X) (i : ℕ) (x : X) → now ≡ map f (take i old) ++ drop i old → x ≡ get_or now i x → x ≡ get_or old i x
in_place-item f old now i x so_far at = at ∙ (ap (λ zs. get_or zs i x) so_far ∙ still f old i x)

pub in_place-long : {X : Type 0} (f : X → X) (old now : List X) (i : ℕ) → now ≡ map f (take i old) ++ drop i old → length now ≡ length old
in_place-long {X} f old now i so_far = ap length so_far ∙ from old i
  where
    from : (vs : List X) (n : ℕ) → length (map f (take n vs) ++ drop n vs) ≡ length vs
    from [] zero = refl
    from [] (suc n) = refl
    from (v ∷ vs) zero = refl
    from (v ∷ vs) (suc n) = ap suc (from vs n)

-- the notices of a stretch pass its test
pub in_stretch : (test : Waiting → Bool) (from to : ℕ) (ws : List Waiting) → IsStretchOf test from to ws → to ≤ length ws → (i : ℕ) (d : Waiting) → from ≤ i → i < to → test (get_or ws i d) ≡ true
in_stretch test from to ws s within i d low high =
    let n : from + (i - from) ≡ i = omega arith in
    ap (λ k. test (get_or ws k d)) (sym n)
    ∙ (ap test (sym (get_or-drop from ws (i - from) d))
    ∙ at (to - from) (drop from ws) (i - from) s.at (omega arith) (omega (arith, length-drop from ws)))
  where
    at : (count : ℕ) (vs : List Waiting) (k : ℕ) → AllByRecursion (λ w. test w ≡ true) (take count vs) → k < count → k < length vs → test (get_or vs k d) ≡ true
    at zero vs k all lt long = absurd (omega arith)
    at (suc count) [] k all lt long = absurd (omega arith)
    at (suc count) (v ∷ vs) zero all lt long = all.0
    at (suc count) (v ∷ vs) (suc k) all lt long = at count vs k all.1 (omega arith) (omega arith)

-- those in front of a stretch and behind it stay
pub front-stays : (test : Waiting → Bool) (f : Waiting → Waiting) (from to : ℕ) (ws : List Waiting) → IsStretchOf test from to ws → ws ≡ map (λ w. cond (test w) (f w) w) (take from ws) ++ drop from ws
front-stays test f from to ws s = sym (ap (λ vs. vs ++ drop from ws) (none-changed test f (take from ws) s.before) ∙ take-append-drop from ws)

pub back-stays : (test : Waiting → Bool) (f : Waiting → Waiting) (from to : ℕ) (ws : List Waiting) → IsStretchOf test from to ws → map (λ w. cond (test w) (f w) w) (take to ws) ++ drop to ws ≡ map (λ w. cond (test w) (f w) w) ws
back-stays test f from to ws s =
    let g = λ (w : Waiting). cond (test w) (f w) w in
    ap (λ vs. map g (take to ws) ++ vs) (sym (none-changed test f (drop to ws) s.behind))
    ∙ (sym (map-append g (take to ws) (drop to ws)) ∙ ap (map g) (take-append-drop to ws))

-- those that pass are those of the stretch
pub filter-stretch : (test more : Waiting → Bool) (from to : ℕ) (ws : List Waiting) → from ≤ to → IsStretchOf test from to ws → filter more (take (to - from) (drop from ws)) ≡ filter (λ w. test w && more w) ws
filter-stretch test more from to ws le s =
    let both = λ (w : Waiting). test w && more w in
    let middle = take (to - from) (drop from ws) in
    let e : from + (to - from) ≡ to = omega arith in
    sym (ap (filter both) (sym (take-append-drop from ws) ∙ ap (λ vs. take from ws ++ vs) (sym (take-append-drop (to - from) (drop from ws)) ∙ ap (λ vs. middle ++ vs) (drop-drop (to - from) from ws ∙ ap (λ n. drop n ws) e)))
    ∙ (filter-append both (take from ws) (middle ++ drop to ws)
    ∙ (ap (λ vs. vs ++ filter both (middle ++ drop to ws)) (gone (take from ws) s.before)
    ∙ (filter-append both middle (drop to ws) ∙ (ap (λ vs. filter both middle ++ vs) (gone (drop to ws) s.behind) ∙ (append-nil (filter both middle) ∙ kept middle s.at))))))
  where
    gone : (vs : List Waiting) → NonePasses test vs → filter (λ w. test w && more w) vs ≡ []
    gone vs none = filter-none (λ w. test w && more w) vs (AllByRecursion-weaker (λ w. test w ≡ false) (λ w. (test w && more w) ≡ false) (λ w h. and-left (test w) (more w) h) vs none)

    kept : (vs : List Waiting) → AllByRecursion (λ w. test w ≡ true) vs → filter (λ w. test w && more w) vs ≡ filter more vs
    kept [] all = refl
    kept (v ∷ vs) all = (λ n. cond (all.0 n && more v) (v ∷ kept vs all.1 n) (kept vs all.1 n))

-- and so many
pub stretch-long : (test : Waiting → Bool) (from to : ℕ) (ws : List Waiting) → from ≤ to → to ≤ length ws → IsStretchOf test from to ws → length (filter test ws) ≡ to - from
stretch-long test from to ws le within s =
    let middle = take (to - from) (drop from ws) in
    let long : length middle ≡ to - from = simp (length-take, length-drop) (omega arith) in
    ap length (filter_same test (λ w. test w && true) (λ w. sym (and-true (test w))) ws ∙ (sym (filter-stretch test (λ w. true) from to ws le s) ∙ filter_all (λ w. true) (λ w. refl) middle)) ∙ long

-- ---- a user's notices of some deals

dealt-more : (deals : List DealNo) (k d : DealNo) → has_deal (deals ++ k ∷ []) d ≡ (has_deal deals d || k.0 == d.0)
dealt-more [] k d = or-none (k.0 == d.0)
  where
    or-none : (b : Bool) → (b || false) ≡ b
    or-none true = refl
    or-none false = refl
dealt-more (e ∷ deals) k d = ap (λ b. e.0 == d.0 || b) (dealt-more deals k d) ∙ or-group (e.0 == d.0) (has_deal deals d) (k.0 == d.0)
  where
    or-group : (a b c : Bool) → (a || (b || c)) ≡ ((a || b) || c)
    or-group true b c = refl
    or-group false b c = refl

same_number : (a b : ℕ) → eqb a b ≡ eqb b a
same_number a b = grind (arith, nat_tests)

-- one more deal: by mail and by push
pub named-more : (u : UserId) (deals : List DealNo) (k : DealNo) (w : Waiting) → ((is_named u deals w || is_at k u Mail w) || is_at k u Push w) ≡ is_named u (deals ++ k ∷ []) w
named-more u deals k w =
    by (w.user.0 == u.0) (has_deal deals w.deal) (w.deal.0 == k.0) w.way
    ∙ ap (λ b. w.user.0 == u.0 && b) (ap (λ b. has_deal deals w.deal || b) (same_number w.deal.0 k.0) ∙ sym (dealt-more deals k w.deal))
  where
    by : (a n q : Bool) (way : Way) → (((a && n) || (q && (a && rank way == 0))) || (q && (a && rank way == 1))) ≡ (a && (n || q))
    by true true q way = refl
    by true false true Mail = refl
    by true false true Push = refl
    by true false false way = refl
    by false n true way = refl
    by false n false way = refl

pub ready-next : (u : UserId) (deals : List DealNo) (k : DealNo) (ws : List Waiting)
    → map (λ w. readied_if (is_at k u Push w) w) (map (λ w. readied_if (is_at k u Mail w) w) (map (λ w. readied_if (is_named u deals w) w) ws)) ≡ map (λ w. readied_if (is_named u (deals ++ k ∷ []) w) w) ws
ready-next u deals k [] = refl
ready-next u deals k (w ∷ ws) = (λ n. one n ∷ ready-next u deals k ws n)
  where
    by : (a b c : Bool) (g : Stage) → ready_if c (ready_if b (ready_if a g)) ≡ ready_if ((a || b) || c) g
    by true true true Flight = refl
    by true true true Held = refl
    by true true true Ready = refl
    by true true false Flight = refl
    by true true false Held = refl
    by true true false Ready = refl
    by true false true Flight = refl
    by true false true Held = refl
    by true false true Ready = refl
    by true false false g = refl
    by false true true Flight = refl
    by false true true Held = refl
    by false true true Ready = refl
    by false true false g = refl
    by false false c g = refl

    one : (let v : Waiting = record w { stage = ready_if (is_at k u Push w) (ready_if (is_at k u Mail w) (ready_if (is_named u deals w) w.stage)) } in v) ≡ readied_if (is_named u (deals ++ k ∷ []) w) w
    one = (λ n. record w { stage = (by (is_named u deals w) (is_at k u Mail w) (is_at k u Push w) w.stage ∙ ap (λ b. ready_if b w.stage) (named-more u deals k w)) n })

pub clear-next : (u : UserId) (deals : List DealNo) (k : DealNo) (ws : List Waiting)
    → filter (λ w. not (is_undecided_at k u Push w)) (filter (λ w. not (is_undecided_at k u Mail w)) (filter (λ w. not (is_named u deals w && is_undecided w)) ws)) ≡ filter (λ w. not (is_named u (deals ++ k ∷ []) w && is_undecided w)) ws
clear-next u deals k ws =
    ap (filter (λ w. not (is_undecided_at k u Push w))) (filter-filter (λ w. not (is_undecided_at k u Mail w)) (λ w. not (is_named u deals w && is_undecided w)) ws)
    ∙ (filter-filter (λ w. not (is_undecided_at k u Push w)) (λ w. not (is_named u deals w && is_undecided w) && not (is_undecided_at k u Mail w)) ws
    ∙ filter_same (λ w. (not (is_named u deals w && is_undecided w) && not (is_undecided_at k u Mail w)) && not (is_undecided_at k u Push w)) (λ w. not (is_named u (deals ++ k ∷ []) w && is_undecided w))
    (λ w. by (is_named u deals w) (is_at k u Mail w) (is_at k u Push w) (is_undecided w) ∙ ap (λ b. not (b && is_undecided w)) (named-more u deals k w)) ws)
  where
    by : (a b c d : Bool) → ((not (a && d) && not (b && d)) && not (c && d)) ≡ not (((a || b) || c) && d)
    by true b c true = refl
    by false true c true = refl
    by false false c true = refl
    by a b c false = nothing a b c
      where
        nothing : (a b c : Bool) → ((not (a && false) && not (b && false)) && not (c && false)) ≡ not (((a || b) || c) && false)
        nothing true true true = refl
        nothing true true false = refl
        nothing true false true = refl
        nothing true false false = refl
        nothing false true true = refl
        nothing false true false = refl
        nothing false false true = refl
        nothing false false false = refl

-- no deal names a notice
and-no : (b : Bool) → (b && false) ≡ false
and-no true = refl
and-no false = refl

pub nobody-named : (u : UserId) (ws : List Waiting) → map (λ w. readied_if (is_named u [] w) w) ws ≡ ws
nobody-named u [] = refl
nobody-named u (w ∷ ws) = (λ n. readied_if (and-no (w.user.0 == u.0) n) w ∷ nobody-named u ws n)

pub nobody-cleared : (u : UserId) (ws : List Waiting) → filter (λ w. not (is_named u [] w && is_undecided w)) ws ≡ ws
nobody-cleared u ws = none-gone (λ w. is_named u [] w && is_undecided w) ws (each ws)
  where
    each : (vs : List Waiting) → NonePasses (λ w. is_named u [] w && is_undecided w) vs
    each [] = tt
    each (v ∷ vs) = (and-left (is_named u [] v) (is_undecided v) (and-no (v.user.0 == u.0)), each vs)

-- one more deal brings two tests more
pub named_by-more : (u : UserId) (deals : List DealNo) (k : DealNo) → named_by u (deals ++ k ∷ []) ≡ named_by u deals ++ (is_undecided_at k u Mail ∷ is_undecided_at k u Push ∷ [])
named_by-more u [] k = refl
named_by-more u (d ∷ deals) k = ap (λ ts. is_undecided_at d u Mail ∷ is_undecided_at d u Push ∷ ts) (named_by-more u deals k)

-- what they give of a list
pub given-more : {X : Type 0} (f : (Waiting → Bool) → List X) (u : UserId) (deals : List DealNo) (k : DealNo)
    → (flat_map f (named_by u deals) ++ f (is_undecided_at k u Mail)) ++ f (is_undecided_at k u Push) ≡ flat_map f (named_by u (deals ++ k ∷ []))
given-more f u deals k =
    append_assoc (flat_map f (named_by u deals)) (f (is_undecided_at k u Mail)) (f (is_undecided_at k u Push))
    ∙ (ap (λ xs. flat_map f (named_by u deals) ++ (f (is_undecided_at k u Mail) ++ xs)) (sym (append-nil (f (is_undecided_at k u Push))))
    ∙ (sym (flat_map-append f (named_by u deals) (is_undecided_at k u Mail ∷ is_undecided_at k u Push ∷ [])) ∙ ap (flat_map f) (sym (named_by-more u deals k))))
  where
    flat_map-append : {X : Type 0} (f : (Waiting → Bool) → List X) (ss ts : List (Waiting → Bool)) → flat_map f (ss ++ ts) ≡ flat_map f ss ++ flat_map f ts
    flat_map-append f [] ts = refl
    flat_map-append f (s ∷ ss) ts = ap (λ xs. f s ++ xs) (flat_map-append f ss ts) ∙ sym (append_assoc (f s) (flat_map f ss) (flat_map f ts))

-- ---- batch rows

-- where a message is one above its deal, a ready notice of the message is the notice of the deal, once it is ready
row-at : (k : DealNo) (u : UserId) (m : MessageId) (way : Way) (w : Waiting) → m.0 ≡ k.0 + 1 → w.message.0 ≡ w.deal.0 + 1 → (is_at k u way w && is_ready w) ≡ is_ready_of u m way w
row-at k u m way w next numbered =
    by (w.deal.0 == k.0) (w.user.0 == u.0 && rank w.way == rank way) (is_ready w)
    ∙ ap (λ b. ((w.user.0 == u.0 && rank w.way == rank way) && is_ready w) && b) (same w.deal.0 w.message.0 k.0 m.0 next numbered)
  where
    by : (a b c : Bool) → ((a && b) && c) ≡ ((b && c) && a)
    by true true true = refl
    by true true false = refl
    by true false c = refl
    by false true true = refl
    by false true false = refl
    by false false c = refl

    same : (d n k m : ℕ) → m ≡ k + 1 → n ≡ d + 1 → (d == k) ≡ (n == m)
    same d n k m e f = grind (arith, nat_tests)

pub rows-at : (k : DealNo) (u : UserId) (m : MessageId) (way : Way) (ws : List Waiting) → m.0 ≡ k.0 + 1 → AreNumbered ws → AllByRecursion (λ w. (is_at k u way w && is_ready w) ≡ is_ready_of u m way w) ws
rows-at k u m way ws next numbered = AllByRecursion-weaker (λ w. w.message.0 ≡ w.deal.0 + 1) (λ w. (is_at k u way w && is_ready w) ≡ is_ready_of u m way w) (λ w h. row-at k u m way w next h) ws numbered

-- one more message is taken out
pub take-next : (u : UserId) (ms : List MessageId) (m : MessageId) (ws : List Waiting)
    → filter (λ w. not (is_batch_row u m w)) (filter (λ w. not (is_one_batch_row u ms w)) ws) ≡ filter (λ w. not (is_one_batch_row u (ms ++ m ∷ []) w)) ws
take-next u ms m ws =
    filter-filter (λ w. not (is_batch_row u m w)) (λ w. not (is_one_batch_row u ms w)) ws
    ∙ filter_same (λ w. not (is_one_batch_row u ms w) && not (is_batch_row u m w)) (λ w. not (is_one_batch_row u (ms ++ m ∷ []) w))
    (λ w. by (is_ready_mail_to u w) (list_any (λ k. w.message.0 == k.0) ms) (w.message.0 == m.0) ∙ ap (λ b. not (is_ready_mail_to u w && b)) (sym (more w ms))) ws
  where
    by : (a b c : Bool) → (not (a && b) && not (a && c)) ≡ not (a && (b || c))
    by true true c = refl
    by true false c = refl
    by false b c = refl

    or-none : (b : Bool) → (b || false) ≡ b
    or-none true = refl
    or-none false = refl

    or-assoc : (a b c : Bool) → (a || (b || c)) ≡ ((a || b) || c)
    or-assoc true b c = refl
    or-assoc false b c = refl

    more : (w : Waiting) (ks : List MessageId) → list_any (λ k. w.message.0 == k.0) (ks ++ m ∷ []) ≡ (list_any (λ k. w.message.0 == k.0) ks || w.message.0 == m.0)
    more w [] = or-none (w.message.0 == m.0)
    more w (k ∷ ks) = ap (λ b. w.message.0 == k.0 || b) (more w ks) ∙ or-assoc (w.message.0 == k.0) (list_any (λ k. w.message.0 == k.0) ks) (w.message.0 == m.0)

pub nothing-taken : (u : UserId) (ws : List Waiting) → filter (λ w. not (is_one_batch_row u [] w)) ws ≡ ws
nothing-taken u ws = none-gone (is_one_batch_row u []) ws (each ws)
  where
    each : (vs : List Waiting) → NonePasses (is_one_batch_row u []) vs
    each [] = tt
    each (v ∷ vs) = (and-right (is_ready_mail_to u v) false refl, each vs)

pub numbered-filter : (test : Waiting → Bool) (ws : List Waiting) → AreNumbered ws → AreNumbered (filter test ws)
numbered-filter test ws numbered = all-filter (λ w. w.message.0 ≡ w.deal.0 + 1) test ws numbered

-- none that a list has passes where none passes
pub none-has : (test : Waiting → Bool) (ws : List Waiting) (v : Waiting) → NonePasses test ws → Has v ws → test v ≡ true → ⊥
unfolding Has
none-has test [] v none has passes = has
none-has test (w ∷ ws) v none (inl same) passes = false≢true (sym none.0 ∙ (ap test same ∙ passes))
none-has test (w ∷ ws) v none (inr later) passes = none-has test ws v none.1 later passes

-- what a list has and passes the test is the one that alone does
pub only-is : (test : Waiting → Bool) (ws : List Waiting) (i : ℕ) (x v : Waiting) → IsOnly test ws i → slice_get ws i ≡ Some x → Has v ws → test v ≡ true → x ≡ v
unfolding Has
only-is test [] i x v only at has passes = absurd has
only-is test (w ∷ ws) zero x v only at (inl same) passes = sym (first at) ∙ same
  where
    first : Some w ≡ Some x → w ≡ x
    first e = cc
only-is test (w ∷ ws) zero x v only at (inr later) passes = absurd (none-has test ws v only.1 later passes)
only-is test (w ∷ ws) (suc i) x v only at (inl same) passes = absurd (false≢true (sym only.0 ∙ (ap test same ∙ passes)))
only-is test (w ∷ ws) (suc i) x v only at (inr later) passes = only-is test ws i x v only.1 at later passes

-- each that passes the test is the one that alone does
pub only-each : (test : Waiting → Bool) (ws : List Waiting) (i : ℕ) (x : Waiting) → IsOnly test ws i → slice_get ws i ≡ Some x → AllByRecursion (λ w. test w ≡ true → x ≡ w) ws
only-each test ws i x only at =
    AllByRecursion-weaker (λ w. Has w ws) (λ w. test w ≡ true → x ≡ w) (λ w has passes. only-is test ws i x w only at has passes) ws (has-all ws)

-- what is so of each that a list has
pub has-so : (P : Waiting → Type 0) (ws : List Waiting) (v : Waiting) → AllByRecursion P ws → Has v ws → P v
unfolding Has
has-so P [] v all has = absurd has
has-so P (w ∷ ws) v all (inl same) = subst P same all.0
has-so P (w ∷ ws) v all (inr later) = has-so P ws v all.1 later

-- a ready mail's message is one of those of the user's
message-listed : (u : UserId) (w : Waiting) (vs : List Waiting) → Has w vs → is_ready_mail_to u w ≡ true → list_any (λ m. w.message.0 == m.0) (messages_to u vs) ≡ true
unfolding Has
message-listed u w [] has ready = absurd has
message-listed u w (v ∷ vs) (inl same) ready =
    ap (λ b. list_any (λ m. w.message.0 == m.0) (map (λ x. x.message) (cond b (v ∷ filter (is_ready_mail_to u) vs) (filter (is_ready_mail_to u) vs)))) (ap (is_ready_mail_to u) same ∙ ready)
    ∙ ap (λ b. b || list_any (λ m. w.message.0 == m.0) (messages_to u vs)) (eq-eqb w.message.0 v.message.0 (sym (ap (λ x. x.message.0) same)))
message-listed u w (v ∷ vs) (inr later) ready = by (is_ready_mail_to u v) (message-listed u w vs later ready)
  where
    or-true : (a b : Bool) → b ≡ true → (a || b) ≡ true
    or-true true b h = refl
    or-true false b h = h

    by : (b : Bool) → list_any (λ m. w.message.0 == m.0) (messages_to u vs) ≡ true
        → list_any (λ m. w.message.0 == m.0) (map (λ x. x.message) (cond b (v ∷ filter (is_ready_mail_to u) vs) (filter (is_ready_mail_to u) vs))) ≡ true
    by true rest = or-true (w.message.0 == v.message.0) (list_any (λ m. w.message.0 == m.0) (messages_to u vs)) rest
    by false rest = rest

-- without the rows of a user's ready mails, in whatever order, there is no ready mail to the user
pub rows-taken : (u : UserId) (ws : List Waiting) (rows : List MessageId) → IsPermutation (messages_to u ws) rows → filter (λ w. not (is_one_batch_row u rows w)) ws ≡ filter (λ w. not (is_ready_mail_to u w)) ws
rows-taken u ws rows moved =
    filter_same_where (λ w. Has w ws) (λ w. not (is_one_batch_row u rows w)) (λ w. not (is_ready_mail_to u w))
    (λ w has. ap not (by w (is_ready_mail_to u w) refl (λ ready. sym (list_any-IsPermutation (λ m. w.message.0 == m.0) (messages_to u ws) rows moved) ∙ message-listed u w ws has ready)))
    ws (has-all ws)
  where
    by : (w : Waiting) (b : Bool) → is_ready_mail_to u w ≡ b → (is_ready_mail_to u w ≡ true → list_any (λ m. w.message.0 == m.0) rows ≡ true) → (b && list_any (λ m. w.message.0 == m.0) rows) ≡ b
    by w true e listed = listed e
    by w false e listed = refl
