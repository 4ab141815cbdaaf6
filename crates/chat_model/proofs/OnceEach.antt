-- Lists that ascend by a number, and what a sort and a removal of repeats leave.
use Rattle.std.proofs.Common.{◌≡◌, ℕ, ◌+◌, ◌<◌, ◌≤◌, Bool, true, false, ◌||◌, ◌==◌, cond, List, [], ◌∷◌, length, refl, sym, ap, ◌∙◌, subst, arith, inl, inr}
use Rattle.std.specs.Prelude.{nat_lt}
use Rattle.std.specs.List.{AllByRecursion, dedup, dedup_from, list_all, list_any}
use Rattle.std.specs.List.Retain.{DiffersFromLast, IsFiltered}
use Rattle.std.specs.List.Sorted.{IsPermutation, IsSorted, IsStrictlySortedBy}
use Rattle.std.specs.Ordering.{eq_by_cmp, nat_cmp}
use Rattle.std.specs.declared.cmp.Ordering.{Ordering}
use Rattle.std.specs.declared.cmp.Ordering.TheVariants.{Less}
use Rattle.std.proofs.lemmas.Bool.{and_from, and_parts, or_from, or_left, cases_eq, cases_order, cond_both, eq-eqb, eqb-false, eqb-true, false≢true, lt-ltb, ltb-false, ltb-true, ne_eqb}
use Rattle.std.proofs.lemmas.Bool.Decides.{nat_tests}
use Rattle.std.proofs.lemmas.Cmp.{nat_cmp_total, on_total}
use Rattle.std.proofs.lemmas.List.Filters.{dedup_is}
use Rattle.std.proofs.lemmas.List.Kept.{IsStrictlySortedBy-dedup}
use Rattle.std.proofs.lemmas.List.Sorted.{list_any-IsPermutation}
use Rattle.chat_model.specs.Ascending.{ascending_once_by, is_ascending_by, put_once_by}

-- ---- items that ascend

-- one of the items has this number
abbrev pub has_number : {A : Type 0} → (A → ℕ) → List A → ℕ → Bool
has_number number xs n = list_any (λ x. number x == n) xs

-- the number is below those of these items
abbrev pub IsBelow : {A : Type 0} → (A → ℕ) → ℕ → List A → Type 0
IsBelow number n xs = AllByRecursion (λ x. n < number x) xs

IsBelow-weaker : {A : Type 0} (number : A → ℕ) (m n : ℕ) → m ≤ n → (xs : List A) → IsBelow number n xs → IsBelow number m xs
IsBelow-weaker number m n le [] h = tt
IsBelow-weaker number m n le (x ∷ xs) h = (omega (arith, h.0), IsBelow-weaker number m n le xs h.1)

pub ascending-rest : {A : Type 0} (number : A → ℕ) (x : A) (xs : List A) → is_ascending_by number (x ∷ xs) ≡ true → is_ascending_by number xs ≡ true
ascending-rest number x [] h = refl
ascending-rest number x (y ∷ ys) h = (and_parts (nat_lt (number x) (number y)) (is_ascending_by number (y ∷ ys)) h).1

pub ascending-below : {A : Type 0} (number : A → ℕ) (x : A) (xs : List A) → is_ascending_by number (x ∷ xs) ≡ true → IsBelow number (number x) xs
ascending-below number x [] h = tt
ascending-below number x (y ∷ ys) h =
    let parts = and_parts (nat_lt (number x) (number y)) (is_ascending_by number (y ∷ ys)) h in
    let lt : number x < number y = ltb-true (number x) (number y) parts.0 in
    (lt, IsBelow-weaker number (number x) (number y) (omega arith) ys (ascending-below number y ys parts.1))

pub ascending-cons : {A : Type 0} (number : A → ℕ) (x : A) (xs : List A) → IsBelow number (number x) xs → is_ascending_by number xs ≡ true → is_ascending_by number (x ∷ xs) ≡ true
ascending-cons number x [] below h = refl
ascending-cons number x (y ∷ ys) below h = and_from (nat_lt (number x) (number y)) (is_ascending_by number (y ∷ ys)) (lt-ltb (number x) (number y) below.0) h

-- a number below those of these is none of theirs
not_theirs : {A : Type 0} (number : A → ℕ) (n : ℕ) (xs : List A) → IsBelow number n xs → has_number number xs n ≡ false
not_theirs number n [] h = refl
not_theirs number n (x ∷ xs) h = or_from (number x == n) (has_number number xs n) (ne_eqb (number x) n (λ e. omega (arith, h.0))) (not_theirs number n xs h.1)

-- among ascending items each stands once
pub ascending-distinct : {A : Type 0} (number : A → ℕ) (x : A) (xs : List A) → is_ascending_by number (x ∷ xs) ≡ true → has_number number xs (number x) ≡ false
ascending-distinct number x xs h = not_theirs number (number x) xs (ascending-below number x xs h)

-- ---- items ascending, once each

pub put_once-cases : {A : Type 0} (number : A → ℕ) (P : List A → Type 0) (x y : A) (ys : List A) → (number x < number y → P (x ∷ y ∷ ys)) → (number x ≡ number y → P (y ∷ ys)) → (number y < number x → P (y ∷ put_once_by number x ys)) → P (put_once_by number x (y ∷ ys))
put_once-cases number P x y ys before same behind =
    cond_both (nat_lt (number x) (number y)) (x ∷ y ∷ ys) (cond (number x == number y) (y ∷ ys) (y ∷ put_once_by number x ys)) P
    (λ e. before (ltb-true (number x) (number y) e))
    (λ e. cond_both (number x == number y) (y ∷ ys) (y ∷ put_once_by number x ys) P (λ f. same (eqb-true (number x) (number y) f)) (λ f. behind (omega (arith, ltb-false (number x) (number y) e, eqb-false (number x) (number y) f))))

put_once-below : {A : Type 0} (number : A → ℕ) (n : ℕ) (x : A) (xs : List A) → n < number x → IsBelow number n xs → IsBelow number n (put_once_by number x xs)
put_once-below number n x [] lt h = (lt, tt)
put_once-below number n x (y ∷ ys) lt h = put_once-cases number (IsBelow number n) x y ys (λ _. (lt, h)) (λ _. h) (λ _. (h.0, put_once-below number n x ys lt h.1))

pub put_once-ascending : {A : Type 0} (number : A → ℕ) (x : A) (xs : List A) → is_ascending_by number xs ≡ true → is_ascending_by number (put_once_by number x xs) ≡ true
put_once-ascending number x [] h = refl
put_once-ascending number x (y ∷ ys) h =
    let below = ascending-below number y ys h in
    put_once-cases number (λ zs. is_ascending_by number zs ≡ true) x y ys
    (λ lt. ascending-cons number x (y ∷ ys) (lt, IsBelow-weaker number (number x) (number y) (omega arith) ys below) h)
    (λ _. h)
    (λ lt. ascending-cons number y (put_once_by number x ys) (put_once-below number (number y) x ys lt below) (put_once-ascending number x ys (ascending-rest number y ys h)))

pub ascending_once-ascending : {A : Type 0} (number : A → ℕ) (xs : List A) → is_ascending_by number (ascending_once_by number xs) ≡ true
ascending_once-ascending number [] = refl
ascending_once-ascending number (x ∷ xs) = put_once-ascending number x (ascending_once_by number xs) (ascending_once-ascending number xs)

or_swap : (a b c : Bool) → (a || (b || c)) ≡ (b || (a || c))
or_swap true true c = refl
or_swap true false c = refl
or_swap false true c = refl
or_swap false false c = refl

or_twice : (a c : Bool) → (a || c) ≡ (a || (a || c))
or_twice true c = refl
or_twice false c = refl

pub put_once-has : {A : Type 0} (number : A → ℕ) (n : ℕ) (x : A) (xs : List A) → has_number number (put_once_by number x xs) n ≡ (number x == n || has_number number xs n)
put_once-has number n x [] = refl
put_once-has number n x (y ∷ ys) =
    put_once-cases number (λ zs. has_number number zs n ≡ (number x == n || (number y == n || has_number number ys n))) x y ys
    (λ _. refl)
    (λ e. or_twice (number y == n) (has_number number ys n) ∙ ap (λ m. m == n || (number y == n || has_number number ys n)) (sym e))
    (λ _. ap (λ b. number y == n || b) (put_once-has number n x ys) ∙ or_swap (number y == n) (number x == n) (has_number number ys n))

ascending_once-has : {A : Type 0} (number : A → ℕ) (xs : List A) (n : ℕ) → has_number number (ascending_once_by number xs) n ≡ has_number number xs n
ascending_once-has number [] n = refl
ascending_once-has number (x ∷ xs) n = put_once-has number n x (ascending_once_by number xs) ∙ ap (λ b. number x == n || b) (ascending_once-has number xs n)

put_once-all : {A : Type 0} (number : A → ℕ) (p : A → Bool) (x : A) (xs : List A) → p x ≡ true → list_all p xs ≡ true → list_all p (put_once_by number x xs) ≡ true
put_once-all number p x [] px h = and_from (p x) true px refl
put_once-all number p x (y ∷ ys) px h =
    let parts = and_parts (p y) (list_all p ys) h in
    put_once-cases number (λ zs. list_all p zs ≡ true) x y ys
    (λ _. and_from (p x) (list_all p (y ∷ ys)) px h)
    (λ _. h)
    (λ _. and_from (p y) (list_all p (put_once_by number x ys)) parts.0 (put_once-all number p x ys px parts.1))

-- what holds of each item holds of each still
pub ascending_once-all : {A : Type 0} (number : A → ℕ) (p : A → Bool) (xs : List A) → list_all p xs ≡ true → list_all p (ascending_once_by number xs) ≡ true
ascending_once-all number p [] h = refl
ascending_once-all number p (x ∷ xs) h =
    let parts = and_parts (p x) (list_all p xs) h in
    put_once-all number p x (ascending_once_by number xs) parts.0 (ascending_once-all number p xs parts.1)

put_once-length : {A : Type 0} (number : A → ℕ) (x : A) (xs : List A) → length (put_once_by number x xs) ≤ length xs + 1
put_once-length number x [] = omega arith
put_once-length number x (y ∷ ys) = put_once-cases number (λ zs. length zs ≤ length (y ∷ ys) + 1) x y ys (λ _. omega arith) (λ _. omega arith) (λ _. omega (arith, put_once-length number x ys))

-- there are no more items than before
pub ascending_once-length : {A : Type 0} (number : A → ℕ) (xs : List A) → length (ascending_once_by number xs) ≤ length xs
ascending_once-length number [] = omega arith
ascending_once-length number (x ∷ xs) = omega (arith, put_once-length number x (ascending_once_by number xs), ascending_once-length number xs)

-- ---- ascending items are told by their numbers

has_first : {A : Type 0} (number : A → ℕ) (x : A) (xs : List A) → has_number number (x ∷ xs) (number x) ≡ true
has_first number x xs = or_left (number x == number x) (has_number number xs (number x)) (eq-eqb (number x) (number x) refl)

-- the first of some items is not below the first of others that have the same numbers
first_not_below : {A : Type 0} (number : A → ℕ) (x y : A) (xs ys : List A) → is_ascending_by number (y ∷ ys) ≡ true → has_number number (x ∷ xs) (number x) ≡ has_number number (y ∷ ys) (number x) → number x < number y → ⊥
first_not_below number x y xs ys h same lt =
    let none : has_number number (y ∷ ys) (number x) ≡ false = not_theirs number (number x) (y ∷ ys) (lt, IsBelow-weaker number (number x) (number y) (omega arith) ys (ascending-below number y ys h)) in
    false≢true (sym none ∙ (sym same ∙ has_first number x xs))

same_first : {A : Type 0} (number : A → ℕ) → ((x y : A) → number x ≡ number y → x ≡ y) → (x y : A) (xs ys : List A) → is_ascending_by number (x ∷ xs) ≡ true → is_ascending_by number (y ∷ ys) ≡ true → ((n : ℕ) → has_number number (x ∷ xs) n ≡ has_number number (y ∷ ys) n) → x ≡ y
same_first number told x y xs ys hx hy same =
    elim (cases_order (number x) (number y)) [
      | inl e ↦ told x y e
      | inr (inl lt) ↦ absurd (first_not_below number x y xs ys hy (same (number x)) lt)
      | inr (inr lt) ↦ absurd (first_not_below number y x ys xs hx (sym (same (number y))) lt)
    ]

same_rest : {A : Type 0} (number : A → ℕ) (x : A) (xs ys : List A) → is_ascending_by number (x ∷ xs) ≡ true → is_ascending_by number (x ∷ ys) ≡ true → ((n : ℕ) → has_number number (x ∷ xs) n ≡ has_number number (x ∷ ys) n) → (n : ℕ) → has_number number xs n ≡ has_number number ys n
same_rest number x xs ys hx hy same n =
    elim (cases_eq (number x) n) [
      | inl e ↦ not_theirs number n xs (IsBelow-weaker number n (number x) (omega arith) xs (ascending-below number x xs hx)) ∙ sym (not_theirs number n ys (IsBelow-weaker number n (number x) (omega arith) ys (ascending-below number x ys hy)))
      | inr ne ↦
          let other : (number x == n) ≡ false = ne_eqb (number x) n ne in
          sym (ap (λ b. b || has_number number xs n) other) ∙ (same n ∙ ap (λ b. b || has_number number ys n) other)
    ]

ascending-same : {A : Type 0} (number : A → ℕ) → ((x y : A) → number x ≡ number y → x ≡ y) → (xs ys : List A) → is_ascending_by number xs ≡ true → is_ascending_by number ys ≡ true → ((n : ℕ) → has_number number xs n ≡ has_number number ys n) → xs ≡ ys
ascending-same number told [] [] hx hy same = refl
ascending-same number told [] (y ∷ ys) hx hy same = absurd (false≢true (same (number y) ∙ has_first number y ys))
ascending-same number told (x ∷ xs) [] hx hy same = absurd (false≢true (sym (same (number x)) ∙ has_first number x xs))
ascending-same {A = A} number told (x ∷ xs) (y ∷ ys) hx hy same =
    let first = same_first number told x y xs ys hx hy same in
    let hy_at_x = subst (λ (z : A). is_ascending_by number (z ∷ ys) ≡ true) (sym first) hy in
    let same_at_x = subst (λ (z : A). (n : ℕ) → has_number number (x ∷ xs) n ≡ has_number number (z ∷ ys) n) (sym first) same in
    ap (λ z. z ∷ xs) first ∙ ap (λ zs. y ∷ zs) (ascending-same number told xs ys (ascending-rest number x xs hx) (ascending-rest number y ys hy) (same_rest number x xs ys hx hy_at_x same_at_x))

-- ---- what a sort and a removal of repeats leave

abbrev by_number : {A : Type 0} → (A → ℕ) → A → A → Ordering
by_number number x y = nat_cmp (number x) (number y)

abbrev same_number : {A : Type 0} → (A → ℕ) → A → A → Bool
same_number number x y = number x == number y

same_number-ties : {A : Type 0} (number : A → ℕ) (x y : A) → same_number number x y ≡ eq_by_cmp (by_number number) x y
same_number-ties number x y = grind (arith, nat_tests)

below_from_less : {A : Type 0} (number : A → ℕ) (x : A) (xs : List A) → AllByRecursion (λ y. by_number number x y ≡ Less) xs → IsBelow number (number x) xs
below_from_less number x [] h = tt
below_from_less number x (y ∷ ys) h = (below_less (number x) (number y) h.0, below_from_less number x ys h.1)
  where
    below_less : (m n : ℕ) → nat_cmp m n ≡ Less → m < n
    below_less m n e = grind (arith, nat_tests)

ascending_from_sorted : {A : Type 0} (number : A → ℕ) (xs : List A) → IsStrictlySortedBy (by_number number) xs → is_ascending_by number xs ≡ true
unfolding IsStrictlySortedBy
ascending_from_sorted number [] h = refl
ascending_from_sorted number (x ∷ xs) h = ascending-cons number x xs (below_from_less number x xs h.0) (ascending_from_sorted number xs h.1)

dedup_from-has : {A : Type 0} (number : A → ℕ) (n : ℕ) (k : A) (xs : List A) → has_number number (dedup_from (same_number number) k xs) n ≡ (number k == n || has_number number xs n)
dedup_from-has number n k [] = refl
dedup_from-has number n k (x ∷ xs) =
    cond_both (number x == number k) (dedup_from (same_number number) k xs) (k ∷ dedup_from (same_number number) x xs) (λ ys. has_number number ys n ≡ (number k == n || (number x == n || has_number number xs n)))
    (λ e. dedup_from-has number n k xs ∙ (or_twice (number k == n) (has_number number xs n) ∙ ap (λ m. number k == n || (m == n || has_number number xs n)) (sym (eqb-true (number x) (number k) e))))
    (λ _. ap (λ b. number k == n || b) (dedup_from-has number n x xs))

dedup-has : {A : Type 0} (number : A → ℕ) (xs : List A) (n : ℕ) → has_number number (dedup (same_number number) xs) n ≡ has_number number xs n
dedup-has number [] n = refl
dedup-has number (x ∷ xs) n = dedup_from-has number n x xs

-- items that their numbers tell, sorted and then without repeats, are the items ascending, once each
pub ascending_once-sorted : {A : Type 0} (number : A → ℕ) → ((x y : A) → number x ≡ number y → x ≡ y) → (xs sorted : List A) → IsPermutation xs sorted → IsSorted (by_number number) sorted → dedup (same_number number) sorted ≡ ascending_once_by number xs
ascending_once-sorted number told xs sorted moved h =
    ascending-same number told (dedup (same_number number) sorted) (ascending_once_by number xs)
    (ascending_from_sorted number (dedup (same_number number) sorted) (IsStrictlySortedBy-dedup (on_total number nat_cmp_total) (same_number-ties number) sorted h))
    (ascending_once-ascending number xs)
    (λ n. dedup-has number sorted n ∙ (sym (list_any-IsPermutation (λ x. number x == n) xs sorted moved) ∙ sym (ascending_once-has number xs n)))

-- items taken from a list, sorted, and given back without repeats
pub once_each : {A : Type 0} (number : A → ℕ) → ((x y : A) → number x ≡ number y → x ≡ y) → (items taken sorted kept given : List A) → given ≡ kept → taken ≡ items → IsPermutation taken sorted → IsSorted (λ x y. nat_cmp (number x) (number y)) sorted →
    IsFiltered (DiffersFromLast (λ x y. number x == number y)) [] sorted kept → given ≡ ascending_once_by number items
once_each {A} number told items taken sorted kept given same from moved ascending filtered =
    same ∙ (dedup_is _ sorted kept filtered
    ∙ ascending_once-sorted number told items sorted (subst (λ (xs : List A). IsPermutation xs sorted) from moved) ascending)
