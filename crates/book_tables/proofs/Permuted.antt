-- Lists in another order.
use Rattle.std.proofs.Common.{◌≡◌, ℕ, zero, suc, ◌<◌, Bool, true, false, cond, List, [], ◌∷◌, length, map, set, get_or, refl, sym, ap, subst, ◌∙◌, ◌⊎◌, inl, inr, arith}
use Rattle.std.specs.Prelude.{IsPermutation, filter}
use Rattle.std.specs.List as lists
use Rattle.std.specs.List.{AllByRecursion}
use Rattle.std.proofs.lemmas.List.{length-map, map-set, get_or-map}
use Rattle.std.proofs.lemmas.List.Edits.{swap_is}
use Rattle.std.proofs.lemmas.List.Elements.{All-from_recursion, recursion_from_All}
use Rattle.std.proofs.lemmas.List.Sorted.{IsPermutation-refl, IsPermutation-trans, IsPermutation-cons, IsPermutation-middle, IsPermutation-swap, IsPermutation-keeps, All-permutation}

swap-map : {X Y : Type 0} (f : X → Y) (zs : List X) (i j : ℕ) → i < length zs → j < length zs → lists.swap (map f zs) i j ≡ map f (lists.swap zs i j)
swap-map f [] i j p q = absurd (omega arith)
swap-map f (z ∷ zs) i j p q =
    let l = z ∷ zs in let long = length-map l f in
    sym (ap (map f) (sym (swap_is l i j z p q))
    ∙ (map-set f (set l i (get_or l j z)) j (get_or l i z)
    ∙ ((λ t. set ((map-set f l i (get_or l j z) ∙ ap (set (map f l) i) (sym (get_or-map f l j z (f z) q))) t) j (sym (get_or-map f l i z (f z) p) t))
    ∙ swap_is (map f l) i j (f z) (omega arith) (omega arith))))

-- what a list that is made of another is made of, in its own order
pub record IsMadeOf {X Y : Type 0} (f : X → Y) (xs : List X) (ys : List Y) : Type 0 where
  pub of : List X
  pub moved : IsPermutation xs of
  pub is : ys ≡ map f of

pub made_of : {X Y : Type 0} (f : X → Y) (xs : List X) (ys : List Y) → IsPermutation (map f xs) ys → IsMadeOf f xs ys
made_of f xs ys perm =
    IsPermutation-keeps (map f xs) (IsMadeOf f xs) (record { of = xs; moved = IsPermutation-refl xs; is = refl }) (λ l i j p q made.
    let long : length l ≡ length made.of = ap length made.is ∙ length-map made.of f in
    let low : i < length made.of = omega arith in let high : j < length made.of = omega arith in
    record {
      of = lists.swap made.of i j;
      moved = IsPermutation-trans xs made.of (lists.swap made.of i j) made.moved (IsPermutation-swap made.of (lists.swap made.of i j) i j low high refl);
      is = ap (λ k. lists.swap k i j) made.is ∙ swap-map f made.of i j low high;
    }) ys perm

-- what holds of each of them
pub all-moved : {X : Type 0} (P : X → Type 0) (xs ys : List X) → IsPermutation xs ys → AllByRecursion P xs → AllByRecursion P ys
all-moved P xs ys moved all = recursion_from_All P ys (All-permutation P xs ys moved (All-from_recursion P xs all))

-- ---- what a list has

unfoldable pub Has : {X : Type 0} → X → List X → Type 0
Has x [] = ⊥
Has x (y ∷ ys) = (y ≡ x) ⊎ Has x ys

more : {X : Type 0} (y : X) (ys zs : List X) → AllByRecursion (λ x. Has x ys) zs → AllByRecursion (λ x. Has x (y ∷ ys)) zs
unfolding Has
more y ys [] all = tt
more y ys (z ∷ zs) all = (inr all.0, more y ys zs all.1)

-- it has each of its own
pub has-all : {X : Type 0} (xs : List X) → AllByRecursion (λ x. Has x xs) xs
unfolding Has
has-all [] = tt
has-all (x ∷ xs) = (inl refl, more x xs xs (has-all xs))

pub has-map : {X Y : Type 0} (f : X → Y) (x : X) (xs : List X) → Has x xs → Has (f x) (map f xs)
unfolding Has
has-map f x [] has = has
has-map f x (y ∷ ys) (inl same) = inl (ap f same)
has-map f x (y ∷ ys) (inr later) = inr (has-map f x ys later)

-- ---- those of a list in another order that pass a test

module _ {X : Type 0} (p : X → Bool) where
  -- two that stand one before the other
  first_two : (x y : X) (zs : List X) → IsPermutation (filter p (x ∷ y ∷ zs)) (filter p (y ∷ x ∷ zs))
  first_two x y zs = by (p x) (p y)
    where
      by : (a b : Bool) → IsPermutation (cond a (x ∷ cond b (y ∷ filter p zs) (filter p zs)) (cond b (y ∷ filter p zs) (filter p zs))) (cond b (y ∷ cond a (x ∷ filter p zs) (filter p zs)) (cond a (x ∷ filter p zs) (filter p zs)))
      by true true = IsPermutation-middle (x ∷ []) y (filter p zs)
      by true false = IsPermutation-refl (x ∷ filter p zs)
      by false true = IsPermutation-refl (y ∷ filter p zs)
      by false false = IsPermutation-refl (filter p zs)

  behind_one : (x : X) (ys zs : List X) → IsPermutation (filter p ys) (filter p zs) → IsPermutation (filter p (x ∷ ys)) (filter p (x ∷ zs))
  behind_one x ys zs moved = by (p x)
    where
      by : (a : Bool) → IsPermutation (cond a (x ∷ filter p ys) (filter p ys)) (cond a (x ∷ filter p zs) (filter p zs))
      by true = IsPermutation-cons x (filter p ys) (filter p zs) moved
      by false = moved

  -- the first in exchange for a later one
  first_exchanged : (x : X) (xs : List X) (j : ℕ) (d : X) → j < length xs → IsPermutation (filter p (x ∷ xs)) (filter p (get_or xs j d ∷ set xs j x))
  first_exchanged x [] j d lt = absurd (omega arith)
  first_exchanged x (y ∷ ys) zero d lt = first_two x y ys
  first_exchanged x (y ∷ ys) (suc j) d lt =
      let z = get_or ys j d in
      IsPermutation-trans (filter p (x ∷ y ∷ ys)) (filter p (y ∷ x ∷ ys)) (filter p (z ∷ y ∷ set ys j x)) (first_two x y ys)
      (IsPermutation-trans (filter p (y ∷ x ∷ ys)) (filter p (y ∷ z ∷ set ys j x)) (filter p (z ∷ y ∷ set ys j x))
      (behind_one y (x ∷ ys) (z ∷ set ys j x) (first_exchanged x ys j d (omega arith))) (first_two y z (set ys j x)))

  exchanged : (xs : List X) (i j : ℕ) (d : X) → i < length xs → j < length xs → IsPermutation (filter p xs) (filter p (set (set xs i (get_or xs j d)) j (get_or xs i d)))
  exchanged [] i j d low high = absurd (omega arith)
  exchanged (x ∷ xs) zero zero d low high = IsPermutation-refl (filter p (x ∷ xs))
  exchanged (x ∷ xs) zero (suc j) d low high = first_exchanged x xs j d (omega arith)
  exchanged (x ∷ xs) (suc i) zero d low high = first_exchanged x xs i d (omega arith)
  exchanged (x ∷ xs) (suc i) (suc j) d low high = behind_one x xs (set (set xs i (get_or xs j d)) j (get_or xs i d)) (exchanged xs i j d (omega arith) (omega arith))

  swapped : (xs : List X) (i j : ℕ) → i < length xs → j < length xs → IsPermutation (filter p xs) (filter p (lists.swap xs i j))
  swapped [] i j low high = absurd (omega arith)
  swapped (x ∷ xs) i j low high = subst (λ l. IsPermutation (filter p (x ∷ xs)) (filter p l)) (swap_is (x ∷ xs) i j x low high) (exchanged (x ∷ xs) i j x low high)

  pub filter-moved : (xs ys : List X) → IsPermutation xs ys → IsPermutation (filter p xs) (filter p ys)
  filter-moved xs ys moved =
      IsPermutation-keeps xs (λ l. IsPermutation (filter p xs) (filter p l)) (IsPermutation-refl (filter p xs)) (λ l i j low high so.
      IsPermutation-trans (filter p xs) (filter p l) (filter p (lists.swap l i j)) so (swapped l i j low high)) ys moved
