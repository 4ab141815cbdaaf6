-- Lists: filters, and what holds of each element.
use Rattle.std.proofs.Common.{◌≡◌, ℕ, ◌+◌, ◌<◌, Bool, true, false, ◌&&◌, ◌||◌, cond, List, [], ◌∷◌, ◌++◌, length, take, get_or, Option, Some, None, refl, sym, ap, ◌∙◌, subst, arith}
use Rattle.std.specs.Prelude.{filter, find, count_by, is_some}
use Rattle.std.proofs.lemmas.List.{append_assoc, append-nil, take_more}
use Rattle.std.proofs.lemmas.List.Sums.{sum_by-cons}
use Rattle.std.specs.List.{AllByRecursion, filter_map, flat_map, list_any, cons_option}

-- a filter that keeps each element
pub filter_all : {X : Type 0} (p : X → Bool) → ((x : X) → p x ≡ true) → (xs : List X) → filter p xs ≡ xs
filter_all p h [] = refl
filter_all p h (x ∷ xs) = rw (h x) (ap (λ ys. x ∷ ys) (filter_all p h xs))

-- a filter that keeps no element
pub filter_none : {X : Type 0} (p : X → Bool) → ((x : X) → p x ≡ false) → (xs : List X) → filter p xs ≡ []
filter_none p h [] = refl
filter_none p h (x ∷ xs) = rw (h x) (filter_none p h xs)

-- a further test that no element passes
pub filter_or_none : {X : Type 0} (p q : X → Bool) (xs : List X) → list_any q xs ≡ false → filter (λ x. p x || q x) xs ≡ filter p xs
filter_or_none p q [] none = refl
filter_or_none {X} p q (x ∷ xs) none = by (q x) refl none (filter_or_none p q xs)
  where
    or_no : (b : Bool) → (b || false) ≡ b
    or_no true = refl
    or_no false = refl

    by : (b : Bool) → q x ≡ b → (b || list_any q xs) ≡ false → (list_any q xs ≡ false → filter (λ x. p x || q x) xs ≡ filter p xs) → filter (λ x. p x || q x) (x ∷ xs) ≡ filter p (x ∷ xs)
    by true e h rest = absurd (cc)
    by false e h rest =
        ap (λ b. cond b (x ∷ filter (λ x. p x || q x) xs) (filter (λ x. p x || q x) xs)) (ap (λ b. p x || b) e ∙ or_no (p x)) ∙ ap (λ ys. cond (p x) (x ∷ ys) ys) (rest h)

-- two tests that agree filter alike
pub filter_same : {X : Type 0} (p q : X → Bool) → ((x : X) → p x ≡ q x) → (xs : List X) → filter p xs ≡ filter q xs
filter_same p q h [] = refl
filter_same p q h (x ∷ xs) = rw (h x) (ap (λ ys. cond (q x) (x ∷ ys) ys) (filter_same p q h xs))

-- two tests that agree where P holds filter alike
pub filter_same_where : {X : Type 0} (P : X → Type 0) (p q : X → Bool) → ((x : X) → P x → p x ≡ q x) → (xs : List X) → AllByRecursion P xs → filter p xs ≡ filter q xs
filter_same_where P p q h [] all = refl
filter_same_where P p q h (x ∷ xs) all = rw (h x all.0) (ap (λ ys. cond (q x) (x ∷ ys) ys) (filter_same_where P p q h xs all.1))

-- a filter that keeps what has P keeps each of these
pub filter_all_where : {X : Type 0} (P : X → Type 0) (p : X → Bool) → ((x : X) → P x → p x ≡ true) → (xs : List X) → AllByRecursion P xs → filter p xs ≡ xs
filter_all_where P p h [] all = refl
filter_all_where P p h (x ∷ xs) all = rw (h x all.0) (ap (λ ys. x ∷ ys) (filter_all_where P p h xs all.1))

-- a filter of a filter
pub filter-filter : {X : Type 0} (p q : X → Bool) (xs : List X) → filter p (filter q xs) ≡ filter (λ x. q x && p x) xs
filter-filter p q [] = refl
filter-filter p q (x ∷ xs) =
    elim (q x) as (λ b. filter p (cond b (x ∷ filter q xs) (filter q xs)) ≡ cond (b && p x) (x ∷ filter (λ y. q y && p y) xs) (filter (λ y. q y && p y) xs)) [
      | true ↦ ap (λ ys. cond (p x) (x ∷ ys) ys) (filter-filter p q xs)
      | false ↦ filter-filter p q xs
    ]

pub AllByRecursion-append : {X : Type 0} (P : X → Type 0) (xs ys : List X) → AllByRecursion P xs → AllByRecursion P ys → AllByRecursion P (xs ++ ys)
AllByRecursion-append P [] ys hx hy = hy
AllByRecursion-append P (x ∷ xs) ys hx hy = (hx.0, AllByRecursion-append P xs ys hx.1 hy)

pub AllByRecursion-weaker : {X : Type 0} (P Q : X → Type 0) → ((x : X) → P x → Q x) → (xs : List X) → AllByRecursion P xs → AllByRecursion Q xs
AllByRecursion-weaker P Q h [] all = tt
AllByRecursion-weaker P Q h (x ∷ xs) all = (h x all.0, AllByRecursion-weaker P Q h xs all.1)

pub AllByRecursion-filter : {X : Type 0} (P : X → Type 0) (p : X → Bool) (xs : List X) → AllByRecursion P xs → AllByRecursion P (filter p xs)
AllByRecursion-filter P p [] h = tt
AllByRecursion-filter P p (x ∷ xs) h =
    elim (p x) as (λ b. AllByRecursion P (cond b (x ∷ filter p xs) (filter p xs))) [
      | true ↦ (h.0, AllByRecursion-filter P p xs h.1)
      | false ↦ AllByRecursion-filter P p xs h.1
    ]

-- what a filter keeps passes
pub filter-passed : {X : Type 0} (p : X → Bool) (xs : List X) → AllByRecursion (λ x. p x ≡ true) (filter p xs)
filter-passed p [] = tt
filter-passed p (x ∷ xs) =
    elim (p x) as (λ b. p x ≡ b → AllByRecursion (λ y. p y ≡ true) (cond b (x ∷ filter p xs) (filter p xs))) [
      | true ↦ λ e. (e, filter-passed p xs)
      | false ↦ λ e. filter-passed p xs
    ] refl

given_first : {Y : Type 0} (P : Y → Type 0) (o : Option Y) (ys : List Y) → ((y : Y) → o ≡ Some y → P y) → AllByRecursion P ys → AllByRecursion P (cons_option o ys)
given_first P None ys f all = all
given_first P (Some y) ys f all = (f y refl, all)

-- what h gives has P, where each value that it gives has
pub AllByRecursion-filter_map : {X Y : Type 0} (P : Y → Type 0) (h : X → Option Y) → ((x : X) (y : Y) → h x ≡ Some y → P y) → (xs : List X) → AllByRecursion P (filter_map h xs)
AllByRecursion-filter_map P h f [] = tt
AllByRecursion-filter_map P h f (x ∷ xs) = given_first P (h x) (filter_map h xs) (f x) (AllByRecursion-filter_map P h f xs)

pub AllByRecursion-flat_map : {X Y : Type 0} (P : Y → Type 0) (f : X → List Y) → ((x : X) → AllByRecursion P (f x)) → (xs : List X) → AllByRecursion P (flat_map f xs)
AllByRecursion-flat_map P f h [] = tt
AllByRecursion-flat_map P f h (x ∷ xs) = AllByRecursion-append P (f x) (flat_map f xs) (h x) (AllByRecursion-flat_map P f h xs)

grow : {X : Type 0} (P : List X → Type 0) → ((xs : List X) (x : X) → P xs → P (xs ++ x ∷ [])) → (front back : List X) → P front → P (front ++ back)
grow P step front [] h = subst P (sym (append-nil front)) h
grow P step front (x ∷ xs) h = subst P (append_assoc front (x ∷ []) xs) (grow P step (front ++ x ∷ []) xs (step front x h))

-- what holds of no elements, and goes on to one more at the end, holds of each list
pub by_appending : {X : Type 0} (P : List X → Type 0) → P [] → ((xs : List X) (x : X) → P xs → P (xs ++ x ∷ [])) → (xs : List X) → P xs
by_appending P start step xs = grow P step [] xs start

-- the first of a list
abbrev pub first_of : {X : Type 0} → List X → Option X
first_of [] = None
first_of (x ∷ xs) = Some x

-- the first element that passes is the first of those that pass
pub find-filter : {X : Type 0} (p : X → Bool) (xs : List X) → first_of (filter p xs) ≡ find p xs
find-filter p [] = refl
find-filter p (x ∷ xs) =
    elim (p x) as (λ b. first_of (cond b (x ∷ filter p xs) (filter p xs)) ≡ cond b (Some x) (find p xs)) [
      | true ↦ refl
      | false ↦ find-filter p xs
    ]

-- the elements up to the next one
pub take_next : {X : Type 0} (xs : List X) (i : ℕ) (x : X) → i < length xs → x ≡ get_or xs i x → take (i + 1) xs ≡ take i xs ++ x ∷ []
take_next xs i x lt at = take_more xs i x lt ∙ ap (λ y. take i xs ++ y ∷ []) (sym at)

-- how many elements give something
pub count_by-filter_map : {X Y : Type 0} (h : X → Option Y) (xs : List X) → count_by (λ x. is_some (h x)) xs ≡ length (filter_map h xs)
count_by-filter_map h [] = refl
count_by-filter_map {X} {Y} h (x ∷ xs) = sum_by-cons (λ y. cond (is_some (h y)) 1 0) x xs ∙ by (h x) (count_by-filter_map h xs)
  where
    by : (o : Option Y) → count_by (λ y. is_some (h y)) xs ≡ length (filter_map h xs) → cond (is_some o) 1 0 + count_by (λ y. is_some (h y)) xs ≡ length (cons_option o (filter_map h xs))
    by None e = omega arith
    by (Some y) e = omega arith
