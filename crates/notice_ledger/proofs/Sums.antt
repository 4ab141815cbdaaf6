-- Sums over the elements of a list.
use Rattle.std.proofs.Common.{◌≡◌, ℕ, ◌+◌, Bool, true, false, cond, List, [], ◌∷◌, map, refl, sym, ap, ◌∙◌, arith}
use Rattle.std.specs.Prelude.{filter, sum_by}
use Rattle.std.specs.List.{AllByRecursion}
use Rattle.std.proofs.lemmas.List.Sums.{sum_by-cons}

pub plus_none : (n : ℕ) → n ≡ n + 0
plus_none n = omega arith

pub none_plus : (n : ℕ) → n ≡ 0 + n
none_plus n = omega arith

-- two numbers that agree where P holds sum alike
pub sum_by_same_where : {X : Type 0} (P : X → Type 0) (f g : X → ℕ) → ((x : X) → P x → f x ≡ g x) → (xs : List X) → AllByRecursion P xs → sum_by f xs ≡ sum_by g xs
sum_by_same_where P f g h [] all = refl
sum_by_same_where P f g h (x ∷ xs) all =
    sum_by-cons f x xs
    ∙ (ap (λ a. a + sum_by f xs) (h x all.0) ∙ (ap (λ b. g x + b) (sum_by_same_where P f g h xs all.1) ∙ sym (sum_by-cons g x xs)))

-- two numbers that agree sum alike
pub sum_by_same : {X : Type 0} (f g : X → ℕ) → ((x : X) → f x ≡ g x) → (xs : List X) → sum_by f xs ≡ sum_by g xs
sum_by_same f g h [] = refl
sum_by_same f g h (x ∷ xs) =
    sum_by-cons f x xs
    ∙ (ap (λ a. a + sum_by f xs) (h x) ∙ (ap (λ b. g x + b) (sum_by_same f g h xs) ∙ sym (sum_by-cons g x xs)))

-- numbers that are 0 where P holds sum to 0
pub sum_by_none_where : {X : Type 0} (P : X → Type 0) (f : X → ℕ) → ((x : X) → P x → f x ≡ 0) → (xs : List X) → AllByRecursion P xs → sum_by f xs ≡ 0
sum_by_none_where P f h [] all = refl
sum_by_none_where P f h (x ∷ xs) all =
    sum_by-cons f x xs ∙ (ap (λ a. a + sum_by f xs) (h x all.0) ∙ (ap (λ b. 0 + b) (sum_by_none_where P f h xs all.1) ∙ refl))

add_apart : (a b c d : ℕ) → (a + b) + (c + d) ≡ (a + c) + (b + d)
add_apart a b c d = omega arith

-- where P holds each number is the sum of two, and so is their sum
pub sum_by_both_where : {X : Type 0} (P : X → Type 0) (f g h : X → ℕ) → ((x : X) → P x → f x ≡ g x + h x) → (xs : List X) → AllByRecursion P xs → sum_by f xs ≡ sum_by g xs + sum_by h xs
sum_by_both_where P f g h e [] all = refl
sum_by_both_where P f g h e (x ∷ xs) all =
    sum_by-cons f x xs
    ∙ (ap (λ a. a + sum_by f xs) (e x all.0)
    ∙ (ap (λ b. (g x + h x) + b) (sum_by_both_where P f g h e xs all.1)
    ∙ (add_apart (g x) (h x) (sum_by g xs) (sum_by h xs)
    ∙ (ap (λ a. a + (h x + sum_by h xs)) (sym (sum_by-cons g x xs)) ∙ ap (λ b. sum_by g (x ∷ xs) + b) (sym (sum_by-cons h x xs))))))

pub sum_by-map : {X Y : Type 0} (f : Y → ℕ) (g : X → Y) (xs : List X) → sum_by f (map g xs) ≡ sum_by (λ x. f (g x)) xs
sum_by-map f g [] = refl
sum_by-map f g (x ∷ xs) =
    sum_by-cons f (g x) (map g xs) ∙ (ap (λ b. f (g x) + b) (sum_by-map f g xs) ∙ sym (sum_by-cons (λ y. f (g y)) x xs))

-- the sum of what a filter keeps
pub sum_by-filter : {X : Type 0} (f : X → ℕ) (p : X → Bool) (xs : List X) → sum_by f (filter p xs) ≡ sum_by (λ x. cond (p x) (f x) 0) xs
sum_by-filter f p [] = refl
sum_by-filter {X} f p (x ∷ xs) =
    (elim (p x) as (λ b. sum_by f (cond b (x ∷ filter p xs) (filter p xs)) ≡ cond b (f x) 0 + sum_by (λ y. cond (p y) (f y) 0) xs) [
      | true ↦ sum_by-cons f x (filter p xs) ∙ ap (λ b. f x + b) (sum_by-filter f p xs)
      | false ↦ sum_by-filter f p xs ∙ plain (sum_by (λ y. cond (p y) (f y) 0) xs)
    ])
    ∙ sym (sum_by-cons (λ y. cond (p y) (f y) 0) x xs)
  where
    plain : (n : ℕ) → n ≡ 0 + n
    plain n = omega arith
