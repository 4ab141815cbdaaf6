-- Lists that ascend by a number: one more item, a filter, a map, and that nothing has to be put in order.
use Rattle.std.proofs.Common.{◌≡◌, ℕ, ◌<◌, ◌≤◌, Bool, true, List, [], ◌∷◌, ◌++◌, refl, ap, ◌∙◌, arith}
use Rattle.std.specs.Prelude.{filter, map, nat_lt}
use Rattle.std.specs.List.{AllByRecursion}
use Rattle.std.proofs.lemmas.Bool.{and_from, and_parts, cond-true, cond_both, lt-ltb, ltb-true}
use Rattle.chat_model.specs.Ascending.{ascending_once_by, is_ascending_by, put_once_by}

-- the numbers of the items are below this one
abbrev pub AllBelow : {A : Type 0} → (A → ℕ) → ℕ → List A → Type 0
AllBelow number n xs = AllByRecursion (λ x. number x < n) xs

-- the numbers of the items are above this one
abbrev AllAbove : {A : Type 0} → (A → ℕ) → ℕ → List A → Type 0
AllAbove number n xs = AllByRecursion (λ x. n < number x) xs

AllAbove-lower : {A : Type 0} (number : A → ℕ) (m n : ℕ) → m ≤ n → (xs : List A) → AllAbove number n xs → AllAbove number m xs
AllAbove-lower number m n le [] h = tt
AllAbove-lower number m n le (x ∷ xs) h = (omega (arith, h.0), AllAbove-lower number m n le xs h.1)

ascending-above : {A : Type 0} (number : A → ℕ) (x : A) (xs : List A) → is_ascending_by number (x ∷ xs) ≡ true → AllAbove number (number x) xs
ascending-above number x [] h = tt
ascending-above number x (y ∷ ys) h =
    let parts = and_parts (nat_lt (number x) (number y)) (is_ascending_by number (y ∷ ys)) h in
    let lt : number x < number y = ltb-true (number x) (number y) parts.0 in
    (lt, AllAbove-lower number (number x) (number y) (omega arith) ys (ascending-above number y ys parts.1))

ascending-cons : {A : Type 0} (number : A → ℕ) (x : A) (xs : List A) → AllAbove number (number x) xs → is_ascending_by number xs ≡ true → is_ascending_by number (x ∷ xs) ≡ true
ascending-cons number x [] above h = refl
ascending-cons number x (y ∷ ys) above h = and_from (nat_lt (number x) (number y)) (is_ascending_by number (y ∷ ys)) (lt-ltb (number x) (number y) above.0) h

ascending-tail : {A : Type 0} (number : A → ℕ) (x : A) (xs : List A) → is_ascending_by number (x ∷ xs) ≡ true → is_ascending_by number xs ≡ true
ascending-tail number x [] h = refl
ascending-tail number x (y ∷ ys) h = (and_parts (nat_lt (number x) (number y)) (is_ascending_by number (y ∷ ys)) h).1

-- an item above all others may stand at the end
pub ascending-push : {A : Type 0} (number : A → ℕ) (xs : List A) (y : A) → is_ascending_by number xs ≡ true → AllBelow number (number y) xs → is_ascending_by number (xs ++ y ∷ []) ≡ true
ascending-push number [] y h below = refl
ascending-push number (x ∷ []) y h below = and_from (nat_lt (number x) (number y)) true (lt-ltb (number x) (number y) below.0) refl
ascending-push number (x ∷ z ∷ zs) y h below =
    let parts = and_parts (nat_lt (number x) (number z)) (is_ascending_by number (z ∷ zs)) h in
    and_from (nat_lt (number x) (number z)) (is_ascending_by number (z ∷ zs ++ y ∷ [])) parts.0 (ascending-push number (z ∷ zs) y parts.1 below.1)

-- what holds of each item holds of each item that a filter keeps
pub kept-filter : {A : Type 0} (P : A → Type 0) (p : A → Bool) (xs : List A) → AllByRecursion P xs → AllByRecursion P (filter p xs)
kept-filter P p [] h = tt
kept-filter P p (x ∷ xs) h = cond_both (p x) (x ∷ filter p xs) (filter p xs) (λ ys. AllByRecursion P ys) (λ _. (h.0, kept-filter P p xs h.1)) (λ _. kept-filter P p xs h.1)

pub ascending-filter : {A : Type 0} (number : A → ℕ) (p : A → Bool) (xs : List A) → is_ascending_by number xs ≡ true → is_ascending_by number (filter p xs) ≡ true
ascending-filter number p [] h = refl
ascending-filter number p (x ∷ xs) h =
    let rest = ascending-filter number p xs (ascending-tail number x xs h) in
    cond_both (p x) (x ∷ filter p xs) (filter p xs) (λ ys. is_ascending_by number ys ≡ true)
    (λ _. ascending-cons number x (filter p xs) (kept-filter (λ y. number x < number y) p xs (ascending-above number x xs h)) rest)
    (λ _. rest)

-- a map that leaves the numbers
pub ascending-map : {A B : Type 0} (number : A → ℕ) (told : B → ℕ) (f : A → B) → ((x : A) → told (f x) ≡ number x) → (xs : List A) → is_ascending_by number xs ≡ true → is_ascending_by told (map f xs) ≡ true
ascending-map number told f same [] h = refl
ascending-map number told f same (x ∷ []) h = refl
ascending-map number told f same (x ∷ y ∷ ys) h =
    let parts = and_parts (nat_lt (number x) (number y)) (is_ascending_by number (y ∷ ys)) h in
    and_from (nat_lt (told (f x)) (told (f y))) (is_ascending_by told (map f (y ∷ ys))) ((λ i. nat_lt (same x i) (same y i)) ∙ parts.0) (ascending-map number told f same (y ∷ ys) parts.1)

put_once-front : {A : Type 0} (number : A → ℕ) (x : A) (xs : List A) → AllAbove number (number x) xs → put_once_by number x xs ≡ x ∷ xs
put_once-front number x [] h = refl
put_once-front number x (y ∷ ys) h = cond-true (nat_lt (number x) (number y)) (x ∷ y ∷ ys) _ (lt-ltb (number x) (number y) h.0)

-- items that ascend are in order already
pub ascending_once-same : {A : Type 0} (number : A → ℕ) (xs : List A) → is_ascending_by number xs ≡ true → ascending_once_by number xs ≡ xs
ascending_once-same number [] h = refl
ascending_once-same number (x ∷ xs) h = ap (put_once_by number x) (ascending_once-same number xs (ascending-tail number x xs h)) ∙ put_once-front number x xs (ascending-above number x xs h)
