-- Searches in lists that were filtered, mapped or added to.
use Rattle.std.proofs.Common.{◌≡◌, ℕ, ◌<◌, Bool, true, false, ◌&&◌, ◌||◌, cond, List, [], ◌∷◌, Some, refl, sym, ap, ◌∙◌, subst, arith, ◌⊎◌, inl, inr}
use Rattle.std.specs.Prelude.{filter, find, map, nat_lt}
use Rattle.std.specs.List.{AllByRecursion, list_any}
use Rattle.std.proofs.lemmas.Bool.{and_parts, false≢true, ltb-true, or_cases, or_left, or_right}
use Rattle.chat_model.specs.Ascending.{is_ascending_by}

-- ---- one that passes

-- one that passes the test is found among items that were mapped, where the map keeps it so
pub any-map : {A B : Type 0} (p : A → Bool) (q : B → Bool) (f : A → B) (xs : List A) → AllByRecursion (λ x. p x ≡ true → q (f x) ≡ true) xs → list_any p xs ≡ true → list_any q (map f xs) ≡ true
any-map p q f [] h found = found
any-map p q f (x ∷ xs) h found =
    elim (or_cases (p x) (list_any p xs) found) [
      | inl here ↦ or_left (q (f x)) (list_any q (map f xs)) (h.0 here)
      | inr there ↦ or_right (q (f x)) (list_any q (map f xs)) (any-map p q f xs h.1 there)
    ]

-- and among those that a filter keeps, where it keeps it
pub any-filter : {A : Type 0} (p keep : A → Bool) (xs : List A) → AllByRecursion (λ x. p x ≡ true → keep x ≡ true) xs → list_any p xs ≡ true → list_any p (filter keep xs) ≡ true
any-filter p keep [] h found = found
any-filter p keep (x ∷ xs) h found = by (keep x) refl (or_cases (p x) (list_any p xs) found) (any-filter p keep xs h.1)
  where
    by : (b : Bool) → keep x ≡ b → (p x ≡ true) ⊎ (list_any p xs ≡ true) → (list_any p xs ≡ true → list_any p (filter keep xs) ≡ true) → list_any p (cond b (x ∷ filter keep xs) (filter keep xs)) ≡ true
    by true e (inl here) ih = or_left (p x) (list_any p (filter keep xs)) here
    by true e (inr there) ih = or_right (p x) (list_any p (filter keep xs)) (ih there)
    by false e (inl here) ih = absurd (false≢true (sym e ∙ h.0 here))
    by false e (inr there) ih = ih there

-- a search among those that a filter keeps
pub any-filtered : {A : Type 0} (p keep : A → Bool) (xs : List A) → list_any p (filter keep xs) ≡ list_any (λ x. keep x && p x) xs
any-filtered p keep [] = refl
any-filtered p keep (x ∷ xs) = by (keep x) (any-filtered p keep xs)
  where
    by : (b : Bool) → list_any p (filter keep xs) ≡ list_any (λ y. keep y && p y) xs → list_any p (cond b (x ∷ filter keep xs) (filter keep xs)) ≡ (b && p x || list_any (λ y. keep y && p y) xs)
    by true ih = ap (λ b. p x || b) ih
    by false ih = ih

-- where one passes, one of them does
pub any_one : {A : Type 0} (p : A → Bool) (P : A → Type 0) (xs : List A) → AllByRecursion P xs → list_any p xs ≡ true → (x : A) × P x × (p x ≡ true)
any_one p P [] h found = absurd (false≢true found)
any_one p P (x ∷ xs) h found =
    elim (or_cases (p x) (list_any p xs) found) [
      | inl here ↦ (x, h.0, here)
      | inr there ↦ any_one p P xs h.1 there
    ]

pub any_weaker : {A : Type 0} (p q : A → Bool) (xs : List A) → AllByRecursion (λ x. p x ≡ true → q x ≡ true) xs → list_any p xs ≡ true → list_any q xs ≡ true
any_weaker p q [] h found = found
any_weaker p q (x ∷ xs) h found =
    elim (or_cases (p x) (list_any p xs) found) [
      | inl here ↦ or_left (q x) (list_any q xs) (h.0 here)
      | inr there ↦ or_right (q x) (list_any q xs) (any_weaker p q xs h.1 there)
    ]

-- ---- each item

pub each_weaker : {A : Type 0} (P Q : A → Type 0) → ((x : A) → P x → Q x) → (xs : List A) → AllByRecursion P xs → AllByRecursion Q xs
each_weaker P Q f [] h = tt
each_weaker P Q f (x ∷ xs) h = (f x h.0, each_weaker P Q f xs h.1)

pub each_both : {A : Type 0} (P Q R : A → Type 0) → ((x : A) → P x → Q x → R x) → (xs : List A) → AllByRecursion P xs → AllByRecursion Q xs → AllByRecursion R xs
each_both P Q R f [] h k = tt
each_both P Q R f (x ∷ xs) h k = (f x h.0 k.0, each_both P Q R f xs h.1 k.1)

pub each : {A : Type 0} (P : A → Type 0) → ((x : A) → P x) → (xs : List A) → AllByRecursion P xs
each P f [] = tt
each P f (x ∷ xs) = (f x, each P f xs)

-- ---- the one that is found

pub found_passes : {A : Type 0} (p : A → Bool) (xs : List A) (x : A) → find p xs ≡ Some x → p x ≡ true
found_passes p [] x e = cc
found_passes p (y ∷ ys) x e = by (p y) refl e (found_passes p ys x)
  where
    by : (b : Bool) → p y ≡ b → cond b (Some y) (find p ys) ≡ Some x → (find p ys ≡ Some x → p x ≡ true) → p x ≡ true
    by true h f ih = let same : y ≡ x = cc in ap p (sym same) ∙ h
    by false h f ih = ih f

pub found_has : {A : Type 0} (P : A → Type 0) (p : A → Bool) (xs : List A) (x : A) → AllByRecursion P xs → find p xs ≡ Some x → P x
found_has P p [] x h e = cc
found_has P p (y ∷ ys) x h e = by (p y) e (found_has P p ys x h.1)
  where
    by : (b : Bool) → cond b (Some y) (find p ys) ≡ Some x → (find p ys ≡ Some x → P x) → P x
    by true f ih = let same : y ≡ x = cc in subst P same h.0
    by false f ih = ih f

-- among ascending items none but itself has the number of the one that is found
above : {A : Type 0} (number : A → ℕ) (x : A) (xs : List A) → is_ascending_by number (x ∷ xs) ≡ true → AllByRecursion (λ y. number x < number y) xs
above number x [] h = tt
above number x (y ∷ ys) h =
    let parts = and_parts (nat_lt (number x) (number y)) (is_ascending_by number (y ∷ ys)) h in
    let lt : number x < number y = ltb-true (number x) (number y) parts.0 in
    (lt, each_weaker (λ z. number y < number z) (λ z. number x < number z) (λ z k. omega arith) ys (above number y ys parts.1))

tail : {A : Type 0} (number : A → ℕ) (x : A) (xs : List A) → is_ascending_by number (x ∷ xs) ≡ true → is_ascending_by number xs ≡ true
tail number x [] h = refl
tail number x (y ∷ ys) h = (and_parts (nat_lt (number x) (number y)) (is_ascending_by number (y ∷ ys)) h).1

pub found_alone : {A : Type 0} (number : A → ℕ) (p : A → Bool) (xs : List A) (x : A) → is_ascending_by number xs ≡ true → find p xs ≡ Some x → AllByRecursion (λ y. number y ≡ number x → y ≡ x) xs
found_alone number p [] x h e = tt
found_alone number p (y ∷ ys) x h e = by (p y) e (found_alone number p ys x (tail number y ys h)) (λ f. found_has (λ z. number y < number z) p ys x (above number y ys h) f)
  where
    by : (b : Bool) → cond b (Some y) (find p ys) ≡ Some x → (find p ys ≡ Some x → AllByRecursion (λ z. number z ≡ number x → z ≡ x) ys) → (find p ys ≡ Some x → number y < number x) → AllByRecursion (λ z. number z ≡ number x → z ≡ x) (y ∷ ys)
    by true f ih low =
        let same : y ≡ x = cc in
        ((λ _. same), each_weaker (λ z. number y < number z) (λ z. number z ≡ number x → z ≡ x) (λ z k e. absurd (omega (arith, k, e, ap number same))) ys (above number y ys h))
    by false f ih low = ((λ e. absurd (omega (arith, low f, e))), ih f)
