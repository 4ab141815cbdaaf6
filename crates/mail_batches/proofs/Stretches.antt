-- Users that ascend, and the values that stand beside them.
use Rattle.std.proofs.Common.{◌≡◌, ℕ, ◌+◌, ◌-◌, ◌<◌, ◌≤◌, zero, suc, Bool, true, false, not, ◌==◌, cond, List, [], ◌∷◌, ◌++◌, length, take, drop, refl, sym, ap, ◌∙◌, subst, inl, inr, get_or, set, length-set, arith, append_assoc}
use Rattle.std.specs.Prelude.{nat_le, nat_lt}
use Rattle.std.specs.List.{list_all, zip, AllWithin}
use Rattle.std.specs.List.Sorted.{IsNonDecreasingBy}
use Rattle.std.proofs.lemmas.Bool.{and_from, and_parts, cases_eq, eq-eqb, eqb-true, false≢true, ne_eqb}
use Rattle.std.proofs.lemmas.Bool.Decides.{nat_tests}
use Rattle.std.proofs.lemmas.List.{drop-drop, take-append-drop, length-take, length-drop, length-append, append-nil, take_at, drop-set, drop_more}
use Rattle.std.proofs.lemmas.List.Folds.{list_all-append}
use Rattle.chat_model.specs.declared.ids.UserId.{UserId}
use Rattle.mail_batches.specs.ByUser.{values_of, with_first, ascends}

-- ---- tests of all items

-- each item that passes one test passes another
all_weaker : {A : Type 0} (p q : A → Bool) → ((x : A) → p x ≡ true → q x ≡ true) → (xs : List A) → list_all p xs ≡ true → list_all q xs ≡ true
all_weaker p q gives [] h = refl
all_weaker p q gives (x ∷ xs) h = let parts = and_parts (p x) (list_all p xs) h in and_from (q x) (list_all q xs) (gives x parts.0) (all_weaker p q gives xs parts.1)

pub all_both : {A : Type 0} (p q r : A → Bool) → ((x : A) → p x ≡ true → q x ≡ true → r x ≡ true) → (xs : List A) → list_all p xs ≡ true → list_all q xs ≡ true → list_all r xs ≡ true
all_both p q r gives [] h k = refl
all_both p q r gives (x ∷ xs) h k =
    let hs = and_parts (p x) (list_all p xs) h in
    let ks = and_parts (q x) (list_all q xs) k in
    and_from (r x) (list_all r xs) (gives x hs.0 ks.0) (all_both p q r gives xs hs.1 ks.1)

pub all_within-take : {A : Type 0} (p : A → Bool) (xs : List A) (i : ℕ) → i ≤ length xs → AllWithin (λ x. p x ≡ true) xs 0 i → list_all p (take i xs) ≡ true
all_within-take p xs zero le h = refl
all_within-take p [] (suc i) le h = refl
all_within-take p (x ∷ xs) (suc i) le h =
    and_from (p x) (list_all p (take i xs)) (h 0 x (omega arith) (omega arith)) (all_within-take p xs i (omega arith) (λ k d low high. h (suc k) d (omega arith) (omega arith)))

pub all_within-drop : {A : Type 0} (p q : A → Bool) → ((x : A) → p x ≡ false → q x ≡ true) → (xs : List A) (i : ℕ) → AllWithin (λ x. p x ≡ false) xs i (length xs) → list_all q (drop i xs) ≡ true
all_within-drop p q gives [] zero h = refl
all_within-drop p q gives [] (suc i) h = refl
all_within-drop p q gives (x ∷ xs) zero h =
    and_from (q x) (list_all q xs) (gives x (h 0 x (omega arith) (omega arith))) (all_within-drop p q gives xs 0 (λ k d low high. h (suc k) d (omega arith) (omega arith)))
all_within-drop p q gives (x ∷ xs) (suc i) h = all_within-drop p q gives xs i (λ k d low high. h (suc k) d (omega arith) (omega arith))

pub all_take : {A : Type 0} (p : A → Bool) (i : ℕ) (xs : List A) → list_all p xs ≡ true → list_all p (take i xs) ≡ true
all_take p i xs h = (and_parts (list_all p (take i xs)) (list_all p (drop i xs)) (sym (list_all-append p (take i xs) (drop i xs)) ∙ (ap (list_all p) (take-append-drop i xs) ∙ h))).0

pub not_below : (n m : ℕ) → nat_lt m n ≡ false → nat_le n m ≡ true
not_below n m h = grind (arith, nat_tests)

pub not_up_to : (n m : ℕ) → nat_le m n ≡ false → nat_lt n m ≡ true
not_up_to n m h = grind (arith, nat_tests)

pub just_at : (n m : ℕ) → nat_le m n ≡ true → nat_le n m ≡ true → (m == n) ≡ true
just_at n m h k = grind (arith, nat_tests)

-- ---- users that ascend

ascends-parts : (us vs : List UserId) → ascends (us ++ vs) ≡ true → (ascends us ≡ true) × (ascends vs ≡ true)
ascends-parts [] vs h = (refl, h)
ascends-parts (u ∷ us) vs h =
    let parts = and_parts (list_all (λ v. nat_le u.0 v.0) (us ++ vs)) (ascends (us ++ vs)) h in
    let below = and_parts (list_all (λ v. nat_le u.0 v.0) us) (list_all (λ v. nat_le u.0 v.0) vs) (sym (list_all-append (λ v. nat_le u.0 v.0) us vs) ∙ parts.0) in
    let rest = ascends-parts us vs parts.1 in
    (and_from (list_all (λ v. nat_le u.0 v.0) us) (ascends us) below.0 rest.0, rest.1)

-- users up to a number, and then users from it on
ascends-append : (n : ℕ) (us vs : List UserId) → ascends us ≡ true → list_all (λ u. nat_le u.0 n) us ≡ true → ascends vs ≡ true → list_all (λ v. nat_le n v.0) vs ≡ true → ascends (us ++ vs) ≡ true
ascends-append n [] vs hu below hv above = hv
ascends-append n (u ∷ us) vs hu below hv above =
    let parts = and_parts (list_all (λ v. nat_le u.0 v.0) us) (ascends us) hu in
    let first = and_parts (nat_le u.0 n) (list_all (λ v. nat_le v.0 n) us) below in
    let far : list_all (λ v. nat_le u.0 v.0) vs ≡ true = all_weaker (λ v. nat_le n v.0) (λ v. nat_le u.0 v.0) (λ v h. farther u.0 n v.0 first.0 h) vs above in
    and_from (list_all (λ v. nat_le u.0 v.0) (us ++ vs)) (ascends (us ++ vs))
    (list_all-append (λ v. nat_le u.0 v.0) us vs ∙ and_from (list_all (λ v. nat_le u.0 v.0) us) (list_all (λ v. nat_le u.0 v.0) vs) parts.0 far)
    (ascends-append n us vs parts.1 first.1 hv above)
  where
    farther : (a b c : ℕ) → nat_le a b ≡ true → nat_le b c ≡ true → nat_le a c ≡ true
    farther a b c h k = grind (arith, nat_tests)

first_lowest : (u : UserId) (us : List UserId) → list_all (λ v. nat_le u.0 v.0) us ≡ true → (j : ℕ) (d : UserId) → j < length us → u.0 ≤ (get_or us j d).0
first_lowest u [] h j d lt = absurd (omega arith)
first_lowest u (v ∷ us) h zero d lt = let parts = and_parts (nat_le u.0 v.0) (list_all (λ w. nat_le u.0 w.0) us) h in grind (arith, nat_tests, parts.0)
first_lowest u (v ∷ us) h (suc j) d lt = first_lowest u us (and_parts (nat_le u.0 v.0) (list_all (λ w. nat_le u.0 w.0) us) h).1 j d (omega arith)

pub ascends-non_decreasing : (us : List UserId) → ascends us ≡ true → IsNonDecreasingBy (λ u. u.0) us
ascends-non_decreasing [] h i j d le lt = absurd (omega arith)
ascends-non_decreasing (u ∷ us) h zero zero d le lt = omega arith
ascends-non_decreasing (u ∷ us) h zero (suc j) d le lt = first_lowest u us (and_parts (list_all (λ v. nat_le u.0 v.0) us) (ascends us) h).0 j d (omega arith)
ascends-non_decreasing (u ∷ us) h (suc i) zero d le lt = absurd (omega arith)
ascends-non_decreasing (u ∷ us) h (suc i) (suc j) d le lt = ascends-non_decreasing us (and_parts (list_all (λ v. nat_le u.0 v.0) us) (ascends us) h).1 i j d (omega arith) (omega arith)

-- ---- the values of a user among values that stand beside users

pub values-append : {T : Type 0} (u : ℕ) (es fs : List (UserId × T)) → values_of u (es ++ fs) ≡ values_of u es ++ values_of u fs
values-append u [] fs = refl
values-append u (e ∷ es) fs =
    elim (e.0.0 == u) as (λ b. cond b (e.1 ∷ values_of u (es ++ fs)) (values_of u (es ++ fs)) ≡ cond b (e.1 ∷ values_of u es) (values_of u es) ++ values_of u fs) [
      | true ↦ ap (λ xs. e.1 ∷ xs) (values-append u es fs)
      | false ↦ values-append u es fs
    ]

pub zip-append : {T : Type 0} (us vs : List UserId) (xs ys : List T) → length us ≡ length xs → zip (us ++ vs) (xs ++ ys) ≡ zip us xs ++ zip vs ys
zip-append [] vs [] ys e = refl
zip-append [] vs (x ∷ xs) ys e = absurd (omega arith)
zip-append (u ∷ us) vs [] ys e = absurd (omega arith)
zip-append (u ∷ us) vs (x ∷ xs) ys e = ap (λ zs. (u, x) ∷ zs) (zip-append us vs xs ys (omega arith))

-- beside users of other numbers there is none
pub values-none : {T : Type 0} (u : ℕ) (us : List UserId) (xs : List T) → list_all (λ v. not (v.0 == u)) us ≡ true → values_of u (zip us xs) ≡ []
values-none u [] xs h = refl
values-none u (v ∷ us) [] h = refl
values-none u (v ∷ us) (x ∷ xs) h =
    let parts = and_parts (not (v.0 == u)) (list_all (λ w. not (w.0 == u)) us) h in
    other (v.0 == u) parts.0 ∙ values-none u us xs parts.1
  where
    other : (b : Bool) → not b ≡ true → cond b (x ∷ values_of u (zip us xs)) (values_of u (zip us xs)) ≡ values_of u (zip us xs)
    other true e = absurd (false≢true e)
    other false e = refl

-- beside the user alone there are all
pub values-all : {T : Type 0} (u : ℕ) (us : List UserId) (xs : List T) → length us ≡ length xs → list_all (λ v. v.0 == u) us ≡ true → values_of u (zip us xs) ≡ xs
values-all u [] [] e h = refl
values-all u [] (x ∷ xs) e h = absurd (omega arith)
values-all u (v ∷ us) [] e h = absurd (omega arith)
values-all u (v ∷ us) (x ∷ xs) e h =
    let parts = and_parts (v.0 == u) (list_all (λ w. w.0 == u) us) h in
    ap (λ b. cond b (x ∷ values_of u (zip us xs)) (values_of u (zip us xs))) parts.0 ∙ ap (λ ys. x ∷ ys) (values-all u us xs (omega arith) parts.1)

-- ---- a stretch of a user among users that ascend

below_other : (n m : ℕ) → nat_lt m n ≡ true → not (m == n) ≡ true
below_other n m h = grind (arith, nat_tests)

above_other : (n m : ℕ) → nat_lt n m ≡ true → not (m == n) ≡ true
above_other n m h = grind (arith, nat_tests)

-- users below a number, users of it, and users above it
pub record IsStretch (u from to : ℕ) (us : List UserId) : Type 0 where
  pub order : from ≤ to
  pub within : to ≤ length us
  pub before : list_all (λ v. nat_lt v.0 u) (take from us) ≡ true
  pub at : list_all (λ v. v.0 == u) (take (to - from) (drop from us)) ≡ true
  pub behind : list_all (λ v. nat_lt u v.0) (drop to us) ≡ true

in_three : {A : Type 0} (from to : ℕ) (xs : List A) → from ≤ to → xs ≡ take from xs ++ (take (to - from) (drop from xs) ++ drop to xs)
in_three from to xs le =
    let e : from + (to - from) ≡ to = omega arith in
    sym (ap (λ ys. take from xs ++ ys) (ap (λ ys. take (to - from) (drop from xs) ++ ys) (sym (drop-drop (to - from) from xs ∙ ap (λ n. drop n xs) e)) ∙ take-append-drop (to - from) (drop from xs)) ∙ take-append-drop from xs)

length_middle : {A : Type 0} (from to : ℕ) (xs : List A) → from ≤ to → to ≤ length xs → length (take (to - from) (drop from xs)) ≡ to - from
length_middle from to xs le within = omega (arith, length-take (to - from) (drop from xs), length-drop from xs)

-- the three parts of the values
parted : {T : Type 0} (v from to : ℕ) (us : List UserId) (xs : List T) → from ≤ to → to ≤ length us → length us ≡ length xs →
    values_of v (zip us xs) ≡ values_of v (zip (take from us) (take from xs)) ++ (values_of v (zip (take (to - from) (drop from us)) (take (to - from) (drop from xs))) ++ values_of v (zip (drop to us) (drop to xs)))
parted v from to us xs le within same =
    let a = take from us in let b = take (to - from) (drop from us) in let c = drop to us in
    let x = take from xs in let y = take (to - from) (drop from xs) in let z = drop to xs in
    let first : length a ≡ length x = omega (arith, length-take from us, length-take from xs) in
    let middle : length b ≡ length y = omega (arith, length_middle from to us le within, length_middle from to xs le (omega arith)) in
    ap (λ vs. values_of v (zip vs xs)) (in_three from to us le)
    ∙ (ap (λ ys. values_of v (zip (a ++ (b ++ c)) ys)) (in_three from to xs le)
    ∙ (ap (values_of v) (zip-append a (b ++ c) x (y ++ z) first)
    ∙ (values-append v (zip a x) (zip (b ++ c) (y ++ z))
    ∙ ap (λ ys. values_of v (zip a x) ++ ys) (ap (values_of v) (zip-append b c y z middle) ∙ values-append v (zip b y) (zip c z)))))

-- the values of the user are those that stand beside the stretch
pub values-stretch : {T : Type 0} (u from to : ℕ) (us : List UserId) (xs : List T) → length us ≡ length xs → IsStretch u from to us → take (to - from) (drop from xs) ≡ values_of u (zip us xs)
values-stretch u from to us xs same s =
    let b = take (to - from) (drop from us) in let y = take (to - from) (drop from xs) in
    let middle : length b ≡ length y = omega (arith, length_middle from to us s.order s.within, length_middle from to xs s.order (omega (arith, s.within))) in
    let none_before = values-none u (take from us) (take from xs) (all_weaker (λ v. nat_lt v.0 u) (λ v. not (v.0 == u)) (λ v h. below_other u v.0 h) (take from us) s.before) in
    let none_behind = values-none u (drop to us) (drop to xs) (all_weaker (λ v. nat_lt u v.0) (λ v. not (v.0 == u)) (λ v h. above_other u v.0 h) (drop to us) s.behind) in
    sym (parted u from to us xs s.order s.within same
    ∙ (ap (λ ys. ys ++ (values_of u (zip b y) ++ values_of u (zip (drop to us) (drop to xs)))) none_before
    ∙ (ap (λ ys. values_of u (zip b y) ++ ys) none_behind
    ∙ (append-nil (values_of u (zip b y))
    ∙ values-all u b y middle s.at))))

-- ---- a value that comes, goes or changes

pub stretch_of : (u from to : ℕ) (us vs : List UserId) → us ≡ vs → IsStretch u from to us → IsStretch u from to vs
stretch_of u from to us vs e s = subst (λ (ws : List UserId). IsStretch u from to ws) e s

front-two : {A : Type 0} (from to : ℕ) (xs : List A) → from ≤ to → to ≤ length xs → take to xs ≡ take from xs ++ take (to - from) (drop from xs)
front-two from to xs le within =
    let a = take from xs in let b = take (to - from) (drop from xs) in
    let long : length (a ++ b) ≡ to = omega (arith, length-append a b, length_middle from to xs le within, length-take from xs) in
    let grouped : a ++ (b ++ drop to xs) ≡ (a ++ b) ++ drop to xs = simp append_assoc in
    ap (take to) (in_three from to xs le ∙ grouped) ∙ take_at (a ++ b) (drop to xs) to long

up_to_all : (u from to : ℕ) (us : List UserId) → IsStretch u from to us → list_all (λ v. nat_le v.0 u) (take to us) ≡ true
up_to_all u from to us s =
    ap (list_all (λ v. nat_le v.0 u)) (front-two from to us s.order s.within)
    ∙ (list_all-append (λ v. nat_le v.0 u) (take from us) (take (to - from) (drop from us))
    ∙ and_from (list_all (λ v. nat_le v.0 u) (take from us)) (list_all (λ v. nat_le v.0 u) (take (to - from) (drop from us)))
    (all_weaker (λ v. nat_lt v.0 u) (λ v. nat_le v.0 u) (λ v h. below v.0 u h) (take from us) s.before)
    (all_weaker (λ v. v.0 == u) (λ v. nat_le v.0 u) (λ v h. same v.0 u h) (take (to - from) (drop from us)) s.at))
  where
    below : (m n : ℕ) → nat_lt m n ≡ true → nat_le m n ≡ true
    below m n h = grind (arith, nat_tests)

    same : (m n : ℕ) → (m == n) ≡ true → nat_le m n ≡ true
    same m n h = grind (arith, nat_tests)

above_all : (u to : ℕ) (us : List UserId) → list_all (λ v. nat_lt u v.0) (drop to us) ≡ true → list_all (λ v. nat_le u v.0) (drop to us) ≡ true
above_all u to us h = all_weaker (λ v. nat_lt u v.0) (λ v. nat_le u v.0) (λ v k. above u v.0 k) (drop to us) h
  where
    above : (m n : ℕ) → nat_lt m n ≡ true → nat_le m n ≡ true
    above m n h = grind (arith, nat_tests)

not_above_itself : (n : ℕ) → nat_le n n ≡ true
not_above_itself n = grind (arith, nat_tests)

pub ascends-insert : (user : UserId) (from to : ℕ) (us : List UserId) → ascends us ≡ true → IsStretch user.0 from to us → ascends (take to us ++ user ∷ drop to us) ≡ true
ascends-insert user from to us h s =
    let parts = ascends-parts (take to us) (drop to us) (ap ascends (take-append-drop to us) ∙ h) in
    let above = above_all user.0 to us s.behind in
    ascends-append user.0 (take to us) (user ∷ drop to us) parts.0 (up_to_all user.0 from to us s)
    (and_from (list_all (λ v. nat_le user.0 v.0) (drop to us)) (ascends (drop to us)) above parts.1)
    (and_from (nat_le user.0 user.0) (list_all (λ v. nat_le user.0 v.0) (drop to us)) (not_above_itself user.0) above)

pub ascends-cut : (u from to : ℕ) (us : List UserId) → ascends us ≡ true → IsStretch u from to us → ascends (take from us ++ drop to us) ≡ true
ascends-cut u from to us h s =
    let front = ascends-parts (take from us) (drop from us) (ap ascends (take-append-drop from us) ∙ h) in
    let back = ascends-parts (take to us) (drop to us) (ap ascends (take-append-drop to us) ∙ h) in
    ascends-append u (take from us) (drop to us) front.0 (all_weaker (λ v. nat_lt v.0 u) (λ v. nat_le v.0 u) (λ v k. below v.0 u k) (take from us) s.before) back.1 (above_all u to us s.behind)
  where
    below : (m n : ℕ) → nat_lt m n ≡ true → nat_le m n ≡ true
    below m n h = grind (arith, nat_tests)

-- the values at the front and at the back
halves : {T : Type 0} (v to : ℕ) (us : List UserId) (xs : List T) → length us ≡ length xs → values_of v (zip us xs) ≡ values_of v (zip (take to us) (take to xs)) ++ values_of v (zip (drop to us) (drop to xs))
halves v to us xs same =
    let first : length (take to us) ≡ length (take to xs) = omega (arith, length-take to us, length-take to xs) in
    ap (λ vs. values_of v (zip vs xs)) (sym (take-append-drop to us))
    ∙ (ap (λ ys. values_of v (zip (take to us ++ drop to us) ys)) (sym (take-append-drop to xs))
    ∙ (ap (values_of v) (zip-append (take to us) (drop to us) (take to xs) (drop to xs) first)
    ∙ values-append v (zip (take to us) (take to xs)) (zip (drop to us) (drop to xs))))

pub values-insert : {T : Type 0} (v : ℕ) (user : UserId) (x : T) (from to : ℕ) (us : List UserId) (xs : List T) → length us ≡ length xs → IsStretch user.0 from to us →
    values_of v (zip (take to us ++ user ∷ drop to us) (take to xs ++ x ∷ drop to xs)) ≡ cond (v == user.0) (values_of v (zip us xs) ++ x ∷ []) (values_of v (zip us xs))
values-insert v user x from to us xs same s =
    let front = values_of v (zip (take to us) (take to xs)) in
    let back = values_of v (zip (drop to us) (drop to xs)) in
    let old : values_of v (zip us xs) ≡ front ++ back = halves v to us xs same in
    let first : length (take to us) ≡ length (take to xs) = omega (arith, length-take to us, length-take to xs) in
    let new : values_of v (zip (take to us ++ user ∷ drop to us) (take to xs ++ x ∷ drop to xs)) ≡ front ++ cond (user.0 == v) (x ∷ back) back =
    ap (values_of v) (zip-append (take to us) (user ∷ drop to us) (take to xs) (x ∷ drop to xs) first) ∙ values-append v (zip (take to us) (take to xs)) ((user, x) ∷ zip (drop to us) (drop to xs)) in
    elim (cases_eq v user.0) [
      | inl e ↦
          let none : back ≡ [] = values-none v (drop to us) (drop to xs) (all_weaker (λ w. nat_lt user.0 w.0) (λ w. not (w.0 == v)) (λ w h. above_other v w.0 (subst (λ (n : ℕ). nat_lt n w.0 ≡ true) (sym e) h)) (drop to us) s.behind) in
          new
          ∙ (ap (λ b. front ++ cond b (x ∷ back) back) (eq-eqb user.0 v (sym e))
          ∙ (ap (λ ys. front ++ x ∷ ys) none
          ∙ (ap (λ ys. ys ++ x ∷ []) (sym (append-nil front) ∙ (ap (λ ys. front ++ ys) (sym none) ∙ sym old))
          ∙ ap (λ b. cond b (values_of v (zip us xs) ++ x ∷ []) (values_of v (zip us xs))) (sym (eq-eqb v user.0 e)))))
      | inr ne ↦
          new
          ∙ (ap (λ b. front ++ cond b (x ∷ back) back) (ne_eqb user.0 v (λ e. ne (sym e)))
          ∙ (sym old
          ∙ ap (λ b. cond b (values_of v (zip us xs) ++ x ∷ []) (values_of v (zip us xs))) (sym (ne_eqb v user.0 ne))))
    ]

pub values-cut : {T : Type 0} (v u from to : ℕ) (us : List UserId) (xs : List T) → length us ≡ length xs → IsStretch u from to us →
    values_of v (zip (take from us ++ drop to us) (take from xs ++ drop to xs)) ≡ cond (v == u) [] (values_of v (zip us xs))
values-cut v u from to us xs same s =
    let front = values_of v (zip (take from us) (take from xs)) in
    let middle = values_of v (zip (take (to - from) (drop from us)) (take (to - from) (drop from xs))) in
    let back = values_of v (zip (drop to us) (drop to xs)) in
    let first : length (take from us) ≡ length (take from xs) = omega (arith, length-take from us, length-take from xs) in
    let new : values_of v (zip (take from us ++ drop to us) (take from xs ++ drop to xs)) ≡ front ++ back =
    ap (values_of v) (zip-append (take from us) (drop to us) (take from xs) (drop to xs) first) ∙ values-append v (zip (take from us) (take from xs)) (zip (drop to us) (drop to xs)) in
    elim (cases_eq v u) [
      | inl e ↦
          let none_before : front ≡ [] = values-none v (take from us) (take from xs) (all_weaker (λ w. nat_lt w.0 u) (λ w. not (w.0 == v)) (λ w h. below_other v w.0 (subst (λ (n : ℕ). nat_lt w.0 n ≡ true) (sym e) h)) (take from us) s.before) in
          let none_behind : back ≡ [] = values-none v (drop to us) (drop to xs) (all_weaker (λ w. nat_lt u w.0) (λ w. not (w.0 == v)) (λ w h. above_other v w.0 (subst (λ (n : ℕ). nat_lt n w.0 ≡ true) (sym e) h)) (drop to us) s.behind) in
          new ∙ (ap (λ ys. ys ++ back) none_before ∙ (none_behind ∙ ap (λ b. cond b [] (values_of v (zip us xs))) (sym (eq-eqb v u e))))
      | inr ne ↦
          let none_between : middle ≡ [] = values-none v (take (to - from) (drop from us)) (take (to - from) (drop from xs)) (all_weaker (λ w. w.0 == u) (λ w. not (w.0 == v)) (λ w h. another v u w.0 ne h) (take (to - from) (drop from us)) s.at) in
          new ∙ (sym (parted v from to us xs s.order s.within same ∙ ap (λ ys. front ++ (ys ++ back)) none_between) ∙ ap (λ b. cond b [] (values_of v (zip us xs))) (sym (ne_eqb v u ne)))
    ]
  where
    another : (v u w : ℕ) → ¬ (v ≡ u) → (w == u) ≡ true → not (w == v) ≡ true
    another v u w ne h = ap not (ne_eqb w v (λ e. ne (sym e ∙ eqb-true w u h)))

first_set : {T : Type 0} (x : T) (n from : ℕ) (xs : List T) → 0 < n → from < length xs → take n (drop from (set xs from x)) ≡ with_first x (take n (drop from xs))
first_set x zero from xs some lt = absurd (omega arith)
first_set x (suc n) from xs some lt = ap (take (suc n)) (drop-set xs from x lt) ∙ sym (ap (λ ys. with_first x (take (suc n) ys)) (drop_more xs from x lt))

-- a value that changes beside another user
other_set : {T : Type 0} (v : ℕ) (x : T) (i : ℕ) (d : UserId) (us : List UserId) (xs : List T) → ((get_or us i d).0 == v) ≡ false → values_of v (zip us (set xs i x)) ≡ values_of v (zip us xs)
other_set v x i d [] xs h = refl
other_set v x zero d (u ∷ us) [] h = refl
other_set v x (suc i) d (u ∷ us) [] h = refl
other_set v x zero d (u ∷ us) (y ∷ ys) h =
    ap (λ b. cond b (x ∷ values_of v (zip us ys)) (values_of v (zip us ys))) h ∙ sym (ap (λ b. cond b (y ∷ values_of v (zip us ys)) (values_of v (zip us ys))) h)
other_set v x (suc i) d (u ∷ us) (y ∷ ys) h = ap (λ zs. cond (u.0 == v) (y ∷ zs) zs) (other_set v x i d us ys h)

at_first : (u from to : ℕ) (d : UserId) (us : List UserId) → IsStretch u from to us → from < to → ((get_or us from d).0 == u) ≡ true
at_first u from to d us s lt = head (to - from) (omega arith) s.at
  where
    head : (n : ℕ) → 0 < n → list_all (λ v. v.0 == u) (take n (drop from us)) ≡ true → ((get_or us from d).0 == u) ≡ true
    head zero some h = absurd (omega arith)
    head (suc n) some h =
        (and_parts ((get_or us from d).0 == u) (list_all (λ v. v.0 == u) (take n (drop (from + 1) us))) (sym (ap (λ vs. list_all (λ (v : UserId). v.0 == u) (take (suc n) vs)) (drop_more us from d (omega (arith, s.within)))) ∙ h)).0

pub values-set : {T : Type 0} (v u : ℕ) (x : T) (from to : ℕ) (us : List UserId) (xs : List T) → length us ≡ length xs → IsStretch u from to us → from < to →
    values_of v (zip us (set xs from x)) ≡ cond (v == u) (with_first x (values_of v (zip us xs))) (values_of v (zip us xs))
values-set v u x from to us xs same s lt =
    elim (cases_eq v u) [
      | inl e ↦
          let new = values-stretch u from to us (set xs from x) (same ∙ sym (length-set xs from x)) s in
          let old = values-stretch u from to us xs same s in
          ap (λ n. values_of n (zip us (set xs from x))) e
          ∙ (sym new
          ∙ (first_set x (to - from) from xs (omega arith) (omega (arith, s.within))
          ∙ (ap (with_first x) (old ∙ ap (λ n. values_of n (zip us xs)) (sym e))
          ∙ ap (λ b. cond b (with_first x (values_of v (zip us xs))) (values_of v (zip us xs))) (sym (eq-eqb v u e)))))
      | inr ne ↦
          let d : UserId = record { 0 = u } in
          other_set v x from d us xs (ne_eqb ((get_or us from d).0) v (λ e. ne (sym e ∙ eqb-true ((get_or us from d).0) u (at_first u from to d us s lt))))
          ∙ ap (λ b. cond b (with_first x (values_of v (zip us xs))) (values_of v (zip us xs))) (sym (ne_eqb v u ne))
    ]

-- where the stretch is empty the user has no value
pub values-empty : {T : Type 0} (v u : ℕ) (x : T) (from to : ℕ) (us : List UserId) (xs : List T) → length us ≡ length xs → IsStretch u from to us → to ≤ from →
    values_of v (zip us xs) ≡ cond (v == u) (with_first x (values_of v (zip us xs))) (values_of v (zip us xs))
values-empty v u x from to us xs same s le =
    elim (cases_eq v u) [
      | inl e ↦
          let gap : to - from ≡ 0 = omega arith in
          let none : values_of v (zip us xs) ≡ [] = ap (λ n. values_of n (zip us xs)) e ∙ (sym (values-stretch u from to us xs same s) ∙ ap (λ n. take n (drop from xs)) gap) in
          none ∙ (ap (with_first x) (sym none) ∙ ap (λ b. cond b (with_first x (values_of v (zip us xs))) (values_of v (zip us xs))) (sym (eq-eqb v u e)))
      | inr ne ↦ ap (λ b. cond b (with_first x (values_of v (zip us xs))) (values_of v (zip us xs))) (sym (ne_eqb v u ne))
    ]
