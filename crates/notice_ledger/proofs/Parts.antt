-- Lists in parts, and what the removals of a user's messages name.
use Rattle.std.proofs.Common.{◌≡◌, ℕ, zero, suc, ◌+◌, ◌*◌, ◌<◌, Bool, true, false, ◌&&◌, ◌||◌, ◌==◌, cond, List, [], ◌∷◌, ◌++◌, length, map, take, drop, refl, sym, ap, ◌∙◌, arith, add-one, zero-mul, add-mul, one-mul}
use Rattle.std.specs.Prelude.{filter, nat_lt, sum_by, count_by, if◌then◌else◌}
use Rattle.std.specs.Int.{div_ceil}
use Rattle.std.specs.List.{AllByRecursion, flat_map, list_any, range_with_len}
use Rattle.std.proofs.Math.Bool.{or-true}
use Rattle.std.proofs.lemmas.Bool.{eq-eqb, eqb-true, le-ltb, lt-ltb, ne_eqb}
use Rattle.std.proofs.lemmas.Grind.{div_ceil_times, flat_map-append}
use Rattle.std.proofs.lemmas.List.{append-nil, take_all, take-take, drop-take, take-append-drop}
use Rattle.std.proofs.lemmas.List.FromFn.{map-range_with_len_more}
use Rattle.std.proofs.lemmas.List.Sums.{sum_by-append, sum_by-cons}
use Rattle.chat_model.specs.Ascending.{is_ascending_by, put_once_by, ascending_once_by}
use Rattle.chat_model.proofs.OnceEach.{has_number, ascending-rest, ascending-below, ascending-distinct, ascending_once-ascending, put_once-has}
use Rattle.chat_model.specs.declared.ids.UserId.{UserId}
use Rattle.chat_model.specs.declared.ids.MessageId.{MessageId}
use Rattle.chat_model.specs.declared.push_item.PushItem.{PushItem}
use Rattle.chat_model.specs.declared.push_item.PushItem.TheVariants.{Notify, Remove}
use Rattle.revocation.specs.Removals.{part, in_parts, most_messages, removals_of}
use Rattle.notice_ledger.specs.Past.Pushes.{removes}
use Rattle.notice_ledger.specs.Conserved.{named_once, removals_in_item}
use Rattle.notice_ledger.proofs.Lists.{AllByRecursion-weaker, AllByRecursion-filter, filter_none, filter_same_where}
use Rattle.notice_ledger.proofs.Sums.{sum_by-map, none_plus}

-- ---- the parts of a list

take_more_of : {A : Type 0} (n m : ℕ) (xs : List A) → take n xs ++ take m (drop n xs) ≡ take (n + m) xs
take_more_of n m xs =
    (λ i. sym (take-take n (n + m) xs (omega arith)) i ++ sym (drop-take n m xs) i) ∙ take-append-drop n (take (n + m) xs)

first_parts : {A : Type 0} (size k : ℕ) (xs : List A) → flat_map (λ p. p) (map (part size xs) (range_with_len 0 k)) ≡ take (k * size) xs
first_parts size zero xs = ap (λ n. take n xs) (sym (zero-mul size))
first_parts {A} size (suc k) xs =
    ap (λ n. flat_map (λ p. p) (map (part size xs) (range_with_len 0 n))) (sym (add-one k))
    ∙ (ap (flat_map (λ p. p)) (map-range_with_len_more (part size xs) 0 k k (omega arith))
    ∙ (flat_map-append (λ p. p) (map (part size xs) (range_with_len 0 k)) (part size xs k ∷ [])
    ∙ ((λ i. first_parts size k xs i ++ append-nil (part size xs k) i)
    ∙ (take_more_of (k * size) size xs ∙ ap (λ n. take n xs) (next k)))))
  where
    next : (k : ℕ) → k * size + size ≡ suc k * size
    next k = omega (arith, add-mul k 1 size, one-mul size, ap (λ n. n * size) (add-one k))

-- the parts of a list, one after another, are the list
pub in_parts-all : {A : Type 0} (k : ℕ) (xs : List A) → flat_map (λ p. p) (in_parts (suc k) xs) ≡ xs
in_parts-all k xs =
    first_parts (suc k) (div_ceil (length xs) (suc k)) xs
    ∙ take_all (div_ceil (length xs) (suc k) * suc k) xs (div_ceil_times (length xs) (suc k) (omega arith)).0

-- ---- how often removals name a message

pub sum_by-flat_map : {X Y : Type 0} (f : Y → ℕ) (g : X → List Y) (xs : List X) → sum_by f (flat_map g xs) ≡ sum_by (λ x. sum_by f (g x)) xs
sum_by-flat_map f g [] = refl
sum_by-flat_map f g (x ∷ xs) =
    sum_by-append f (g x) (flat_map g xs) ∙ (ap (λ n. sum_by f (g x) + n) (sum_by-flat_map f g xs) ∙ sym (sum_by-cons (λ x. sum_by f (g x)) x xs))

-- the removals of a user's messages name them as often as the list does
pub removals_of-named : (u v : UserId) (m : MessageId) (ms : List MessageId) → sum_by (removals_in_item v m) (removals_of u ms) ≡ named_once v m u ms
removals_of-named u v m ms =
    sum_by-map (removals_in_item v m) (Remove u) (in_parts most_messages ms) ∙ by (u.0 == v.0)
  where
    none : (ps : List (List MessageId)) → sum_by (λ (p : List MessageId). 0) ps ≡ 0
    none [] = refl
    none (p ∷ ps) = sum_by-cons (λ (p : List MessageId). 0) p ps ∙ (sym (none_plus (sum_by (λ (p : List MessageId). 0) ps)) ∙ none ps)

    by : (b : Bool) → sum_by (λ p. if b then count_by (λ n. n.0 == m.0) p else 0) (in_parts most_messages ms) ≡ (if b then count_by (λ n. n.0 == m.0) ms else 0)
    by true = sym (sum_by-flat_map (λ n. cond (n.0 == m.0) 1 0) (λ p. p) (in_parts most_messages ms)) ∙ ap (count_by (λ n. n.0 == m.0)) (in_parts-all 199 ms)
    by false = none (in_parts most_messages ms)

-- no messages make no removals
pub removals_of-nil : (u : UserId) → removals_of u [] ≡ []
removals_of-nil u = refl

-- ---- messages that ascend

pub ascending_once-has : {A : Type 0} (number : A → ℕ) (n : ℕ) (xs : List A) → has_number number (ascending_once_by number xs) n ≡ has_number number xs n
ascending_once-has number n [] = refl
ascending_once-has number n (x ∷ xs) = put_once-has number n x (ascending_once_by number xs) ∙ ap (λ b. number x == n || b) (ascending_once-has number n xs)

ascending-counted : {A : Type 0} (number : A → ℕ) (n : ℕ) (xs : List A) → is_ascending_by number xs ≡ true → count_by (λ x. number x == n) xs ≡ cond (has_number number xs n) 1 0
ascending-counted number n [] ascends = refl
ascending-counted number n (x ∷ xs) ascends =
    sum_by-cons (λ x. cond (number x == n) 1 0) x xs
    ∙ (ap (λ c. cond (number x == n) 1 0 + c) (ascending-counted number n xs (ascending-rest number x xs ascends)) ∙ by (number x == n) refl)
  where
    by : (b : Bool) → (number x == n) ≡ b → cond b 1 0 + cond (has_number number xs n) 1 0 ≡ cond (b || has_number number xs n) 1 0
    by true e = ap (λ b. 1 + cond b 1 0) (ap (has_number number xs) (sym (eqb-true (number x) n e)) ∙ ascending-distinct number x xs ascends)
    by false e = sym (none_plus (cond (has_number number xs n) 1 0))

-- messages ascending, once each, have each of the messages once
pub named-ascending : (m : MessageId) (ms : List MessageId) → count_by (λ n. n.0 == m.0) (ascending_once_by (λ n. n.0) ms) ≡ cond (list_any (λ n. n.0 == m.0) ms) 1 0
named-ascending m ms =
    ascending-counted (λ n. n.0) m.0 (ascending_once_by (λ n. n.0) ms) (ascending_once-ascending (λ n. n.0) ms)
    ∙ ap (λ b. cond b 1 0) (ascending_once-has (λ n. n.0) m.0 ms)

-- each item of a list is among them
pub each-has : {A : Type 0} (number : A → ℕ) (xs : List A) → AllByRecursion (λ x. has_number number xs (number x) ≡ true) xs
each-has number [] = tt
each-has number (x ∷ xs) = (
  ap (λ b. b || has_number number xs (number x)) (eq-eqb (number x) (number x) refl),
  AllByRecursion-weaker (λ y. has_number number xs (number y) ≡ true) (λ y. has_number number (x ∷ xs) (number y) ≡ true) (λ y e. ap (λ b. number x == number y || b) e ∙ or-true (number x == number y)) xs (each-has number xs),
)

pub each-named : (ms : List MessageId) → AllByRecursion (λ m. list_any (λ n. n.0 == m.0) ms ≡ true) ms
each-named ms = each-has (λ m. m.0) ms

-- an item before those that are above it
put_below : {A : Type 0} (number : A → ℕ) (x : A) (ys : List A) → AllByRecursion (λ y. number x < number y) ys → put_once_by number x ys ≡ x ∷ ys
put_below number x [] below = refl
put_below number x (y ∷ ys) below = ap (λ b. if b then x ∷ y ∷ ys else if number x == number y then y ∷ ys else y ∷ put_once_by number x ys) (lt-ltb (number x) (number y) below.0)

-- a number of items that are above another is above it
above : {A : Type 0} (number : A → ℕ) (n m : ℕ) (ys : List A) → AllByRecursion (λ y. n < number y) ys → has_number number ys m ≡ true → n < m
above number n m [] below has = absurd (cc)
above number n m (y ∷ ys) below has = by (number y == m) refl has (λ h. above number n m ys below.1 h)
  where
    by : (b : Bool) → (number y == m) ≡ b → (b || has_number number ys m) ≡ true → (has_number number ys m ≡ true → n < m) → n < m
    by true e h rest = omega (arith, eqb-true (number y) m e, below.0)
    by false e h rest = rest h

-- one of some ascending items, put among those of them that pass a test
put_among : {A : Type 0} (number : A → ℕ) → ((x y : A) → number x ≡ number y → x ≡ y) → (p : A → Bool) (x : A) (ys : List A) → is_ascending_by number ys ≡ true → has_number number ys (number x) ≡ true
    → put_once_by number x (filter p ys) ≡ filter (λ y. number x == number y || p y) ys
put_among number told p x [] ascends has = absurd (cc)
put_among {A} number told p x (y ∷ ys) ascends has = by (number x == number y) refl (p y) refl (λ there. put_among number told p x ys (ascending-rest number y ys ascends) there)
  where
    low : AllByRecursion (λ z. number y < number z) ys
    low = ascending-below number y ys ascends

    -- none behind it is the item
    only : number x ≡ number y → filter (λ z. number x == number z || p z) ys ≡ filter p ys
    only same = filter_same_where (λ z. number y < number z) (λ z. number x == number z || p z) p (λ z lt. ap (λ b. b || p z) (ne_eqb (number x) (number z) (λ e. omega (arith, same, e)))) ys low

    later : (number x == number y) ≡ false → has_number number ys (number x) ≡ true
    later other = ap (λ b. b || has_number number ys (number x)) (sym (ne_eqb (number y) (number x) (λ e. true≢false other e))) ∙ has
      where
        true≢false : (number x == number y) ≡ false → number y ≡ number x → ⊥
        true≢false f e = let no : true ≡ false = sym (eq-eqb (number x) (number y) (sym e)) ∙ f in absurd (cc)

    by : (b : Bool) → (number x == number y) ≡ b → (c : Bool) → p y ≡ c
        → (has_number number ys (number x) ≡ true → put_once_by number x (filter p ys) ≡ filter (λ z. number x == number z || p z) ys)
        → put_once_by number x (cond c (y ∷ filter p ys) (filter p ys)) ≡ cond (b || c) (y ∷ filter (λ z. number x == number z || p z) ys) (filter (λ z. number x == number z || p z) ys)
    by true e true f next =
        let same = eqb-true (number x) (number y) e in
        (λ i. if le-ltb (number x) (number y) (omega (arith, same)) i then x ∷ y ∷ filter p ys else if e i then y ∷ filter p ys else y ∷ put_once_by number x (filter p ys))
        ∙ ap (λ zs. y ∷ zs) (sym (only same))
    by true e false f next =
        let same = eqb-true (number x) (number y) e in
        put_below number x (filter p ys) (AllByRecursion-filter (λ z. number x < number z) p ys (AllByRecursion-weaker (λ z. number y < number z) (λ z. number x < number z) (λ z lt. omega (arith, same)) ys low))
        ∙ (λ i. told x y same i ∷ sym (only same) i)
    by false e true f next =
        let behind : number y < number x = above number (number y) (number x) ys low (later e) in
        (λ i. if le-ltb (number x) (number y) (omega (arith, behind)) i then x ∷ y ∷ filter p ys else if e i then y ∷ filter p ys else y ∷ put_once_by number x (filter p ys))
        ∙ ap (λ zs. y ∷ zs) (next (later e))
    by false e false f next = next (later e)

-- of items that are all among ascending ones, what ascends, once each, are those of the ascending ones that are among them
pub ascending_once-among : {A : Type 0} (number : A → ℕ) → ((x y : A) → number x ≡ number y → x ≡ y) → (xs ys : List A) → is_ascending_by number ys ≡ true → AllByRecursion (λ x. has_number number ys (number x) ≡ true) xs
    → ascending_once_by number xs ≡ filter (λ y. has_number number xs (number y)) ys
ascending_once-among number told [] ys ascends among = sym (filter_none (λ y. false) (λ y. refl) ys)
ascending_once-among number told (x ∷ xs) ys ascends among =
    ap (put_once_by number x) (ascending_once-among number told xs ys ascends among.1) ∙ put_among number told (λ y. has_number number xs (number y)) x ys ascends among.0

-- ---- whether an item names a message

-- an element passes exactly where those that do are counted
pub any-counted : {X : Type 0} (p : X → Bool) (xs : List X) → list_any p xs ≡ nat_lt 0 (count_by p xs)
any-counted p [] = refl
any-counted p (x ∷ xs) = ap (λ b. p x || b) (any-counted p xs) ∙ (by (p x) (count_by p xs) ∙ ap (nat_lt 0) (sym (sum_by-cons (λ x. cond (p x) 1 0) x xs)))
  where
    by : (b : Bool) (k : ℕ) → (b || nat_lt 0 k) ≡ nat_lt 0 (cond b 1 0 + k)
    by true k = sym (lt-ltb 0 (1 + k) (omega arith))
    by false k = ap (nat_lt 0) (none_plus k)

-- an item removes the push of a message exactly where it names it
pub removes-named : (u : UserId) (m : MessageId) (i : PushItem) → removes u m i ≡ nat_lt 0 (removals_in_item u m i)
removes-named u m (Notify v n) = refl
removes-named u m (Remove v ms) = by (v.0 == u.0)
  where
    by : (b : Bool) → (b && list_any (λ n. n.0 == m.0) ms) ≡ nat_lt 0 (if b then count_by (λ n. n.0 == m.0) ms else 0)
    by true = any-counted (λ n. n.0 == m.0) ms
    by false = refl

-- and so one of some items removes it
pub any_removes-named : (u : UserId) (m : MessageId) (is : List PushItem) → list_any (removes u m) is ≡ nat_lt 0 (sum_by (removals_in_item u m) is)
any_removes-named u m [] = refl
any_removes-named u m (i ∷ is) =
    (λ k. removes-named u m i k || any_removes-named u m is k)
    ∙ (by (removals_in_item u m i) (sum_by (removals_in_item u m) is) ∙ ap (nat_lt 0) (sym (sum_by-cons (removals_in_item u m) i is)))
  where
    by : (a b : ℕ) → (nat_lt 0 a || nat_lt 0 b) ≡ nat_lt 0 (a + b)
    by zero b = ap (nat_lt 0) (none_plus b)
    by (suc a) b = ap (λ t. t || nat_lt 0 b) (lt-ltb 0 (suc a) (omega arith)) ∙ sym (lt-ltb 0 (suc a + b) (omega arith))
