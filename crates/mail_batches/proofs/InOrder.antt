-- Items that are sorted by their messages, of which no two are the same.
use Rattle.std.proofs.Common.{◌≡◌, ℕ, zero, suc, ◌<◌, Bool, true, false, not, ◌||◌, ◌==◌, cond, List, [], ◌∷◌, Option, Some, None, unwrap_or, refl, sym, ap, ◌∙◌, subst, inl, inr, arith}
use Rattle.std.specs.Prelude.{nat_lt, find, is_some}
use Rattle.std.specs.List.{AllByRecursion, All, IsDistinct, list_all, list_any}
use Rattle.std.specs.List.Sorted.{IsPermutation, IsNonDecreasingBy}
use Rattle.std.proofs.lemmas.Bool.{and_from, and_parts, cases_eq, cases_order, cond_both, eq-eqb, eqb-false, eqb-true, false≢true, lt-ltb, ltb-true, ne_eqb}
use Rattle.std.proofs.lemmas.Bool.Decides.{nat_tests}
use Rattle.std.proofs.lemmas.List.Sorted.{All-permutation, IsPermutation-sym}
use Rattle.std.proofs.lemmas.Map.Keys.{IsDistinct-IsPermutation}
use Rattle.chat_model.specs.Ascending.{is_ascending_by, put_once_by}
use Rattle.chat_model.proofs.OnceEach.{ascending-rest, ascending_once-ascending}
use Rattle.mail_batches.specs.declared.grouping.ReadyItem.{ReadyItem}
use Rattle.mail_batches.specs.Entries.{message_of, no_message_twice, by_message}
use Rattle.mail_batches.proofs.GroupSteps.{above-all}

abbrev pub same_message : ReadyItem → ReadyItem → Bool
same_message x y = message_of x == message_of y

pub flips : (x y : ReadyItem) → same_message x y ≡ same_message y x
flips x y = grind (arith, nat_tests)

-- the item of a message is another than these
abbrev pub Apart : ReadyItem → List ReadyItem → Type 0
Apart x ys = AllByRecursion (λ y. same_message x y ≡ false) ys

apart-from : (x : ReadyItem) (ys : List ReadyItem) → not (list_any (λ k. message_of k == message_of x) ys) ≡ true → Apart x ys
apart-from x [] h = tt
apart-from x (y ∷ ys) h = at (message_of y == message_of x) (list_any (λ k. message_of k == message_of x) ys) (flips x y) h (apart-from x ys)
  where
    at : (a b : Bool) → same_message x y ≡ a → not (a || b) ≡ true → (not b ≡ true → Apart x ys) → (same_message x y ≡ false) × Apart x ys
    at true b e k rest = absurd (false≢true k)
    at false b e k rest = (e, rest k)

pub distinct : (xs : List ReadyItem) → no_message_twice xs ≡ true → IsDistinct same_message xs
unfolding IsDistinct
distinct [] h = tt
distinct (x ∷ xs) h =
    let parts = and_parts (not (list_any (λ k. message_of k == message_of x) xs)) (no_message_twice xs) h in
    (apart-from x xs parts.0, distinct xs parts.1)

ascends-from : (ys : List ReadyItem) → IsNonDecreasingBy message_of ys → IsDistinct same_message ys → is_ascending_by message_of ys ≡ true
unfolding IsDistinct
ascends-from [] up apart = refl
ascends-from (y ∷ []) up apart = refl
ascends-from (y ∷ z ∷ zs) up apart =
    and_from (nat_lt (message_of y) (message_of z)) (is_ascending_by message_of (z ∷ zs))
    (lt-ltb (message_of y) (message_of z) (omega (arith, up 0 1 y (omega arith) (omega arith), eqb-false (message_of y) (message_of z) apart.0.0)))
    (ascends-from (z ∷ zs) (λ i j d le lt. up (suc i) (suc j) d (omega arith) (omega arith)) apart.1)

-- ---- what is found of a message

abbrev item_of : ℕ → List ReadyItem → Option ReadyItem
item_of n xs = find (λ k. message_of k == n) xs

-- an item is what is found of its message
abbrev pub Found : List ReadyItem → ReadyItem → Type 0
Found xs y = item_of (message_of y) xs ≡ Some y

found-behind : (x : ReadyItem) (xs ys : List ReadyItem) → AllByRecursion (Found xs) ys → Apart x ys → AllByRecursion (Found (x ∷ xs)) ys
found-behind x xs [] found apart = tt
found-behind x xs (y ∷ ys) found apart = (ap (λ b. cond b (Some x) (item_of (message_of y) xs)) apart.0 ∙ found.0, found-behind x xs ys found.1 apart.1)

pub found-all : (xs : List ReadyItem) → IsDistinct same_message xs → AllByRecursion (Found xs) xs
unfolding IsDistinct
found-all [] h = tt
found-all (x ∷ xs) h = (ap (λ b. cond b (Some x) (item_of (message_of x) xs)) (eq-eqb (message_of x) (message_of x) refl), found-behind x xs xs (found-all xs h.1) h.0)

found-rest : (x : ReadyItem) (xs zs : List ReadyItem) → AllByRecursion (Found (x ∷ xs)) zs → list_all (λ k. nat_lt (message_of x) (message_of k)) zs ≡ true → AllByRecursion (Found xs) zs
found-rest x xs [] found above = tt
found-rest x xs (z ∷ zs) found above =
    let parts = and_parts (nat_lt (message_of x) (message_of z)) (list_all (λ k. nat_lt (message_of x) (message_of k)) zs) above in
    let other : (message_of x == message_of z) ≡ false = ne_eqb (message_of x) (message_of z) (λ e. omega (arith, e, ltb-true (message_of x) (message_of z) parts.0)) in
    (sym (ap (λ b. cond b (Some x) (item_of (message_of z) xs)) other) ∙ found.0, found-rest x xs zs found.1 parts.1)

none-above : (n : ℕ) (ys : List ReadyItem) → list_all (λ k. nat_lt n (message_of k)) ys ≡ true → item_of n ys ≡ None
none-above n [] h = refl
none-above n (y ∷ ys) h =
    let parts = and_parts (nat_lt n (message_of y)) (list_all (λ k. nat_lt n (message_of k)) ys) h in
    ap (λ b. cond b (Some y) (item_of n ys)) (ne_eqb (message_of y) n (λ e. omega (arith, e, ltb-true n (message_of y) parts.0))) ∙ none-above n ys parts.1

none-below : (n : ℕ) (y : ReadyItem) (ys : List ReadyItem) → n < message_of y → is_ascending_by message_of (y ∷ ys) ≡ true → item_of n (y ∷ ys) ≡ None
none-below n y ys lt h =
    none-above n (y ∷ ys) (and_from (nat_lt n (message_of y)) (list_all (λ k. nat_lt n (message_of k)) ys) (lt-ltb n (message_of y) lt) (farther ys (above-all y ys h)))
  where
    farther : (zs : List ReadyItem) → list_all (λ k. nat_lt (message_of y) (message_of k)) zs ≡ true → list_all (λ k. nat_lt n (message_of k)) zs ≡ true
    farther [] k = refl
    farther (z ∷ zs) k =
        let parts = and_parts (nat_lt (message_of y) (message_of z)) (list_all (λ j. nat_lt (message_of y) (message_of j)) zs) k in
        and_from (nat_lt n (message_of z)) (list_all (λ j. nat_lt n (message_of j)) zs) (lt-ltb n (message_of z) (omega (arith, ltb-true (message_of y) (message_of z) parts.0))) (farther zs parts.1)

not_found : {y : ReadyItem} (o : Option ReadyItem) → o ≡ None → o ≡ Some y → false ≡ true
not_found o e f = ap is_some (sym e ∙ f)

-- items that ascend are told by what is found of their messages
pub same_items : (xs ys : List ReadyItem) → is_ascending_by message_of xs ≡ true → is_ascending_by message_of ys ≡ true → AllByRecursion (Found xs) ys → AllByRecursion (Found ys) xs → xs ≡ ys
same_items [] [] hx hy fy fx = refl
same_items [] (y ∷ ys) hx hy fy fx = absurd (false≢true (not_found None refl fy.0))
same_items (x ∷ xs) [] hx hy fy fx = absurd (false≢true (not_found None refl fx.0))
same_items (x ∷ xs) (y ∷ ys) hx hy fy fx =
    elim (cases_order (message_of x) (message_of y)) [
      | inl e ↦
          let first : x ≡ y = ap (λ (o : Option ReadyItem). unwrap_or o x) (sym (ap (λ b. cond b (Some x) (item_of (message_of y) xs)) (eq-eqb (message_of x) (message_of y) e)) ∙ fy.0) in
          let hy_at_x = subst (λ (z : ReadyItem). is_ascending_by message_of (z ∷ ys) ≡ true) (sym first) hy in
          let fx_at_x = subst (λ (z : ReadyItem). AllByRecursion (Found (z ∷ ys)) xs) (sym first) fx.1 in
          ap (λ z. z ∷ xs) first
          ∙ ap (λ zs. y ∷ zs) (same_items xs ys (ascending-rest message_of x xs hx) (ascending-rest message_of y ys hy) (found-rest x xs ys fy.1 (above-all x ys hy_at_x)) (found-rest x ys xs fx_at_x (above-all x xs hx)))
      | inr (inl lt) ↦ absurd (false≢true (not_found (item_of (message_of x) (y ∷ ys)) (none-below (message_of x) y ys lt hy) fx.0))
      | inr (inr lt) ↦ absurd (false≢true (not_found (item_of (message_of y) (x ∷ xs)) (none-below (message_of y) x xs lt hx) fy.0))
    ]

-- ---- what holds of each item

all-from : (P : ReadyItem → Type 0) (xs : List ReadyItem) → AllByRecursion P xs → All P xs
all-from P [] h k d lt = absurd (omega arith)
all-from P (x ∷ xs) h zero d lt = h.0
all-from P (x ∷ xs) h (suc k) d lt = all-from P xs h.1 k d (omega arith)

all-to : (P : ReadyItem → Type 0) (xs : List ReadyItem) → All P xs → AllByRecursion P xs
all-to P [] h = tt
all-to P (x ∷ xs) h = (h 0 x (omega arith), all-to P xs (λ k d lt. h (suc k) d (omega arith)))

pub all-moved : (P : ReadyItem → Type 0) (xs ys : List ReadyItem) → IsPermutation xs ys → AllByRecursion P xs → AllByRecursion P ys
all-moved P xs ys moved h = all-to P ys (All-permutation P xs ys moved (all-from P xs h))

pub put-cases : (P : List ReadyItem → Type 0) (x y : ReadyItem) (ys : List ReadyItem) → P (x ∷ y ∷ ys) → (message_of x ≡ message_of y → P (y ∷ ys)) → P (y ∷ put_once_by message_of x ys) → P (put_once_by message_of x (y ∷ ys))
put-cases P x y ys before same behind =
    cond_both (nat_lt (message_of x) (message_of y)) (x ∷ y ∷ ys) (cond (message_of x == message_of y) (y ∷ ys) (y ∷ put_once_by message_of x ys)) P
    (λ _. before)
    (λ _. cond_both (message_of x == message_of y) (y ∷ ys) (y ∷ put_once_by message_of x ys) P (λ e. same (eqb-true (message_of x) (message_of y) e)) (λ _. behind))

put-all : (P : ReadyItem → Type 0) (x : ReadyItem) (ys : List ReadyItem) → P x → AllByRecursion P ys → AllByRecursion P (put_once_by message_of x ys)
put-all P x [] px h = (px, tt)
put-all P x (y ∷ ys) px h = put-cases (AllByRecursion P) x y ys (px, h) (λ _. h) (h.0, put-all P x ys px h.1)

pub by_message-all : (P : ReadyItem → Type 0) (xs : List ReadyItem) → AllByRecursion P xs → AllByRecursion P (by_message xs)
by_message-all P [] h = tt
by_message-all P (x ∷ xs) h = put-all P x (by_message xs) h.0 (by_message-all P xs h.1)

put-found : (n : ℕ) (x : ReadyItem) (ys : List ReadyItem) → Apart x ys → item_of n (put_once_by message_of x ys) ≡ cond (message_of x == n) (Some x) (item_of n ys)
put-found n x [] apart = refl
put-found n x (y ∷ ys) apart =
    put-cases (λ zs. item_of n zs ≡ cond (message_of x == n) (Some x) (item_of n (y ∷ ys))) x y ys
    refl
    (λ e. absurd (false≢true (sym apart.0 ∙ eq-eqb (message_of x) (message_of y) e)))
    (ap (cond (message_of y == n) (Some y)) (put-found n x ys apart.1) ∙ swapped)
  where
    swapped : cond (message_of y == n) (Some y) (cond (message_of x == n) (Some x) (item_of n ys)) ≡ cond (message_of x == n) (Some x) (cond (message_of y == n) (Some y) (item_of n ys))
    swapped =
        elim (cases_eq (message_of x) n) [
          | inl e ↦
              let other : (message_of y == n) ≡ false = ne_eqb (message_of y) n (λ f. false≢true (sym apart.0 ∙ eq-eqb (message_of x) (message_of y) (e ∙ sym f))) in
              ap (λ b. cond b (Some y) (cond (message_of x == n) (Some x) (item_of n ys))) other
              ∙ ap (λ b. cond (message_of x == n) (Some x) (cond b (Some y) (item_of n ys))) (sym other)
          | inr ne ↦
              let other = ne_eqb (message_of x) n ne in
              ap (λ b. cond (message_of y == n) (Some y) (cond b (Some x) (item_of n ys))) other
              ∙ ap (λ b. cond b (Some x) (cond (message_of y == n) (Some y) (item_of n ys))) (sym other)
        ]

by_message-found : (n : ℕ) (xs : List ReadyItem) → IsDistinct same_message xs → item_of n (by_message xs) ≡ item_of n xs
unfolding IsDistinct
by_message-found n [] h = refl
by_message-found n (x ∷ xs) h = put-found n x (by_message xs) (by_message-all (λ y. same_message x y ≡ false) xs h.0) ∙ ap (cond (message_of x == n) (Some x)) (by_message-found n xs h.1)

pub found-sorted : (xs ys : List ReadyItem) → IsDistinct same_message xs → AllByRecursion (Found xs) ys → AllByRecursion (Found (by_message xs)) ys
found-sorted xs [] h found = tt
found-sorted xs (y ∷ ys) h found = (by_message-found (message_of y) xs h ∙ found.0, found-sorted xs ys h found.1)

-- items that were moved until they don't fall are the items by ascending message
pub in_order : (xs ys : List ReadyItem) → no_message_twice xs ≡ true → IsPermutation xs ys → IsNonDecreasingBy message_of ys → ys ≡ by_message xs
in_order xs ys once moved up =
    let apart = distinct xs once in
    let apart_moved = IsDistinct-IsPermutation same_message flips xs ys moved apart in
    sym (same_items (by_message xs) ys (ascending_once-ascending message_of xs) (ascends-from ys up apart_moved)
    (found-sorted xs ys apart (all-moved (Found xs) xs ys moved (found-all xs apart)))
    (by_message-all (Found ys) xs (all-moved (Found ys) ys xs (IsPermutation-sym xs ys moved) (found-all ys apart_moved))))
