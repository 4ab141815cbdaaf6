-- Items that ascend by a number, one after another.
use Rattle.std.proofs.Common.{◌≡◌, ℕ, ◌+◌, ◌-◌, ◌<◌, ◌≤◌, Bool, true, false, ◌&&◌, List, [], ◌∷◌, ◌++◌, length, take, drop, get_or, refl, sym, ap, ◌∙◌, arith}
use Rattle.std.specs.Prelude.{nat_lt}
use Rattle.std.proofs.lemmas.Bool.{and_parts, and_from, lt-ltb, le-ltb}
use Rattle.std.proofs.Math.Bool.{and-true, and-false}
use Rattle.std.proofs.lemmas.List.{append_assoc, take-append-drop, take_all, get_or_default}
use Rattle.chat_model.specs.Ascending.{is_ascending_by}
use Rattle.notice_ledger.proofs.Lists.{take_next}

and-assoc : (a b c : Bool) → (a && (b && c)) ≡ ((a && b) && c)
and-assoc true b c = refl
and-assoc false b c = refl

module _ {A : Type 0} (number : A → ℕ) (none : A) where
  -- one more item behind another
  is_ascending-push : (us : List A) (a b : A) → is_ascending_by number (us ++ a ∷ b ∷ []) ≡ (is_ascending_by number (us ++ a ∷ []) && nat_lt (number a) (number b))
  is_ascending-push [] a b = and-true (nat_lt (number a) (number b))
  is_ascending-push (u ∷ []) a b = ap (λ c. nat_lt (number u) (number a) && c) (and-true (nat_lt (number a) (number b))) ∙ ap (λ c. c && nat_lt (number a) (number b)) (sym (and-true (nat_lt (number u) (number a))))
  is_ascending-push (u ∷ v ∷ us) a b =
      ap (λ c. nat_lt (number u) (number v) && c) (is_ascending-push (v ∷ us) a b) ∙ and-assoc (nat_lt (number u) (number v)) (is_ascending_by number (v ∷ (us ++ a ∷ []))) (nat_lt (number a) (number b))

  -- the front of items that ascend ascends
  is_ascending-front : (us vs : List A) → is_ascending_by number (us ++ vs) ≡ true → is_ascending_by number us ≡ true
  is_ascending-front [] vs h = refl
  is_ascending-front (u ∷ []) vs h = refl
  is_ascending-front (u ∷ v ∷ us) vs h =
      let parts = and_parts (nat_lt (number u) (number v)) (is_ascending_by number (v ∷ (us ++ vs))) h in
      ap (λ b. b && is_ascending_by number (v ∷ us)) parts.0 ∙ is_ascending-front (v ∷ us) vs parts.1

  -- the item at a place
  abbrev item_at : List A → ℕ → A
  item_at us i = get_or us i none

  at_itself : (us : List A) (i : ℕ) → i < length us → item_at us i ≡ get_or us i (item_at us i)
  at_itself us i lt = get_or_default us i none (item_at us i) lt

  is_ascending-next : (us : List A) (i : ℕ) → 1 ≤ i → i < length us → is_ascending_by number (take (i + 1) us) ≡ (is_ascending_by number (take i us) && nat_lt (number (item_at us (i - 1))) (number (item_at us i)))
  is_ascending-next us i positive lt =
      let before = take (i - 1) us in let a = item_at us (i - 1) in let b = item_at us i in
      let whole : (i - 1) + 1 ≡ i = omega arith in
      let to_a : take i us ≡ before ++ a ∷ [] = ap (λ n. take n us) (sym whole) ∙ take_next us (i - 1) a (omega arith) (at_itself us (i - 1) (omega arith)) in
      ap (is_ascending_by number) (take_next us i b lt (at_itself us i lt) ∙ (ap (λ (vs : List A). vs ++ b ∷ []) to_a ∙ append_assoc before (a ∷ []) (b ∷ [])))
      ∙ (is_ascending-push before a b ∙ ap (λ (vs : List A). is_ascending_by number vs && nat_lt (number a) (number b)) (sym to_a))

  is_ascending-broken : (us : List A) (i : ℕ) → is_ascending_by number (take i us) ≡ false → is_ascending_by number us ≡ false
  is_ascending-broken us i broken = by (is_ascending_by number us) refl
    where
      by : (b : Bool) → is_ascending_by number us ≡ b → b ≡ false
      by true h = sym (is_ascending-front (take i us) (drop i us) (ap (is_ascending_by number) (take-append-drop i us) ∙ h)) ∙ broken
      by false h = refl

  -- ---- steps of the loop

  pub first_ascends : (us : List A) → is_ascending_by number (take 1 us) ≡ true
  first_ascends [] = refl
  first_ascends (u ∷ us) = refl

  pub is_ascending-kept : (us : List A) (i : ℕ) → 1 ≤ i → i < length us → is_ascending_by number (take i us) ≡ true → (number (item_at us (i - 1))) < (number (item_at us i)) → is_ascending_by number (take (i + 1) us) ≡ true
  is_ascending-kept us i positive lt so_far below =
      is_ascending-next us i positive lt ∙ and_from (is_ascending_by number (take i us)) (nat_lt (number (item_at us (i - 1))) (number (item_at us i))) so_far (lt-ltb (number (item_at us (i - 1))) (number (item_at us i)) below)

  pub is_ascending-lost : (us : List A) (i : ℕ) → 1 ≤ i → i < length us → (number (item_at us i)) ≤ (number (item_at us (i - 1))) → is_ascending_by number us ≡ false
  is_ascending-lost us i positive lt above =
      is_ascending-broken us (i + 1) (is_ascending-next us i positive lt ∙ (ap (λ b. is_ascending_by number (take i us) && b) (le-ltb (number (item_at us (i - 1))) (number (item_at us i)) above) ∙ and-false (is_ascending_by number (take i us))))

  pub is_ascending-all : (us : List A) (i : ℕ) → length us ≤ i → is_ascending_by number (take i us) ≡ true → is_ascending_by number us ≡ true
  is_ascending-all us i le h = ap (is_ascending_by number) (sym (take_all i us le)) ∙ h
