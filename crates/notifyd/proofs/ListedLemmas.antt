-- The numbers between the commas of a word.
use Rattle.std.proofs.Common.{◌≡◌, ℕ, Bool, true, false, cond, ◌&&◌, List, [], ◌∷◌, map, Option, Some, None, is_some, refl, sym, ap, ◌∙◌, bytes_eq, codes}
use Rattle.std.specs.Option.{option_map, unwrap_or}
use Rattle.std.specs.List.{list_all, filter_map, cons_option}
use Rattle.std.proofs.lemmas.Slice.Eq.{bytes_eq-Decides}
use Rattle.chat_model.specs.Number.{decimal_value, is_number, number_of}
use Rattle.notifyd.specs.Field.{parts_of, numbers_of, list_of}
use Rattle.notifyd.proofs.FieldLemmas.{both}

-- what is made of a part that is a number
abbrev pub made_of : {A : Type 0} → (ℕ → A) → List ℕ → Option A
made_of make part = option_map make (number_of part)

pub is_some-number_of : (word : List ℕ) → is_some (number_of word) ≡ is_number word
unfolding number_of
is_some-number_of word = by (is_number word)
  where
    by : (t : Bool) → is_some (cond t (Some (decimal_value word)) None) ≡ t
    by true = refl
    by false = refl

pub list_of-is_some : (word : List ℕ) → bytes_eq word (codes "-") ≡ false → list_all is_number (parts_of word) ≡ is_some (list_of word)
unfolding list_of numbers_of
list_of-is_some word other = rw other (by (list_all is_number (parts_of word)))
  where
    by : (t : Bool) → t ≡ is_some (cond t (Some (map decimal_value (parts_of word))) None)
    by true = refl
    by false = refl

made_of-number : {A : Type 0} → (make : ℕ → A) → (part : List ℕ) → is_number part ≡ true → made_of make part ≡ Some (make (decimal_value part))
unfolding number_of
made_of-number make part number = ap (λ t. option_map make (cond t (Some (decimal_value part)) None)) number

filter_map-made_of : {A : Type 0} → (make : ℕ → A) → (parts : List (List ℕ)) → list_all is_number parts ≡ true → filter_map (made_of make) parts ≡ map make (map decimal_value parts)
filter_map-made_of make [] numbers = refl
filter_map-made_of make (part ∷ parts) numbers =
    let p = both (is_number part) (list_all is_number parts) numbers in
    ap (λ made. cons_option made (filter_map (made_of make) parts)) (made_of-number make part p.0) ∙ ap (λ rest. make (decimal_value part) ∷ rest) (filter_map-made_of make parts p.1)

pub made_of-list_of : {A : Type 0} → (make : ℕ → A) → (word : List ℕ) → bytes_eq word (codes "-") ≡ false → is_some (list_of word) ≡ true → filter_map (made_of make) (parts_of word) ≡ map make (unwrap_or (list_of word) [])
unfolding list_of numbers_of
made_of-list_of make word other some =
    let numbers = list_of-is_some word other ∙ some in
    filter_map-made_of make (parts_of word) numbers ∙ rw (other, numbers) refl

pub made_of-dash : {A : Type 0} → (make : ℕ → A) → (word : List ℕ) → bytes_eq word (codes "-") ≡ true → [] ≡ map make (unwrap_or (list_of word) [])
unfolding list_of
made_of-dash make word dash = rw dash refl

pub list_all-number_of : (parts : List (List ℕ)) → list_all (λ part. is_some (number_of part)) parts ≡ list_all is_number parts
list_all-number_of [] = refl
list_all-number_of (part ∷ parts) =
    ap (λ t. t && list_all (λ p. is_some (number_of p)) parts) (is_some-number_of part) ∙ ap (λ t. is_number part && t) (list_all-number_of parts)

-- `-` is a list of no number, and else a list has at least one
no_numbers : numbers_of (codes "-") ≡ None
unfolding numbers_of
no_numbers = refl

pub numbers_of-dash : (word : List ℕ) → bytes_eq word (codes "-") ≡ true → None ≡ numbers_of word
numbers_of-dash word dash = sym (ap numbers_of ((bytes_eq-Decides word (codes "-")).0 dash) ∙ no_numbers)

pub list_of-other : (word : List ℕ) → bytes_eq word (codes "-") ≡ false → list_of word ≡ numbers_of word
unfolding list_of
list_of-other word other = rw other refl
