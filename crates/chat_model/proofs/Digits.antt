-- Digits that are read one by one.
use Rattle.std.proofs.Common.{◌≡◌, ℕ, ◌+◌, ◌-◌, ◌*◌, ◌^◌, ◌<◌, ◌≤◌, true, false, cond, ◌&&◌, List, [], ◌∷◌, length, Option, Some, None, refl, sym, arith, fold}
use Rattle.std.specs.Char.{is_ascii_digit}
use Rattle.std.specs.List.{list_all}
use Rattle.std.specs.Str.{byte}
use Rattle.std.proofs.lemmas.Bool.{le-leb}
use Rattle.std.proofs.Math.Nat.{pow-le-pow_right}
use Rattle.chat_model.specs.Number.{decimal_value, number_of}

-- the number of these digits behind that value; none where one isn't a digit
abbrev pub number_from : ℕ → List ℕ → Option ℕ
number_from value [] = Some value
number_from value (digit ∷ digits) = cond (is_ascii_digit digit) (number_from (10 * value + (digit - byte "0")) digits) None

number_from-digits : (value : ℕ) (digits : List ℕ) → number_from value digits ≡ cond (list_all is_ascii_digit digits) (Some (fold (λ before digit. 10 * before + (digit - byte "0")) value digits)) None
number_from-digits value [] = refl
number_from-digits value (digit ∷ digits) =
    elim (is_ascii_digit digit) as (λ b. cond b (number_from (10 * value + (digit - byte "0")) digits) None ≡ cond (b && list_all is_ascii_digit digits) (Some (fold (λ before d. 10 * before + (d - byte "0")) (10 * value + (digit - byte "0")) digits)) None) [
      | true ↦ number_from-digits (10 * value + (digit - byte "0")) digits
      | false ↦ refl
    ]

pub below_power : (value index : ℕ) → value < 10 ^ index → index ≤ 18 → value < 10 ^ 18
below_power value index below most =
    let powers : 10 ^ index ≤ 10 ^ 18 = pow-le-pow_right (omega arith) most in
    omega arith

pub number_of-small : (digits : List ℕ) → 1 ≤ length digits → length digits ≤ 19 → number_of digits ≡ number_from 0 digits
unfolding number_of decimal_value
number_of-small digits least most =
    rw (le-leb 1 (length digits) least, le-leb (length digits) 19 most) (sym (number_from-digits 0 digits))
