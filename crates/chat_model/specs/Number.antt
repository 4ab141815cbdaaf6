-- Numbers in decimal digits.
use Rattle.std.specs.Prelude.{ℕ, ◌+◌, ◌-◌, ◌*◌, Bool, ◌&&◌, List, fold, length, nat_le, Option, Some, None, if◌then◌else◌}
use Rattle.std.specs.Char.{is_ascii_digit}
use Rattle.std.specs.List.{list_all}
use Rattle.std.specs.Str.{byte}

-- one to nineteen digits
abbrev pub is_number : List ℕ → Bool
is_number digits = nat_le 1 (length digits) && nat_le (length digits) 19 && list_all is_ascii_digit digits

-- the number that decimal digits write
unfoldable pub decimal_value : List ℕ → ℕ
decimal_value digits = fold (λ value digit. 10 * value + (digit - byte "0")) 0 digits

-- the number that one to nineteen digits write, and none if they aren't so
unfoldable pub number_of : List ℕ → Option ℕ
number_of digits = if is_number digits then Some (decimal_value digits) else None
