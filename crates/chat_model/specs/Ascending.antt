-- Lists whose items ascend by a number that each has.
use Rattle.std.specs.Prelude.{ℕ, Bool, true, ◌==◌, nat_lt, ◌&&◌, List, [], ◌∷◌, if◌then◌else◌}

-- the items ascend by this number, and so stand once each
abbrev pub is_ascending_by : {A : Type 0} → (A → ℕ) → List A → Bool
is_ascending_by number [] = true
is_ascending_by number (x ∷ []) = true
is_ascending_by number (x ∷ y ∷ ys) = nat_lt (number x) (number y) && is_ascending_by number (y ∷ ys)

-- the items with this one at its place, unless it is there
abbrev pub put_once_by : {A : Type 0} → (A → ℕ) → A → List A → List A
put_once_by number x [] = x ∷ []
put_once_by number x (y ∷ ys) =
    if nat_lt (number x) (number y) then x ∷ y ∷ ys
    else if number x == number y then y ∷ ys
    else y ∷ put_once_by number x ys

-- the items ascending by this number, once each
abbrev pub ascending_once_by : {A : Type 0} → (A → ℕ) → List A → List A
ascending_once_by number [] = []
ascending_once_by number (x ∷ xs) = put_once_by number x (ascending_once_by number xs)
