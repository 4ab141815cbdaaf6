-- Values with their users.
use Rattle.std.specs.Prelude.{ℕ, Bool, true, ◌==◌, ◌&&◌, nat_le, List, [], ◌∷◌, if◌then◌else◌}
use Rattle.std.specs.List.{list_all}
use Rattle.chat_model.specs.declared.ids.UserId.{UserId}

-- values with their users, and for how many more there is room
pub record Listed (T : Type 0) : Type 0 where
  pub entries : List (UserId × T)
  pub spare : ℕ

-- the values of the user of a number, in order
abbrev pub values_of : {T : Type 0} → ℕ → List (UserId × T) → List T
values_of u [] = []
values_of u (e ∷ es) = if e.0.0 == u then e.1 ∷ values_of u es else values_of u es

-- these values, and where there are none this one
abbrev pub or_first : {T : Type 0} → T → List T → List T
or_first x [] = x ∷ []
or_first x (y ∷ ys) = y ∷ ys

-- these values with another in the place of the first
abbrev pub with_first : {T : Type 0} → T → List T → List T
with_first x [] = []
with_first x (y ∷ ys) = x ∷ ys

-- no user's number is above that of a user behind it
abbrev pub ascends : List UserId → Bool
ascends [] = true
ascends (u ∷ us) = list_all (λ v. nat_le u.0 v.0) us && ascends us
