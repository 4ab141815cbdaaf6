-- One item more of a list of which some are kept, and spans that were chosen before.
use Rattle.std.proofs.Common.{◌≡◌, ℕ, ◌+◌, ◌<◌, Bool, true, false, cond, ◌&&◌, ◌||◌, List, [], ◌∷◌, ◌++◌, length, take, map, filter, get_or, refl, ap, ◌∙◌, append-nil}
use Rattle.std.specs.List.{list_any}
use Rattle.std.proofs.lemmas.List.{map-append}
use Rattle.std.proofs.lemmas.List.Elements.{filter_more}

pub kept_more : {X Y : Type 0} (f : X → Y) (p : X → Bool) (xs : List X) (i : ℕ) (d : X) → i < length xs → p (get_or xs i d) ≡ true →
    map f (filter p (take (i + 1) xs)) ≡ map f (filter p (take i xs)) ++ f (get_or xs i d) ∷ []
kept_more f p xs i d h passes =
    ap (map f) (filter_more p xs i d h ∙ ap (λ t. filter p (take i xs) ++ cond t (get_or xs i d ∷ []) []) passes)
    ∙ map-append f (filter p (take i xs)) (get_or xs i d ∷ [])

pub left_more : {X Y : Type 0} (f : X → Y) (p : X → Bool) (xs : List X) (i : ℕ) (d : X) → i < length xs → p (get_or xs i d) ≡ false →
    map f (filter p (take (i + 1) xs)) ≡ map f (filter p (take i xs))
left_more f p xs i d h fails =
    ap (map f) (filter_more p xs i d h ∙ ap (λ t. filter p (take i xs) ++ cond t (get_or xs i d ∷ []) []) fails ∙ append-nil (filter p (take i xs)))

-- some item that was chosen passes where some item is chosen and passes
pub list_any-filter : {X : Type 0} (p q : X → Bool) (xs : List X) → list_any q (filter p xs) ≡ list_any (λ x. p x && q x) xs
list_any-filter p q [] = refl
list_any-filter p q (x ∷ xs) =
    elim (p x) as (λ t. list_any q (cond t (x ∷ filter p xs) (filter p xs)) ≡ ((t && q x) || list_any (λ y. p y && q y) xs)) [
      | true ↦ ap (λ t. q x || t) (list_any-filter p q xs)
      | false ↦ list_any-filter p q xs
    ]
