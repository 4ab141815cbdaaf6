-- Rows that are made from an ascending list, a row or a block of rows for each element.
use Rattle.std.proofs.Common.{◌≡◌, List, [], ◌∷◌, map}
use Rattle.std.specs.declared.cmp.Ordering.{Ordering}
use Rattle.std.specs.declared.cmp.Ordering.TheVariants.{Less}
use Rattle.std.specs.List.{AllByRecursion, flat_map}
use Rattle.std.specs.List.Sorted.{IsStrictlySortedBy}
use Rattle.chat_model.specs.declared.row.Row.{Row}
use Rattle.chat_model.specs.Rows.{key_cmp, key_of, IsAscending}
use Rattle.chat_model.proofs.Rows.{AllAbove, EachBelow, EachBelow-append, EachBelow-nil, IsAscending-append, IsAscending-cons, IsAscending-nil}

pub IsAscending-map : {X : Type 0} (f : X → Row) (c : X → X → Ordering) → ((x y : X) → c x y ≡ Less → key_cmp (key_of (f x)) (key_of (f y)) ≡ Less) → (xs : List X) → IsStrictlySortedBy c xs → IsAscending (map f xs)
unfolding IsStrictlySortedBy
IsAscending-map f c rises [] a = IsAscending-nil
IsAscending-map {X} f c rises (x ∷ xs) a = IsAscending-cons (f x) (map f xs) (later xs a.0) (IsAscending-map f c rises xs a.1)
  where
    later : (ys : List X) → AllByRecursion (λ y. c x y ≡ Less) ys → AllAbove (key_of (f x)) (map f ys)
    later [] h = tt
    later (y ∷ ys) h = (rises x y h.0, later ys h.1)

pub IsAscending-flat_map : {X : Type 0} (f : X → List Row) (c : X → X → Ordering) → ((x : X) → IsAscending (f x)) → ((x y : X) → c x y ≡ Less → EachBelow (f x) (f y)) → (xs : List X) → IsStrictlySortedBy c xs → IsAscending (flat_map f xs)
unfolding IsStrictlySortedBy
IsAscending-flat_map f c each rises [] a = IsAscending-nil
IsAscending-flat_map {X} f c each rises (x ∷ xs) a =
    IsAscending-append (f x) (flat_map f xs) (each x) (IsAscending-flat_map f c each rises xs a.1) (later xs a.0)
  where
    later : (ys : List X) → AllByRecursion (λ y. c x y ≡ Less) ys → EachBelow (f x) (flat_map f ys)
    later [] h = EachBelow-nil (f x)
    later (y ∷ ys) h = EachBelow-append (f x) (f y) (flat_map f ys) (rises x y h.0) (later ys h.1)
