-- Steps of the loops over the tables.
use Rattle.std.proofs.Common.{◌≡◌, ℕ, zero, suc, ◌+◌, ◌<◌, Bool, true, false, cond, List, [], ◌∷◌, ◌++◌, length, map, take, get_or, refl, sym, ap, ◌∙◌, append_assoc, arith}
use Rattle.std.specs.Prelude.{Option, Some, filter, slice_get, Result, Ok, Err, IfOk}
use Rattle.std.specs.Option.{option_map_or}
use Rattle.std.specs.List.{reduce, filter_map, flat_map, cons_option}
use Rattle.std.proofs.lemmas.List.{append-nil, length-map, map-append, take_more}
use Rattle.std.proofs.lemmas.List.Sums.{fold-append}
use Rattle.chat_model.specs.declared.row.Row.{Row}
use Rattle.chat_model.specs.declared.row.RowChange.{RowChange}
use Rattle.chat_model.specs.Rows.{changed_all}
use Rattle.std.proofs.lemmas.List.Elements.{filter-append, filter_map-append}

-- one more element to reduce
pub reduce-push : {A : Type 0} (f : A → A → A) (xs : List A) (x : A) → reduce f (xs ++ x ∷ []) ≡ Some (option_map_or (λ a. f a x) (reduce f xs) x)
reduce-push f [] x = refl
reduce-push f (y ∷ ys) x = ap Some (fold-append f y ys (x ∷ []))

-- one more element that gives something, or nothing
pub filter_map-push : {X Y : Type 0} (h : X → Option Y) (xs : List X) (x : X) → filter_map h (xs ++ x ∷ []) ≡ filter_map h xs ++ cons_option (h x) []
filter_map-push h xs x = filter_map-append h xs (x ∷ [])

pub filter-push : {X : Type 0} (p : X → Bool) (xs : List X) (x : X) → filter p (xs ++ x ∷ []) ≡ filter p xs ++ cond (p x) (x ∷ []) []
filter-push p xs x = filter-append p xs (x ∷ [])

-- the elements up to the next one
pub take_next : {X : Type 0} (xs : List X) (i : ℕ) (x : X) → i < length xs → x ≡ get_or xs i x → take (i + 1) xs ≡ take i xs ++ x ∷ []
take_next xs i x lt at = take_more xs i x lt ∙ ap (λ y. take i xs ++ y ∷ []) (sym at)

-- what an element of a list is made of, where the list is made of another
pub record IsMadeOf {A B : Type 0} (f : A → B) (ws : List A) (i : ℕ) (x : B) : Type 0 where
  pub from : A
  pub is : x ≡ f from
  pub at : slice_get ws i ≡ Some from
  pub next : take (i + 1) ws ≡ take i ws ++ from ∷ []

made_of : {A B : Type 0} (f : A → B) (ws : List A) (i : ℕ) (x : B) → i < length ws → x ≡ get_or (map f ws) i x → (a : A) × (x ≡ f a) × (slice_get ws i ≡ Some a) × (a ≡ get_or ws i a)
made_of f [] i x lt e = absurd (omega arith)
made_of f (w ∷ ws) zero x lt e = (w, e, refl, refl)
made_of f (w ∷ ws) (suc i) x lt e = made_of f ws i x (omega arith) e

pub at_mapped : {A B : Type 0} (f : A → B) (xs : List B) (ws : List A) (i : ℕ) (x : B) → xs ≡ map f ws → i < length xs → x ≡ get_or xs i x → IsMadeOf f ws i x
at_mapped f xs ws i x same lt at =
    let long : length xs ≡ length ws = ap length same ∙ length-map ws f in
    let low : i < length ws = omega arith in
    let made = made_of f ws i x low (at ∙ ap (λ ys. get_or ys i x) same) in
    record { from = made.0; is = made.1; at = made.2; next = take_next ws i made.0 low made.3 }

pub flat_map-push : {A B : Type 0} (f : A → List B) (xs : List A) (x : A) → flat_map f (xs ++ x ∷ []) ≡ flat_map f xs ++ f x
flat_map-push f [] x = append-nil (f x)
flat_map-push f (y ∷ ys) x = ap (λ zs. f y ++ zs) (flat_map-push f ys x) ∙ sym (append_assoc (f y) (flat_map f ys) (f x))

pub map-flat_map : {A B C : Type 0} (f : B → C) (g : A → List B) (xs : List A) → map f (flat_map g xs) ≡ flat_map (λ x. map f (g x)) xs
map-flat_map f g [] = refl
map-flat_map f g (x ∷ xs) = map-append f (g x) (flat_map g xs) ∙ ap (λ ys. map f (g x) ++ ys) (map-flat_map f g xs)

-- one more element to filter and reduce
pub reduce_filter-push : {A : Type 0} (f : A → A → A) (p : A → Bool) (xs : List A) (x : A) (o : Option A) → p x ≡ true → o ≡ reduce f (filter p xs) → Some (option_map_or (λ a. f a x) o x) ≡ reduce f (filter p (xs ++ x ∷ []))
reduce_filter-push f p xs x o passes so_far =
    ap (λ q. Some (option_map_or (λ a. f a x) q x)) so_far
    ∙ (sym (reduce-push f (filter p xs) x) ∙ ap (reduce f) (ap (λ b. filter p xs ++ cond b (x ∷ []) []) (sym passes) ∙ sym (filter-push p xs x)))

pub reduce_filter-left : {A : Type 0} (f : A → A → A) (p : A → Bool) (xs : List A) (x : A) → p x ≡ false → reduce f (filter p xs) ≡ reduce f (filter p (xs ++ x ∷ []))
reduce_filter-left f p xs x fails =
    ap (reduce f) (sym (filter-push p xs x ∙ (ap (λ b. filter p xs ++ cond b (x ∷ []) []) fails ∙ append-nil (filter p xs))))

-- what follows from a fact on an `Ok`
pub if_ok_then : {T E : Type 0} (P Q : T → Type 0) → ((x : T) → P x → Q x) → (r : Result T E) → IfOk r P → IfOk r Q
if_ok_then P Q f (Ok x) h = f x h
if_ok_then P Q f (Err e) h = tt

-- changes that are others make of the rows what these make
pub as_made : {cs ds : List RowChange} {after : List Row} (before : List Row) → cs ≡ ds → changed_all ds before ≡ after → changed_all cs before ≡ after
as_made before same make = ap (λ xs. changed_all xs before) same ∙ make
