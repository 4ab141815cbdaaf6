-- A loop that changes the items of a list one after another: what is done of it, and what is left.
use Rattle.std.proofs.Common.{◌≡◌, ℕ, zero, suc, ◌+◌, ◌<◌, ◌≤◌, List, [], ◌∷◌, ◌++◌, length, get_or, set, take, drop, refl, sym, ap, ◌∙◌, subst, arith}
use Rattle.std.specs.Prelude.{All, map}
use Rattle.std.proofs.lemmas.List.{drop-set-lt, drop_more, get_or-drop, length-map, map-append, map-set, set-get_or, take_all, take_at, take_more, take_more_set}

-- the first items are seen as mapped, and the others are as they were
pub record Done {X Y : Type 0} (view : X → Y) (f : Y → Y) (before now : List X) (i : ℕ) : Type 0 where
  pub front : map view (take i now) ≡ map f (map view (take i before))
  pub rest : drop i now ≡ drop i before

pub Done-none : {X Y : Type 0} (view : X → Y) (f : Y → Y) (xs : List X) → Done view f xs xs 0
Done-none view f xs = record { front = refl; rest = refl }

-- an item that is still to come is as it was
pub Done-item : {X Y : Type 0} (view : X → Y) (f : Y → Y) (before now : List X) (i : ℕ) (x : X) → Done view f before now i → x ≡ get_or now i x → x ≡ get_or before i x
Done-item {X} view f before now i x h e =
    let at : i + 0 ≡ i = omega arith in
    e ∙ (ap (λ n. get_or now n x) (sym at) ∙ (sym (get_or-drop i now 0 x) ∙ (ap (λ (xs : List X). get_or xs 0 x) h.rest ∙ (get_or-drop i before 0 x ∙ ap (λ n. get_or before n x) at))))

pub Done-more : {X Y : Type 0} (view : X → Y) (f : Y → Y) (before now : List X) (i : ℕ) (x y : X) → i < length now → length now ≡ length before → Done view f before now i → x ≡ get_or now i x → view y ≡ f (view (get_or now i x)) → Done view f before (set now i y) (i + 1)
Done-more {X} view f before now i x y within same h e seen = record {
  front =
      ap (map view) (take_more_set now i y within)
      ∙ (map-append view (take i now) (y ∷ [])
      ∙ ((λ j. h.front j ++ (seen ∙ ap (λ z. f (view z)) (sym e)) j ∷ [])
      ∙ (sym (map-append f (map view (take i before)) (view x ∷ []))
      ∙ (ap (map f) (sym (map-append view (take i before) (x ∷ [])))
      ∙ ap (λ xs. map f (map view xs)) (ap (λ z. take i before ++ z ∷ []) (Done-item view f before now i x h e) ∙ sym (take_more before i x within_before))))));
  rest =
      let less : i < i + 1 = omega arith in
      drop-set-lt (i + 1) now i y less ∙ after;
}
  where
    within_before : i < length before
    within_before = omega arith

    after : drop (i + 1) now ≡ drop (i + 1) before
    after = ap (drop 1) (sym (drop_more now i x within) ∙ (h.rest ∙ drop_more before i x within_before))

pub Done-all : {X Y : Type 0} (view : X → Y) (f : Y → Y) (before now : List X) (i : ℕ) → length now ≤ i → length now ≡ length before → Done view f before now i → map view now ≡ map f (map view before)
Done-all view f before now i end same h =
    let end_before : length before ≤ i = omega arith in
    ap (map view) (sym (take_all i now end)) ∙ (h.front ∙ ap (λ xs. map f (map view xs)) (take_all i before end_before))

-- what held of all items holds of one that is still to come
pub Done-has : {X Y : Type 0} (view : X → Y) (f : Y → Y) (before now : List X) (i : ℕ) (x : X) (P : X → Type 0) → i < length now → length now ≡ length before → All P before → Done view f before now i → x ≡ get_or now i x → P (get_or now i x)
Done-has view f before now i x P within same all h e =
    let lt : i < length before = omega arith in
    subst P (sym (Done-item view f before now i x h e) ∙ e) (all i x lt)

pub get_or-map : {X Y : Type 0} (view : X → Y) (xs : List X) (i : ℕ) (x : X) → view (get_or xs i x) ≡ get_or (map view xs) i (view x)
get_or-map view [] i x = refl
get_or-map view (z ∷ zs) zero x = refl
get_or-map view (z ∷ zs) (suc i) x = get_or-map view zs i x

-- an item that is seen as before leaves the list seen as before
pub seen_same : {X Y : Type 0} (view : X → Y) (xs : List X) (i : ℕ) (x y : X) → view y ≡ view (get_or xs i x) → map view (set xs i y) ≡ map view xs
seen_same view xs i x y seen = map-set view xs i y ∙ (ap (set (map view xs) i) (seen ∙ get_or-map view xs i x) ∙ set-get_or (map view xs) i (view x))

-- what a loop over a `Vec` leaves, as its slice is written back
pub written_back : {X Y : Type 0} (view : X → Y) (n : ℕ) (xs ys : List X) (zs : List Y) → n ≡ length xs → length zs ≡ n → map view ys ≡ zs → map view (take n (ys ++ drop (length ys) xs)) ≡ zs
written_back view n xs ys zs all same seen =
    let same_length : length ys ≡ n = sym (length-map ys view) ∙ (ap length seen ∙ same) in
    ap (map view) (take_at ys (drop (length ys) xs) n same_length) ∙ seen

-- what two loops leave, of which the first changed nothing that is seen
pub written_back_twice : {X Y : Type 0} (view : X → Y) (f : Y → Y) (n : ℕ) (xs ys zs : List X) → n ≡ length xs → map view ys ≡ map view xs → map view zs ≡ map f (map view (take n (ys ++ drop (length ys) xs))) → map view (take n (zs ++ drop (length zs) (take n (ys ++ drop (length ys) xs)))) ≡ map f (map view xs)
written_back_twice view f n xs ys zs all same seen =
    let first : map view (take n (ys ++ drop (length ys) xs)) ≡ map view xs = written_back view n xs ys (map view xs) all (length-map xs view ∙ sym all) same in
    let length_first : length (take n (ys ++ drop (length ys) xs)) ≡ n = sym (length-map (take n (ys ++ drop (length ys) xs)) view) ∙ (ap length first ∙ (length-map xs view ∙ sym all)) in
    written_back view n (take n (ys ++ drop (length ys) xs)) zs (map f (map view xs)) (sym length_first) (length-map (map view xs) f ∙ (length-map xs view ∙ sym all)) (seen ∙ ap (map f) first)

-- what one loop leaves
pub written_back_once : {X Y : Type 0} (view : X → Y) (f : Y → Y) (n : ℕ) (xs zs : List X) → n ≡ length xs → map view zs ≡ map f (map view xs) → map view (take n (zs ++ drop (length zs) xs)) ≡ map f (map view xs)
written_back_once view f n xs zs all seen = written_back view n xs zs (map f (map view xs)) all (length-map (map view xs) f ∙ (length-map xs view ∙ sym all)) seen

-- the list itself, once it is written back
pub written_list : {X Y : Type 0} (view : X → Y) (n : ℕ) (xs ys : List X) → n ≡ length xs → map view ys ≡ map view xs → take n (ys ++ drop (length ys) xs) ≡ ys
written_list view n xs ys all same =
    take_at ys (drop (length ys) xs) n (sym (length-map ys view) ∙ (ap length same ∙ (length-map xs view ∙ sym all)))
