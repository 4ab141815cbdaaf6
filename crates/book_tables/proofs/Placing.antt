-- Notices put among others: where a search puts one, and what many put one after the other make.
use Rattle.std.proofs.Common.{◌≡◌, ℕ, zero, suc, ◌+◌, ◌<◌, ◌≤◌, Bool, true, false, ◌&&◌, ◌||◌, ◌==◌, not, cond, List, [], ◌∷◌, ◌++◌, length, map, get_or, refl, sym, ap, ◌∙◌, arith}
use Rattle.std.specs.Prelude.{insert, filter, nat_lt}
use Rattle.std.specs.List.{AllByRecursion}
use Rattle.std.specs.List.Sorted.{IsPartitionedBy, IsPartitionPoint}
use Rattle.std.proofs.lemmas.Bool.Decides.{nat_tests}
use Rattle.chat_model.specs.declared.ids.DealNo.{DealNo}
use Rattle.chat_model.specs.declared.ids.UserId.{UserId}
use Rattle.chat_model.specs.declared.trigger.Way.{Way}
use Rattle.chat_model.specs.declared.trigger.Way.TheVariants.{Mail, Push}
use Rattle.notice_ledger.proofs.Lists.{AllByRecursion-weaker, AllByRecursion-append, filter-filter}
use Rattle.notice_ledger.proofs.Lists.{filter_same}
use Rattle.book_tables.specs.declared.tables.Waiting.{Waiting}
use Rattle.book_tables.proofs.Sought.{order-map, filter-none, named-more}
use Rattle.book_tables.proofs.Barring.{either-taken}
use Rattle.book_tables.specs.Notices.{rank, is_before, is_at, is_undecided, is_undecided_at, is_named, moved, NonePasses, Precedes, IsInOrder, AreSorted, put_in_order, put_all_in_order}

abbrev is_less : ℕ → ℕ → ℕ → ℕ → ℕ → ℕ → Bool
is_less k u r l v q = nat_lt k l || (k == l && (nat_lt u v || (u == v && nat_lt r q)))

less-not : (k u r l v q : ℕ) → is_less k u r l v q ≡ true → is_less l v q k u r ≡ false
less-not k u r l v q h = grind (arith, nat_tests)

less-then : (k u r l v q m w p : ℕ) → is_less k u r l v q ≡ true → is_less l v q m w p ≡ true → is_less k u r m w p ≡ true
less-then k u r l v q m w p h g = grind (arith, nat_tests)

-- what doesn't stand before a first one, which stands before a place, ..
not_less-then : (k u r l v q m w p : ℕ) → is_less l v q k u r ≡ false → is_less l v q m w p ≡ true → is_less k u r m w p ≡ true
not_less-then k u r l v q m w p h g = grind (arith, nat_tests)

not_less-not_less : (k u r l v q m w p : ℕ) → is_less l v q k u r ≡ false → is_less k u r m w p ≡ false → is_less l v q m w p ≡ false
not_less-not_less k u r l v q m w p h g = grind (arith, nat_tests)

all_at : {X : Type 0} (P : X → Type 0) (xs : List X) → AllByRecursion P xs → (i : ℕ) (d : X) → i < length xs → P (get_or xs i d)
all_at P [] all i d lt = absurd (omega arith)
all_at P (x ∷ xs) all zero d lt = all.0
all_at P (x ∷ xs) all (suc i) d lt = all_at P xs all.1 i d (omega arith)

-- notices in order are sorted
pub order-sorted : (ws : List Waiting) → IsInOrder ws → AreSorted ws
order-sorted [] order = tt
order-sorted (w ∷ ws) order = (
  AllByRecursion-weaker (Precedes w) (λ v. is_before w.deal w.user w.way v ≡ false) (λ v h. less-not w.deal.0 w.user.0 (rank w.way) v.deal.0 v.user.0 (rank v.way) h) ws order.0,
  order-sorted ws order.1,
)

-- what stands before a place stands in front of the others
pub sorted-partitioned : (k : DealNo) (u : UserId) (way : Way) (ws : List Waiting) → AreSorted ws → IsPartitionedBy (is_before k u way) ws
sorted-partitioned k u way [] sorted i j d le lt p = absurd (omega arith)
sorted-partitioned k u way (w ∷ ws) sorted zero zero d le lt p = p
sorted-partitioned k u way (w ∷ ws) sorted (suc i) zero d le lt p = absurd (omega arith)
sorted-partitioned k u way (w ∷ ws) sorted (suc i) (suc j) d le lt p = sorted-partitioned k u way ws sorted.1 i j d (omega arith) (omega arith) p
sorted-partitioned k u way (w ∷ ws) sorted zero (suc j) d le lt p =
    let v = get_or ws j d in
    not_less-then w.deal.0 w.user.0 (rank w.way) v.deal.0 v.user.0 (rank v.way) k.0 u.0 (rank way) (all_at (λ v. is_before w.deal w.user w.way v ≡ false) ws sorted.0 j d (omega arith)) p

abbrev IsPoint : (Waiting → Bool) → List Waiting → ℕ → Type 0
IsPoint p ws i = IsPartitionPoint (λ w. p w ≡ true) (λ w. p w ≡ false) ws i

-- put at the place where those before it end, a notice stands before those that don't stand before it
pub insert-in_order : (w : Waiting) (ws : List Waiting) (i : ℕ) → i ≤ length ws → IsPoint (is_before w.deal w.user w.way) ws i → insert ws i w ≡ put_in_order w ws
insert-in_order w [] zero within point = refl
insert-in_order w [] (suc i) within point = absurd (omega arith)
insert-in_order w (v ∷ ws) zero within point = sym (ap (λ b. cond b (v ∷ put_in_order w ws) (w ∷ v ∷ ws)) (point.1 0 v (omega arith) (omega arith)))
insert-in_order w (v ∷ ws) (suc i) within point =
    ap (λ vs. v ∷ vs) (insert-in_order w ws i (omega arith) (λ n d low high. point.0 (suc n) d (omega arith) (omega arith), λ n d low high. point.1 (suc n) d (omega arith) (omega arith)))
    ∙ sym (ap (λ b. cond b (v ∷ put_in_order w ws) (w ∷ v ∷ ws)) (point.0 0 v (omega arith) (omega arith)))

-- those put among sorted ones leave them sorted
all-put : (P : Waiting → Type 0) (w : Waiting) (ws : List Waiting) → P w → AllByRecursion P ws → AllByRecursion P (put_in_order w ws)
all-put P w [] h all = (h, tt)
all-put P w (v ∷ ws) h all =
    elim (is_before w.deal w.user w.way v) as (λ b. AllByRecursion P (cond b (v ∷ put_in_order w ws) (w ∷ v ∷ ws))) [
      | true ↦ (all.0, all-put P w ws h all.1)
      | false ↦ (h, all)
    ]

pub sorted-put : (w : Waiting) (ws : List Waiting) → AreSorted ws → AreSorted (put_in_order w ws)
sorted-put w [] sorted = (tt, tt)
sorted-put w (v ∷ ws) sorted = by (is_before w.deal w.user w.way v) refl (sorted-put w ws sorted.1)
  where
    by : (b : Bool) → is_before w.deal w.user w.way v ≡ b → AreSorted (put_in_order w ws) → AreSorted (cond b (v ∷ put_in_order w ws) (w ∷ v ∷ ws))
    by true e rest = (
      all-put (λ x. is_before v.deal v.user v.way x ≡ false) w ws (less-not v.deal.0 v.user.0 (rank v.way) w.deal.0 w.user.0 (rank w.way) e) sorted.0,
      rest,
    )
    by false e rest = (
      (
        e,
        AllByRecursion-weaker (λ x. is_before v.deal v.user v.way x ≡ false) (λ x. is_before w.deal w.user w.way x ≡ false)
            (λ x h. not_less-not_less v.deal.0 v.user.0 (rank v.way) x.deal.0 x.user.0 (rank x.way) w.deal.0 w.user.0 (rank w.way) h e) ws sorted.0,
      ),
      sorted,
    )

pub sorted-put_all : (ws vs : List Waiting) → AreSorted vs → AreSorted (put_all_in_order ws vs)
sorted-put_all [] vs sorted = sorted
sorted-put_all (w ∷ ws) vs sorted = sorted-put_all ws (put_in_order w vs) (sorted-put w vs sorted)

-- of two notices either may be put first, where one stands before the other
pub put-swap : (a b : Waiting) → Precedes a b → (vs : List Waiting) → put_in_order b (put_in_order a vs) ≡ put_in_order a (put_in_order b vs)
put-swap a b h [] =
    ap (λ t. cond t (a ∷ b ∷ []) (b ∷ a ∷ [])) h
    ∙ sym (ap (λ t. cond t (b ∷ a ∷ []) (a ∷ b ∷ [])) (less-not a.deal.0 a.user.0 (rank a.way) b.deal.0 b.user.0 (rank b.way) h))
put-swap a b h (v ∷ vs) = by (put-swap a b h vs) (is_before a.deal a.user a.way v) refl (is_before b.deal b.user b.way v) refl
  where
    back : is_before a.deal a.user a.way b ≡ false
    back = less-not a.deal.0 a.user.0 (rank a.way) b.deal.0 b.user.0 (rank b.way) h

    put-cons : (w x : Waiting) (xs : List Waiting) (t : Bool) → is_before w.deal w.user w.way x ≡ t → put_in_order w (x ∷ xs) ≡ cond t (x ∷ put_in_order w xs) (w ∷ x ∷ xs)
    put-cons w x xs t e = ap (λ s. cond s (x ∷ put_in_order w xs) (w ∷ x ∷ xs)) e

    by : put_in_order b (put_in_order a vs) ≡ put_in_order a (put_in_order b vs) → (s : Bool) → is_before a.deal a.user a.way v ≡ s → (t : Bool) → is_before b.deal b.user b.way v ≡ t → put_in_order b (put_in_order a (v ∷ vs)) ≡ put_in_order a (put_in_order b (v ∷ vs))
    by rest true e true f =
        ap (put_in_order b) (put-cons a v vs true e) ∙ (put-cons b v (put_in_order a vs) true f ∙ (ap (λ xs. v ∷ xs) rest
        ∙ sym (ap (put_in_order a) (put-cons b v vs true f) ∙ put-cons a v (put_in_order b vs) true e)))
    by rest true e false f = absurd (no (sym f ∙ less-then v.deal.0 v.user.0 (rank v.way) a.deal.0 a.user.0 (rank a.way) b.deal.0 b.user.0 (rank b.way) e h))
      where
        no : false ≡ true → ⊥
        no g = cc
    by rest false e true f =
        ap (put_in_order b) (put-cons a v vs false e) ∙ (put-cons b a (v ∷ vs) true h ∙ (ap (λ xs. a ∷ xs) (put-cons b v vs true f)
        ∙ sym (ap (put_in_order a) (put-cons b v vs true f) ∙ put-cons a v (put_in_order b vs) false e)))
    by rest false e false f =
        ap (put_in_order b) (put-cons a v vs false e) ∙ (put-cons b a (v ∷ vs) true h ∙ (ap (λ xs. a ∷ xs) (put-cons b v vs false f)
        ∙ sym (ap (put_in_order a) (put-cons b v vs false f) ∙ put-cons a b (v ∷ vs) false back)))

-- a first one may be put last
pub put-first : (a : Waiting) (ws vs : List Waiting) → AllByRecursion (Precedes a) ws → put_in_order a (put_all_in_order ws vs) ≡ put_all_in_order ws (put_in_order a vs)
put-first a [] vs all = refl
put-first a (w ∷ ws) vs all = put-first a ws (put_in_order w vs) all.1 ∙ ap (put_all_in_order ws) (sym (put-swap a w all.0 vs))

all_filtered : {X : Type 0} (m : X → Waiting) (P : Waiting → Type 0) (test : X → Bool) (xs : List X) → AllByRecursion P (map m xs) → AllByRecursion P (map m (filter test xs))
all_filtered m P test [] all = tt
all_filtered m P test (x ∷ xs) all = elim (test x) as (λ b. AllByRecursion P (map m (cond b (x ∷ filter test xs) (filter test xs)))) [ true ↦ (all.0, all_filtered m P test xs all.1) | false ↦ all_filtered m P test xs all.1 ]

-- those that pass one test, and then the others that pass a second one, are those that pass either
pub put-both : {X : Type 0} (m : X → Waiting) (p q : X → Bool) (xs : List X) → IsInOrder (map m xs) → (vs : List Waiting)
    → put_all_in_order (map m (filter (λ x. not (p x) && q x) xs)) (put_all_in_order (map m (filter p xs)) vs) ≡ put_all_in_order (map m (filter (λ x. p x || q x) xs)) vs
put-both m p q [] order vs = refl
put-both m p q (x ∷ xs) order vs = by (λ us. put-both m p q xs order.1 us) (p x) (q x)
  where
    by : ((us : List Waiting) → put_all_in_order (map m (filter (λ y. not (p y) && q y) xs)) (put_all_in_order (map m (filter p xs)) us) ≡ put_all_in_order (map m (filter (λ y. p y || q y) xs)) us)
        → (a b : Bool) → put_all_in_order (map m (cond (not a && b) (x ∷ filter (λ y. not (p y) && q y) xs) (filter (λ y. not (p y) && q y) xs))) (put_all_in_order (map m (cond a (x ∷ filter p xs) (filter p xs))) vs)
        ≡ put_all_in_order (map m (cond (a || b) (x ∷ filter (λ y. p y || q y) xs) (filter (λ y. p y || q y) xs))) vs
    by rest true b = rest (put_in_order (m x) vs)
    by rest false true =
        ap (put_all_in_order (map m (filter (λ y. not (p y) && q y) xs))) (put-first (m x) (map m (filter p xs)) vs (all_filtered m (Precedes (m x)) p xs order.0))
        ∙ rest (put_in_order (m x) vs)
    by rest false false = rest vs

-- those in order behind others stand behind them
put-last : (w : Waiting) (vs : List Waiting) → AllByRecursion (λ v. Precedes v w) vs → put_in_order w vs ≡ vs ++ w ∷ []
put-last w [] all = refl
put-last w (v ∷ vs) all = ap (λ b. cond b (v ∷ put_in_order w vs) (w ∷ v ∷ vs)) all.0 ∙ ap (λ xs. v ∷ xs) (put-last w vs all.1)

pub put-alone : (ws : List Waiting) → IsInOrder ws → put_all_in_order ws [] ≡ ws
put-alone ws order = behind ws [] order (each ws)
  where
    each : (xs : List Waiting) → AllByRecursion (λ w. AllByRecursion (λ v. Precedes v w) []) xs
    each [] = tt
    each (x ∷ xs) = (tt, each xs)

    next : (w : Waiting) (xs vs : List Waiting) → AllByRecursion (Precedes w) xs → AllByRecursion (λ x. AllByRecursion (λ v. Precedes v x) vs) xs → AllByRecursion (λ x. AllByRecursion (λ v. Precedes v x) (vs ++ w ∷ [])) xs
    next w [] vs all before = tt
    next w (x ∷ xs) vs all before = (AllByRecursion-append (λ v. Precedes v x) vs (w ∷ []) before.0 (all.0, tt), next w xs vs all.1 before.1)

    append-group : (xs ys zs : List Waiting) → (xs ++ ys) ++ zs ≡ xs ++ (ys ++ zs)
    append-group [] ys zs = refl
    append-group (x ∷ xs) ys zs = ap (λ rest. x ∷ rest) (append-group xs ys zs)

    behind : (ws vs : List Waiting) → IsInOrder ws → AllByRecursion (λ w. AllByRecursion (λ v. Precedes v w) vs) ws → put_all_in_order ws vs ≡ vs ++ ws
    behind [] vs order before = sym (nothing vs)
      where
        nothing : (xs : List Waiting) → xs ++ [] ≡ xs
        nothing [] = refl
        nothing (x ∷ xs) = ap (λ rest. x ∷ rest) (nothing xs)
    behind (w ∷ ws) vs order before =
        ap (put_all_in_order ws) (put-last w vs before.0) ∙ (behind ws (vs ++ w ∷ []) order.1 (next w ws vs order.0 before.1) ∙ append-group vs (w ∷ []) ws)

-- those of one list put among those of another, where the tests part one list in order
pub put-apart : {X : Type 0} (m : X → Waiting) (p q : X → Bool) (xs : List X) → IsInOrder (map m xs) → IsInOrder (map m (filter p xs))
    → put_all_in_order (map m (filter (λ x. not (p x) && q x) xs)) (map m (filter p xs)) ≡ put_all_in_order (map m (filter (λ x. p x || q x) xs)) []
put-apart m p q xs order those =
    ap (put_all_in_order (map m (filter (λ x. not (p x) && q x) xs))) (sym (put-alone (map m (filter p xs)) those)) ∙ put-both m p q xs order []

-- one more deal is cleared: by mail and by push
pub clear-both : (u : UserId) (p : Waiting → Bool) (k : DealNo) (ws : List Waiting) → IsInOrder ws → (vs : List Waiting)
    → put_all_in_order (map (moved false) (filter (is_undecided_at k u Push) (filter (λ w. not (is_undecided_at k u Mail w)) (filter (λ w. not (p w)) ws))))
    (put_all_in_order (map (moved false) (filter (is_undecided_at k u Mail) (filter (λ w. not (p w)) ws))) (put_all_in_order (map (moved false) (filter p ws)) vs))
    ≡ put_all_in_order (map (moved false) (filter (λ w. (p w || is_undecided_at k u Mail w) || is_undecided_at k u Push w) ws)) vs
clear-both u p k ws order vs =
    let mail = is_undecided_at k u Mail in let push = is_undecided_at k u Push in
    let held = order-moved ws order in
    ap (λ xs. put_all_in_order (map (moved false) xs) (put_all_in_order (map (moved false) (filter mail (filter (λ w. not (p w)) ws))) (put_all_in_order (map (moved false) (filter p ws)) vs)))
    (ap (filter push) (either-taken p mail ws) ∙ filter-filter push (λ w. not (p w || mail w)) ws)
    ∙ (ap (λ xs. put_all_in_order (map (moved false) (filter (λ w. not (p w || mail w) && push w) ws)) (put_all_in_order (map (moved false) xs) (put_all_in_order (map (moved false) (filter p ws)) vs))) (filter-filter mail (λ w. not (p w)) ws)
    ∙ (ap (put_all_in_order (map (moved false) (filter (λ w. not (p w || mail w) && push w) ws))) (put-both (moved false) p mail ws held vs)
    ∙ put-both (moved false) (λ w. p w || mail w) push ws held vs))
  where
    order-moved : (xs : List Waiting) → IsInOrder xs → IsInOrder (map (moved false) xs)
    order-moved xs o = order-map (moved false) (λ w. refl) (λ w. refl) (λ w. refl) xs o

-- a user's undecided notices of one more deal
pub cleared-more : (u : UserId) (deals : List DealNo) (k : DealNo) (ws : List Waiting) → IsInOrder ws → (vs : List Waiting)
    → put_all_in_order (map (moved false) (filter (is_undecided_at k u Push) (filter (λ w. not (is_undecided_at k u Mail w)) (filter (λ w. not (is_named u deals w && is_undecided w)) ws))))
    (put_all_in_order (map (moved false) (filter (is_undecided_at k u Mail) (filter (λ w. not (is_named u deals w && is_undecided w)) ws))) (put_all_in_order (map (moved false) (filter (λ w. is_named u deals w && is_undecided w) ws)) vs))
    ≡ put_all_in_order (map (moved false) (filter (λ w. is_named u (deals ++ k ∷ []) w && is_undecided w) ws)) vs
cleared-more u deals k ws order vs =
    clear-both u (λ w. is_named u deals w && is_undecided w) k ws order vs
    ∙ ap (λ xs. put_all_in_order (map (moved false) xs) vs)
    (filter_same (λ w. ((is_named u deals w && is_undecided w) || is_undecided_at k u Mail w) || is_undecided_at k u Push w) (λ w. is_named u (deals ++ k ∷ []) w && is_undecided w)
    (λ w. by (is_named u deals w) (is_at k u Mail w) (is_at k u Push w) (is_undecided w) ∙ ap (λ b. b && is_undecided w) (named-more u deals k w)) ws)
  where
    by : (a b c d : Bool) → (((a && d) || (b && d)) || (c && d)) ≡ (((a || b) || c) && d)
    by true b c true = refl
    by false true c true = refl
    by false false c true = refl
    by true true true false = refl
    by true true false false = refl
    by true false true false = refl
    by true false false false = refl
    by false true true false = refl
    by false true false false = refl
    by false false true false = refl
    by false false false false = refl

pub nobody-named_undecided : (u : UserId) (ws : List Waiting) → filter (λ w. is_named u [] w && is_undecided w) ws ≡ []
nobody-named_undecided u ws = filter-none (λ w. is_named u [] w && is_undecided w) ws (each ws)
  where
    no : (a b : Bool) → ((a && false) && b) ≡ false
    no true b = refl
    no false b = refl

    each : (vs : List Waiting) → NonePasses (λ w. is_named u [] w && is_undecided w) vs
    each [] = tt
    each (v ∷ vs) = (no (v.user.0 == u.0) (is_undecided v), each vs)
