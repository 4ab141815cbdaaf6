-- What look-ups find in rows and in changed rows, and that ascending rows are known by their look-ups.
use Rattle.std.proofs.Common.{◌≡◌, Bool, true, false, cond, List, [], ◌∷◌, ◌++◌, Option, Some, None, map, filter, find, sym, ◌∙◌, ap, refl, subst}
use Rattle.std.specs.declared.cmp.Ordering.{Ordering}
use Rattle.std.specs.declared.cmp.Ordering.TheVariants.{Less, Equal, Greater}
use Rattle.std.specs.Ordering.{ordering_reverse, is_eq, is_lt, is_gt}
use Rattle.std.specs.Option.{option_or}
use Rattle.std.specs.List.{AllByRecursion}
use Rattle.std.specs.List.Sorted.{IsStrictlySortedBy}
use Rattle.std.proofs.lemmas.List.{append-nil}
use Rattle.std.proofs.lemmas.List.Elements.{filter-append}
use Rattle.std.proofs.lemmas.List.Folds.{find-append}
use Rattle.std.proofs.lemmas.List.Kept.{IsStrictlySortedBy-filter}
use Rattle.chat_model.specs.declared.row.Row.{Row}
use Rattle.chat_model.specs.declared.row.RowKey.{RowKey}
use Rattle.chat_model.specs.declared.row.RowChange.{RowChange}
use Rattle.chat_model.specs.declared.row.RowChange.TheVariants.{Put, Remove}
use Rattle.chat_model.specs.Rows.{key_cmp, key_of, row_at, IsAscending, rows_below, rows_above, changed, changed_all}
use Rattle.chat_model.proofs.Keys.{key_cmp_total, key_cmp_itself, same_key}

-- ---- two keys

pub flips_Less : (a b : RowKey) → key_cmp a b ≡ Less → key_cmp b a ≡ Greater
flips_Less a b h = key_cmp_total.antisymm b a ∙ ap ordering_reverse h

pub flips_Greater : (a b : RowKey) → key_cmp a b ≡ Greater → key_cmp b a ≡ Less
flips_Greater a b h = key_cmp_total.antisymm b a ∙ ap ordering_reverse h

pub flips_Equal : (a b : RowKey) → key_cmp a b ≡ Equal → key_cmp b a ≡ Equal
flips_Equal a b h = key_cmp_total.antisymm b a ∙ ap ordering_reverse h

-- ---- rows below a key, and rows above it

-- the key is below each row's
abbrev pub AllAbove : RowKey → List Row → Type 0
AllAbove k rows = AllByRecursion (λ q. key_cmp k q ≡ Less) (map key_of rows)

-- each row's key is below the key
abbrev pub AllBelow : RowKey → List Row → Type 0
AllBelow k rows = AllByRecursion (λ q. key_cmp q k ≡ Less) (map key_of rows)

-- each row's key is below each of the other rows'
abbrev pub EachBelow : List Row → List Row → Type 0
EachBelow rows others = AllByRecursion (λ k. AllAbove k others) (map key_of rows)

pub AllAbove-lower : (j k : RowKey) (rows : List Row) → key_cmp j k ≡ Less → AllAbove k rows → AllAbove j rows
AllAbove-lower j k [] h a = tt
AllAbove-lower j k (r ∷ rs) h a = (key_cmp_total.trans j k (key_of r) h a.0, AllAbove-lower j k rs h a.1)

pub AllBelow-higher : (j k : RowKey) (rows : List Row) → key_cmp j k ≡ Less → AllBelow j rows → AllBelow k rows
AllBelow-higher j k [] h a = tt
AllBelow-higher j k (r ∷ rs) h a = (key_cmp_total.trans (key_of r) j k a.0 h, AllBelow-higher j k rs h a.1)

pub AllAbove-append : (k : RowKey) (xs ys : List Row) → AllAbove k xs → AllAbove k ys → AllAbove k (xs ++ ys)
AllAbove-append k [] ys a b = b
AllAbove-append k (x ∷ xs) ys a b = (a.0, AllAbove-append k xs ys a.1 b)

pub AllBelow-append : (k : RowKey) (xs ys : List Row) → AllBelow k xs → AllBelow k ys → AllBelow k (xs ++ ys)
AllBelow-append k [] ys a b = b
AllBelow-append k (x ∷ xs) ys a b = (a.0, AllBelow-append k xs ys a.1 b)

pub EachBelow-between : (k : RowKey) (xs ys : List Row) → AllBelow k xs → AllAbove k ys → EachBelow xs ys
EachBelow-between k [] ys a b = tt
EachBelow-between k (x ∷ xs) ys a b = (AllAbove-lower (key_of x) k ys a.0 b, EachBelow-between k xs ys a.1 b)

pub EachBelow-nil : (xs : List Row) → EachBelow xs []
EachBelow-nil [] = tt
EachBelow-nil (x ∷ xs) = (tt, EachBelow-nil xs)

pub EachBelow-append : (xs ys zs : List Row) → EachBelow xs ys → EachBelow xs zs → EachBelow xs (ys ++ zs)
EachBelow-append [] ys zs a b = tt
EachBelow-append (x ∷ xs) ys zs a b = (AllAbove-append (key_of x) ys zs a.0 b.0, EachBelow-append xs ys zs a.1 b.1)

pub EachBelow-both : (xs ys zs : List Row) → EachBelow xs zs → EachBelow ys zs → EachBelow (xs ++ ys) zs
EachBelow-both [] ys zs a b = b
EachBelow-both (x ∷ xs) ys zs a b = (a.0, EachBelow-both xs ys zs a.1 b)

-- ---- ascending rows

pub IsAscending-head : (r : Row) (rs : List Row) → IsAscending (r ∷ rs) → AllAbove (key_of r) rs
unfolding IsStrictlySortedBy
IsAscending-head r rs a = a.0

pub IsAscending-tail : (r : Row) (rs : List Row) → IsAscending (r ∷ rs) → IsAscending rs
unfolding IsStrictlySortedBy
IsAscending-tail r rs a = a.1

pub IsAscending-nil : IsAscending []
unfolding IsStrictlySortedBy
IsAscending-nil = tt

pub IsAscending-cons : (r : Row) (rs : List Row) → AllAbove (key_of r) rs → IsAscending rs → IsAscending (r ∷ rs)
unfolding IsStrictlySortedBy
IsAscending-cons r rs a h = (a, h)

pub IsAscending-append : (xs ys : List Row) → IsAscending xs → IsAscending ys → EachBelow xs ys → IsAscending (xs ++ ys)
IsAscending-append [] ys a b e = b
IsAscending-append (x ∷ xs) ys a b e =
    IsAscending-cons x (xs ++ ys)
    (AllAbove-append (key_of x) xs ys (IsAscending-head x xs a) e.0)
    (IsAscending-append xs ys (IsAscending-tail x xs a) b e.1)

pub IsAscending-front : (xs ys : List Row) → IsAscending (xs ++ ys) → IsAscending xs
IsAscending-front [] ys a = IsAscending-nil
IsAscending-front (x ∷ xs) ys a =
    IsAscending-cons x xs (front xs (IsAscending-head x (xs ++ ys) a)) (IsAscending-front xs ys (IsAscending-tail x (xs ++ ys) a))
  where
    front : (zs : List Row) → AllAbove (key_of x) (zs ++ ys) → AllAbove (key_of x) zs
    front [] b = tt
    front (z ∷ zs) b = (b.0, front zs b.1)

pub IsAscending-back : (xs ys : List Row) → IsAscending (xs ++ ys) → IsAscending ys
IsAscending-back [] ys a = a
IsAscending-back (x ∷ xs) ys a = IsAscending-back xs ys (IsAscending-tail x (xs ++ ys) a)

map-filter : (p : RowKey → Bool) (rows : List Row) → map key_of (filter (λ row. p (key_of row)) rows) ≡ filter p (map key_of rows)
map-filter p [] = refl
map-filter p (r ∷ rs) = by (p (key_of r)) _ _ (map-filter p rs)
  where
    by : (b : Bool) (xs : List Row) (ks : List RowKey) → map key_of xs ≡ ks → map key_of (cond b (r ∷ xs) xs) ≡ cond b (key_of r ∷ ks) ks
    by true xs ks e = ap (λ t. key_of r ∷ t) e
    by false xs ks e = e

pub IsAscending-filter : (p : RowKey → Bool) (rows : List Row) → IsAscending rows → IsAscending (filter (λ row. p (key_of row)) rows)
IsAscending-filter p rows a =
    subst (IsStrictlySortedBy key_cmp) (sym (map-filter p rows)) (IsStrictlySortedBy-filter key_cmp p (map key_of rows) a)

-- ---- the rows below a key, and those above it

pub rows_below-all : (k : RowKey) (rows : List Row) → AllBelow k rows → rows_below k rows ≡ rows
rows_below-all k [] a = refl
rows_below-all k (r ∷ rs) a = rw (a.0) (ap (λ t. r ∷ t) (rows_below-all k rs a.1))

pub rows_below-none : (k : RowKey) (rows : List Row) → AllAbove k rows → rows_below k rows ≡ []
rows_below-none k [] a = refl
rows_below-none k (r ∷ rs) a = rw (flips_Less k (key_of r) a.0) (rows_below-none k rs a.1)

pub rows_above-all : (k : RowKey) (rows : List Row) → AllAbove k rows → rows_above k rows ≡ rows
rows_above-all k [] a = refl
rows_above-all k (r ∷ rs) a = rw (flips_Less k (key_of r) a.0) (ap (λ t. r ∷ t) (rows_above-all k rs a.1))

pub rows_above-none : (k : RowKey) (rows : List Row) → AllBelow k rows → rows_above k rows ≡ []
rows_above-none k [] a = refl
rows_above-none k (r ∷ rs) a = rw (a.0) (rows_above-none k rs a.1)

pub AllBelow-rows_below : (k : RowKey) (rows : List Row) → AllBelow k (rows_below k rows)
AllBelow-rows_below k [] = tt
AllBelow-rows_below k (r ∷ rs) = by (key_cmp (key_of r) k) refl (AllBelow-rows_below k rs)
  where
    by : (o : Ordering) → key_cmp (key_of r) k ≡ o → AllBelow k (rows_below k rs) → AllBelow k (cond (is_lt o) (r ∷ rows_below k rs) (rows_below k rs))
    by Less h a = (h, a)
    by Equal h a = a
    by Greater h a = a

pub AllAbove-rows_above : (k : RowKey) (rows : List Row) → AllAbove k (rows_above k rows)
AllAbove-rows_above k [] = tt
AllAbove-rows_above k (r ∷ rs) = by (key_cmp (key_of r) k) refl (AllAbove-rows_above k rs)
  where
    by : (o : Ordering) → key_cmp (key_of r) k ≡ o → AllAbove k (rows_above k rs) → AllAbove k (cond (is_gt o) (r ∷ rows_above k rs) (rows_above k rs))
    by Less h a = a
    by Equal h a = a
    by Greater h a = (flips_Greater (key_of r) k h, a)

-- ---- look-ups

pub row_at-above : (k : RowKey) (rows : List Row) → AllAbove k rows → row_at k rows ≡ None
row_at-above k [] a = refl
row_at-above k (r ∷ rs) a = rw (flips_Less k (key_of r) a.0) (row_at-above k rs a.1)

pub row_at-below : (k : RowKey) (rows : List Row) → AllBelow k rows → row_at k rows ≡ None
row_at-below k [] a = refl
row_at-below k (r ∷ rs) a = rw (a.0) (row_at-below k rs a.1)

pub row_at-append : (k : RowKey) (xs ys : List Row) → row_at k (xs ++ ys) ≡ option_or (row_at k xs) (row_at k ys)
row_at-append k xs ys = find-append (λ row. is_eq (key_cmp (key_of row) k)) xs ys

pub row_at-head : (r : Row) (rs : List Row) → row_at (key_of r) (r ∷ rs) ≡ Some r
row_at-head r rs = rw (key_cmp_itself (key_of r)) refl

is_Equal : (o : Ordering) → is_eq o ≡ true → o ≡ Equal
is_Equal Equal e = refl
is_Equal o e = cc

pub found_key : (r : Row) (k : RowKey) → is_eq (key_cmp (key_of r) k) ≡ true → key_of r ≡ k
found_key r k h = same_key (key_of r) k (is_Equal (key_cmp (key_of r) k) h)

-- a filter that answers b at all that a test may find keeps what the test finds, or loses it
find-filter : {X : Type 0} (test p : X → Bool) (b : Bool) → ((x : X) → test x ≡ true → p x ≡ b) → (xs : List X) → find test (filter p xs) ≡ cond b (find test xs) None
find-filter test p true f [] = refl
find-filter test p false f [] = refl
find-filter {X} test p b f (x ∷ xs) = by (test x) (p x) b refl refl (f x) (find-filter test p b f xs)
  where
    by : (t q c : Bool) → test x ≡ t → p x ≡ q → (test x ≡ true → p x ≡ c)
        → find test (filter p xs) ≡ cond {A = Option X} c (find test xs) None
        → find test (cond q (x ∷ filter p xs) (filter p xs)) ≡ cond {A = Option X} c (cond t (Some x) (find test xs)) None
    by true true true h i g e = rw h refl
    by true false false h i g e = e
    by true true false h i g e = cc (g h)
    by true false true h i g e = cc (g h)
    by false true c h i g e = rw h e
    by false false c h i g e = e

-- a filter by keys keeps the look-up of a key that passes, and leaves no row of another
pub row_at-filter : (p : RowKey → Bool) (k : RowKey) (rows : List Row) → row_at k (filter (λ row. p (key_of row)) rows) ≡ cond (p k) (row_at k rows) None
row_at-filter p k rows =
    find-filter (λ row. is_eq (key_cmp (key_of row) k)) (λ row. p (key_of row)) (p k) (λ r h. ap p (found_key r k h)) rows

pub row_at-rows_below : (q k : RowKey) (rows : List Row) → row_at q (rows_below k rows) ≡ cond (is_lt (key_cmp q k)) (row_at q rows) None
row_at-rows_below q k rows = row_at-filter (λ r. is_lt (key_cmp r k)) q rows

pub row_at-rows_above : (q k : RowKey) (rows : List Row) → row_at q (rows_above k rows) ≡ cond (is_gt (key_cmp q k)) (row_at q rows) None
row_at-rows_above q k rows = row_at-filter (λ r. is_gt (key_cmp r k)) q rows

-- ---- changes

-- what a change gives the key, which had what is given
abbrev pub row_after : RowKey → RowChange → Option Row → Option Row
row_after k (Put row) before = cond (is_eq (key_cmp (key_of row) k)) (Some row) before
row_after k (Remove gone) before = cond (is_eq (key_cmp gone k)) None before

-- what changes one after another give the key, which had what is given
abbrev pub row_after_all : RowKey → List RowChange → Option Row → Option Row
row_after_all k [] before = before
row_after_all k (change ∷ changes) before = row_after_all k changes (row_after k change before)

none_else : (o : Option Row) → option_or o None ≡ o
none_else None = refl
none_else (Some r) = refl

pub row_at-changed : (k : RowKey) (change : RowChange) (rows : List Row) → row_at k (changed change rows) ≡ row_after k change (row_at k rows)
row_at-changed k (Put row) rows =
    row_at-append k (rows_below (key_of row) rows) (row ∷ rows_above (key_of row) rows)
    ∙ rw (row_at-rows_below k (key_of row) rows, row_at-rows_above k (key_of row) rows) (by (key_cmp k (key_of row)) refl)
  where
    by : (o : Ordering) → key_cmp k (key_of row) ≡ o
        → option_or (cond (is_lt o) (row_at k rows) None) (cond (is_eq (key_cmp (key_of row) k)) (Some row) (cond (is_gt o) (row_at k rows) None))
        ≡ cond (is_eq (key_cmp (key_of row) k)) (Some row) (row_at k rows)
    by Less h = rw (flips_Less k (key_of row) h) (none_else (row_at k rows))
    by Equal h = rw (flips_Equal k (key_of row) h) refl
    by Greater h = rw (flips_Greater k (key_of row) h) refl
row_at-changed k (Remove gone) rows =
    row_at-append k (rows_below gone rows) (rows_above gone rows)
    ∙ rw (row_at-rows_below k gone rows, row_at-rows_above k gone rows) (by (key_cmp k gone) refl)
  where
    by : (o : Ordering) → key_cmp k gone ≡ o
        → option_or (cond (is_lt o) (row_at k rows) None) (cond (is_gt o) (row_at k rows) None)
        ≡ cond (is_eq (key_cmp gone k)) None (row_at k rows)
    by Less h = rw (flips_Less k gone h) (none_else (row_at k rows))
    by Equal h = rw (flips_Equal k gone h) refl
    by Greater h = rw (flips_Greater k gone h) refl

pub row_at-changed_all : (k : RowKey) (changes : List RowChange) (rows : List Row) → row_at k (changed_all changes rows) ≡ row_after_all k changes (row_at k rows)
row_at-changed_all k [] rows = refl
row_at-changed_all k (change ∷ changes) rows =
    row_at-changed_all k changes (changed change rows) ∙ ap (row_after_all k changes) (row_at-changed k change rows)

pub row_after_all-append : (k : RowKey) (changes more : List RowChange) (before : Option Row) → row_after_all k (changes ++ more) before ≡ row_after_all k more (row_after_all k changes before)
row_after_all-append k [] more before = refl
row_after_all-append k (change ∷ changes) more before = row_after_all-append k changes more (row_after k change before)

pub changed_all-append : (changes more : List RowChange) (rows : List Row) → changed_all (changes ++ more) rows ≡ changed_all more (changed_all changes rows)
changed_all-append [] more rows = refl
changed_all-append (change ∷ changes) more rows = changed_all-append changes more (changed change rows)

pub IsAscending-changed : (change : RowChange) (rows : List Row) → IsAscending rows → IsAscending (changed change rows)
IsAscending-changed (Put row) rows a =
    IsAscending-append (rows_below (key_of row) rows) (row ∷ rows_above (key_of row) rows)
    (IsAscending-filter (λ k. is_lt (key_cmp k (key_of row))) rows a)
    (IsAscending-cons row (rows_above (key_of row) rows) (AllAbove-rows_above (key_of row) rows) (IsAscending-filter (λ k. is_gt (key_cmp k (key_of row))) rows a))
    (with_it (rows_below (key_of row) rows) (AllBelow-rows_below (key_of row) rows))
  where
    with_it : (xs : List Row) → AllBelow (key_of row) xs → EachBelow xs (row ∷ rows_above (key_of row) rows)
    with_it [] b = tt
    with_it (x ∷ xs) b =
        ((b.0, AllAbove-lower (key_of x) (key_of row) (rows_above (key_of row) rows) b.0 (AllAbove-rows_above (key_of row) rows)), with_it xs b.1)
IsAscending-changed (Remove gone) rows a =
    IsAscending-append (rows_below gone rows) (rows_above gone rows)
    (IsAscending-filter (λ k. is_lt (key_cmp k gone)) rows a)
    (IsAscending-filter (λ k. is_gt (key_cmp k gone)) rows a)
    (EachBelow-between gone (rows_below gone rows) (rows_above gone rows) (AllBelow-rows_below gone rows) (AllAbove-rows_above gone rows))

pub IsAscending-changed_all : (changes : List RowChange) (rows : List Row) → IsAscending rows → IsAscending (changed_all changes rows)
IsAscending-changed_all [] rows a = a
IsAscending-changed_all (change ∷ changes) rows a = IsAscending-changed_all changes (changed change rows) (IsAscending-changed change rows a)

-- ---- rows with the same look-ups

-- ascending rows with the same look-ups are the same rows
pub same_rows : (xs ys : List Row) → IsAscending xs → IsAscending ys → ((k : RowKey) → row_at k xs ≡ row_at k ys) → xs ≡ ys
same_rows [] [] a b e = refl
same_rows [] (y ∷ ys) a b e = let h : row_at (key_of y) (y ∷ ys) ≡ Some y = row_at-head y ys in let f : None ≡ row_at (key_of y) (y ∷ ys) = e (key_of y) in cc
same_rows (x ∷ xs) [] a b e = let h : row_at (key_of x) (x ∷ xs) ≡ Some x = row_at-head x xs in let f : row_at (key_of x) (x ∷ xs) ≡ None = e (key_of x) in cc
same_rows (x ∷ xs) (y ∷ ys) a b e = by (key_cmp (key_of x) (key_of y)) refl (same_rows xs ys (IsAscending-tail x xs a) (IsAscending-tail y ys b))
  where
    missing : (r s : Row) (rs ss : List Row) → key_cmp (key_of r) (key_of s) ≡ Less → IsAscending (s ∷ ss) → row_at (key_of r) (r ∷ rs) ≡ row_at (key_of r) (s ∷ ss) → ⊥
    missing r s rs ss h c f =
        let g : row_at (key_of r) (s ∷ ss) ≡ None = row_at-above (key_of r) (s ∷ ss) (h, AllAbove-lower (key_of r) (key_of s) ss h (IsAscending-head s ss c)) in
        let i : row_at (key_of r) (r ∷ rs) ≡ Some r = row_at-head r rs in
        cc

    heads : key_cmp (key_of x) (key_of y) ≡ Equal → x ≡ y
    heads h =
        let f : row_at (key_of x) (x ∷ xs) ≡ Some x = row_at-head x xs in
        let g : row_at (key_of x) (y ∷ ys) ≡ Some y = rw (flips_Equal (key_of x) (key_of y) h) refl in
        let i : row_at (key_of x) (x ∷ xs) ≡ row_at (key_of x) (y ∷ ys) = e (key_of x) in
        cc

    tails : (k : RowKey) (o : Ordering) → key_cmp (key_of x) k ≡ o → key_of x ≡ key_of y → row_at k xs ≡ row_at k ys
    tails k Equal h i =
        let at : key_of x ≡ k = same_key (key_of x) k h in
        let above : AllAbove k xs = subst (λ q. AllAbove q xs) at (IsAscending-head x xs a) in
        let others : AllAbove k ys = subst (λ q. AllAbove q ys) (sym i ∙ at) (IsAscending-head y ys b) in
        row_at-above k xs above ∙ sym (row_at-above k ys others)
    tails k Less h i = let g : key_cmp (key_of y) k ≡ Less = rw (← i) h in rw g at (rw h at (e k))
    tails k Greater h i = let g : key_cmp (key_of y) k ≡ Greater = rw (← i) h in rw g at (rw h at (e k))

    by : (o : Ordering) → key_cmp (key_of x) (key_of y) ≡ o → (((k : RowKey) → row_at k xs ≡ row_at k ys) → xs ≡ ys) → x ∷ xs ≡ y ∷ ys
    by Less h f = absurd (missing x y xs ys h b (e (key_of x)))
    by Greater h f = absurd (missing y x ys xs (flips_Greater (key_of x) (key_of y) h) a (sym (e (key_of y))))
    by Equal h f = let i : x ≡ y = heads h in let j : xs ≡ ys = f (λ k. tails k (key_cmp (key_of x) k) refl (ap key_of i)) in (λ n. i n ∷ j n)

-- ---- changes at a place

rows_below-between : (k : RowKey) (xs ys : List Row) → AllBelow k xs → AllAbove k ys → rows_below k (xs ++ ys) ≡ xs
rows_below-between k xs ys a b =
    filter-append _ xs ys ∙ rw (rows_below-all k xs a, rows_below-none k ys b) (append-nil xs)

rows_above-between : (k : RowKey) (xs ys : List Row) → AllBelow k xs → AllAbove k ys → rows_above k (xs ++ ys) ≡ ys
rows_above-between k xs ys a b =
    filter-append _ xs ys ∙ rw (rows_above-none k xs a, rows_above-all k ys b) refl

rows_below-at : (k : RowKey) (old : Row) (xs ys : List Row) → key_cmp (key_of old) k ≡ Equal → AllBelow k xs → AllAbove k ys → rows_below k (xs ++ old ∷ ys) ≡ xs
rows_below-at k old xs ys e a b =
    filter-append _ xs (old ∷ ys) ∙ rw (e, rows_below-all k xs a, rows_below-none k ys b) (append-nil xs)

rows_above-at : (k : RowKey) (old : Row) (xs ys : List Row) → key_cmp (key_of old) k ≡ Equal → AllBelow k xs → AllAbove k ys → rows_above k (xs ++ old ∷ ys) ≡ ys
rows_above-at k old xs ys e a b =
    filter-append _ xs (old ∷ ys) ∙ rw (e, rows_above-none k xs a, rows_above-all k ys b) refl

-- a row is put between the rows below its key and those above it
pub changed-put_between : (row : Row) (xs ys : List Row) → AllBelow (key_of row) xs → AllAbove (key_of row) ys → changed (Put row) (xs ++ ys) ≡ xs ++ row ∷ ys
changed-put_between row xs ys a b =
    rw (rows_below-between (key_of row) xs ys a b, rows_above-between (key_of row) xs ys a b) refl

-- a row that is put takes the place of the row of its key
pub changed-put_at : (row old : Row) (xs ys : List Row) → key_cmp (key_of old) (key_of row) ≡ Equal → AllBelow (key_of row) xs → AllAbove (key_of row) ys → changed (Put row) (xs ++ old ∷ ys) ≡ xs ++ row ∷ ys
changed-put_at row old xs ys e a b =
    rw (rows_below-at (key_of row) old xs ys e a b, rows_above-at (key_of row) old xs ys e a b) refl

-- a key that has no row leaves the rows as they are when it is removed
pub changed-remove_between : (k : RowKey) (xs ys : List Row) → AllBelow k xs → AllAbove k ys → changed (Remove k) (xs ++ ys) ≡ xs ++ ys
changed-remove_between k xs ys a b = rw (rows_below-between k xs ys a b, rows_above-between k xs ys a b) refl

-- a key that is removed takes its row away
pub changed-remove_at : (k : RowKey) (old : Row) (xs ys : List Row) → key_cmp (key_of old) k ≡ Equal → AllBelow k xs → AllAbove k ys → changed (Remove k) (xs ++ old ∷ ys) ≡ xs ++ ys
changed-remove_at k old xs ys e a b = rw (rows_below-at k old xs ys e a b, rows_above-at k old xs ys e a b) refl

-- ---- changes and look-ups together

-- changed rows are the rows to which the changes lead, key by key
pub changed_all-same : (changes : List RowChange) (rows later : List Row) → IsAscending rows → IsAscending later → ((k : RowKey) → row_after_all k changes (row_at k rows) ≡ row_at k later) → changed_all changes rows ≡ later
changed_all-same changes rows later a b e =
    same_rows (changed_all changes rows) later (IsAscending-changed_all changes rows a) b
    (λ k. row_at-changed_all k changes rows ∙ e k)

-- no row has the key
abbrev pub NoneHas : RowKey → List Row → Type 0
NoneHas k rows = AllByRecursion (λ q. is_eq (key_cmp q k) ≡ false) (map key_of rows)

pub row_at-none : (k : RowKey) (rows : List Row) → NoneHas k rows → row_at k rows ≡ None
row_at-none k [] a = refl
row_at-none k (r ∷ rs) a = rw (a.0) (row_at-none k rs a.1)

pub row_at-append_left : (k : RowKey) (xs ys : List Row) → row_at k ys ≡ None → row_at k (xs ++ ys) ≡ row_at k xs
row_at-append_left k xs ys e = row_at-append k xs ys ∙ rw e (none_else (row_at k xs))

pub row_at-append_right : (k : RowKey) (xs ys : List Row) → row_at k xs ≡ None → row_at k (xs ++ ys) ≡ row_at k ys
row_at-append_right k xs ys e = row_at-append k xs ys ∙ rw e refl

pub row_at-head_other : (k : RowKey) (r : Row) (rs : List Row) → is_eq (key_cmp (key_of r) k) ≡ false → row_at k (r ∷ rs) ≡ row_at k rs
row_at-head_other k r rs e = rw e refl
