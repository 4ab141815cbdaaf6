-- The place of a key in ascending rows, and what is done there.
use Rattle.std.proofs.Common.{◌≡◌, ℕ, zero, suc, ◌+◌, ◌<◌, ◌≤◌, Bool, true, false, cond, List, [], ◌∷◌, ◌++◌, length, get_or, set, drop, sym, ◌∙◌, ap, refl, subst, arith}
use Rattle.std.specs.Prelude.{insert}
use Rattle.std.specs.List.{remove}
use Rattle.std.specs.declared.cmp.Ordering.{Ordering}
use Rattle.std.specs.declared.cmp.Ordering.TheVariants.{Less, Equal, Greater}
use Rattle.std.specs.Ordering.{is_gt, is_lt}
use Rattle.std.proofs.Math.Seq.{drop-append_seam, set-append_seam, take-append_seam}
use mathlib.Core.Bool.{true≢false}
use Rattle.chat_model.specs.declared.row.Row.{Row}
use Rattle.chat_model.specs.declared.row.RowKey.{RowKey}
use Rattle.chat_model.specs.declared.row.RowChange.TheVariants.{Put, Remove}
use Rattle.chat_model.specs.Rows.{key_cmp, key_of, IsAscending, rows_below, rows_above, changed}
use Rattle.chat_model.proofs.Keys.{same_key}
use Rattle.chat_model.proofs.Rows.{AllAbove, AllAbove-lower, IsAscending-head, IsAscending-tail, flips_Greater, rows_below-none, rows_above-all}
use Rattle.chat_model.specs.Places.{stands_at}

-- rows from a row that is not below the key on
none_below : (k : RowKey) (r : Row) (rs : List Row) → IsAscending (r ∷ rs) → (o : Ordering) → key_cmp (key_of r) k ≡ o → is_lt o ≡ false → AllAbove k rs
none_below k r rs a Less e h = cc
none_below k r rs a Equal e h = subst (λ q. AllAbove q rs) (same_key (key_of r) k e) (IsAscending-head r rs a)
none_below k r rs a Greater e h = AllAbove-lower k (key_of r) rs (flips_Greater (key_of r) k e) (IsAscending-head r rs a)

is_Less : (o : Ordering) → is_lt o ≡ true → o ≡ Less
is_Less Less e = refl
is_Less o e = cc

below_place : (k : RowKey) (rows : List Row) (i : ℕ) (d : Row) → IsAscending rows → i < length rows → is_lt (key_cmp (key_of (get_or rows i d)) k) ≡ true → i < length (rows_below k rows)
below_place k [] i d a h e = absurd (omega arith)
below_place k (r ∷ rs) zero d a h e = rw e (omega arith)
below_place k (r ∷ rs) (suc i) d a h e =
    by (key_cmp (key_of r) k) refl (below_place k rs i d (IsAscending-tail r rs a) (omega arith) e)
  where
    gone : (o : Ordering) → key_cmp (key_of r) k ≡ o → is_lt o ≡ false → i < length (rows_below k rs) → suc i < length (rows_below k rs)
    gone o f g ih =
        let none : rows_below k rs ≡ [] = rows_below-none k rs (none_below k r rs a o f g) in
        let low : i < 0 = subst (λ (t : List Row). i < length t) none ih in
        absurd (omega arith)

    by : (o : Ordering) → key_cmp (key_of r) k ≡ o → i < length (rows_below k rs) → suc i < length (cond (is_lt o) (r ∷ rows_below k rs) (rows_below k rs))
    by Less f ih = omega arith
    by Equal f ih = gone Equal f refl ih
    by Greater f ih = gone Greater f refl ih

not_below_place : (k : RowKey) (rows : List Row) (i : ℕ) (d : Row) → IsAscending rows → i < length rows → is_lt (key_cmp (key_of (get_or rows i d)) k) ≡ false → length (rows_below k rows) ≤ i
not_below_place k [] i d a h e = omega arith
not_below_place k (r ∷ rs) zero d a h e =
    let none : rows_below k rs ≡ [] = rows_below-none k rs (none_below k r rs a (key_cmp (key_of r) k) refl e) in
    rw (e, none) (omega arith)
not_below_place k (r ∷ rs) (suc i) d a h e =
    by (key_cmp (key_of r) k) refl (not_below_place k rs i d (IsAscending-tail r rs a) (omega arith) e)
  where
    by : (o : Ordering) → key_cmp (key_of r) k ≡ o → length (rows_below k rs) ≤ i → length (cond (is_lt o) (r ∷ rows_below k rs) (rows_below k rs)) ≤ suc i
    by Less f ih = omega arith
    by Equal f ih = omega arith
    by Greater f ih = omega arith

-- what a test of the row at i tells of the place
pub place_above : (k : RowKey) (rows : List Row) (i : ℕ) (row : Row) (b : Bool) → IsAscending rows → i < length rows → row ≡ get_or rows i row → b ≡ is_lt (key_cmp (key_of row) k) → b ≡ true → i + 1 ≤ length (rows_below k rows)
place_above k rows i row b a h e t f =
    let low : i < length (rows_below k rows) = below_place k rows i row a h (ap (λ r. is_lt (key_cmp (key_of r) k)) (sym e) ∙ sym t ∙ f) in
    omega arith

pub place_up_to : (k : RowKey) (rows : List Row) (i : ℕ) (row : Row) (b : Bool) → IsAscending rows → i < length rows → row ≡ get_or rows i row → b ≡ is_lt (key_cmp (key_of row) k) → b ≡ false → length (rows_below k rows) ≤ i
place_up_to k rows i row b a h e t f = not_below_place k rows i row a h (ap (λ r. is_lt (key_cmp (key_of r) k)) (sym e) ∙ sym t ∙ f)

pub place_within : (k : RowKey) (rows : List Row) → length (rows_below k rows) ≤ length rows
place_within k [] = omega arith
place_within k (r ∷ rs) = by (is_lt (key_cmp (key_of r) k)) (place_within k rs)
  where
    by : (b : Bool) → length (rows_below k rs) ≤ length rs → length (cond b (r ∷ rows_below k rs) (rows_below k rs)) ≤ suc (length rs)
    by true ih = omega arith
    by false ih = omega arith

-- a row stands between the others
abbrev pub IsRoundOne : List Row → List Row → List Row → Type 0
IsRoundOne rows below above = (old : Row) × (rows ≡ below ++ old ∷ above)

-- where the row at the key's place has the key, it stands between the rows below and those above
pub found_at : (k : RowKey) (rows : List Row) → IsAscending rows → stands_at k rows (length (rows_below k rows)) ≡ true → IsRoundOne rows (rows_below k rows) (rows_above k rows)
found_at k [] a h = cc
found_at k (r ∷ rs) a h = by (key_cmp (key_of r) k) refl h (found_at k rs (IsAscending-tail r rs a))
  where
    by : (o : Ordering) → key_cmp (key_of r) k ≡ o → stands_at k (r ∷ rs) (length (cond (is_lt o) (r ∷ rows_below k rs) (rows_below k rs))) ≡ true
        → (stands_at k rs (length (rows_below k rs)) ≡ true → IsRoundOne rs (rows_below k rs) (rows_above k rs))
        → IsRoundOne (r ∷ rs) (cond (is_lt o) (r ∷ rows_below k rs) (rows_below k rs)) (cond (is_gt o) (r ∷ rows_above k rs) (rows_above k rs))
    by Less e f ih = let p : IsRoundOne rs (rows_below k rs) (rows_above k rs) = ih f in (p.0, ap (λ t. r ∷ t) p.1)
    by Equal e f ih =
        let above : AllAbove k rs = none_below k r rs a Equal e refl in
        (r, rw (rows_below-none k rs above, rows_above-all k rs above) refl)
    by Greater e f ih =
        let none : rows_below k rs ≡ [] = rows_below-none k rs (none_below k r rs a Greater e refl) in
        let wrong : false ≡ true = rw (none, e) at f in
        absurd (true≢false (sym wrong))

-- where it has not, the rows are those below and those above
pub not_found_at : (k : RowKey) (rows : List Row) → IsAscending rows → stands_at k rows (length (rows_below k rows)) ≡ false → rows ≡ rows_below k rows ++ rows_above k rows
not_found_at k [] a h = refl
not_found_at k (r ∷ rs) a h = by (key_cmp (key_of r) k) refl h (not_found_at k rs (IsAscending-tail r rs a))
  where
    by : (o : Ordering) → key_cmp (key_of r) k ≡ o → stands_at k (r ∷ rs) (length (cond (is_lt o) (r ∷ rows_below k rs) (rows_below k rs))) ≡ false
        → (stands_at k rs (length (rows_below k rs)) ≡ false → rs ≡ rows_below k rs ++ rows_above k rs)
        → r ∷ rs ≡ cond (is_lt o) (r ∷ rows_below k rs) (rows_below k rs) ++ cond (is_gt o) (r ∷ rows_above k rs) (rows_above k rs)
    by Less e f ih = ap (λ t. r ∷ t) (ih f)
    by Equal e f ih =
        let none : rows_below k rs ≡ [] = rows_below-none k rs (none_below k r rs a Equal e refl) in
        let wrong : true ≡ false = rw (none, e) at f in
        absurd (true≢false wrong)
    by Greater e f ih =
        let above : AllAbove k rs = none_below k r rs a Greater e refl in
        rw (rows_below-none k rs above, rows_above-all k rs above) refl

-- a place and a test that were found in slices of the rows
place_of : {k k' : RowKey} {rows xs : List Row} {i : ℕ} → k ≡ k' → xs ≡ rows → i ≡ length (rows_below k xs) → i ≡ length (rows_below k' rows)
place_of key first e = e ∙ (λ j. length (rows_below (key j) (first j)))

test_of : {k k' : RowKey} {rows ys : List Row} {i : ℕ} {b c : Bool} → k ≡ k' → ys ≡ rows → b ≡ stands_at k ys i → b ≡ c → i ≡ length (rows_below k' rows) → stands_at k' rows (length (rows_below k' rows)) ≡ c
test_of {k} {k'} {rows} {ys} {i} key second h f e =
    (λ j. stands_at k' rows (sym e j)) ∙ (λ j. stands_at (sym key j) (sym second j) i) ∙ sym h ∙ f

pub put_over : (row : Row) (rows xs ys : List Row) (k : RowKey) (i : ℕ) (b : Bool) → IsAscending rows → k ≡ key_of row → xs ≡ rows → ys ≡ rows → i ≡ length (rows_below k xs) → b ≡ stands_at k ys i → b ≡ true → set rows i row ≡ changed (Put row) rows
put_over row rows xs ys k i b a key first second e h f =
    let at : i ≡ length (rows_below (key_of row) rows) = place_of key first e in
    let parts : IsRoundOne rows (rows_below (key_of row) rows) (rows_above (key_of row) rows) = found_at (key_of row) rows a (test_of key second h f at) in
    ap (λ n. set rows n row) at
    ∙ ap (λ t. set t (length (rows_below (key_of row) rows)) row) parts.1
    ∙ set-append_seam (rows_below (key_of row) rows) parts.0 (rows_above (key_of row) rows) row

pub put_between : (row : Row) (rows xs ys : List Row) (k : RowKey) (i : ℕ) (b : Bool) → IsAscending rows → k ≡ key_of row → xs ≡ rows → ys ≡ rows → i ≡ length (rows_below k xs) → b ≡ stands_at k ys i → b ≡ false → insert rows i row ≡ changed (Put row) rows
put_between row rows xs ys k i b a key first second e h f =
    let at : i ≡ length (rows_below (key_of row) rows) = place_of key first e in
    let parts : rows ≡ rows_below (key_of row) rows ++ rows_above (key_of row) rows = not_found_at (key_of row) rows a (test_of key second h f at) in
    ap (λ n. insert rows n row) at
    ∙ ap (λ t. insert t (length (rows_below (key_of row) rows)) row) parts
    ∙ rw (take-append_seam (rows_below (key_of row) rows) (rows_above (key_of row) rows), drop-append_seam (rows_below (key_of row) rows) (rows_above (key_of row) rows)) refl

pub remove_found : (k : RowKey) (rows xs ys : List Row) (i : ℕ) (b : Bool) → IsAscending rows → xs ≡ rows → ys ≡ rows → i ≡ length (rows_below k xs) → b ≡ stands_at k ys i → b ≡ true → remove rows i ≡ changed (Remove k) rows
remove_found k rows xs ys i b a first second e h f =
    let at : i ≡ length (rows_below k rows) = place_of {k = k} refl first e in
    let parts : IsRoundOne rows (rows_below k rows) (rows_above k rows) = found_at k rows a (test_of {k = k} refl second h f at) in
    ap (λ n. remove rows n) at
    ∙ ap (λ t. remove t (length (rows_below k rows))) parts.1
    ∙ rw (take-append_seam (rows_below k rows) (parts.0 ∷ rows_above k rows), drop_past (rows_below k rows) parts.0 (rows_above k rows)) refl
  where
    drop_past : (ts : List Row) (u : Row) (us : List Row) → drop (suc (length ts)) (ts ++ u ∷ us) ≡ us
    drop_past [] u us = refl
    drop_past (t ∷ ts) u us = drop_past ts u us

pub remove_none : (k : RowKey) (rows xs ys : List Row) (i : ℕ) (b : Bool) → IsAscending rows → xs ≡ rows → ys ≡ rows → i ≡ length (rows_below k xs) → b ≡ stands_at k ys i → b ≡ false → rows ≡ changed (Remove k) rows
remove_none k rows xs ys i b a first second e h f =
    not_found_at k rows a (test_of {k = k} refl second h f (place_of {k = k} refl first e))
