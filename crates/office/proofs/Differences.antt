-- Where two ascending lists of rows differ first.
use Rattle.std.proofs.Common.{◌≡◌, ◌≢◌, ℕ, zero, suc, ◌<◌, List, [], ◌∷◌, ◌++◌, Option, Some, None, length, take, refl, sym, ap, ◌∙◌, subst, arith}
use Rattle.std.specs.Prelude.{slice_get, MatchOption}
use Rattle.std.specs.declared.cmp.Ordering.{Ordering}
use Rattle.std.specs.declared.cmp.Ordering.TheVariants.{Less, Equal, Greater}
use Rattle.chat_model.specs.declared.row.Row.{Row}
use Rattle.chat_model.specs.declared.row.RowKey.{RowKey}
use Rattle.chat_model.specs.Rows.{key_cmp, key_of, row_at, IsAscending}
use Rattle.chat_model.proofs.Keys.{same_key}
use Rattle.chat_model.proofs.Rows.{AllAbove, AllBelow, AllAbove-lower, IsAscending-head, IsAscending-tail, IsAscending-back, flips_Greater, row_at-above, row_at-below, row_at-append_left, row_at-append_right, row_at-head}
use Rattle.office.specs.Difference.{IsFirstDifference}

-- ---- the rows before a row and behind it

above_one : (k : RowKey) (ps : List Row) (x : Row) (xs : List Row) → AllAbove k (ps ++ x ∷ xs) → key_cmp k (key_of x) ≡ Less
above_one k [] x xs a = a.0
above_one k (p ∷ ps) x xs a = above_one k ps x xs a.1

front_below : (ps : List Row) (x : Row) (xs : List Row) → IsAscending (ps ++ x ∷ xs) → AllBelow (key_of x) ps
front_below [] x xs a = tt
front_below (p ∷ ps) x xs a = (above_one (key_of p) ps x xs (IsAscending-head p (ps ++ x ∷ xs) a), front_below ps x xs (IsAscending-tail p (ps ++ x ∷ xs) a))

back_above : (ps : List Row) (x : Row) (xs : List Row) → IsAscending (ps ++ x ∷ xs) → AllAbove (key_of x) xs
back_above ps x xs a = IsAscending-head x xs (IsAscending-back ps (x ∷ xs) a)

at_key : (ps : List Row) (x : Row) (xs : List Row) → IsAscending (ps ++ x ∷ xs) → row_at (key_of x) (ps ++ x ∷ xs) ≡ Some x
at_key ps x xs a = row_at-append_right (key_of x) ps (x ∷ xs) (row_at-below (key_of x) ps (front_below ps x xs a)) ∙ row_at-head x xs

below_rest : (k : RowKey) (ps xs : List Row) → AllAbove k xs → row_at k (ps ++ xs) ≡ row_at k ps
below_rest k ps xs above = row_at-append_left k ps xs (row_at-above k xs above)

-- ---- a row that one list has alone

only_first : (ps : List Row) (x : Row) (xs ys : List Row) → IsAscending (ps ++ x ∷ xs) → AllAbove (key_of x) ys → IsFirstDifference (ps ++ x ∷ xs) (ps ++ ys) (Some x) None
only_first ps x xs ys a above = record {
  key = key_of x;
  first = at_key ps x xs a;
  second = below_rest (key_of x) ps ys above ∙ row_at-below (key_of x) ps (front_below ps x xs a);
  differ = λ e. cc;
  same_below = λ k less.
      below_rest k ps (x ∷ xs) (less, AllAbove-lower k (key_of x) xs less (back_above ps x xs a)) ∙ sym (below_rest k ps ys (AllAbove-lower k (key_of x) ys less above));
}

only_second : (ps : List Row) (y : Row) (xs ys : List Row) → IsAscending (ps ++ y ∷ ys) → AllAbove (key_of y) xs → IsFirstDifference (ps ++ xs) (ps ++ y ∷ ys) None (Some y)
only_second ps y xs ys a above =
    let turned = only_first ps y ys xs a above in
    record { key = turned.key; first = turned.second; second = turned.first; differ = λ e. cc; same_below = λ k less. sym (turned.same_below k less) }

-- two rows of one key
two_rows : (ps : List Row) (x y : Row) (xs ys : List Row) → IsAscending (ps ++ x ∷ xs) → IsAscending (ps ++ y ∷ ys) → key_cmp (key_of x) (key_of y) ≡ Equal → x ≢ y → IsFirstDifference (ps ++ x ∷ xs) (ps ++ y ∷ ys) (Some x) (Some y)
two_rows ps x y xs ys a b e differ =
    let same : key_of x ≡ key_of y = same_key (key_of x) (key_of y) e in record {
      key = key_of x;
      first = at_key ps x xs a;
      second = ap (λ k. row_at k (ps ++ y ∷ ys)) same ∙ at_key ps y ys b;
      differ = λ f. differ (some_same f);
      same_below = λ k less.
          let less_y : key_cmp k (key_of y) ≡ Less = ap (key_cmp k) (sym same) ∙ less in
          below_rest k ps (x ∷ xs) (less, AllAbove-lower k (key_of x) xs less (back_above ps x xs a))
          ∙ sym (below_rest k ps (y ∷ ys) (less_y, AllAbove-lower k (key_of y) ys less_y (back_above ps y ys b)));
    }
  where
    some_same : Some x ≡ Some y → x ≡ y
    some_same f = cc

-- ---- lists that have so many rows in common

pub record IsOpened (xs : List Row) (n : ℕ) (x : Row) : Type 0 where
  pub rest : List Row
  pub is : xs ≡ take n xs ++ x ∷ rest

opened : (xs : List Row) (n : ℕ) (x : Row) → slice_get xs n ≡ Some x → IsOpened xs n x
opened [] n x e = absurd (cc)
opened (y ∷ ys) zero x e = let same : y ≡ x = cc in record { rest = ys; is = ap (λ z. z ∷ ys) same }
opened (y ∷ ys) (suc n) x e = let more = opened ys n x e in record { rest = more.rest; is = ap (λ zs. y ∷ zs) more.is }

ended : (xs : List Row) (n : ℕ) → slice_get xs n ≡ None → xs ≡ take n xs ++ []
ended [] zero e = refl
ended [] (suc n) e = refl
ended (y ∷ ys) zero e = absurd (cc)
ended (y ∷ ys) (suc n) e = ap (λ zs. y ∷ zs) (ended ys n e)

module _ (xs ys : List Row) (n : ℕ) (a : IsAscending xs) (b : IsAscending ys) (same : take n xs ≡ take n ys) where
  between : (x y : Option Row) (us vs : List Row) → xs ≡ take n xs ++ us → ys ≡ take n ys ++ vs → IsFirstDifference (take n xs ++ us) (take n xs ++ vs) x y → IsFirstDifference xs ys x y
  between x y us vs e f d =
      subst (λ zs. IsFirstDifference zs ys x y) (sym e) (subst (λ zs. IsFirstDifference (take n xs ++ us) zs x y) (sym (f ∙ ap (λ ps. ps ++ vs) (sym same))) d)

  first_ascends : (us : List Row) → xs ≡ take n xs ++ us → IsAscending (take n xs ++ us)
  first_ascends us e = subst IsAscending e a

  second_ascends : (vs : List Row) → ys ≡ take n ys ++ vs → IsAscending (take n xs ++ vs)
  second_ascends vs f = subst IsAscending (f ∙ ap (λ ps. ps ++ vs) (sym same)) b

  pub differ_less : (x y : Row) → slice_get xs n ≡ Some x → slice_get ys n ≡ Some y → key_cmp (key_of x) (key_of y) ≡ Less → IsFirstDifference xs ys (Some x) None
  differ_less x y e f less =
      let p = opened xs n x e in let q = opened ys n y f in
      between (Some x) None (x ∷ p.rest) (y ∷ q.rest) p.is q.is
      (only_first (take n xs) x p.rest (y ∷ q.rest) (first_ascends (x ∷ p.rest) p.is) (less, AllAbove-lower (key_of x) (key_of y) q.rest less (back_above (take n xs) y q.rest (second_ascends (y ∷ q.rest) q.is))))

  pub differ_greater : (x y : Row) → slice_get xs n ≡ Some x → slice_get ys n ≡ Some y → key_cmp (key_of x) (key_of y) ≡ Greater → IsFirstDifference xs ys None (Some y)
  differ_greater x y e f greater =
      let p = opened xs n x e in let q = opened ys n y f in
      let less = flips_Greater (key_of x) (key_of y) greater in
      between None (Some y) (x ∷ p.rest) (y ∷ q.rest) p.is q.is
      (only_second (take n xs) y (x ∷ p.rest) q.rest (second_ascends (y ∷ q.rest) q.is) (less, AllAbove-lower (key_of y) (key_of x) p.rest less (back_above (take n xs) x p.rest (first_ascends (x ∷ p.rest) p.is))))

  pub differ_equal : (x y : Row) → slice_get xs n ≡ Some x → slice_get ys n ≡ Some y → key_cmp (key_of x) (key_of y) ≡ Equal → x ≢ y → IsFirstDifference xs ys (Some x) (Some y)
  differ_equal x y e f equal differ =
      let p = opened xs n x e in let q = opened ys n y f in
      between (Some x) (Some y) (x ∷ p.rest) (y ∷ q.rest) p.is q.is
      (two_rows (take n xs) x y p.rest q.rest (first_ascends (x ∷ p.rest) p.is) (second_ascends (y ∷ q.rest) q.is) equal differ)

  pub differ_first : (x : Row) → slice_get xs n ≡ Some x → slice_get ys n ≡ None → IsFirstDifference xs ys (Some x) None
  differ_first x e f =
      let p = opened xs n x e in
      between (Some x) None (x ∷ p.rest) [] p.is (ended ys n f) (only_first (take n xs) x p.rest [] (first_ascends (x ∷ p.rest) p.is) tt)

  pub differ_second : (y : Row) → slice_get xs n ≡ None → slice_get ys n ≡ Some y → IsFirstDifference xs ys None (Some y)
  differ_second y e f =
      let q = opened ys n y f in
      between None (Some y) [] (y ∷ q.rest) (ended xs n e) q.is (only_second (take n xs) y [] q.rest (second_ascends (y ∷ q.rest) q.is) tt)

  pub same_lists : slice_get xs n ≡ None → slice_get ys n ≡ None → xs ≡ ys
  same_lists e f = ended xs n e ∙ (ap (λ ps. ps ++ []) same ∙ sym (ended ys n f))

-- ---- rows at a place, and their keys

-- there is a place where a row stands
pub there : (xs : List Row) (n : ℕ) (x : Row) → slice_get xs n ≡ Some x → n < length xs
there [] n x e = absurd (cc)
there (y ∷ ys) zero x e = omega arith
there (y ∷ ys) (suc n) x e = omega (arith, there ys n x e)

-- rows compare as their keys do
pub keys_compare : (a b : RowKey) (x y : Row) (o : Ordering) → a ≡ key_of x → b ≡ key_of y → o ≡ key_cmp a b → key_cmp (key_of x) (key_of y) ≡ o
keys_compare a b x y o e f g = ap (λ k. key_cmp k (key_of y)) (sym e) ∙ (ap (key_cmp a) (sym f) ∙ sym g)

-- rows that were found equal in front stay so in the lists that lent them
pub same_fronts : (xs ys us vs : List Row) (n : ℕ) → us ≡ xs → vs ≡ ys → take n us ≡ take n vs → take n xs ≡ take n ys
same_fronts xs ys us vs n e f same = ap (take n) (sym e) ∙ (same ∙ ap (take n) f)

-- two rows that differ where the lists that lent them differ
pub rows_differ : (xs ys us vs : List Row) (n : ℕ) (x y : Row) → us ≡ xs → vs ≡ ys → Some x ≡ slice_get xs n → Some y ≡ slice_get ys n → (n < length us → slice_get us n ≢ slice_get vs n) → x ≢ y
rows_differ xs ys us vs n x y e f at_x at_y differ same =
    let first : slice_get us n ≡ Some x = ap (λ zs. slice_get zs n) e ∙ sym at_x in
    let second : slice_get vs n ≡ Some y = ap (λ zs. slice_get zs n) f ∙ sym at_y in
    differ (there us n x first) (first ∙ (ap Some same ∙ sym second))

-- what holds where nothing was found
pub found_none : {A : Type 0} (r : Option A) (P : Type 0) (Q : A → Type 0) → MatchOption r P Q → ((x : A) → r ≡ Some x → ⊥) → P
found_none None P Q h none = h
found_none (Some x) P Q h none = absurd (none x refl)
