-- The first number of a range that passes a test.
use Rattle.std.proofs.Common.{◌≡◌, ℕ, zero, suc, ◌+◌, ◌≤◌, ◌<◌, Bool, true, false, cond, Option, Some, None, refl, ap, subst, arith, ⊎_elim}
use Rattle.std.specs.List.{find, range_with_len}
use Rattle.std.proofs.lemmas.Bool.{cases_lt}

-- of the `m` numbers from `a` on, `k` is the first that passes
pub record IsFirstOf (p : ℕ → Bool) (a m k : ℕ) : Type 0 where
  pub from : a ≤ k
  pub below : k < a + m
  pub passes : p k ≡ true
  pub fails : (j : ℕ) → a ≤ j → j < k → p j ≡ false

pub found-first : (p : ℕ → Bool) (a m k : ℕ) → find p (range_with_len a m) ≡ Some k → IsFirstOf p a m k
found-first p a zero k e = absurd cc
found-first p a (suc m) k e = by (p a) refl e (found-first p (a + 1) m k)
  where
    by : (t : Bool) → p a ≡ t → cond t (Some a) (find p (range_with_len (a + 1) m)) ≡ Some k → (find p (range_with_len (a + 1) m) ≡ Some k → IsFirstOf p (a + 1) m k) → IsFirstOf p a (suc m) k
    by true is h behind =
        let same : a ≡ k = cc in
        record { from = omega arith; below = omega arith; passes = subst (λ j. p j ≡ true) same is; fails = λ j low high. absurd (omega arith) }
    by false is h behind =
        let later = behind h in
        record {
          from = omega (arith, later.from);
          below = omega (arith, later.below);
          passes = later.passes;
          fails = λ j low high.
              ⊎_elim (λ above. later.fails j (omega arith) high) (λ at. let same : a ≡ j = omega arith in subst (λ i. p i ≡ false) same is) (cases_lt a j);
        }

pub found-none : (p : ℕ → Bool) (a m : ℕ) → find p (range_with_len a m) ≡ None → (j : ℕ) → a ≤ j → j < a + m → p j ≡ false
found-none p a zero e j low high = absurd (omega arith)
found-none p a (suc m) e j low high = by (p a) refl e (found-none p (a + 1) m)
  where
    by : (t : Bool) → p a ≡ t → cond t (Some a) (find p (range_with_len (a + 1) m)) ≡ None → (find p (range_with_len (a + 1) m) ≡ None → (i : ℕ) → a + 1 ≤ i → i < a + 1 + m → p i ≡ false) → p j ≡ false
    by true is h behind = absurd cc
    by false is h behind =
        ⊎_elim (λ above. behind h j (omega arith) (omega arith)) (λ at. let same : a ≡ j = omega arith in subst (λ i. p i ≡ false) same is) (cases_lt a j)

pub none-found : (p : ℕ → Bool) (a m : ℕ) → ((j : ℕ) → a ≤ j → j < a + m → p j ≡ false) → find p (range_with_len a m) ≡ None
none-found p a m fails = by (find p (range_with_len a m)) refl
  where
    by : (o : Option ℕ) → find p (range_with_len a m) ≡ o → o ≡ None
    by None is = refl
    by (Some k) is = let first = found-first p a m k is in let f = fails k first.from first.below in let t = first.passes in absurd cc

pub first-found : (p : ℕ → Bool) (a m k : ℕ) → IsFirstOf p a m k → find p (range_with_len a m) ≡ Some k
first-found p a m k first = by (find p (range_with_len a m)) refl
  where
    by : (o : Option ℕ) → find p (range_with_len a m) ≡ o → o ≡ Some k
    by None is = let f = found-none p a m is k first.from first.below in let t = first.passes in absurd cc
    by (Some j) is =
        let other = found-first p a m j is in
        ⊎_elim
        (λ less. let f = first.fails j other.from less in let t = other.passes in absurd cc)
        (λ more.
        ⊎_elim
        (λ greater. let f = other.fails k first.from greater in let t = first.passes in absurd cc)
        (λ most. let same : j ≡ k = omega arith in ap Some same)
        (cases_lt k j))
        (cases_lt j k)
