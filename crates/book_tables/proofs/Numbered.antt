-- Lists numbered from 1, and a list with one element changed.
use Rattle.std.proofs.Common.{◌≡◌, ◌≢◌, ℕ, zero, suc, ◌-◌, ◌<◌, ◌≤◌, Bool, true, false, ◌||◌, ◌==◌, List, [], ◌∷◌, ◌++◌, length, map, get_or, set, refl, sym, ap, ◌∙◌, arith}
use Rattle.std.specs.Option.{option_map_or}
use Rattle.std.proofs.lemmas.Bool.Decides.{nat_tests}
use Rattle.book_tables.specs.Receipts.{is_marked}
use Rattle.std.specs.Prelude.{Some, None, IfSome, option_map, slice_get}
use Rattle.std.specs.List.{AllByRecursion}
use Rattle.notice_ledger.specs.Past.Values.{numbered}
use Rattle.book_tables.specs.UserSets.{changed_at, changed_numbered}

pub numbered-from_zero : {A : Type 0} (n : ℕ) (xs : List A) → n ≢ 0 → numbered n xs ≡ slice_get xs (n - 1)
numbered-from_zero zero xs h = absurd (h refl)
numbered-from_zero (suc n) xs h = let e : suc n - 1 ≡ n = omega arith in rw e

pub changed_numbered-from_zero : {A : Type 0} (n : ℕ) (f : A → A) (xs : List A) → n ≢ 0 → changed_numbered n f xs ≡ changed_at (n - 1) f xs
changed_numbered-from_zero zero f xs h = absurd (h refl)
changed_numbered-from_zero (suc n) f xs h = let e : suc n - 1 ≡ n = omega arith in rw e

-- a change leaves the length
pub changed-long : {A : Type 0} (n : ℕ) (f : A → A) (xs : List A) → length (changed_numbered n f xs) ≡ length xs
changed-long zero f xs = refl
changed-long {A} (suc n) f xs = from n xs
  where
    from : (n : ℕ) (xs : List A) → length (changed_at n f xs) ≡ length xs
    from n [] = refl
    from zero (x ∷ xs) = refl
    from (suc n) (x ∷ xs) = ap suc (from n xs)

-- past the end nothing changes
pub changed_at-past : {A : Type 0} (n : ℕ) (f : A → A) (xs : List A) → length xs ≤ n → changed_at n f xs ≡ xs
changed_at-past n f [] h = refl
changed_at-past zero f (x ∷ xs) h = absurd (omega arith)
changed_at-past (suc n) f (x ∷ xs) h = ap (λ ys. x ∷ ys) (changed_at-past n f xs (omega arith))

-- a change that leaves each element leaves the list
pub changed_at-same : {A : Type 0} (n : ℕ) (xs : List A) → changed_at n (λ x. x) xs ≡ xs
changed_at-same n [] = refl
changed_at-same zero (x ∷ xs) = refl
changed_at-same (suc n) (x ∷ xs) = ap (λ ys. x ∷ ys) (changed_at-same n xs)

-- an element written, seen by a view
pub map-set_at : {A B : Type 0} (view : A → B) (f : B → B) (n : ℕ) (xs : List A) (y d : A) → n < length xs → view y ≡ f (view (get_or xs n d)) → map view (set xs n y) ≡ changed_at n f (map view xs)
map-set_at view f n [] y d lt h = absurd (omega arith)
map-set_at view f zero (x ∷ xs) y d lt h = ap (λ z. z ∷ map view xs) h
map-set_at view f (suc n) (x ∷ xs) y d lt h = ap (λ ys. view x ∷ ys) (map-set_at view f n xs y d (omega arith) h)

-- an element written
pub set_at : {A : Type 0} (f : A → A) (n : ℕ) (xs : List A) (y d : A) → n < length xs → y ≡ f (get_or xs n d) → set xs n y ≡ changed_at n f xs
set_at f n [] y d lt h = absurd (omega arith)
set_at f zero (x ∷ xs) y d lt h = ap (λ z. z ∷ xs) h
set_at f (suc n) (x ∷ xs) y d lt h = ap (λ ys. x ∷ ys) (set_at f n xs y d (omega arith) h)

pub slice_get-set : {A : Type 0} (n : ℕ) (xs : List A) (y : A) → n < length xs → slice_get (set xs n y) n ≡ Some y
slice_get-set n [] y lt = absurd (omega arith)
slice_get-set zero (x ∷ xs) y lt = refl
slice_get-set (suc n) (x ∷ xs) y lt = slice_get-set n xs y (omega arith)

pub slice_get-past : {A : Type 0} (n : ℕ) (xs : List A) → length xs ≤ n → slice_get xs n ≡ None
slice_get-past n [] h = refl
slice_get-past zero (x ∷ xs) h = absurd (omega arith)
slice_get-past (suc n) (x ∷ xs) h = slice_get-past n xs (omega arith)

pub slice_get-map : {A B : Type 0} (f : A → B) (xs : List A) (n : ℕ) → slice_get (map f xs) n ≡ option_map f (slice_get xs n)
slice_get-map f [] n = refl
slice_get-map f (x ∷ xs) zero = refl
slice_get-map f (x ∷ xs) (suc n) = slice_get-map f xs n

pub numbered-map : {A B : Type 0} (f : A → B) (n : ℕ) (xs : List A) → numbered n (map f xs) ≡ option_map f (numbered n xs)
numbered-map f zero xs = refl
numbered-map f (suc n) xs = slice_get-map f xs n

-- what holds of each holds of the one at a place
pub if_gotten : {A : Type 0} (P : A → Type 0) (n : ℕ) (xs : List A) → AllByRecursion P xs → IfSome (slice_get xs n) P
if_gotten P n [] all = tt
if_gotten P zero (x ∷ xs) all = all.0
if_gotten P (suc n) (x ∷ xs) all = if_gotten P n xs all.1

pub if_numbered : {A : Type 0} (P : A → Type 0) (n : ℕ) (xs : List A) → AllByRecursion P xs → IfSome (numbered n xs) P
if_numbered P zero xs all = tt
if_numbered P (suc n) xs all = if_gotten P n xs all

-- ---- marks

same_next : (n k : ℕ) → (suc n == suc k) ≡ (n == k)
same_next n k = grind (arith, nat_tests)

never_first : (k : ℕ) → (0 == suc k) ≡ false
never_first k = grind (arith, nat_tests)

never_last : (n : ℕ) → (suc n == 0) ≡ false
never_last n = grind (arith, nat_tests)

or_none : (b : Bool) → b ≡ (b || false)
or_none true = refl
or_none false = refl

or_all : (b : Bool) → true ≡ (b || true)
or_all true = refl
or_all false = refl

-- a mark that is set
pub mark-changed : (marks : List Bool) (n k : ℕ) → 0 < n → n ≤ length marks → is_marked (changed_numbered n (λ mark. true) marks) k ≡ (is_marked marks k || n == k)
mark-changed marks zero k low high = absurd (omega arith)
mark-changed marks (suc n) zero low high = sym (never_last n)
mark-changed marks (suc n) (suc k) low high = at marks n k (omega arith) ∙ ap (λ b. option_map_or (λ (mark : Bool). mark) (slice_get marks k) false || b) (sym (same_next n k))
  where
    at : (xs : List Bool) (n k : ℕ) → n < length xs → option_map_or (λ (mark : Bool). mark) (slice_get (changed_at n (λ mark. true) xs) k) false ≡ (option_map_or (λ (mark : Bool). mark) (slice_get xs k) false || n == k)
    at [] n k lt = absurd (omega arith)
    at (x ∷ xs) zero zero lt = or_all x
    at (x ∷ xs) zero (suc k) lt = or_none (option_map_or (λ (mark : Bool). mark) (slice_get xs k) false) ∙ ap (λ b. option_map_or (λ (mark : Bool). mark) (slice_get xs k) false || b) (sym (never_first k))
    at (x ∷ xs) (suc n) zero lt = or_none x ∙ ap (λ b. x || b) (sym (never_last n))
    at (x ∷ xs) (suc n) (suc k) lt = at xs n k (omega arith) ∙ ap (λ b. option_map_or (λ (mark : Bool). mark) (slice_get xs k) false || b) (sym (same_next n k))

-- a mark that isn't set, behind the others
pub mark-added : (marks : List Bool) (n : ℕ) → is_marked (marks ++ false ∷ []) n ≡ is_marked marks n
mark-added marks zero = refl
mark-added marks (suc n) = at marks n
  where
    at : (xs : List Bool) (k : ℕ) → option_map_or (λ (mark : Bool). mark) (slice_get (xs ++ false ∷ []) k) false ≡ option_map_or (λ (mark : Bool). mark) (slice_get xs k) false
    at [] zero = refl
    at [] (suc k) = refl
    at (x ∷ xs) zero = refl
    at (x ∷ xs) (suc k) = at xs k
