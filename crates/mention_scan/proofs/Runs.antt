-- Runs of backquotes, and the search for one.
use Rattle.std.proofs.Common.{◌≡◌, ℕ, zero, suc, ◌+◌, ◌-◌, ◌≤◌, ◌<◌, true, false, not, List, ◌++◌, length, take, drop, Option, Some, None, refl, sym, ap, ◌∙◌, arith, nat_eq, length-append, length-take, length-drop, get_or, get_or-drop, subst, ⊎_elim}
use Rattle.std.specs.Option.{option_map_or}
use Rattle.std.proofs.lemmas.Bool.{and_from, and_left, and_parts, and_right, cases_lt, not_from_true}
use Rattle.std.proofs.lemmas.Bool.Decides.{nat_tests}
use Rattle.std.proofs.lemmas.List.{length-replicate, take_rest}
use Rattle.std.specs.Prelude.{IsUtf8, IsCharBoundary}
use Rattle.std.specs.Str.{byte}
use Rattle.std.proofs.lemmas.Str.{IsCharBoundary-after_ascii}
use borrow.Author.Tests.{eqb-true}
use Rattle.std.proofs.lemmas.List.Sums.{prefix_len-le-length, prefix_len_passes, prefix_len_stops}
use Rattle.mention_scan.specs.Division.{bare, backquotes, bytes_of, code, follows_backquote, is_run_at, nearest_run, run_length, run_part}
use Rattle.mention_scan.proofs.Searches.{first-found, found-first, found-none, none-found}

-- ---- the search

-- a run of exactly `n` backquotes stands at this place, within the bytes, and at no earlier one
pub record RunAt (n place : ℕ) (bs : List ℕ) : Type 0 where
  pub size : run_length (drop place bs) ≡ n
  pub fits : place + n ≤ length bs
  pub is : is_run_at n bs place ≡ true
  pub nearest : (k : ℕ) → k < place → is_run_at n bs k ≡ false

pub nearest_run-at : (n : ℕ) (bs : List ℕ) (k : ℕ) → nearest_run n bs ≡ Some k → RunAt n k bs
nearest_run-at n bs k e =
    let first = found-first (is_run_at n bs) 0 (length bs) k e in
    let size : run_length (drop k bs) ≡ n = eqb-true _ _ (and_parts _ (not (follows_backquote bs k)) first.passes).0 in
    let bound : run_length (drop k bs) ≤ length (drop k bs) = prefix_len-le-length (λ x. nat_eq x (byte "`")) (drop k bs) in
    let left : length (drop k bs) ≡ length bs - k = length-drop k bs in
    record { size = size; fits = omega (arith, first.below); is = first.passes; nearest = λ j less. first.fails j (omega arith) less }

-- no run of exactly `n` stands in the bytes
abbrev pub NoRun : ℕ → List ℕ → Type 0
NoRun n bs = (k : ℕ) → is_run_at n bs k ≡ false

-- no run stands at a place where no backquote stands
pub empty-no_run : (n : ℕ) (bs : List ℕ) (k : ℕ) → 0 < n → run_length (drop k bs) ≡ 0 → is_run_at n bs k ≡ false
empty-no_run n bs k some none =
    let differs : nat_eq (run_length (drop k bs)) n ≡ false = let d : run_length (drop k bs) ≡ n → ⊥ = λ e. omega arith in grind (arith, nat_tests) in
    and_left _ (not (follows_backquote bs k)) differs

pub past-no_run : (n : ℕ) (bs : List ℕ) (k : ℕ) → 0 < n → length bs ≤ k → is_run_at n bs k ≡ false
past-no_run n bs k some past =
    let bound : run_length (drop k bs) ≤ length (drop k bs) = prefix_len-le-length (λ x. nat_eq x (byte "`")) (drop k bs) in
    let left : length (drop k bs) ≡ length bs - k = length-drop k bs in
    empty-no_run n bs k some (omega arith)

pub nearest_run-none : (n : ℕ) (bs : List ℕ) → 0 < n → nearest_run n bs ≡ None → NoRun n bs
nearest_run-none n bs some e =
    λ k. ⊎_elim (λ inside. found-none (is_run_at n bs) 0 (length bs) e k (omega arith) (omega arith)) (λ past. past-no_run n bs k some past) (cases_lt k (length bs))

pub none-nearest_run : (n : ℕ) (bs : List ℕ) → NoRun n bs → nearest_run n bs ≡ None
none-nearest_run n bs none = none-found (is_run_at n bs) 0 (length bs) (λ k _ _. none k)

pub at-nearest_run : (n : ℕ) (bs : List ℕ) (k : ℕ) → 0 < n → is_run_at n bs k ≡ true → ((j : ℕ) → j < k → is_run_at n bs j ≡ false) → nearest_run n bs ≡ Some k
at-nearest_run n bs k some is nearest =
    let inside : k < length bs = ⊎_elim (λ less. less) (λ past. let f = past-no_run n bs k some past in absurd cc) (cases_lt k (length bs)) in
    first-found (is_run_at n bs) 0 (length bs) k record { from = omega arith; below = omega arith; passes = is; fails = λ j _ less. nearest j less }

-- how far a search has come: it goes from run to run, and stands at no place behind a backquote
pub record Searched (n place : ℕ) (bs : List ℕ) : Type 0 where
  pub bound : place ≤ length bs + 1
  pub begins : place ≤ length bs → follows_backquote bs place ≡ false
  pub none : (k : ℕ) → k < place → is_run_at n bs k ≡ false

pub Searched-begin : (n : ℕ) (bs : List ℕ) → Searched n 0 bs
Searched-begin n bs = record { bound = omega arith; begins = λ _. refl; none = λ k less. absurd (omega arith) }

-- a backquote stands before each place within a run but its first
follows-inside : (bs : List ℕ) (place k : ℕ) → place < k → k ≤ place + run_length (drop place bs) → follows_backquote bs k ≡ true
follows-inside bs place zero above within = absurd (omega arith)
follows-inside bs place (suc k) above within =
    let i : ℕ = k - place in
    let at : place + i ≡ k = omega arith in
    let passes = prefix_len_passes (λ x. nat_eq x (byte "`")) (drop place bs) i 0 (omega arith) in
    subst (λ j. nat_eq (get_or bs j 0) (byte "`") ≡ true) at (subst (λ b. nat_eq b (byte "`") ≡ true) (get_or-drop place bs i 0) passes)

-- and none before the place behind the character that ends it
follows-behind : (bs : List ℕ) (place k : ℕ) → k ≡ place + run_length (drop place bs) → k < length bs → follows_backquote bs (suc k) ≡ false
follows-behind bs place k e inside =
    let left : length (drop place bs) ≡ length bs - place = length-drop place bs in
    let stops = prefix_len_stops (λ x. nat_eq x (byte "`")) (drop place bs) 0 (omega arith) in
    subst (λ j. nat_eq (get_or bs j 0) (byte "`") ≡ false) (sym e) (subst (λ b. nat_eq b (byte "`") ≡ false) (get_or-drop place bs (run_length (drop place bs)) 0) stops)

-- a run of another length that begins at this place is passed
pub Searched-on : (n place run : ℕ) (bs : List ℕ) → 0 < n → run ≡ run_length (take (length bs - place) (drop place bs)) → (run ≡ n → ⊥) → place < length bs →
    Searched n place bs → Searched n (place + (run + 1)) bs
Searched-on n place run bs some is other inside s =
    let size : run ≡ run_length (drop place bs) = is ∙ ap run_length (take_rest bs place) in
    let bound : run_length (drop place bs) ≤ length (drop place bs) = prefix_len-le-length (λ x. nat_eq x (byte "`")) (drop place bs) in
    let left : length (drop place bs) ≡ length bs - place = length-drop place bs in
    record {
      bound = omega arith;
      begins = λ fits.
          let next : suc (place + run) ≡ place + (run + 1) = omega arith in
          subst (λ k. follows_backquote bs k ≡ false) next (follows-behind bs place (place + run) (ap (λ r. place + r) size) (omega arith));
      none = λ k less.
          ⊎_elim (λ before. s.none k before)
          (λ from.
          ⊎_elim (λ above. and_right _ (not (follows_backquote bs k)) (not_from_true _ (follows-inside bs place k above (omega arith))))
          (λ at.
          let same : place ≡ k = omega arith in
          let differs : nat_eq (run_length (drop place bs)) n ≡ false = let d : run_length (drop place bs) ≡ n → ⊥ = λ e. other (size ∙ e) in grind (arith, nat_tests) in
          subst (λ j. is_run_at n bs j ≡ false) same (and_left _ (not (follows_backquote bs place)) differs))
          (cases_lt place k))
          (cases_lt k place);
    }

pub Searched-found : (n place run : ℕ) (bs : List ℕ) → 0 < n → run ≡ run_length (take (length bs - place) (drop place bs)) → run ≡ n → place < length bs →
    Searched n place bs → nearest_run n bs ≡ Some place
Searched-found n place run bs some is same inside s =
    let size : run_length (drop place bs) ≡ n = sym (is ∙ ap run_length (take_rest bs place)) ∙ same in
    let equal : nat_eq (run_length (drop place bs)) n ≡ true = grind (arith, nat_tests) in
    let apart : not (follows_backquote bs place) ≡ true = ap not (s.begins (omega arith)) in
    at-nearest_run n bs place some (and_from _ _ equal apart) s.none

pub Searched-end : (n place : ℕ) (bs : List ℕ) → 0 < n → length bs ≤ place → Searched n place bs → nearest_run n bs ≡ None
Searched-end n place bs some past s =
    none-nearest_run n bs (λ k. ⊎_elim (λ less. s.none k less) (λ more. past-no_run n bs k some (omega arith)) (cases_lt k place))

-- ---- the parts that begin with a run

-- how many bytes a code part has, and a bare run
pub code-length : (n place : ℕ) (behind : List ℕ) → Some place ≡ nearest_run n behind → length (bytes_of (run_part n behind)) ≡ n + (place + n)
code-length n place behind e =
    let fits = (nearest_run-at n behind place (sym e)).fits in
    let front : length (take place behind) ≡ place = omega (arith, length-take place behind) in
    ap (λ o. length (bytes_of (option_map_or (λ p. code n (take p behind)) o (bare n)))) (sym e)
    ∙ length-append (backquotes n) (take place behind ++ backquotes n)
    ∙ omega (arith, length-append (take place behind) (backquotes n), length-replicate n (byte "`"))

pub bare-length : (n : ℕ) (behind : List ℕ) → None ≡ nearest_run n behind → length (bytes_of (run_part n behind)) ≡ n
bare-length n behind e = ap (λ o. length (bytes_of (option_map_or (λ p. code n (take p behind)) o (bare n)))) (sym e) ∙ length-replicate n (byte "`")

-- a part that begins with a run has its bytes
pub run_part-some : (n : ℕ) (behind : List ℕ) → n ≤ length (bytes_of (run_part n behind))
run_part-some n behind = by (nearest_run n behind)
  where
    by : (o : Option ℕ) → n ≤ length (bytes_of (option_map_or (λ p. code n (take p behind)) o (bare n)))
    by None = omega (arith, length-replicate n (byte "`"))
    by (Some place) =
        let all : length (backquotes n ++ (take place behind ++ backquotes n)) ≡ length (backquotes n) + length (take place behind ++ backquotes n) =
        length-append (backquotes n) (take place behind ++ backquotes n) in
        omega (arith, all, length-replicate n (byte "`"))

run_star : (bs : List ℕ) (i : ℕ) → i < run_length bs → get_or bs i 0 ≡ 96
run_star bs i h = eqb-true _ _ (prefix_len_passes (λ x. nat_eq x (byte "`")) bs i 0 h)

-- a part that begins with a run lies within the bytes
pub run_part-fits : (n : ℕ) (bs : List ℕ) → n ≡ run_length bs → length (bytes_of (run_part n (drop n bs))) ≤ length bs
run_part-fits n bs e = by (nearest_run n (drop n bs)) refl
  where
    by : (o : Option ℕ) → nearest_run n (drop n bs) ≡ o → length (bytes_of (run_part n (drop n bs))) ≤ length bs
    by None is =
        let bound : run_length bs ≤ length bs = prefix_len-le-length (λ x. nat_eq x (byte "`")) bs in
        omega (arith, e, bound, bare-length n (drop n bs) (sym is))
    by (Some place) is =
        let bound : run_length bs ≤ length bs = prefix_len-le-length (λ x. nat_eq x (byte "`")) bs in
        omega (arith, e, bound, code-length n place (drop n bs) (sym is), (nearest_run-at n (drop n bs) place is).fits, length-drop n bs)

-- and ends with a backquote
pub run_part-last : (n : ℕ) (bs : List ℕ) → n ≡ run_length bs → 0 < n → get_or bs (length (bytes_of (run_part n (drop n bs))) - 1) 0 ≡ 96
run_part-last n bs e some = by (nearest_run n (drop n bs)) refl
  where
    by : (o : Option ℕ) → nearest_run n (drop n bs) ≡ o → get_or bs (length (bytes_of (run_part n (drop n bs))) - 1) 0 ≡ 96
    by None is =
        subst (λ k. get_or bs (k - 1) 0 ≡ 96) (sym (bare-length n (drop n bs) (sym is))) (run_star bs (n - 1) (omega (arith, e)))
    by (Some place) is =
        let at = nearest_run-at n (drop n bs) place is in
        let last : get_or (drop place (drop n bs)) (n - 1) 0 ≡ 96 = run_star (drop place (drop n bs)) (n - 1) (omega (arith, at.size)) in
        let where' : n + (place + (n - 1)) ≡ (n + (place + n)) - 1 = omega arith in
        subst (λ k. get_or bs (k - 1) 0 ≡ 96) (sym (code-length n place (drop n bs) (sym is)))
        (subst (λ i. get_or bs i 0 ≡ 96) where' (sym (get_or-drop n bs (place + (n - 1)) 0) ∙ sym (get_or-drop place (drop n bs) (n - 1) 0) ∙ last))

pub run_part-boundary : (n k : ℕ) (bs : List ℕ) → IsUtf8 bs → n ≡ run_length bs → 0 < n → k ≡ length (bytes_of (run_part n (drop n bs))) → IsCharBoundary bs k
run_part-boundary n k bs u e some is =
    let at = length (bytes_of (run_part n (drop n bs))) in
    let long = run_part-some n (drop n bs) in
    let fits = run_part-fits n bs e in
    let last : (at - 1) + 1 ≡ k = omega (arith, is, long) in
    subst (IsCharBoundary bs) last (IsCharBoundary-after_ascii bs (at - 1) u (omega (arith, long, fits)) (omega (arith, run_part-last n bs e some)))
