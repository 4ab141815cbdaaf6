-- A text has one division.
use Rattle.std.proofs.Common.{◌≡◌, ℕ, zero, suc, ◌+◌, ◌-◌, ◌≤◌, ◌<◌, Bool, true, false, not, cond, List, [], ◌∷◌, ◌++◌, length, map, take, drop, Option, Some, None, refl, sym, ap, ◌∙◌, subst, arith, length-append, length-drop, length-take, nat_eq, ⊎_elim}
use Rattle.std.specs.Prelude.{IsUtf8, chars, slice_index}
use Rattle.std.specs.Char.{IsScalar, encode_utf8}
use Rattle.std.specs.List.{AllZip, range_with_len}
use Rattle.std.specs.Option.{option_map_or}
use Rattle.std.specs.Str.{all_scalars, encode_utf8_all}
use borrow.Author.Tests.{eqb-true}
use Rattle.std.proofs.lemmas.Bool.{and_parts, cases_lt, true≢false}
use Rattle.std.proofs.lemmas.Bool.Decides.{nat_tests}
use Rattle.std.proofs.lemmas.Str.{chars-encodes, encode_same, length-encode, len_utf8_bounds}
use Rattle.mention_scan.specs.Fences.{Kind, fence_edge, code_line, quoted_line, plain_line, kind_at, line_at, lines_of}
use Rattle.mention_scan.specs.Division.{Form, Part, fence_line, code, bare, span, single, bytes_of, closing, inner_in, is_run_at, joined, last_character, nearest_run, opening, order_of, parts_at, parts_from, parts_of, places, run_length, run_part, span_form, first_part, division, ArePartsFrom, ArePartsOf, Fits, HasOneDivision, IsCharacter, IsCode, IsDivision, IsFirst, IsSpan}
use Rattle.mention_scan.proofs.Forms.{form-span, one-form, span-inner, span_form-has, span_form-none, span_form-place}
use Rattle.mention_scan.proofs.Lines.{line-text}
use Rattle.mention_scan.proofs.Runs.{RunAt, nearest_run-at, nearest_run-none}
use Rattle.mention_scan.proofs.Whole.{first-stands, front-stands}

-- ---- the part that is found is the first that fits

-- where no run begins, no part of one fits
run-none : (rest : List ℕ) (n : ℕ) → run_length rest ≡ 0 → 0 < n → run_length rest ≡ n → ⊥
run-none rest n none some run = omega arith

-- a part that begins with a run
run-first : (quoted : Bool) (before rest : List ℕ) (n : ℕ) → n ≡ run_length rest → 0 < n → IsFirst quoted before rest (run_part n (drop n rest))
run-first quoted before rest n e some = by (nearest_run n (drop n rest)) refl
  where
    by : (o : Option ℕ) → nearest_run n (drop n rest) ≡ o → IsFirst quoted before rest (option_map_or (λ place. code n (take place (drop n rest))) o (bare n))
    by None is = record { fits = record { some = some; run = sym e }; first = earlier }
      where
        earlier : (other : Part) → order_of other < 2 → Fits quoted before rest other → ⊥
        earlier (fence_line line) less fits = fits
        earlier (code m inside) less fits =
            let same : m ≡ n = sym fits.run ∙ sym e in
            let none = nearest_run-none n (drop n rest) some is (length inside) in
            true≢false (sym (subst (λ k. is_run_at k (drop k rest) (length inside) ≡ true) same fits.ends) ∙ none)
        earlier (bare m) less fits = omega arith
        earlier (span q form inner) less fits = omega arith
        earlier (single c) less fits = omega arith
    by (Some place) is = record {
      fits = record {
        some = some;
        run = sym e;
        stands = ap (λ k. take k behind) size;
        ends = subst (λ k. is_run_at n behind k ≡ true) (sym size) at.is;
        nearest = λ k less. at.nearest k (omega (arith, size));
      };
      first = earlier;
    }
      where
        behind : List ℕ
        behind = drop n rest

        at : RunAt n place behind
        at = nearest_run-at n behind place is

        size : length (take place behind) ≡ place
        size = omega (arith, at.fits, length-take place behind)

        earlier : (other : Part) → order_of other < 1 → Fits quoted before rest other → ⊥
        earlier (fence_line line) less fits = fits
        earlier (code m inside) less fits = omega arith
        earlier (bare m) less fits = omega arith
        earlier (span q form inner) less fits = omega arith
        earlier (single c) less fits = omega arith

-- a span
span-first : (quoted : Bool) (before rest : List ℕ) (form : Form) → run_length rest ≡ 0 → span_form (last_character before) rest ≡ Some form →
    IsFirst quoted before rest (span quoted form (inner_in form rest))
span-first quoted before rest form none e = record {
  fits = (refl, form-span before rest form (span_form-place (last_character before) rest form e) (span_form-has (last_character before) rest form e));
  first = earlier;
}
  where
    earlier : (other : Part) → order_of other < 3 → Fits quoted before rest other → ⊥
    earlier (fence_line line) less fits = fits
    earlier (code m inside) less fits = run-none rest m none fits.some fits.run
    earlier (bare m) less fits = run-none rest m none fits.some fits.run
    earlier (span q f inner) less fits = omega arith
    earlier (single c) less fits = omega arith

-- the character that begins a text
character-at : (bs cs : List ℕ) → all_scalars cs ≡ true → encode_utf8_all cs ≡ bs → 0 < length bs → IsCharacter bs (slice_index (chars bs) 0)
character-at bs [] scalars spells some = absurd (omega (arith, ap length spells))
character-at bs (c ∷ cs) scalars spells some =
    let first : c ≡ slice_index (chars bs) 0 =
    sym (ap (λ xs. slice_index (chars xs) 0) (sym spells) ∙ ap (λ xs. slice_index xs 0) (chars-encodes (c ∷ cs) scalars)) in
    record {
      is = subst IsScalar first (and_parts _ _ scalars).0;
      after = encode_utf8_all cs;
      stands = sym spells ∙ ap (λ x. encode_utf8 x ++ encode_utf8_all cs) first;
    }

-- a character
single-first : (quoted : Bool) (before rest : List ℕ) → IsUtf8 rest → 0 < length rest → run_length rest ≡ 0 → span_form (last_character before) rest ≡ None →
    IsFirst quoted before rest (single (slice_index (chars rest) 0))
single-first quoted before rest u some none e = record { fits = character-at rest u.0 u.1.0 u.1.1 some; first = earlier }
  where
    earlier : (other : Part) → order_of other < 4 → Fits quoted before rest other → ⊥
    earlier (fence_line line) less fits = fits
    earlier (code m inside) less fits = run-none rest m none fits.some fits.run
    earlier (bare m) less fits = run-none rest m none fits.some fits.run
    earlier (span q form inner) less fits = span_form-none before rest form inner e fits.1
    earlier (single c) less fits = omega arith

first-is : (quoted : Bool) (before rest : List ℕ) → IsUtf8 rest → 0 < length rest → IsFirst quoted before rest (first_part quoted before rest)
first-is quoted before rest u some = by (nat_eq (run_length rest) 0) refl
  where
    other : (o : Option Form) → span_form (last_character before) rest ≡ o → run_length rest ≡ 0 →
        IsFirst quoted before rest (option_map_or (λ form. span quoted form (inner_in form rest)) o (single (slice_index (chars rest) 0)))
    other None is none = single-first quoted before rest u some none is
    other (Some form) is none = span-first quoted before rest form none is

    some_run : nat_eq (run_length rest) 0 ≡ false → 0 < run_length rest
    some_run e = grind (arith, nat_tests)

    by : (t : Bool) → nat_eq (run_length rest) 0 ≡ t →
        IsFirst quoted before rest (cond (not t) (run_part (run_length rest) (drop (run_length rest) rest)) (option_map_or (λ form. span quoted form (inner_in form rest)) (span_form (last_character before) rest) (single (slice_index (chars rest) 0))))
    by true is = other (span_form (last_character before) rest) refl (eqb-true _ _ is)
    by false is = run-first quoted before rest (run_length rest) refl (some_run is)

-- ---- of one form no two parts fit

code-lengths : (rest : List ℕ) (n : ℕ) (inside other : List ℕ) → IsCode rest n inside → IsCode rest n other → length inside < length other → ⊥
code-lengths rest n inside other s t less = true≢false (sym s.ends ∙ t.nearest (length inside) less)

code-same : (rest : List ℕ) (n m : ℕ) (inside other : List ℕ) → IsCode rest n inside → IsCode rest m other → code n inside ≡ code m other
code-same rest n m inside other s t =
    let same : n ≡ m = sym s.run ∙ t.run in
    let here : IsCode rest m inside = subst (λ k. IsCode rest k inside) same s in
    let size : length inside ≡ length other =
    ⊎_elim (λ less. absurd (code-lengths rest m inside other here t less))
    (λ more. ⊎_elim (λ greater. absurd (code-lengths rest m other inside t here greater)) (λ most. omega arith) (cases_lt (length other) (length inside)))
    (cases_lt (length inside) (length other)) in
    ap (λ k. code k inside) same ∙ ap (code m) (sym here.stands ∙ ap (λ k. take k (drop m rest)) size ∙ t.stands)

span-same : (before rest : List ℕ) (f g : Form) (i j : List ℕ) → IsSpan before rest f i → IsSpan before rest g j → (q : Bool) → span q f i ≡ span q g j
span-same before rest f g i j s t q =
    let form = one-form before rest f g i j s t in
    ap (λ h. span q h i) form ∙ ap (span q g) (sym (span-inner before rest f i s) ∙ ap (λ h. inner_in h rest) form ∙ span-inner before rest g j t)

fits-same : (quoted : Bool) (before rest : List ℕ) (part other : Part) → Fits quoted before rest part → Fits quoted before rest other → order_of part ≡ order_of other → part ≡ other
fits-same quoted before rest (fence_line line) other s t e = absurd s
fits-same quoted before rest (code n inside) (fence_line line) s t e = absurd t
fits-same quoted before rest (code n inside) (code m other) s t e = code-same rest n m inside other s t
fits-same quoted before rest (code n inside) (bare m) s t e = absurd (omega arith)
fits-same quoted before rest (code n inside) (span q g j) s t e = absurd (omega arith)
fits-same quoted before rest (code n inside) (single c) s t e = absurd (omega arith)
fits-same quoted before rest (bare n) (fence_line line) s t e = absurd t
fits-same quoted before rest (bare n) (code m other) s t e = absurd (omega arith)
fits-same quoted before rest (bare n) (bare m) s t e = ap bare (sym s.run ∙ t.run)
fits-same quoted before rest (bare n) (span q g j) s t e = absurd (omega arith)
fits-same quoted before rest (bare n) (single c) s t e = absurd (omega arith)
fits-same quoted before rest (span p f i) (fence_line line) s t e = absurd t
fits-same quoted before rest (span p f i) (code m other) s t e = absurd (omega arith)
fits-same quoted before rest (span p f i) (bare m) s t e = absurd (omega arith)
fits-same quoted before rest (span p f i) (span q g j) s t e = ap (λ b. span b f i) (s.0 ∙ sym t.0) ∙ span-same before rest f g i j s.1 t.1 q
fits-same quoted before rest (span p f i) (single c) s t e = absurd (omega arith)
fits-same quoted before rest (single c) (fence_line line) s t e = absurd t
fits-same quoted before rest (single c) (code m other) s t e = absurd (omega arith)
fits-same quoted before rest (single c) (bare m) s t e = absurd (omega arith)
fits-same quoted before rest (single c) (span q g j) s t e = absurd (omega arith)
fits-same quoted before rest (single c) (single d) s t e = ap single (encode_same c d s.after t.after (sym s.stands ∙ t.stands)).0

-- so no other part is the first that fits
first-only : (quoted : Bool) (before rest : List ℕ) (part : Part) → IsUtf8 rest → 0 < length rest → IsFirst quoted before rest part → part ≡ first_part quoted before rest
first-only quoted before rest part u some s =
    let t = first-is quoted before rest u some in
    ⊎_elim (λ less. absurd (t.first part less s.fits))
    (λ more.
    ⊎_elim (λ greater. absurd (s.first (first_part quoted before rest) greater t.fits))
    (λ most. fits-same quoted before rest part (first_part quoted before rest) s.fits t.fits (omega arith))
    (cases_lt (order_of (first_part quoted before rest)) (order_of part)))
    (cases_lt (order_of part) (order_of (first_part quoted before rest)))

-- and none fits where nothing is left
fits-some : (quoted : Bool) (before : List ℕ) (part : Part) → Fits quoted before [] part → ⊥
fits-some quoted before (fence_line line) fits = fits
fits-some quoted before (code n inside) fits = run-none [] n refl fits.some fits.run
fits-some quoted before (bare n) fits = run-none [] n refl fits.some fits.run
fits-some quoted before (span q form inner) fits =
    let s = fits.1 in
    let some = s.some in
    let none : 0 ≡ length (opening form) + length (inner ++ (closing form ++ s.after)) = ap length s.stands ∙ length-append (opening form) (inner ++ (closing form ++ s.after)) in
    omega (arith, none, length-append inner (closing form ++ s.after))
fits-some quoted before (single c) fits =
    let none : 0 ≡ length (encode_utf8 c) + length fits.after = ap length fits.stands ∙ length-append (encode_utf8 c) fits.after in
    omega (arith, none, length-encode c, (len_utf8_bounds c).0)

-- ---- lines

parts-hold : (quoted : Bool) (n : ℕ) (before bs : List ℕ) → length bs ≤ n → IsUtf8 bs → ArePartsFrom quoted before bs (parts_from quoted n before bs)
parts-hold quoted n before [] enough u = refl
parts-hold quoted zero before (b ∷ bs) enough u = absurd (omega arith)
parts-hold quoted (suc n) before (b ∷ bs) enough u =
    let part = first_part quoted before (b ∷ bs) in
    let long : 0 < length (b ∷ bs) = omega arith in
    let s = first-stands quoted before (b ∷ bs) u long in
    let some = s.some in
    let after = front-stands (b ∷ bs) (bytes_of part) s.after s.stands in
    let left : length (drop (length (bytes_of part)) (b ∷ bs)) ≡ suc (length bs) - length (bytes_of part) = length-drop (length (bytes_of part)) (b ∷ bs) in (
      first-is quoted before (b ∷ bs) u long,
      parts-hold quoted n (before ++ bytes_of part) (drop (length (bytes_of part)) (b ∷ bs)) (omega arith) (subst IsUtf8 (sym after) s.text),
    )

parts-only : (quoted : Bool) (n : ℕ) (before bs : List ℕ) (ps : List Part) → length bs ≤ n → IsUtf8 bs → ArePartsFrom quoted before bs ps → ps ≡ parts_from quoted n before bs
parts-only quoted n before [] [] enough u h = refl
parts-only quoted n before (b ∷ bs) [] enough u h = absurd (omega (arith, ap length h))
parts-only quoted n before [] (p ∷ ps) enough u h = absurd (fits-some quoted before p (h.0).fits)
parts-only quoted zero before (b ∷ bs) (p ∷ ps) enough u h = absurd (omega arith)
parts-only quoted (suc n) before (b ∷ bs) (p ∷ ps) enough u h =
    let part = first_part quoted before (b ∷ bs) in
    let long : 0 < length (b ∷ bs) = omega arith in
    let s = first-stands quoted before (b ∷ bs) u long in
    let some = s.some in
    let after = front-stands (b ∷ bs) (bytes_of part) s.after s.stands in
    let left : length (drop (length (bytes_of part)) (b ∷ bs)) ≡ suc (length bs) - length (bytes_of part) = length-drop (length (bytes_of part)) (b ∷ bs) in
    let same : p ≡ part = first-only quoted before (b ∷ bs) p u long h.0 in
    let behind : ArePartsFrom quoted (before ++ bytes_of part) (drop (length (bytes_of part)) (b ∷ bs)) ps =
    subst (λ q. ArePartsFrom quoted (before ++ bytes_of q) (drop (length (bytes_of q)) (b ∷ bs)) ps) same h.1 in
    ap (λ q. q ∷ ps) same
    ∙ ap (λ qs. part ∷ qs) (parts-only quoted n (before ++ bytes_of part) (drop (length (bytes_of part)) (b ∷ bs)) ps (omega arith) (subst IsUtf8 (sym after) s.text) behind)

kind-hold : (kind : Kind) (line : List ℕ) → IsUtf8 line → ArePartsOf kind line (parts_of kind line)
kind-hold fence_edge line u = refl
kind-hold code_line line u = refl
kind-hold quoted_line line u = parts-hold true (length line) [] line (omega arith) u
kind-hold plain_line line u = parts-hold false (length line) [] line (omega arith) u

kind-only : (kind : Kind) (line : List ℕ) (ps : List Part) → IsUtf8 line → ArePartsOf kind line ps → ps ≡ parts_of kind line
kind-only fence_edge line ps u h = h
kind-only code_line line ps u h = h
kind-only quoted_line line ps u h = parts-only true (length line) [] line ps (omega arith) u h
kind-only plain_line line ps u h = parts-only false (length line) [] line ps (omega arith) u h

-- ---- texts

each-hold : (lines : List (List ℕ)) → ((i : ℕ) → IsUtf8 (line_at lines i)) → (n i : ℕ) →
    AllZip (λ k here. ArePartsOf (kind_at lines k) (line_at lines k) here) (range_with_len i n) (map (parts_at lines) (range_with_len i n))
each-hold lines u zero i = tt
each-hold lines u (suc n) i = (kind-hold (kind_at lines i) (line_at lines i) (u i), each-hold lines u n (i + 1))

each-only : (lines : List (List ℕ)) → ((i : ℕ) → IsUtf8 (line_at lines i)) → (n i : ℕ) (by_line : List (List Part)) →
    AllZip (λ k here. ArePartsOf (kind_at lines k) (line_at lines k) here) (range_with_len i n) by_line → by_line ≡ map (parts_at lines) (range_with_len i n)
each-only lines u zero i [] each = refl
each-only lines u zero i (ps ∷ others) each = absurd each
each-only lines u (suc n) i [] each = absurd each
each-only lines u (suc n) i (ps ∷ others) each =
    ap (λ qs. qs ∷ others) (kind-only (kind_at lines i) (line_at lines i) ps (u i) each.0)
    ∙ ap (λ qs. parts_at lines i ∷ qs) (each-only lines u n (i + 1) others each.1)

pub division-is : (text : List ℕ) → IsUtf8 text → IsDivision text (division text)
unfolding division
division-is text u =
    let lines = lines_of text in
    record { by_line = map (parts_at lines) (places lines); each = each-hold lines (λ i. line-text text i u) (length lines) 0; row = refl }

division-only : (text : List ℕ) (ps : List Part) → IsUtf8 text → IsDivision text ps → ps ≡ division text
unfolding division
division-only text ps u d = d.row ∙ ap joined (each-only (lines_of text) (λ i. line-text text i u) (length (lines_of text)) 0 d.by_line d.each)

pub division-one : (text : List ℕ) → IsUtf8 text → HasOneDivision text
division-one text u ps = (division-only text ps u, λ e. subst (IsDivision text) (sym e) (division-is text u))
