-- The parts of a text make up the text.
use Rattle.std.proofs.Common.{◌≡◌, ℕ, zero, suc, ◌+◌, ◌≤◌, ◌<◌, Bool, true, false, not, cond, List, [], ◌∷◌, ◌++◌, length, take, drop, Option, Some, None, refl, sym, ap, ◌∙◌, subst, arith, append_assoc, length-append, nat_eq}
use Rattle.std.specs.Prelude.{IsUtf8, chars, flat_map, slice_index}
use Rattle.std.specs.Char.{encode_utf8}
use Rattle.std.specs.Option.{option_map_or}
use Rattle.std.specs.Str.{all_scalars, byte, encode_utf8_all}
use borrow.Author.Tests.{eqb-true}
use Rattle.std.proofs.Math.Seq.{drop-append_seam, take-append_seam}
use Rattle.std.proofs.lemmas.Bool.{and_parts}
use Rattle.std.proofs.lemmas.Bool.Decides.{nat_tests}
use Rattle.std.proofs.lemmas.List.{take-append-drop}
use Rattle.std.proofs.lemmas.Str.{IsUtf8-drop, IsUtf8-encode, IsUtf8-take, chars-encodes, length-encode, len_utf8_bounds}
use Rattle.mention_scan.specs.Division.{Form, Part, backquotes, bare, code, span, single, bytes_of, last_character, opening, closing, has_form, inner_in, nearest_run, run_length, run_part, span_form, first_part, parts_from, parts_of_line}
use Rattle.mention_scan.proofs.Runs.{nearest_run-at, run_part-some, run_part-boundary}
use Rattle.mention_scan.proofs.Forms.{closing-some, form-boundary, form-stands, span_form-has}

-- a part stands first in the bytes, and a text behind it
pub record Stands (bs : List ℕ) (part : Part) : Type 0 where
  pub after : List ℕ
  pub stands : bs ≡ bytes_of part ++ after
  pub text : IsUtf8 after
  pub front : IsUtf8 (bytes_of part)
  pub some : 0 < length (bytes_of part)

-- what stands first in the bytes stands before the rest of them
pub front-stands : (bs front after : List ℕ) → bs ≡ front ++ after → drop (length front) bs ≡ after
front-stands bs front after e = ap (drop (length front)) e ∙ drop-append_seam front after

pub front-taken : (bs front after : List ℕ) → bs ≡ front ++ after → take (length front) bs ≡ front
front-taken bs front after e = ap (take (length front)) e ∙ take-append_seam front after

-- ---- single characters

single-at : (bs cs : List ℕ) → all_scalars cs ≡ true → encode_utf8_all cs ≡ bs → 0 < length bs → Stands bs (single (slice_index (chars bs) 0))
single-at bs [] scalars spells some = absurd (omega (arith, ap length spells))
single-at bs (c ∷ cs) scalars spells some =
    let size : 0 < length (encode_utf8 c) = omega (arith, length-encode c, (len_utf8_bounds c).0) in
    let tail : IsUtf8 (encode_utf8_all cs) = (cs, ((and_parts _ _ scalars).1, refl)) in
    let head : IsUtf8 (encode_utf8 c) = IsUtf8-encode c (and_parts _ _ scalars).0 in
    let first : slice_index (chars bs) 0 ≡ c =
    ap (λ xs. slice_index (chars xs) 0) (sym spells) ∙ ap (λ xs. slice_index xs 0) (chars-encodes (c ∷ cs) scalars) in
    record {
      after = encode_utf8_all cs;
      stands = sym spells ∙ ap (λ x. encode_utf8 x ++ encode_utf8_all cs) (sym first);
      text = tail;
      front = subst (λ x. IsUtf8 (encode_utf8 x)) (sym first) head;
      some = rw first size;
    }

pub single-stands : (bs : List ℕ) → IsUtf8 bs → 0 < length bs → Stands bs (single (slice_index (chars bs) 0))
single-stands bs u some = single-at bs u.0 u.1.0 u.1.1 some

-- ---- runs

-- a run and what stands behind it
run-stands : (bs : List ℕ) → bs ≡ backquotes (run_length bs) ++ drop (run_length bs) bs
run-stands [] = refl
run-stands (b ∷ bs) = by (nat_eq b (byte "`")) refl (run-stands bs)
  where
    one : (k : ℕ) → suc (run_length bs) ≡ k → b ≡ byte "`" → bs ≡ backquotes (run_length bs) ++ drop (run_length bs) bs → b ∷ bs ≡ backquotes k ++ drop k (b ∷ bs)
    one k e is rest = subst (λ m. b ∷ bs ≡ backquotes m ++ drop m (b ∷ bs)) e (ap (λ x. x ∷ bs) is ∙ ap (λ xs. byte "`" ∷ xs) rest)

    by : (t : Bool) → nat_eq b (byte "`") ≡ t → bs ≡ backquotes (run_length bs) ++ drop (run_length bs) bs → b ∷ bs ≡ backquotes (cond t (1 + run_length bs) 0) ++ drop (cond t (1 + run_length bs) 0) (b ∷ bs)
    by true is rest = one (1 + run_length bs) (omega arith) (eqb-true _ _ is) rest
    by false is rest = refl

run_of-stands : (n : ℕ) (bs : List ℕ) → n ≡ run_length bs → bs ≡ backquotes n ++ drop n bs
run_of-stands n bs e = subst (λ m. bs ≡ backquotes m ++ drop m bs) (sym e) (run-stands bs)

run_part-stands : (n : ℕ) (bs : List ℕ) → IsUtf8 bs → n ≡ run_length bs → 0 < n → Stands bs (run_part n (drop n bs))
run_part-stands n bs u e some = by (nearest_run n (drop n bs)) refl
  where
    behind : List ℕ
    behind = drop n bs

    made : (part : Part) (after : List ℕ) → bs ≡ bytes_of part ++ after → run_part n (drop n bs) ≡ part → Stands bs (run_part n (drop n bs))
    made part after stands is =
        let at : bs ≡ bytes_of (run_part n (drop n bs)) ++ after = subst (λ p. bs ≡ bytes_of p ++ after) (sym is) stands in
        record {
          after = after;
          stands = at;
          text = subst IsUtf8 (front-stands bs (bytes_of (run_part n (drop n bs))) after at) (IsUtf8-drop bs (length (bytes_of (run_part n (drop n bs)))) u (run_part-boundary n _ bs u e some refl));
          front = subst IsUtf8 (front-taken bs (bytes_of (run_part n (drop n bs))) after at) (IsUtf8-take bs (length (bytes_of (run_part n (drop n bs)))) u (run_part-boundary n _ bs u e some refl));
          some = omega (arith, run_part-some n (drop n bs));
        }

    by : (o : Option ℕ) → nearest_run n (drop n bs) ≡ o → Stands bs (run_part n (drop n bs))
    by None is = made (bare n) (drop n bs) (run_of-stands n bs e) (ap (λ o. option_map_or (λ p. code n (take p (drop n bs))) o (bare n)) is)
    by (Some place) is =
        let at = nearest_run-at n (drop n bs) place is in
        let inside = take place (drop n bs) in
        let after = drop n (drop place (drop n bs)) in
        let later : drop place (drop n bs) ≡ backquotes n ++ after = run_of-stands n (drop place (drop n bs)) (sym at.size) in
        let split : drop n bs ≡ inside ++ (backquotes n ++ after) = sym (take-append-drop place (drop n bs)) ∙ ap (λ xs. inside ++ xs) later in
        made (code n inside) after
        (run_of-stands n bs e ∙ ap (λ xs. backquotes n ++ xs) (split ∙ sym (append_assoc inside (backquotes n) after)) ∙ sym (append_assoc (backquotes n) (inside ++ backquotes n) after))
        (ap (λ o. option_map_or (λ p. code n (take p (drop n bs))) o (bare n)) is)

-- ---- spans

span-stands : (quoted : Bool) (form : Form) (bs : List ℕ) → IsUtf8 bs → has_form form bs ≡ true → Stands bs (span quoted form (inner_in form bs))
span-stands quoted form bs u h =
    let inner = inner_in form bs in
    let k = length (opening form) in
    let after = drop (length (closing form)) (drop (k + length inner) bs) in
    let stands : bs ≡ bytes_of (span quoted form inner) ++ after =
    form-stands form bs h ∙ ap (λ xs. opening form ++ xs) (sym (append_assoc inner (closing form) after))
    ∙ sym (append_assoc (opening form) (inner ++ closing form) after) in
    let size : length (bytes_of (span quoted form inner)) ≡ k + length inner + length (closing form) =
    length-append (opening form) (inner ++ closing form) ∙ omega (arith, length-append inner (closing form)) in
    record {
      after = after;
      stands = stands;
      text = subst IsUtf8 (front-stands bs (bytes_of (span quoted form inner)) after stands)
          (IsUtf8-drop bs (length (bytes_of (span quoted form inner))) u (form-boundary form bs (length (bytes_of (span quoted form inner))) u h size));
      front = subst IsUtf8 (front-taken bs (bytes_of (span quoted form inner)) after stands)
          (IsUtf8-take bs (length (bytes_of (span quoted form inner))) u (form-boundary form bs (length (bytes_of (span quoted form inner))) u h size));
      some = omega (arith, size, closing-some form);
    }

-- ---- lines

pub first-stands : (quoted : Bool) (before : List ℕ) (bs : List ℕ) → IsUtf8 bs → 0 < length bs → Stands bs (first_part quoted before bs)
first-stands quoted before bs u some =
    by (nat_eq (run_length bs) 0) refl
  where
    other : (o : Option Form) → span_form (last_character before) bs ≡ o → Stands bs (option_map_or (λ form. span quoted form (inner_in form bs)) o (single (slice_index (chars bs) 0)))
    other None is = single-stands bs u some
    other (Some form) is = span-stands quoted form bs u (span_form-has (last_character before) bs form is)

    by : (t : Bool) → nat_eq (run_length bs) 0 ≡ t → Stands bs (cond (not t) (run_part (run_length bs) (drop (run_length bs) bs)) (option_map_or (λ form. span quoted form (inner_in form bs)) (span_form (last_character before) bs) (single (slice_index (chars bs) 0))))
    by true is = other (span_form (last_character before) bs) refl
    by false is = run_part-stands (run_length bs) bs u refl (some_run is)
      where
        some_run : nat_eq (run_length bs) 0 ≡ false → 0 < run_length bs
        some_run e = grind (arith, nat_tests)

-- a part that stands first, and then the parts of what is left
part-whole : (quoted : Bool) (n : ℕ) (before bs : List ℕ) (part : Part) → length bs ≤ suc n → Stands bs part →
    ((rest : List ℕ) → length rest ≤ n → IsUtf8 rest → flat_map bytes_of (parts_from quoted n (before ++ bytes_of part) rest) ≡ rest) →
    bytes_of part ++ flat_map bytes_of (parts_from quoted n (before ++ bytes_of part) (drop (length (bytes_of part)) bs)) ≡ bs
part-whole quoted n before bs part enough s whole =
    let short : length bs ≡ length (bytes_of part) + length s.after = ap length s.stands ∙ length-append (bytes_of part) s.after in
    let some = s.some in
    ap (λ xs. bytes_of part ++ flat_map bytes_of (parts_from quoted n (before ++ bytes_of part) xs)) (front-stands bs (bytes_of part) s.after s.stands)
    ∙ ap (λ xs. bytes_of part ++ xs) (whole s.after (omega arith) s.text) ∙ sym s.stands

parts-whole : (quoted : Bool) (n : ℕ) (before bs : List ℕ) → length bs ≤ n → IsUtf8 bs → flat_map bytes_of (parts_from quoted n before bs) ≡ bs
parts-whole quoted n before [] enough u = refl
parts-whole quoted zero before (b ∷ bs) enough u = absurd (omega arith)
parts-whole quoted (suc n) before (b ∷ bs) enough u =
    part-whole quoted n before (b ∷ bs) (first_part quoted before (b ∷ bs)) enough (first-stands quoted before (b ∷ bs) u (omega arith))
    (λ rest. parts-whole quoted n (before ++ bytes_of (first_part quoted before (b ∷ bs))) rest)

pub line-whole : (quoted : Bool) (line : List ℕ) → IsUtf8 line → flat_map bytes_of (parts_of_line quoted line) ≡ line
line-whole quoted line u = parts-whole quoted (length line) [] line (omega arith) u
