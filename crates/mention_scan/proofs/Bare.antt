-- No two bare runs of one line are equally long.
use Rattle.std.proofs.Common.{◌≡◌, ℕ, zero, suc, ◌+◌, ◌-◌, ◌≤◌, ◌<◌, ◌⊎◌, inl, inr, Bool, true, false, not, ◌&&◌, cond, List, [], ◌∷◌, ◌++◌, length, map, take, drop, Option, Some, None, refl, sym, ap, ◌∙◌, subst, arith, append-nil, length-append, length-drop, nat_eq, get_or, get_or-drop}
use Rattle.std.specs.Prelude.{◌==◌, Contains, IsUtf8, chars, slice_index}
use Rattle.std.specs.Char.{encode_utf8}
use Rattle.std.specs.List.{range_with_len}
use Rattle.std.specs.Option.{option_map_or}
use Rattle.std.specs.Str.{byte}
use borrow.Author.Tests.{eqb-true}
use Rattle.std.proofs.lemmas.Bool.{and_from, true≢false}
use Rattle.std.proofs.lemmas.Bool.Decides.{nat_tests}
use Rattle.std.proofs.lemmas.List.{drop-drop, length-replicate}
use Rattle.std.proofs.lemmas.List.Elements.{Contains-append_right}
use Rattle.std.proofs.lemmas.Str.{byte_from_char, inside_one}
use Rattle.mention_scan.specs.Fences.{Kind, fence_edge, code_line, quoted_line, plain_line, kind_at, line_at, line_feed, lines_of}
use Rattle.mention_scan.specs.Division.{Form, Part, bare, code, span, single, bytes_of, last_character, opening, closing, follows_backquote, has_form, inner_in, is_run_at, joined, nearest_run, run_length, run_part, span_form, first_part, parts_at, parts_from, parts_of, division, BareRunsDiffer}
use Rattle.mention_scan.proofs.Runs.{NoRun, bare-length, code-length, empty-no_run, nearest_run-at, nearest_run-none}
use Rattle.mention_scan.proofs.Forms.{closing-some, form-star, span_form-has}
use Rattle.mention_scan.proofs.Whole.{first-stands, front-stands, single-stands}
use Rattle.mention_scan.proofs.Lines.{line-text}

-- ---- the search goes on behind a part

-- behind a whole run another character stands, or none
run-behind : (bs : List ℕ) → run_length (drop (run_length bs) bs) ≡ 0
run-behind [] = refl
run-behind (b ∷ bs) = by (nat_eq b (byte "`")) refl (run-behind bs)
  where
    by : (t : Bool) → nat_eq b (byte "`") ≡ t → run_length (drop (run_length bs) bs) ≡ 0 → run_length (drop (cond t (1 + run_length bs) 0) (b ∷ bs)) ≡ 0
    by true e behind = let k : 1 + run_length bs ≡ suc (run_length bs) = omega arith in ap (λ m. run_length (drop m (b ∷ bs))) k ∙ behind
    by false e behind = ap (λ t. cond t (1 + run_length bs) 0) e

run-behind-at : (n : ℕ) (bs : List ℕ) → run_length bs ≡ n → run_length (drop n bs) ≡ 0
run-behind-at n bs e = subst (λ m. run_length (drop m bs) ≡ 0) e (run-behind bs)

-- where no run of `n` stands in the bytes, none stands behind the first place that is left
later-none : (n size : ℕ) (bs : List ℕ) → NoRun n bs → (j : ℕ) → is_run_at n (drop size bs) (suc j) ≡ false
later-none n size bs none j =
    let at : size + suc j ≡ suc (size + j) = omega arith in
    ap (λ xs. nat_eq (run_length xs) n && not (follows_backquote (drop size bs) (suc j))) (drop-drop (suc j) size bs)
    ∙ ap (λ k. nat_eq (run_length (drop k bs)) n && not (follows_backquote (drop size bs) (suc j))) at
    ∙ ap (λ b. nat_eq (run_length (drop (suc (size + j)) bs)) n && not (b == byte "`")) (get_or-drop size bs j 0)
    ∙ none (suc (size + j))

-- and none at that place, where a run was before it or the byte before it is no backquote
left-none : (n size : ℕ) (bs : List ℕ) → 0 < n → NoRun n bs → is_run_at n (drop size bs) 0 ≡ false → NoRun n (drop size bs)
left-none n size bs some none here = by
  where
    by : (k : ℕ) → is_run_at n (drop size bs) k ≡ false
    by zero = here
    by (suc j) = later-none n size bs none j

quiet-here : (n size : ℕ) (bs : List ℕ) → 0 < size → NoRun n bs → nat_eq (get_or bs (size - 1) 0) (byte "`") ≡ false → is_run_at n (drop size bs) 0 ≡ false
quiet-here n zero bs some none last = absurd (omega arith)
quiet-here n (suc i) bs some none last =
    let at : suc i - 1 ≡ i = omega arith in
    by (nat_eq (run_length (drop (suc i) bs)) n) (none (suc i)) (subst (λ k. nat_eq (get_or bs k 0) (byte "`") ≡ false) at last)
  where
    by : (t : Bool) → (t && not (nat_eq (get_or bs i 0) (byte "`"))) ≡ false → nat_eq (get_or bs i 0) (byte "`") ≡ false → (t && true) ≡ false
    by true h e = absurd (true≢false (ap not (sym e) ∙ h))
    by false h e = refl

-- what reading one part means for later runs: where no run of `n` stands, the part is no bare run of `n` and none stands
-- behind it; and behind a bare run of `n` no run of `n` stands
record Passes (bs : List ℕ) (part : Part) : Type 0 where
  other : (n : ℕ) → 0 < n → NoRun n bs → part ≡ bare n → ⊥
  none : (n : ℕ) → 0 < n → NoRun n bs → NoRun n (drop (length (bytes_of part)) bs)
  last : (n : ℕ) → part ≡ bare n → (0 < n) × NoRun n (drop (length (bytes_of part)) bs)

-- ---- runs

-- behind a part that begins with a run no backquote stands
run-stops : (m : ℕ) (bs : List ℕ) → m ≡ run_length bs → run_length (drop (length (bytes_of (run_part m (drop m bs)))) bs) ≡ 0
run-stops m bs e = by (nearest_run m (drop m bs)) refl
  where
    by : (o : Option ℕ) → nearest_run m (drop m bs) ≡ o → run_length (drop (length (bytes_of (run_part m (drop m bs)))) bs) ≡ 0
    by None is = ap (λ k. run_length (drop k bs)) (bare-length m (drop m bs) (sym is)) ∙ run-behind-at m bs (sym e)
    by (Some place) is =
        ap (λ k. run_length (drop k bs)) (code-length m place (drop m bs) (sym is))
        ∙ ap run_length (sym (drop-drop (place + m) m bs) ∙ sym (drop-drop m place (drop m bs)))
        ∙ run-behind-at m (drop place (drop m bs)) (nearest_run-at m (drop m bs) place is).size

run-left : (n m : ℕ) (bs : List ℕ) → m ≡ run_length bs → 0 < n → NoRun n bs → NoRun n (drop (length (bytes_of (run_part m (drop m bs)))) bs)
run-left n m bs e some none =
    let size = length (bytes_of (run_part m (drop m bs))) in
    left-none n size bs some none (empty-no_run n (drop size bs) 0 some (run-stops m bs e))

-- a run of `n` is found where it stands
run-found : (n : ℕ) (bs : List ℕ) → run_length bs ≡ n → NoRun n bs → ⊥
run-found n bs e none =
    let same : nat_eq (run_length bs) n ≡ true = grind (arith, nat_tests) in
    true≢false (sym (and_from _ true same refl) ∙ none 0)

run-passes : (m : ℕ) (bs : List ℕ) → m ≡ run_length bs → 0 < m → Passes bs (run_part m (drop m bs))
run-passes m bs e begins = by (nearest_run m (drop m bs)) refl
  where
    made : (part : Part) → run_part m (drop m bs) ≡ part → ((n : ℕ) → part ≡ bare n → (m ≡ n) × NoRun n (drop m bs)) → Passes bs (run_part m (drop m bs))
    made part is whole = record {
      other = λ n some none same. run-found n bs (sym e ∙ (whole n (sym is ∙ same)).0) none;
      none = λ n some none. run-left n m bs e some none;
      last = λ n same.
          let w = whole n (sym is ∙ same) in
          let size : length (bytes_of (run_part m (drop m bs))) ≡ m = ap (λ p. length (bytes_of p)) (same ∙ ap bare (sym w.0)) ∙ length-replicate m (byte "`") in
          (omega (arith, w.0), subst (λ k. NoRun n (drop k bs)) (sym size) w.1);
    }

    by : (o : Option ℕ) → nearest_run m (drop m bs) ≡ o → Passes bs (run_part m (drop m bs))
    by None is =
        made (bare m) (ap (λ o. option_map_or (λ p. code m (take p (drop m bs))) o (bare m)) is)
        (λ n same. let k : m ≡ n = cc in (k, subst (λ j. NoRun j (drop m bs)) k (nearest_run-none m (drop m bs) begins is)))
    by (Some place) is =
        made (code m (take place (drop m bs))) (ap (λ o. option_map_or (λ p. code m (take p (drop m bs))) o (bare m)) is)
        (λ n same. absurd cc)

-- ---- spans and characters

-- where the last byte of a part is no backquote, the search goes on behind it
quiet-passes : (bs : List ℕ) (part : Part) → 0 < length (bytes_of part) → (get_or bs (length (bytes_of part) - 1) 0 == byte "`") ≡ false →
    ((n : ℕ) → part ≡ bare n → ⊥) → Passes bs part
quiet-passes bs part some last apart = record {
  other = λ n _ _ same. apart n same;
  none = λ n long none. left-none n (length (bytes_of part)) bs long none (quiet-here n (length (bytes_of part)) bs some none last);
  last = λ n same. absurd (apart n same);
}

span-passes : (quoted : Bool) (form : Form) (bs : List ℕ) → has_form form bs ≡ true → Passes bs (span quoted form (inner_in form bs))
span-passes quoted form bs h =
    let inner = inner_in form bs in
    let size : length (bytes_of (span quoted form inner)) ≡ length (opening form) + length inner + length (closing form) =
    length-append (opening form) (inner ++ closing form) ∙ omega (arith, length-append inner (closing form)) in
    let some = closing-some form in
    let star : get_or bs (length (bytes_of (span quoted form inner)) - 1) 0 ≡ 42 = ap (λ k. get_or bs (k - 1) 0) size ∙ form-star form bs h in
    quiet-passes bs (span quoted form inner) (omega arith) (ap (λ b. b == byte "`") star) (λ n same. absurd cc)

-- no byte of a character that isn't a backquote is one
single-last : (c : ℕ) (bs after : List ℕ) (i : ℕ) → bs ≡ encode_utf8 c ++ after → i < length (encode_utf8 c) → run_length bs ≡ 0 → get_or bs i 0 ≡ byte "`" → ⊥
single-last c bs after i stands inside none quote =
    let is : c ≡ get_or bs i 0 = inside_one c after bs i stands inside (omega (arith, quote)) in
    let first : get_or bs 0 0 ≡ c = byte_from_char bs after c stands (omega (arith, is, quote)) in
    no-run bs (first ∙ is ∙ quote) none
  where
    no-run : (xs : List ℕ) → get_or xs 0 0 ≡ byte "`" → run_length xs ≡ 0 → ⊥
    no-run [] e h = absurd (omega (arith, e))
    no-run (x ∷ xs) e h =
        let same : nat_eq x (byte "`") ≡ true = grind (arith, nat_tests) in
        let size : 1 + run_length xs ≡ 0 = ap (λ t. cond t (1 + run_length xs) 0) (sym same) ∙ h in
        omega arith

single-passes : (bs : List ℕ) → IsUtf8 bs → 0 < length bs → run_length bs ≡ 0 → Passes bs (single (slice_index (chars bs) 0))
single-passes bs u some none =
    let c = slice_index (chars bs) 0 in
    let s = single-stands bs u some in
    let size = s.some in
    quiet-passes bs (single c) size
    (let d : get_or bs (length (encode_utf8 c) - 1) 0 ≡ byte "`" → ⊥ = single-last c bs s.after (length (encode_utf8 c) - 1) s.stands (omega arith) none in grind (arith, nat_tests))
    (λ n same. absurd cc)

first-passes : (quoted : Bool) (before bs : List ℕ) → IsUtf8 bs → 0 < length bs → Passes bs (first_part quoted before bs)
first-passes quoted before bs u some = by (nat_eq (run_length bs) 0) refl
  where
    other : (o : Option Form) → span_form (last_character before) bs ≡ o → run_length bs ≡ 0 → Passes bs (option_map_or (λ form. span quoted form (inner_in form bs)) o (single (slice_index (chars bs) 0)))
    other None is none = single-passes bs u some none
    other (Some form) is none = span-passes quoted form bs (span_form-has (last_character before) bs form is)

    some_run : nat_eq (run_length bs) 0 ≡ false → 0 < run_length bs
    some_run e = grind (arith, nat_tests)

    by : (t : Bool) → nat_eq (run_length bs) 0 ≡ t → Passes bs (cond (not t) (run_part (run_length bs) (drop (run_length bs) bs)) (option_map_or (λ form. span quoted form (inner_in form bs)) (span_form (last_character before) bs) (single (slice_index (chars bs) 0))))
    by true is = other (span_form (last_character before) bs) refl (eqb-true _ _ is)
    by false is = run-passes (run_length bs) bs refl (some_run is)

-- ---- parts

-- up to the next line feed no part is a bare run of `n`
abbrev UpToFeed : ℕ → List Part → Type 0
UpToFeed n [] = Unit {0}
UpToFeed n (part ∷ ps) = (part ≡ single line_feed) ⊎ ((part ≡ bare n → ⊥) × UpToFeed n ps)

-- behind each bare run none of its size stands up to the next line feed
abbrev Apart : List Part → Type 0
Apart [] = Unit {0}
Apart (part ∷ ps) = ((n : ℕ) → part ≡ bare n → UpToFeed n ps) × Apart ps

-- the parts of bytes in which no run of `n` stands, and then what follows them up to the next line feed
parts-up : (quoted : Bool) (m : ℕ) (before bs : List ℕ) (n : ℕ) (rest : List Part) → length bs ≤ m → IsUtf8 bs → 0 < n → NoRun n bs →
    UpToFeed n rest → UpToFeed n (parts_from quoted m before bs ++ rest)
parts-up quoted m before [] n rest enough u some h up = up
parts-up quoted zero before (b ∷ bs) n rest enough u some h up = absurd (omega arith)
parts-up quoted (suc m) before (b ∷ bs) n rest enough u some h up =
    let part = first_part quoted before (b ∷ bs) in
    let long : 0 < length (b ∷ bs) = omega arith in
    let s = first-stands quoted before (b ∷ bs) u long in
    let passes = first-passes quoted before (b ∷ bs) u long in
    let after = front-stands (b ∷ bs) (bytes_of part) s.after s.stands in
    let left : length (drop (length (bytes_of part)) (b ∷ bs)) ≡ suc (length bs) - length (bytes_of part) = length-drop (length (bytes_of part)) (b ∷ bs) in
    let size = s.some in
    inr (
      passes.other n some h,
      parts-up quoted m (before ++ bytes_of part) (drop (length (bytes_of part)) (b ∷ bs)) n rest (omega arith) (subst IsUtf8 (sym after) s.text) some (passes.none n some h) up,
    )

parts-apart : (quoted : Bool) (m : ℕ) (before bs : List ℕ) (rest : List Part) → length bs ≤ m → IsUtf8 bs →
    ((n : ℕ) → UpToFeed n rest) → Apart rest → Apart (parts_from quoted m before bs ++ rest)
parts-apart quoted m before [] rest enough u up apart = apart
parts-apart quoted zero before (b ∷ bs) rest enough u up apart = absurd (omega arith)
parts-apart quoted (suc m) before (b ∷ bs) rest enough u up apart =
    let part = first_part quoted before (b ∷ bs) in
    let long : 0 < length (b ∷ bs) = omega arith in
    let s = first-stands quoted before (b ∷ bs) u long in
    let passes = first-passes quoted before (b ∷ bs) u long in
    let after = front-stands (b ∷ bs) (bytes_of part) s.after s.stands in
    let left : length (drop (length (bytes_of part)) (b ∷ bs)) ≡ suc (length bs) - length (bytes_of part) = length-drop (length (bytes_of part)) (b ∷ bs) in
    let size = s.some in
    let enough_left : length (drop (length (bytes_of part)) (b ∷ bs)) ≤ m = omega arith in
    let text : IsUtf8 (drop (length (bytes_of part)) (b ∷ bs)) = subst IsUtf8 (sym after) s.text in (
      λ n same.
          let last = passes.last n same in
          parts-up quoted m (before ++ bytes_of part) (drop (length (bytes_of part)) (b ∷ bs)) n rest enough_left text last.0 last.1 (up n),
      parts-apart quoted m (before ++ bytes_of part) (drop (length (bytes_of part)) (b ∷ bs)) rest enough_left text up apart,
    )

-- ---- lines

kind-apart : (kind : Kind) (line : List ℕ) (rest : List Part) → IsUtf8 line → ((n : ℕ) → UpToFeed n rest) → Apart rest → Apart (parts_of kind line ++ rest)
kind-apart fence_edge line rest u up apart = (λ n same. absurd cc, apart)
kind-apart code_line line rest u up apart = (λ n same. absurd cc, apart)
kind-apart quoted_line line rest u up apart = parts-apart true (length line) [] line rest (omega arith) u up apart
kind-apart plain_line line rest u up apart = parts-apart false (length line) [] line rest (omega arith) u up apart

lines-apart : (lines : List (List ℕ)) → ((i : ℕ) → IsUtf8 (line_at lines i)) → (n i : ℕ) → Apart (joined (map (parts_at lines) (range_with_len i n)))
lines-apart lines u zero i = tt
lines-apart lines u (suc zero) i =
    subst Apart (append-nil (parts_at lines i)) (kind-apart (kind_at lines i) (line_at lines i) [] (u i) (λ k. tt) tt)
lines-apart lines u (suc (suc n)) i =
    kind-apart (kind_at lines i) (line_at lines i) (single line_feed ∷ joined (map (parts_at lines) (range_with_len (i + 1) (suc n)))) (u i)
    (λ k. inl refl) (λ k same. absurd cc, lines-apart lines u (suc n) (i + 1))

-- ---- texts

up-feed : (n : ℕ) (between behind : List Part) → UpToFeed n (between ++ (bare n ∷ behind)) → Contains between (single line_feed)
up-feed n [] behind (inl e) = absurd cc
up-feed n [] behind (inr other) = absurd (other.0 refl)
up-feed n (part ∷ between) behind (inl e) = let some : 0 < length (part ∷ between) = omega arith in (0, some, e)
up-feed n (part ∷ between) behind (inr other) = Contains-append_right (part ∷ []) between (single line_feed) (up-feed n between behind other.1)

apart-feed : (n : ℕ) (front between behind : List Part) → Apart (front ++ (bare n ∷ (between ++ (bare n ∷ behind)))) → Contains between (single line_feed)
apart-feed n [] between behind apart = up-feed n between behind (apart.0 n refl)
apart-feed n (part ∷ front) between behind apart = apart-feed n front between behind apart.1

pub division-bare : (text : List ℕ) → IsUtf8 text → BareRunsDiffer (division text)
unfolding division
division-bare text u = λ front between behind n e. apart-feed n front between behind (subst Apart e (lines-apart (lines_of text) (λ i. line-text text i u) (length (lines_of text)) 0))
