-- How far a reading of a line has come, and what one part more does to it.
use Rattle.std.proofs.Common.{◌≡◌, ℕ, zero, suc, ◌+◌, ◌-◌, ◌≤◌, ◌<◌, Bool, true, not, ◌||◌, cond, get_or, List, [], ◌∷◌, ◌++◌, length, take, drop, Option, None, Some, refl, sym, ap, ◌∙◌, subst, arith, append_assoc, length-append, length-drop, nat_eq, append-nil}
use Rattle.std.specs.Prelude.{chars, slice_index, IsUtf8}
use Rattle.std.specs.Char.{encode_utf8, len_utf8}
use Rattle.std.specs.List.{last_or}
use Rattle.std.specs.Option.{option_map_or}
use Rattle.std.proofs.lemmas.Bool.Decides.{nat_tests}
use Rattle.std.proofs.lemmas.List.{drop_more, get_or_append_left, take-append-drop}
use Rattle.std.proofs.lemmas.Str.{IsCharBoundary-before_ascii, IsUtf8-append, IsUtf8-nil, IsUtf8-take, chars-IsAscii, chars-append, chars-nil, chars_past_char, length-encode, len_utf8_bounds}
use Rattle.mention_scan.specs.declared.span.Span.{Span}
use Rattle.mention_scan.specs.Division.{Form, Part, bare, code, span, single, bytes_of, last_character, opening, closing, is_silent, is_group, nearest_run, run_length, run_part, span_form, inner_in, first_part, parts_from, parts_of_line, spans_from}
use Rattle.mention_scan.proofs.Forms.{closing-some, form-fits, form-star, span_form-has}
use Rattle.mention_scan.proofs.Runs.{run_part-last, run_part-some}
use Rattle.mention_scan.proofs.Whole.{Stands, first-stands, front-stands}

-- ---- the last character

last_or-behind : (o : Option ℕ) (xs ys : List ℕ) (c : ℕ) → last_or None ys ≡ Some c → last_or o (xs ++ ys) ≡ Some c
last_or-behind o [] [] c e = absurd cc
last_or-behind o [] (y ∷ ys) c e = e
last_or-behind o (x ∷ xs) ys c e = last_or-behind (Some x) xs ys c e

-- what stands behind a text has the last character
last-behind : (front bs : List ℕ) (c : ℕ) → IsUtf8 front → last_character bs ≡ Some c → last_character (front ++ bs) ≡ Some c
last-behind front bs c u e = ap (last_or None) (chars-append front bs u) ∙ last_or-behind None (chars front) (chars bs) c e

chars-one : (b : ℕ) → b < 128 → chars (b ∷ []) ≡ b ∷ []
chars-one b low = chars-IsAscii (b ∷ []) ascii
  where
    ascii : (i : ℕ) → get_or (b ∷ []) i 0 < 128
    ascii zero = low
    ascii (suc i) = omega arith

-- a text that ends with a byte of ASCII ends with that character
last-ascii : (bs : List ℕ) (b : ℕ) → IsUtf8 bs → 0 < length bs → get_or bs (length bs - 1) 0 ≡ b → b < 128 → last_character bs ≡ Some b
last-ascii bs b u some is low =
    let k = length bs - 1 in
    let inside : k < length bs = omega arith in
    let front : IsUtf8 (take k bs) = IsUtf8-take bs k u (IsCharBoundary-before_ascii bs k inside (omega (arith, is))) in
    let none : length (drop (k + 1) bs) ≡ 0 = omega (arith, length-drop (k + 1) bs) in
    let last : drop k bs ≡ b ∷ [] = drop_more bs k 0 inside ∙ ap (λ x. x ∷ drop (k + 1) bs) is ∙ ap (λ xs. b ∷ xs) (empty (drop (k + 1) bs) none) in
    ap last_character (sym (take-append-drop k bs) ∙ ap (λ xs. take k bs ++ xs) last)
    ∙ last-behind (take k bs) (b ∷ []) b front (ap (last_or None) (chars-one b low))
  where
    empty : (xs : List ℕ) → length xs ≡ 0 → xs ≡ []
    empty [] e = refl
    empty (x ∷ xs) e = absurd (omega arith)

stands-last : (bs : List ℕ) (part : Part) (b : ℕ) → Stands bs part → get_or bs (length (bytes_of part) - 1) 0 ≡ b → b < 128 → last_character (bytes_of part) ≡ Some b
stands-last bs part b s is low =
    let some = s.some in
    let at : get_or (bytes_of part) (length (bytes_of part) - 1) 0 ≡ b =
    sym (ap (λ xs. get_or xs (length (bytes_of part) - 1) 0) s.stands ∙ get_or_append_left (bytes_of part) s.after 0 (length (bytes_of part) - 1) (omega arith)) ∙ is in
    last-ascii (bytes_of part) b s.front some at low

-- ---- readings

-- of the line that begins at `begin`, what stands before `start` is read and ends with this character; the rest is still to be
-- read, and what was found goes before what it holds
pub record Reading (quoted : Bool) (line rest : List ℕ) (begin start : ℕ) (before : Option ℕ) (old found : List Span) : Type 0 where
  pub front : List ℕ
  pub text : IsUtf8 front
  pub last : last_character front ≡ before
  pub place : start + length rest ≡ begin + length line
  pub fuel : ℕ
  pub enough : length rest ≤ fuel
  pub read : old ++ spans_from begin (parts_of_line quoted line) ≡ found ++ spans_from start (parts_from quoted fuel front rest)

pub Reading-begin : (quoted : Bool) (line : List ℕ) (begin : ℕ) (old : List Span) → Reading quoted line line begin begin None old old
Reading-begin quoted line begin old =
    record { front = []; text = IsUtf8-nil; last = ap (last_or None) chars-nil; place = refl; fuel = length line; enough = omega arith; read = refl }

pub Reading-end : (quoted : Bool) (line rest : List ℕ) (begin start : ℕ) (before : Option ℕ) (old found : List Span) →
    Reading quoted line rest begin start before old found → length rest ≡ 0 → found ≡ old ++ spans_from begin (parts_of_line quoted line)
Reading-end quoted line [] begin start before old found r e = sym (r.read ∙ append-nil found)
Reading-end quoted line (b ∷ bs) begin start before old found r e = absurd (omega arith)

-- with a byte left to read and enough parts allowed, one part is read, and then the others
parts-step : (quoted : Bool) (n : ℕ) (before : List ℕ) (b : ℕ) (bs : List ℕ) (part : Part) → first_part quoted before (b ∷ bs) ≡ part → suc (length bs) ≤ n →
    (m : ℕ) × (n ≡ suc m) × (parts_from quoted n before (b ∷ bs) ≡ part ∷ parts_from quoted m (before ++ bytes_of part) (drop (length (bytes_of part)) (b ∷ bs)))
parts-step quoted zero before b bs part first enough = absurd (omega arith)
parts-step quoted (suc m) before b bs part first enough =
    (m, refl, ap (λ p. p ∷ parts_from quoted m (before ++ bytes_of p) (drop (length (bytes_of p)) (b ∷ bs))) first)

-- one part more of `n` bytes, which ends with the character `c` and holds the spans `more`
Reading-part : (quoted : Bool) (line rest : List ℕ) (begin start n c : ℕ) (before : Option ℕ) (old found more : List Span) (part : Part) →
    (r : Reading quoted line rest begin start before old found) → first_part quoted r.front rest ≡ part → Stands rest part → length (bytes_of part) ≡ n →
    last_character (bytes_of part) ≡ Some c → ((ps : List Part) → spans_from start (part ∷ ps) ≡ more ++ spans_from (start + n) ps) →
    Reading quoted line (drop n rest) begin (start + n) (Some c) old (found ++ more)
Reading-part quoted line [] begin start n c before old found more part r first s size last spans =
    let some = s.some in absurd (omega (arith, ap length s.stands, length-append (bytes_of part) s.after))
Reading-part quoted line (b ∷ bs) begin start n c before old found more part r first s size last spans =
    let some = s.some in
    let fits : suc (length bs) ≡ length (bytes_of part) + length s.after = ap length s.stands ∙ length-append (bytes_of part) s.after in
    let step = parts-step quoted r.fuel r.front b bs part first r.enough in
    let left : length (drop n (b ∷ bs)) ≡ suc (length bs) - n = length-drop n (b ∷ bs) in
    let ps = parts_from quoted step.0 (r.front ++ bytes_of part) (drop n (b ∷ bs)) in
    let at_n : parts_from quoted r.fuel r.front (b ∷ bs) ≡ part ∷ ps =
    step.2 ∙ ap (λ k. part ∷ parts_from quoted step.0 (r.front ++ bytes_of part) (drop k (b ∷ bs))) size in
    record {
      front = r.front ++ bytes_of part;
      text = IsUtf8-append r.front (bytes_of part) r.text s.front;
      last = last-behind r.front (bytes_of part) c r.text last;
      place = omega (arith, r.place);
      fuel = step.0;
      enough = omega (arith, step.1);
      read = r.read ∙ ap (λ qs. found ++ spans_from start qs) at_n ∙ ap (λ xs. found ++ xs) (spans ps)
          ∙ sym (append_assoc found more (spans_from (start + n) ps));
    }

-- ---- code parts and bare runs

-- a code part or a bare run holds no span
pub run_part-quiet : (n : ℕ) (behind : List ℕ) (start : ℕ) (ps : List Part) → spans_from start (run_part n behind ∷ ps) ≡ spans_from (start + length (bytes_of (run_part n behind))) ps
run_part-quiet n behind start ps = by (nearest_run n behind)
  where
    by : (o : Option ℕ) → (let part = option_map_or (λ place. code n (take place behind)) o (bare n) in spans_from start (part ∷ ps) ≡ spans_from (start + length (bytes_of part)) ps)
    by None = refl
    by (Some place) = refl

pub Reading-run : (quoted : Bool) (line rest : List ℕ) (begin start run n : ℕ) (before : Option ℕ) (old found : List Span) →
    Reading quoted line rest begin start before old found → IsUtf8 rest → run ≡ run_length rest → 0 < run →
    n ≡ length (bytes_of (run_part run (drop run rest))) → n ≤ length rest →
    Reading quoted line (drop n rest) begin (start + n) (Some 96) old found
Reading-run quoted line rest begin start run n before old found r u is some size fits =
    let part = run_part run (drop run rest) in
    let begins : not (nat_eq (run_length rest) 0) ≡ true = let s : 0 < run_length rest = omega (arith, is) in grind (arith, nat_tests) in
    let other = option_map_or (λ form. span quoted form (inner_in form rest)) (span_form (last_character r.front) rest) (single (slice_index (chars rest) 0)) in
    let first : first_part quoted r.front rest ≡ part =
    ap (λ t. cond t (run_part (run_length rest) (drop (run_length rest) rest)) other) begins ∙ ap (λ k. run_part k (drop k rest)) (sym is) in
    let long : 0 < n = omega (arith, size, run_part-some run (drop run rest)) in
    let stands : Stands rest part = subst (Stands rest) first (first-stands quoted r.front rest u (omega arith)) in
    let last : last_character (bytes_of part) ≡ Some 96 = stands-last rest part 96 stands (run_part-last run rest is some) (omega arith) in
    let next : Reading quoted line (drop n rest) begin (start + n) (Some 96) old (found ++ []) =
    Reading-part quoted line rest begin start n 96 before old found [] part r first stands (sym size) last
    (λ ps. run_part-quiet run (drop run rest) start ps ∙ ap (λ k. spans_from (start + k) ps) (sym size)) in
    subst (λ f. Reading quoted line (drop n rest) begin (start + n) (Some 96) old f) (append-nil found) next

-- ---- spans

-- what the first part is where no run begins
quiet-first : (quoted : Bool) (front rest : List ℕ) (o : Option Form) → run_length rest ≡ 0 → span_form (last_character front) rest ≡ o →
    first_part quoted front rest ≡ option_map_or (λ form. span quoted form (inner_in form rest)) o (single (slice_index (chars rest) 0))
quiet-first quoted front rest o none h =
    ap (λ k. cond (not (nat_eq k 0)) (run_part k (drop k rest)) (option_map_or (λ form. span quoted form (inner_in form rest)) (span_form (last_character front) rest) (single (slice_index (chars rest) 0)))) none
    ∙ ap (λ p. option_map_or (λ form. span quoted form (inner_in form rest)) p (single (slice_index (chars rest) 0))) h

pub Reading-span : (quoted : Bool) (line rest : List ℕ) (begin start n : ℕ) (before : Option ℕ) (old found : List Span) (form : Form) →
    Reading quoted line rest begin start before old found → IsUtf8 rest → run_length rest ≡ 0 → span_form before rest ≡ Some form →
    n ≡ length (opening form) + length (inner_in form rest) + length (closing form) →
    Reading quoted line (drop n rest) begin (start + n) (Some 42) old
    (found ++ record { start = start; end = start + n; silent = quoted || is_silent form; group = is_group form } ∷ [])
Reading-span quoted line rest begin start n before old found form r u none h e =
    let part = span quoted form (inner_in form rest) in
    let has = span_form-has before rest form h in
    let fits = form-fits form rest has in
    let some = closing-some form in
    let size : length (bytes_of part) ≡ n =
    length-append (opening form) (inner_in form rest ++ closing form) ∙ omega (arith, e, length-append (inner_in form rest) (closing form)) in
    let more : ℕ → List Span = λ k. record { start = start; end = start + k; silent = quoted || is_silent form; group = is_group form } ∷ [] in
    let first : first_part quoted r.front rest ≡ part = quiet-first quoted r.front rest (Some form) none (ap (λ o. span_form o rest) r.last ∙ h) in
    let stands : Stands rest part = subst (Stands rest) first (first-stands quoted r.front rest u (omega arith)) in
    let star : get_or rest (length (bytes_of part) - 1) 0 ≡ 42 = ap (λ k. get_or rest (k - 1) 0) (size ∙ e) ∙ form-star form rest has in
    Reading-part quoted line rest begin start n 42 before old found (more n) part r first stands size (stands-last rest part 42 stands star (omega arith))
    (λ ps. ap (λ k. more k ++ spans_from (start + k) ps) size)

-- ---- characters

pub Reading-single : (quoted : Bool) (line rest after : List ℕ) (begin start c : ℕ) (before : Option ℕ) (old found : List Span) →
    Reading quoted line rest begin start before old found → run_length rest ≡ 0 → span_form before rest ≡ None → IsUtf8 rest →
    rest ≡ encode_utf8 c ++ after → Reading quoted line after begin (start + len_utf8 c) (Some c) old found
Reading-single quoted line rest after begin start c before old found r none h u e =
    let n = len_utf8 c in
    let size : length (encode_utf8 c) ≡ n = length-encode c in
    let all : length rest ≡ length (encode_utf8 c) + length after = ap length e ∙ length-append (encode_utf8 c) after in
    let bounds : (1 ≤ n) × (n ≤ 4) = len_utf8_bounds c in
    let is_c : slice_index (chars rest) 0 ≡ c = ap (λ cs. slice_index cs 0) (chars_past_char rest after c u e) in
    let first : first_part quoted r.front rest ≡ single c = quiet-first quoted r.front rest None none (ap (λ o. span_form o rest) r.last ∙ h) ∙ ap single is_c in
    let stands : Stands rest (single c) = subst (Stands rest) first (first-stands quoted r.front rest u (omega arith)) in
    let last : last_character (encode_utf8 c) ≡ Some c =
    ap (last_or None) (chars_past_char (encode_utf8 c) [] c stands.front (sym (append-nil (encode_utf8 c))) ∙ ap (λ cs. c ∷ cs) chars-nil) in
    let left : drop n rest ≡ after = ap (λ k. drop k rest) (sym size) ∙ front-stands rest (encode_utf8 c) after e in
    let next : Reading quoted line (drop n rest) begin (start + n) (Some c) old (found ++ []) =
    Reading-part quoted line rest begin start n c before old found [] (single c) r first stands size last
    (λ ps. ap (λ k. spans_from (start + k) ps) size) in
    subst (λ f. Reading quoted line after begin (start + n) (Some c) old f) (append-nil found)
    (subst (λ bs. Reading quoted line bs begin (start + n) (Some c) old (found ++ [])) left next)
