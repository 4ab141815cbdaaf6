-- Each span of a text lies within it.
use Rattle.std.proofs.Common.{◌≡◌, ℕ, zero, suc, ◌+◌, ◌-◌, ◌≤◌, ◌<◌, ◌||◌, not, refl, Bool, true, false, cond, List, [], ◌∷◌, ◌++◌, length, take, drop, Option, Some, None, ap, subst, sym, ◌∙◌, arith, length-append, length-drop, length-take, nat_eq, ⊎_elim}
use Rattle.std.specs.Prelude.{◌==◌, All, IsUtf8, chars, slice_index}
use Rattle.std.specs.List.{position_or_len}
use Rattle.std.specs.Option.{option_map_or}
use Rattle.std.proofs.lemmas.Bool.{cases_lt}
use Rattle.std.proofs.lemmas.List.Elements.{All-append, All-cons, All-nil}
use Rattle.std.proofs.lemmas.List.Sums.{prefix_len-le-length}
use Rattle.std.proofs.lemmas.Str.{IsUtf8-drop, IsUtf8-take}
use Rattle.mention_scan.specs.declared.span.Span.{Span}
use Rattle.mention_scan.specs.Fences.{Kind, fence_edge, code_line, quoted_line, plain_line, kind_at, line_at, lines_of}
use Rattle.mention_scan.specs.Division.{Form, loud_user, silent_user, loud_group, silent_group, Part, span, single, bytes_of, last_character, opening, closing, is_silent, is_group, has_form, inner_in, run_length, run_part, span_form, first_part, parts_at, parts_from, parts_of, spans_from, spans_of, LiesWithin}
use Rattle.mention_scan.proofs.Forms.{form-fits, form-some, span_form-has}
use Rattle.mention_scan.proofs.Lines.{LinesRead, LinesRead-begin, LinesRead-end, LinesRead-line, LinesRead-line_at, behind-boundary, first-line, last-line, line_feed-boundary}
use Rattle.mention_scan.proofs.Reading.{run_part-quiet}

-- what is left behind a part lies within the text too
room-behind : (text bs : List ℕ) (start n : ℕ) → start + length bs ≤ length text → 0 < length (drop n bs) → (start + n) + length (drop n bs) ≤ length text
room-behind text bs start n room some = let left : length (drop n bs) ≡ length bs - n = length-drop n bs in omega arith

marks-fit : (form : Form) → cond (is_group form) 3 5 ≤ length (opening form) + length (closing form)
marks-fit loud_user = omega arith
marks-fit silent_user = omega arith
marks-fit loud_group = omega arith
marks-fit silent_group = omega arith

span-within : (text bs : List ℕ) (start : ℕ) (quoted : Bool) (form : Form) → start + length bs ≤ length text → has_form form bs ≡ true →
    LiesWithin text record { start = start; end = start + length (bytes_of (span quoted form (inner_in form bs))); silent = quoted || is_silent form; group = is_group form }
span-within text bs start quoted form room h =
    let inner = inner_in form bs in
    let size : length (bytes_of (span quoted form inner)) ≡ length (opening form) + length inner + length (closing form) =
    length-append (opening form) (inner ++ closing form) ∙ omega (arith, length-append inner (closing form)) in
    record { room = omega (arith, size, form-some form bs h, marks-fit form); end = omega (arith, size, form-fits form bs h) }

-- the first part's span lies within the text where those of the others do
first-within : (text : List ℕ) (quoted : Bool) (n start : ℕ) (before rest : List ℕ) → start + length rest ≤ length text →
    ((p : Part) → All (LiesWithin text) (spans_from (start + length (bytes_of p)) (parts_from quoted n (before ++ bytes_of p) (drop (length (bytes_of p)) rest)))) →
    (let p = first_part quoted before rest in All (LiesWithin text) (spans_from start (p ∷ parts_from quoted n (before ++ bytes_of p) (drop (length (bytes_of p)) rest))))
first-within text quoted n start before rest room later = by (nat_eq (run_length rest) 0)
  where
    run : (m : ℕ) (xs : List ℕ) → (let p = run_part m xs in All (LiesWithin text) (spans_from start (p ∷ parts_from quoted n (before ++ bytes_of p) (drop (length (bytes_of p)) rest))))
    run m xs =
        let p = run_part m xs in
        subst (All (LiesWithin text)) (sym (run_part-quiet m xs start (parts_from quoted n (before ++ bytes_of p) (drop (length (bytes_of p)) rest)))) (later p)

    other : (o : Option Form) → span_form (last_character before) rest ≡ o →
        (let p = option_map_or (λ form. span quoted form (inner_in form rest)) o (single (slice_index (chars rest) 0)) in
        All (LiesWithin text) (spans_from start (p ∷ parts_from quoted n (before ++ bytes_of p) (drop (length (bytes_of p)) rest))))
    other None is = later (single (slice_index (chars rest) 0))
    other (Some form) is =
        All-cons (LiesWithin text) _ _ (span-within text rest start quoted form room (span_form-has (last_character before) rest form is)) (later (span quoted form (inner_in form rest)))

    by : (t : Bool) →
        (let p = cond (not t) (run_part (run_length rest) (drop (run_length rest) rest)) (option_map_or (λ form. span quoted form (inner_in form rest)) (span_form (last_character before) rest) (single (slice_index (chars rest) 0))) in
        All (LiesWithin text) (spans_from start (p ∷ parts_from quoted n (before ++ bytes_of p) (drop (length (bytes_of p)) rest))))
    by true = other (span_form (last_character before) rest) refl
    by false = run (run_length rest) (drop (run_length rest) rest)

-- the spans among the parts of bytes that lie within the text
parts-within : (text : List ℕ) (quoted : Bool) (n start : ℕ) (before bs : List ℕ) → (0 < length bs → start + length bs ≤ length text) →
    All (LiesWithin text) (spans_from start (parts_from quoted n before bs))
parts-within text quoted n start before [] room = All-nil (LiesWithin text)
parts-within text quoted zero start before (b ∷ bs) room = All-nil (LiesWithin text)
parts-within text quoted (suc n) start before (b ∷ bs) room =
    let fits : start + length (b ∷ bs) ≤ length text = room (omega arith) in
    first-within text quoted n start before (b ∷ bs) fits
    (λ p. parts-within text quoted n (start + length (bytes_of p)) (before ++ bytes_of p) (drop (length (bytes_of p)) (b ∷ bs)) (room-behind text (b ∷ bs) start (length (bytes_of p)) fits))

kind-within : (text : List ℕ) (kind : Kind) (start : ℕ) (line : List ℕ) → start + length line ≤ length text → All (LiesWithin text) (spans_from start (parts_of kind line))
kind-within text fence_edge start line room = All-nil (LiesWithin text)
kind-within text code_line start line room = All-nil (LiesWithin text)
kind-within text quoted_line start line room = parts-within text true (length line) start [] line (λ _. room)
kind-within text plain_line start line room = parts-within text false (length line) start [] line (λ _. room)

-- the spans of the lines that are still to be read lie within the text
lines-within : (m : ℕ) (text rest : List ℕ) (start i : ℕ) (found : List Span) → length rest < m → IsUtf8 rest → LinesRead text rest start i found →
    All (LiesWithin text) found → All (LiesWithin text) (spans_of text)
lines-within zero text rest start i found enough u r within = absurd (omega arith)
lines-within (suc m) text rest start i found enough u r within =
    let n = position_or_len (λ b. b == 10) rest in
    let bound : n ≤ length rest = prefix_len-le-length (λ b. not (b == 10)) rest in
    let size : length (take n rest) ≡ n = omega (arith, length-take n rest) in
    let lines = lines_of text in
    let read : line_at lines i ≡ take n rest → All (LiesWithin text) (found ++ spans_from start (parts_at lines i)) =
    λ line.
    let room : start + length (line_at lines i) ≤ length text = omega (arith, ap length line, size, bound, r.place) in
    All-append (LiesWithin text) found _ within (kind-within text (kind_at lines i) start (line_at lines i) room) in
    ⊎_elim
    (λ inside. let left : length (drop (n + 1) rest) ≡ length rest - (n + 1) = length-drop (n + 1) rest in
    lines-within m text (drop (n + 1) rest) (start + (n + 1)) (i + 1) _ (omega arith)
    (IsUtf8-drop rest (n + 1) u (behind-boundary rest n u refl inside))
    (LinesRead-line text rest start i n found r refl inside (IsUtf8-take rest n u (line_feed-boundary rest n refl)))
    (read (LinesRead-line_at text rest (take n rest) (lines_of (drop (n + 1) rest)) start i found r (first-line rest n refl inside))))
    (λ all. let whole : n ≡ length rest = omega arith in
    subst (All (LiesWithin text)) (LinesRead-end text rest start i n found r refl whole)
    (read (LinesRead-line_at text rest (take n rest) [] start i found r (last-line rest n refl whole))))
    (cases_lt n (length rest))

pub spans_of-within : (text : List ℕ) → IsUtf8 text → All (LiesWithin text) (spans_of text)
spans_of-within text u = lines-within (length text + 1) text text 0 0 [] (omega arith) u (LinesRead-begin text) (All-nil (LiesWithin text))
