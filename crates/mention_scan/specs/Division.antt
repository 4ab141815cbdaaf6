-- How a text divides into parts, and the spans that it has. A text is the list of its UTF-8 bytes.
use Rattle.std.specs.Prelude.{◌≡◌, ◌↔◌, ℕ, zero, suc, ◌+◌, ◌<◌, ◌≤◌, Bool, true, false, ◌&&◌, ◌||◌, ◌==◌, not, List, [], ◌∷◌, ◌++◌, length, map, take, drop, replicate, take_while, Option, None, Contains, codes, chars, flat_map, slice_index, nat_eq, if◌then◌else◌}
use Rattle.std.specs.Char.{IsScalar, is_whitespace, encode_utf8}
use Rattle.std.specs.List.{AllZip, find, last_or, list_all, range_with_len, starts_with}
use Rattle.std.specs.Option.{option_map_or}
use Rattle.std.specs.Str.{byte}
use Rattle.mention_scan.specs.declared.span.Span.{Span}
use Rattle.mention_scan.specs.Fences.{Kind, fence_edge, code_line, quoted_line, plain_line, kind_at, line_at, line_feed, lines_of, run_of}

-- ---- the parts

-- the forms of a span: of a user or of a group, silent or not
pub data Form : Type 0 where
  loud_user : Form
  silent_user : Form
  loud_group : Form
  silent_group : Form

-- a part of a text: a line of a fence that holds no span; a run of backquotes, what stands behind it, and a later run of
-- as many; a run of backquotes alone; a span of a quoted line or of another, by its form and its Inner; a character
pub data Part : Type 0 where
  fence_line : List ℕ → Part
  code : ℕ → List ℕ → Part
  bare : ℕ → Part
  span : Bool → Form → List ℕ → Part
  single : ℕ → Part

-- what stands before the Inner of each form
abbrev pub opening : Form → List ℕ
opening loud_user = codes "@**"
opening silent_user = codes "@_**"
opening loud_group = codes "@*"
opening silent_group = codes "@_*"

-- what stands behind the Inner of each form
abbrev pub closing : Form → List ℕ
closing loud_user = codes "**"
closing silent_user = codes "**"
closing loud_group = codes "*"
closing silent_group = codes "*"

-- the forms with `_` are silent
abbrev pub is_silent : Form → Bool
is_silent loud_user = false
is_silent silent_user = true
is_silent loud_group = false
is_silent silent_group = true

-- the forms with one star are of groups
abbrev pub is_group : Form → Bool
is_group loud_user = false
is_group silent_user = false
is_group loud_group = true
is_group silent_group = true

-- the form that is silent or not, and of a group or of a user
abbrev pub form_with : Bool → Bool → Form
form_with silent group =
    if group then (if silent then silent_group else loud_group) else (if silent then silent_user else loud_user)

-- a run of `n` backquotes
abbrev pub backquotes : ℕ → List ℕ
backquotes n = replicate n (byte "`")

-- the bytes of a part
abbrev pub bytes_of : Part → List ℕ
bytes_of (fence_line line) = line
bytes_of (code n inside) = backquotes n ++ (inside ++ backquotes n)
bytes_of (bare n) = backquotes n
bytes_of (span quoted form inner) = opening form ++ (inner ++ closing form)
bytes_of (single c) = encode_utf8 c

-- ---- runs of backquotes

-- the number of backquotes with which the bytes begin: a run, as long as it can be
abbrev pub run_length : List ℕ → ℕ
run_length bs = run_of (byte "`") bs

-- a backquote stands right before this place
abbrev pub follows_backquote : List ℕ → ℕ → Bool
follows_backquote bs zero = false
follows_backquote bs (suc i) = slice_index bs i == byte "`"

-- a run of exactly `n` backquotes stands at this place: no backquote is before it, and none behind it
abbrev pub is_run_at : ℕ → List ℕ → ℕ → Bool
is_run_at n bs place = run_length (drop place bs) == n && not (follows_backquote bs place)

-- ---- where a span begins

-- a span may begin behind whitespace and behind one of ' " ( { [ / <
abbrev pub may_precede : ℕ → Bool
may_precede c =
    is_whitespace c || c == byte "'" || c == byte "\"" || c == byte "(" || c == byte "{" || c == byte "[" || c == byte "/"
    || c == byte "<"

-- a span may begin behind a character that lets it. `None` is where its line begins: the text begins there too, or a line feed
-- stands before, which is whitespace
abbrev pub may_begin : Option ℕ → Bool
may_begin character = option_map_or may_precede character true

-- the last character of what stands before a place in a line, if anything does
abbrev pub last_character : List ℕ → Option ℕ
last_character before = last_or None (chars before)

-- a byte of an Inner is neither `*` nor a line feed
abbrev pub is_inner : ℕ → Bool
is_inner b = not (b == byte "*" || b == line_feed)

-- ---- which part fits at a place of a line, with `before` standing before the place and `rest` from it on

-- code: a run of `n` backquotes, as long as it can be, the nearest later run of exactly `n`, and what is inside of the two
pub record IsCode (rest : List ℕ) (n : ℕ) (inside : List ℕ) : Type 0 where
  pub some : 0 < n
  pub run : run_length rest ≡ n
  pub stands : take (length inside) (drop n rest) ≡ inside
  pub ends : is_run_at n (drop n rest) (length inside) ≡ true
  pub nearest : (place : ℕ) → place < length inside → is_run_at n (drop n rest) place ≡ false

-- a bare run: `n` backquotes, as many as there are
pub record IsBare (rest : List ℕ) (n : ℕ) : Type 0 where
  pub some : 0 < n
  pub run : run_length rest ≡ n

-- a span: it may begin here, and one of the forms stands here, round an Inner of one or more characters
pub record IsSpan (before rest : List ℕ) (form : Form) (inner : List ℕ) : Type 0 where
  pub place : may_begin (last_character before) ≡ true
  pub after : List ℕ
  pub stands : rest ≡ opening form ++ (inner ++ (closing form ++ after))
  pub some : 0 < length inner
  pub within : list_all is_inner inner ≡ true

-- a character
pub record IsCharacter (rest : List ℕ) (c : ℕ) : Type 0 where
  pub is : IsScalar c
  pub after : List ℕ
  pub stands : rest ≡ encode_utf8 c ++ after

-- the part fits at the place, in a line that is quoted or not
abbrev pub Fits : Bool → List ℕ → List ℕ → Part → Type 0
Fits quoted before rest (fence_line line) = ⊥
Fits quoted before rest (code n inside) = IsCode rest n inside
Fits quoted before rest (bare n) = IsBare rest n
Fits quoted before rest (span of_quoted form inner) = (of_quoted ≡ quoted) × IsSpan before rest form inner
Fits quoted before rest (single c) = IsCharacter rest c

-- the order in which the forms of a part are tried: code, a bare run, a span, any other character
abbrev pub order_of : Part → ℕ
order_of (fence_line line) = 0
order_of (code n inside) = 1
order_of (bare n) = 2
order_of (span quoted form inner) = 3
order_of (single c) = 4

-- the part fits, and none of an earlier form does
pub record IsFirst (quoted : Bool) (before rest : List ℕ) (part : Part) : Type 0 where
  pub fits : Fits quoted before rest part
  pub first : (other : Part) → order_of other < order_of part → Fits quoted before rest other → ⊥

-- ---- what divides a text

-- the parts make up the rest of a line, and each is of the first form that fits at its place
abbrev pub ArePartsFrom : Bool → List ℕ → List ℕ → List Part → Type 0
ArePartsFrom quoted before rest [] = rest ≡ []
ArePartsFrom quoted before rest (part ∷ parts) =
    IsFirst quoted before rest part
    × ArePartsFrom quoted (before ++ bytes_of part) (drop (length (bytes_of part)) rest) parts

-- these are the parts of a line of this kind
abbrev pub ArePartsOf : Kind → List ℕ → List Part → Type 0
ArePartsOf fence_edge line parts = parts ≡ fence_line line ∷ []
ArePartsOf code_line line parts = parts ≡ fence_line line ∷ []
ArePartsOf quoted_line line parts = ArePartsFrom true [] line parts
ArePartsOf plain_line line parts = ArePartsFrom false [] line parts

-- the places of the lines
abbrev pub places : List (List ℕ) → List ℕ
places lines = range_with_len 0 (length lines)

-- the parts of lines in a row; the line feed between two lines is a part too
abbrev pub joined : List (List Part) → List Part
joined [] = []
joined (parts ∷ []) = parts
joined (parts ∷ next ∷ others) = parts ++ single line_feed ∷ joined (next ∷ others)

-- these parts divide the text: they are those of its lines, in a row
pub record IsDivision (text : List ℕ) (parts : List Part) : Type 0 where
  pub by_line : List (List Part)
  pub each : AllZip (λ i here. ArePartsOf (kind_at (lines_of text) i) (line_at (lines_of text) i) here) (places (lines_of text)) by_line
  pub row : parts ≡ joined by_line

-- ---- the division of a text, as it is found

-- the place of the nearest run of exactly `n` backquotes, if there is one
abbrev pub nearest_run : ℕ → List ℕ → Option ℕ
nearest_run n bs = find (is_run_at n bs) (range_with_len 0 (length bs))

-- a run of `n` backquotes and what stands behind it: code up to the nearest later run of exactly `n`, else a bare run
abbrev pub run_part : ℕ → List ℕ → Part
run_part n behind = option_map_or (λ place. code n (take place behind)) (nearest_run n behind) (bare n)

-- the Inner that the bytes have if they begin with this form: all that comes before the next `*` or line feed
abbrev pub inner_in : Form → List ℕ → List ℕ
inner_in form bs = take_while is_inner (drop (length (opening form)) bs)

-- the bytes begin with the form's opening, an Inner of one or more characters, and its closing
abbrev pub has_form : Form → List ℕ → Bool
has_form form bs =
    starts_with nat_eq bs (opening form) && not (length (inner_in form bs) == 0)
    && starts_with nat_eq (drop (length (opening form) + length (inner_in form bs)) bs) (closing form)

-- the form with which the bytes begin, if it is one of the four, of which no two fit
abbrev pub form_of : List ℕ → Option Form
form_of bs = find (λ form. has_form form bs) (loud_user ∷ silent_user ∷ loud_group ∷ silent_group ∷ [])

-- the form of the span that begins the bytes, behind this character, if one does
abbrev pub span_form : Option ℕ → List ℕ → Option Form
span_form character bs = if may_begin character then form_of bs else None

-- the part that begins the rest of a line, behind what stands before it
abbrev pub first_part : Bool → List ℕ → List ℕ → Part
first_part quoted before rest =
    if not (run_length rest == 0) then run_part (run_length rest) (drop (run_length rest) rest)
    else option_map_or (λ form. span quoted form (inner_in form rest)) (span_form (last_character before) rest) (single (slice_index (chars rest) 0))

-- the first `n` parts of the rest of a line: a part, and reading goes on after it
abbrev pub parts_from : Bool → ℕ → List ℕ → List ℕ → List Part
parts_from quoted n before [] = []
parts_from quoted zero before (b ∷ bs) = []
parts_from quoted (suc n) before (b ∷ bs) =
    let part = first_part quoted before (b ∷ bs) in
    part ∷ parts_from quoted n (before ++ bytes_of part) (drop (length (bytes_of part)) (b ∷ bs))

-- the parts of a line that may hold spans, from left to right: it has no more parts than bytes
abbrev pub parts_of_line : Bool → List ℕ → List Part
parts_of_line quoted line = parts_from quoted (length line) [] line

-- the parts of a line of this kind
abbrev pub parts_of : Kind → List ℕ → List Part
parts_of fence_edge line = fence_line line ∷ []
parts_of code_line line = fence_line line ∷ []
parts_of quoted_line line = parts_of_line true line
parts_of plain_line line = parts_of_line false line

-- the parts of the line at this place
abbrev pub parts_at : List (List ℕ) → ℕ → List Part
parts_at lines i = parts_of (kind_at lines i) (line_at lines i)

-- the division of a text
unfoldable pub division : List ℕ → List Part
division text = joined (map (parts_at (lines_of text)) (places (lines_of text)))

-- ---- laws of the division

-- parts divide the text exactly where they are its division: there is one, and no other
abbrev pub HasOneDivision : List ℕ → Type 0
HasOneDivision text = (parts : List Part) → IsDivision text parts ↔ (parts ≡ division text)

-- the parts of the division, joined, are the text
abbrev pub IsWhole : List ℕ → Type 0
IsWhole text = flat_map bytes_of (division text) ≡ text

-- of two runs of backquotes alone that are equally long, a line feed stands between
abbrev pub BareRunsDiffer : List Part → Type 0
BareRunsDiffer parts =
    (front between behind : List Part) (n : ℕ) → parts ≡ front ++ (bare n ∷ (between ++ (bare n ∷ behind))) → Contains between (single line_feed)

-- ---- spans

-- the spans among parts of which the first begins at this byte; a span of a quoted line is silent
abbrev pub spans_from : ℕ → List Part → List Span
spans_from start [] = []
spans_from start (fence_line line ∷ parts) = spans_from (start + length line) parts
spans_from start (code n inside ∷ parts) = spans_from (start + length (bytes_of (code n inside))) parts
spans_from start (bare n ∷ parts) = spans_from (start + length (bytes_of (bare n))) parts
spans_from start (span quoted form inner ∷ parts) =
    let end = start + length (bytes_of (span quoted form inner)) in
    record { start = start; end = end; silent = quoted || is_silent form; group = is_group form } ∷ spans_from end parts
spans_from start (single c ∷ parts) = spans_from (start + length (bytes_of (single c))) parts

-- the spans are those of parts that divide the text, in order
pub record AreSpansOf (text : List ℕ) (spans : List Span) : Type 0 where
  pub parts : List Part
  pub divide : IsDivision text parts
  pub are : spans ≡ spans_from 0 parts

-- the spans of a text, in order
abbrev pub spans_of : List ℕ → List Span
spans_of text = spans_from 0 (division text)

-- the number of bytes round the Inner of a span without `_`: `@` with two stars before and two behind, a group's with one and one
abbrev pub marks_of : Span → ℕ
marks_of s = if s.group then 3 else 5

-- the span lies within the text, and is longer than the `@` and the stars round an Inner
pub record LiesWithin (text : List ℕ) (s : Span) : Type 0 where
  pub room : s.start + marks_of s < s.end
  pub end : s.end ≤ length text
