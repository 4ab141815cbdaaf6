-- The fences of a text, each between two places in the list of its lines, and what each line is. A text is the list of its UTF-8 bytes.
use Rattle.std.specs.Prelude.{ℕ, zero, suc, ◌+◌, ◌-◌, Bool, ◌&&◌, ◌||◌, ◌==◌, List, [], ◌∷◌, ◌++◌, length, take, drop, Option, is_none, unwrap_or, codes, slice_get, slice_index, nat_eq, nat_le, if◌then◌else◌}
use Rattle.std.specs.List.{find, list_all, position_or_len, prefix_len, suffix_len, slice_split, starts_with}
use Rattle.std.specs.Option.{option_map_or}
use Rattle.std.specs.Str.{byte, bytes_eq}

-- ---- lines

-- the byte at which the lines of a text are split
abbrev pub line_feed : ℕ
line_feed = 10

-- the lines of a text: it is split at its line feeds
abbrev pub lines_of : List ℕ → List (List ℕ)
lines_of text = slice_split (λ b. b == line_feed) text

-- the line at this place
abbrev pub line_at : List (List ℕ) → ℕ → List ℕ
line_at lines i = unwrap_or (slice_get lines i) []

-- the first character of the line is `>`
abbrev pub begins_quoted : List ℕ → Bool
begins_quoted line = starts_with nat_eq line (codes ">")

-- ---- what opens a fence, and what closes it

-- how often the character stands at the beginning of the bytes
abbrev pub run_of : ℕ → List ℕ → ℕ
run_of character bs = prefix_len (λ b. b == character) bs

-- nothing but spaces
abbrev pub has_only_spaces : List ℕ → Bool
has_only_spaces bs = list_all (λ b. b == byte " ") bs

-- bytes without the spaces at their ends
abbrev pub without_outer_spaces : List ℕ → List ℕ
without_outer_spaces bs =
    let behind = drop (run_of (byte " ") bs) bs in
    take (length behind - suffix_len (λ b. b == byte " ") behind) behind

-- the line begins with a run of three or more backquotes or tildes
abbrev pub begins_fence : List ℕ → Bool
begins_fence line = nat_le 3 (run_of (byte "`") line) || nat_le 3 (run_of (byte "~") line)

-- the character of the run with which such a line begins: its first
abbrev pub mark_of : List ℕ → ℕ
mark_of line = slice_index line 0

-- how long the run is, as long as it can be
abbrev pub mark_length : List ℕ → ℕ
mark_length line = run_of (mark_of line) line

-- the word of such a line, which is what follows the run without the spaces at its ends, is `quote`
abbrev pub is_quote : List ℕ → Bool
is_quote line = bytes_eq (without_outer_spaces (drop (mark_length line) line)) (codes "quote")

-- the line is a run of at least so many of the character, followed only by spaces
abbrev pub is_run_alone : ℕ → ℕ → List ℕ → Bool
is_run_alone character least line =
    nat_le least (run_of character line) && has_only_spaces (drop (run_of character line) line)

-- the line closes a fence that the other one opens: it is a run of at least as many of the same character, followed only by spaces
abbrev pub closes : List ℕ → List ℕ → Bool
closes opening line = is_run_alone (mark_of opening) (mark_length opening) line

-- ---- fences

-- the place where a fence ends that opens at this one: the first later line that closes it, else the end of the text
abbrev pub end_of_fence : List (List ℕ) → ℕ → ℕ
end_of_fence lines opening =
    opening + 1 + position_or_len (closes (line_at lines opening)) (drop (opening + 1) lines)

-- of fences that open at these earlier places, the one in which this line lies: it doesn't end before the line
abbrev pub fence_among : List (List ℕ) → List ℕ → ℕ → Option ℕ
fence_among lines openings i = find (λ opening. nat_le i (end_of_fence lines opening)) openings

-- at which of the first `n` lines a fence opens: at each that isn't inside a fence and begins with a fence's run
abbrev pub openings : List (List ℕ) → ℕ → List ℕ
openings lines zero = []
openings lines (suc n) =
    let earlier = openings lines n in
    if begins_fence (line_at lines n) && is_none (fence_among lines earlier n) then earlier ++ n ∷ [] else earlier

-- where the fence opens in which this line lies behind the opening line, if it lies in one
abbrev pub fence_around : List (List ℕ) → ℕ → Option ℕ
fence_around lines i = fence_among lines (openings lines i) i

-- ---- what a line is

-- a line opens or closes a fence, is a line of a code fence, is a quoted line, or is a plain line
pub data Kind : Type 0 where
  fence_edge : Kind
  code_line : Kind
  quoted_line : Kind
  plain_line : Kind

-- what a line is that isn't inside a fence
abbrev pub kind_outside : List ℕ → Kind
kind_outside line = if begins_fence line then fence_edge else (if begins_quoted line then quoted_line else plain_line)

-- what a line is that lies in the fence that opens at this place
abbrev pub kind_inside : List (List ℕ) → ℕ → ℕ → Kind
kind_inside lines opening i =
    if i == end_of_fence lines opening then fence_edge
    else (if is_quote (line_at lines opening) then quoted_line else code_line)

-- what the line at this place is
abbrev pub kind_at : List (List ℕ) → ℕ → Kind
kind_at lines i =
    option_map_or (λ opening. kind_inside lines opening i) (fence_around lines i) (kind_outside (line_at lines i))
