-- How far a reading of a text has come, line by line.
use Rattle.std.proofs.Common.{◌≡◌, ℕ, zero, suc, ◌+◌, ◌-◌, ◌≤◌, ◌<◌, Bool, true, false, not, cond, List, [], ◌∷◌, ◌++◌, length, map, take, drop, Option, None, refl, sym, ap, ◌∙◌, subst, arith, append_assoc, append-nil, length-append, length-drop, length-take, get_or, get_or-drop, ⊎_elim}
use Rattle.std.specs.Prelude.{◌==◌, IsCharBoundary, IsUtf8, flat_map, slice_range}
use Rattle.std.specs.List.{join_with_byte, onto_first, position_or_len, range_with_len}
use Rattle.std.proofs.lemmas.List.{drop-drop, drop_all, drop_more, take_all}
use borrow.Author.Tests.{eqb-true}
use Rattle.std.proofs.lemmas.List.Sums.{prefix_len-le-length, prefix_len_stops}
use Rattle.std.proofs.lemmas.Str.{IsCharBoundary-after_ascii, IsUtf8-drop, IsUtf8-nil, IsUtf8-take, length-encode}
use Rattle.std.proofs.lemmas.Bool.{cases_lt}
use Rattle.std.proofs.lemmas.Grind.{flat_map-append}
use Rattle.std.proofs.lemmas.List.Splits.{join_with_byte-slice_split, slice_split_first}
use Rattle.mention_scan.specs.declared.fence.Fence.{Fence}
use Rattle.mention_scan.specs.declared.line.Manner.{Manner}
use Rattle.mention_scan.specs.declared.line.Manner.TheVariants.{Fenced, Quoted, Plain}
use Rattle.mention_scan.specs.declared.span.Span.{Span}
use Rattle.mention_scan.specs.Fences.{Kind, fence_edge, code_line, quoted_line, plain_line, kind_at, line_at, line_feed, lines_of}
use Rattle.mention_scan.specs.Division.{Part, fence_line, code, bare, span, single, bytes_of, division, joined, parts_at, parts_of, parts_of_line, spans_from, spans_of}
use Rattle.mention_scan.proofs.Fencing.{IsCarried, at-get_or, carried-begin, carried-manner, carried-more, fence_behind, manner_for, manner_of}
use Rattle.mention_scan.proofs.Whole.{line-whole}

-- ---- spans

-- the spans of parts and of those that follow them
pub spans_from-append : (start : ℕ) (ps qs : List Part) → spans_from start (ps ++ qs) ≡ spans_from start ps ++ spans_from (start + length (flat_map bytes_of ps)) qs
spans_from-append start [] qs = let none : start ≡ start + 0 = omega arith in ap (λ k. spans_from k qs) none
spans_from-append start (p ∷ ps) qs = by p (spans_from-append (start + length (bytes_of p)) ps qs)
  where
    place : (q : Part) → (start + length (bytes_of q)) + length (flat_map bytes_of ps) ≡ start + length (bytes_of q ++ flat_map bytes_of ps)
    place q = omega (arith, length-append (bytes_of q) (flat_map bytes_of ps))

    Later : Part → Type 0
    Later q = spans_from (start + length (bytes_of q)) (ps ++ qs) ≡ spans_from (start + length (bytes_of q)) ps ++ spans_from ((start + length (bytes_of q)) + length (flat_map bytes_of ps)) qs

    by : (q : Part) → spans_from (start + length (bytes_of q)) (ps ++ qs) ≡ spans_from (start + length (bytes_of q)) ps ++ spans_from ((start + length (bytes_of q)) + length (flat_map bytes_of ps)) qs →
        spans_from start (q ∷ (ps ++ qs)) ≡ spans_from start (q ∷ ps) ++ spans_from (start + length (bytes_of q ++ flat_map bytes_of ps)) qs
    by (fence_line line) e = e ∙ ap (λ k. spans_from (start + length line) ps ++ spans_from k qs) (place (fence_line line))
    by (code n inside) e = e ∙ ap (λ k. spans_from (start + length (bytes_of (code n inside))) ps ++ spans_from k qs) (place (code n inside))
    by (bare n) e = e ∙ ap (λ k. spans_from (start + length (bytes_of (bare n))) ps ++ spans_from k qs) (place (bare n))
    by (span quoted form inner) e =
        ap (λ xs. spans_from start (span quoted form inner ∷ []) ++ xs) (e ∙ ap (λ k. spans_from (start + length (bytes_of (span quoted form inner))) ps ++ spans_from k qs) (place (span quoted form inner)))
    by (single c) e = e ∙ ap (λ k. spans_from (start + length (bytes_of (single c))) ps ++ spans_from k qs) (place (single c))

-- the parts of a line make up the line, whatever it is
pub kind-whole : (kind : Kind) (line : List ℕ) → IsUtf8 line → flat_map bytes_of (parts_of kind line) ≡ line
kind-whole fence_edge line u = append-nil line
kind-whole code_line line u = append-nil line
kind-whole quoted_line line u = line-whole true line u
kind-whole plain_line line u = line-whole false line u

-- ---- the lines of a text

-- a text has a line at least
pub record IsSomeLines (lines : List (List ℕ)) : Type 0 where
  first : List ℕ
  others : List (List ℕ)
  is : lines ≡ first ∷ others

pub lines-some : (text : List ℕ) → IsSomeLines (lines_of text)
lines-some [] = record { first = []; others = []; is = refl }
lines-some (b ∷ bs) = by (b == line_feed) (lines-some bs)
  where
    by : (t : Bool) → IsSomeLines (lines_of bs) → IsSomeLines (cond t ([] ∷ lines_of bs) (onto_first b (lines_of bs)))
    by true s = record { first = []; others = lines_of bs; is = refl }
    by false s = record { first = b ∷ s.first; others = s.others; is = ap (onto_first b) s.is }

-- a text without a line feed is one line
pub lines-one : (bs : List ℕ) → position_or_len (λ b. b == 10) bs ≡ length bs → lines_of bs ≡ bs ∷ []
lines-one [] e = refl
lines-one (b ∷ bs) e = by (b == 10) (lines-one bs) e
  where
    by : (t : Bool) → (position_or_len (λ b. b == 10) bs ≡ length bs → lines_of bs ≡ bs ∷ []) → cond (not t) (1 + position_or_len (λ b. b == 10) bs) 0 ≡ suc (length bs) →
        cond t ([] ∷ lines_of bs) (onto_first b (lines_of bs)) ≡ (b ∷ bs) ∷ []
    by true later h = absurd (omega arith)
    by false later h = ap (onto_first b) (later (omega arith))

-- a line feed is one byte
line_feed-passes : (start : ℕ) (qs : List Part) → spans_from start (single line_feed ∷ qs) ≡ spans_from (start + 1) qs
line_feed-passes start qs = ap (λ k. spans_from (start + k) qs) (length-encode 10)

-- ---- parts line by line

-- the parts of the lines from this place on
abbrev pub parts_behind : List (List ℕ) → ℕ → List Part
parts_behind lines i = joined (map (parts_at lines) (range_with_len i (length lines - i)))

pub parts_behind-more : (lines : List (List ℕ)) (i : ℕ) → i + 1 < length lines → parts_behind lines i ≡ parts_at lines i ++ single line_feed ∷ parts_behind lines (i + 1)
parts_behind-more lines i more =
    let m = length lines - (i + 2) in
    let here : length lines - i ≡ suc (suc m) = omega arith in
    let next : suc m ≡ length lines - (i + 1) = omega arith in
    ap (λ n. joined (map (parts_at lines) (range_with_len i n))) here
    ∙ ap (λ n. parts_at lines i ++ single line_feed ∷ joined (map (parts_at lines) (range_with_len (i + 1) n))) next

pub parts_behind-last : (lines : List (List ℕ)) (i : ℕ) → i + 1 ≡ length lines → parts_behind lines i ≡ parts_at lines i
parts_behind-last lines i last =
    let here : length lines - i ≡ suc zero = omega arith in
    ap (λ n. joined (map (parts_at lines) (range_with_len i n))) here

-- ---- readings

-- the lines from the place `i` on stand in the bytes from `start` on and are still to be read, and what was found goes before
-- what they hold
pub record LinesRead (text rest : List ℕ) (start i : ℕ) (found : List Span) : Type 0 where
  pub place : start + length rest ≡ length text
  pub lines : drop i (lines_of text) ≡ lines_of rest
  pub read : spans_of text ≡ found ++ spans_from start (parts_behind (lines_of text) i)

pub LinesRead-begin : (text : List ℕ) → LinesRead text text 0 0 []
unfolding division
LinesRead-begin text =
    let lines = lines_of text in
    let all : length lines ≡ length lines - 0 = omega arith in
    record { place = omega arith; lines = refl; read = ap (λ n. spans_from 0 (joined (map (parts_at lines) (range_with_len 0 n)))) all }

-- a line is left
pub LinesRead-inside : (text rest : List ℕ) (start i : ℕ) (found : List Span) → LinesRead text rest start i found → i < length (lines_of text)
LinesRead-inside text rest start i found r =
    let some = lines-some rest in
    let left : length (drop i (lines_of text)) ≡ suc (length some.others) = ap length (r.lines ∙ some.is) in
    omega (arith, left, length-drop i (lines_of text))

-- the line that is read
pub LinesRead-line_at : (text rest line : List ℕ) (others : List (List ℕ)) (start i : ℕ) (found : List Span) → LinesRead text rest start i found → lines_of rest ≡ line ∷ others →
    line_at (lines_of text) i ≡ line
LinesRead-line_at text rest line others start i found r e =
    let at : i + 0 ≡ i = omega arith in
    at-get_or (lines_of text) i ∙ ap (λ k. get_or (lines_of text) k []) (sym at) ∙ sym (get_or-drop i (lines_of text) 0 []) ∙ ap (λ ls. get_or ls 0 []) (r.lines ∙ e)

-- of a text up to its first line feed
pub first-line : (rest : List ℕ) (n : ℕ) → n ≡ position_or_len (λ b. b == 10) rest → n < length rest → lines_of rest ≡ take n rest ∷ lines_of (drop (n + 1) rest)
first-line rest n first more =
    slice_split_first (λ b. b == 10) rest 0 (omega (arith, first, more)) ∙ ap (λ k. take k rest ∷ lines_of (drop (k + 1) rest)) (sym first)

pub last-line : (rest : List ℕ) (n : ℕ) → n ≡ position_or_len (λ b. b == 10) rest → n ≡ length rest → lines_of rest ≡ take n rest ∷ []
last-line rest n first all = lines-one rest (sym first ∙ all) ∙ ap (λ l. l ∷ []) (sym (take_all n rest (omega arith)))

-- the last line
pub LinesRead-end : (text rest : List ℕ) (start i n : ℕ) (found : List Span) → LinesRead text rest start i found →
    n ≡ position_or_len (λ b. b == 10) rest → n ≡ length rest → found ++ spans_from start (parts_at (lines_of text) i) ≡ spans_of text
LinesRead-end text rest start i n found r first all =
    let inside = LinesRead-inside text rest start i found r in
    let left : length (drop i (lines_of text)) ≡ 1 = ap length (r.lines ∙ last-line rest n first all) in
    let last : i + 1 ≡ length (lines_of text) = omega (arith, left, length-drop i (lines_of text)) in
    sym (r.read ∙ ap (λ ps. found ++ spans_from start ps) (parts_behind-last (lines_of text) i last))

-- a line that a line feed ends
pub LinesRead-line : (text rest : List ℕ) (start i n : ℕ) (found : List Span) → LinesRead text rest start i found →
    n ≡ position_or_len (λ b. b == 10) rest → n < length rest → IsUtf8 (take n rest) →
    LinesRead text (drop (n + 1) rest) (start + (n + 1)) (i + 1) (found ++ spans_from start (parts_at (lines_of text) i))
LinesRead-line text rest start i n found r first more u =
    let lines = lines_of text in
    let after = drop (n + 1) rest in
    let some = lines-some after in
    let split : drop i lines ≡ take n rest ∷ lines_of after = r.lines ∙ first-line rest n first more in
    let left : length (drop i lines) ≡ suc (suc (length some.others)) = ap length (split ∙ ap (λ ls. take n rest ∷ ls) some.is) in
    let next_inside : i + 1 < length lines = omega (arith, left, length-drop i lines) in
    let line : line_at lines i ≡ take n rest = LinesRead-line_at text rest (take n rest) (lines_of after) start i found r (first-line rest n first more) in
    let parts = parts_at lines i in
    let later = parts_behind lines (i + 1) in
    let size : length (take n rest) ≡ n = omega (arith, length-take n rest) in
    let whole : length (flat_map bytes_of parts) ≡ n =
    ap length (kind-whole (kind_at lines i) (line_at lines i) (subst IsUtf8 (sym line) u)) ∙ ap length line ∙ size in
    let next : (start + n) + 1 ≡ start + (n + 1) = omega arith in
    record {
      place = omega (arith, r.place, length-drop (n + 1) rest);
      lines = sym (drop-drop 1 i lines) ∙ ap (drop 1) split;
      read = r.read ∙ ap (λ ps. found ++ spans_from start ps) (parts_behind-more lines i next_inside)
          ∙ ap (λ xs. found ++ xs) (spans_from-append start parts (single line_feed ∷ later)
          ∙ ap (λ xs. spans_from start parts ++ xs) (line_feed-passes (start + length (flat_map bytes_of parts)) later)
          ∙ ap (λ k. spans_from start parts ++ spans_from ((start + k) + 1) later) whole
          ∙ ap (λ k. spans_from start parts ++ spans_from k later) next)
          ∙ sym (append_assoc found (spans_from start parts) (spans_from (start + (n + 1)) later));
    }

-- the same, where this fence is open
pub record LinesScanned (text rest : List ℕ) (start : ℕ) (fence : Option Fence) (found : List Span) : Type 0 where
  pub i : ℕ
  pub lines : LinesRead text rest start i found
  pub carried : IsCarried (lines_of text) i fence

pub LinesScanned-begin : (text : List ℕ) → LinesScanned text text 0 None []
LinesScanned-begin text = record { i = 0; lines = LinesRead-begin text; carried = carried-begin (lines_of text) }

-- what a line holds, by the manner in which it is read
pub record IsScanned (manner : Manner) (line : List ℕ) (start : ℕ) (old new : List Span) : Type 0 where
  pub fenced : manner ≡ Fenced → new ≡ old
  pub quoted : manner ≡ Quoted → new ≡ old ++ spans_from start (parts_of_line true line)
  pub plain : manner ≡ Plain → new ≡ old ++ spans_from start (parts_of_line false line)

kind-scanned : (kind : Kind) (line : List ℕ) (start : ℕ) (old new : List Span) → IsScanned (manner_for kind) line start old new → new ≡ old ++ spans_from start (parts_of kind line)
kind-scanned fence_edge line start old new s = s.fenced refl ∙ sym (append-nil old)
kind-scanned code_line line start old new s = s.fenced refl ∙ sym (append-nil old)
kind-scanned quoted_line line start old new s = s.quoted refl
kind-scanned plain_line line start old new s = s.plain refl

line-scanned : (text rest line : List ℕ) (others : List (List ℕ)) (start : ℕ) (fence : Option Fence) (found new : List Span) → (r : LinesScanned text rest start fence found) → lines_of rest ≡ line ∷ others →
    IsScanned (manner_of fence line) line start found new → new ≡ found ++ spans_from start (parts_at (lines_of text) r.i)
line-scanned text rest line others start fence found new r e s =
    let lines = lines_of text in
    let at : line_at lines r.i ≡ line = LinesRead-line_at text rest line others start r.i found r.lines e in
    let inside = LinesRead-inside text rest start r.i found r.lines in
    let here : IsScanned (manner_of fence (line_at lines r.i)) (line_at lines r.i) start found new = subst (λ l. IsScanned (manner_of fence l) l start found new) (sym at) s in
    kind-scanned (kind_at lines r.i) (line_at lines r.i) start found new
    (subst (λ m. IsScanned m (line_at lines r.i) start found new) (carried-manner lines r.i fence inside r.carried) here)

pub LinesScanned-end : (text rest : List ℕ) (start n : ℕ) (fence : Option Fence) (found new : List Span) → LinesScanned text rest start fence found →
    n ≡ position_or_len (λ b. b == 10) rest → n ≡ length rest → IsScanned (manner_of fence (take n rest)) (take n rest) start found new → new ≡ spans_of text
LinesScanned-end text rest start n fence found new r first all s =
    line-scanned text rest (take n rest) [] start fence found new r (last-line rest n first all) s ∙ LinesRead-end text rest start r.i n found r.lines first all

pub LinesScanned-line : (text rest : List ℕ) (start n : ℕ) (fence : Option Fence) (found new : List Span) → LinesScanned text rest start fence found →
    n ≡ position_or_len (λ b. b == 10) rest → n < length rest → IsUtf8 (take n rest) → IsScanned (manner_of fence (take n rest)) (take n rest) start found new →
    LinesScanned text (drop (n + 1) rest) (start + (n + 1)) (fence_behind fence (take n rest)) new
LinesScanned-line text rest start n fence found new r first more u s =
    let lines = lines_of text in
    let split = first-line rest n first more in
    let at : line_at lines r.i ≡ take n rest = LinesRead-line_at text rest (take n rest) (lines_of (drop (n + 1) rest)) start r.i found r.lines split in
    let inside = LinesRead-inside text rest start r.i found r.lines in
    let one_more : suc r.i ≡ r.i + 1 = omega arith in
    record {
      i = r.i + 1;
      lines = subst (LinesRead text (drop (n + 1) rest) (start + (n + 1)) (r.i + 1)) (sym (line-scanned text rest (take n rest) (lines_of (drop (n + 1) rest)) start fence found new r split s)) (LinesRead-line text rest start r.i n found r.lines first more u);
      carried = subst (λ k. IsCarried lines k (fence_behind fence (take n rest))) one_more (subst (λ l. IsCarried lines (suc r.i) (fence_behind fence l)) at (carried-more lines r.i fence inside r.carried));
    }

-- a byte below 128 begins a character
ascii-begins : (bs : List ℕ) (n : ℕ) → n ≤ length bs → (n < length bs → get_or bs n 0 ≡ 10) → IsCharBoundary bs n
ascii-begins bs n within is = (within, λ inside high. let feed = is inside in absurd (omega arith))

-- the line feed at which a line ends
feed-at : (bs : List ℕ) (n : ℕ) → n ≡ position_or_len (λ b. b == 10) bs → n < length bs → get_or bs n 0 ≡ 10
feed-at bs n e inside =
    let stops = prefix_len_stops (λ b. not (b == 10)) bs 0 (subst (λ k. k < length bs) e inside) in
    let same : (get_or bs (position_or_len (λ b. b == 10) bs) 0 == 10) ≡ true = not-false _ stops in
    subst (λ k. get_or bs k 0 ≡ 10) (sym e) (eqb-true _ _ same)
  where
    not-false : (t : Bool) → not t ≡ false → t ≡ true
    not-false true h = refl
    not-false false h = sym h

pub line_feed-boundary : (bs : List ℕ) (n : ℕ) → n ≡ position_or_len (λ b. b == 10) bs → IsCharBoundary bs n
line_feed-boundary bs n e =
    let bound : position_or_len (λ b. b == 10) bs ≤ length bs = prefix_len-le-length (λ b. not (b == 10)) bs in
    ascii-begins bs n (omega arith) (feed-at bs n e)

pub behind-boundary : (bs : List ℕ) (n : ℕ) → IsUtf8 bs → n ≡ position_or_len (λ b. b == 10) bs → n < length bs → IsCharBoundary bs (n + 1)
behind-boundary bs n u e inside = IsCharBoundary-after_ascii bs n u inside (omega (arith, feed-at bs n e inside))

pub front-range : (bs : List ℕ) (n : ℕ) → slice_range bs 0 n ≡ take n bs
front-range bs n = let all : n - 0 ≡ n = omega arith in ap (λ k. take k bs) all

-- ---- the whole text

-- each line of a text is a text
lines-text : (m : ℕ) (text : List ℕ) (i : ℕ) → length text < m → IsUtf8 text → IsUtf8 (line_at (lines_of text) i)
lines-text zero text i enough u = absurd (omega arith)
lines-text (suc m) text i enough u =
    let n = position_or_len (λ b. b == 10) text in
    let bound : n ≤ length text = prefix_len-le-length (λ b. not (b == 10)) text in
    ⊎_elim
    (λ inside.
    let left : length (drop (n + 1) text) ≡ length text - (n + 1) = length-drop (n + 1) text in
    subst (λ ls. IsUtf8 (line_at ls i)) (sym (first-line text n refl inside))
    (here-or (take n text) (lines_of (drop (n + 1) text)) i (IsUtf8-take text n u (line_feed-boundary text n refl))
    (λ j. lines-text m (drop (n + 1) text) j (omega arith) (IsUtf8-drop text (n + 1) u (behind-boundary text n u refl inside)))))
    (λ all. subst (λ ls. IsUtf8 (line_at ls i)) (sym (lines-one text (omega arith))) (here-or text [] i u (λ j. IsUtf8-nil)))
    (cases_lt n (length text))
  where
    here-or : (line : List ℕ) (others : List (List ℕ)) (k : ℕ) → IsUtf8 line → ((j : ℕ) → IsUtf8 (line_at others j)) → IsUtf8 (line_at (line ∷ others) k)
    here-or line others zero here behind = here
    here-or line others (suc k) here behind = behind k

pub line-text : (text : List ℕ) (i : ℕ) → IsUtf8 text → IsUtf8 (line_at (lines_of text) i)
line-text text i u = lines-text (length text + 1) text i (omega arith) u

-- the parts of the lines from a place on make up these lines, with line feeds between them
behind-whole : (lines : List (List ℕ)) → ((i : ℕ) → IsUtf8 (line_at lines i)) → (n i : ℕ) → i + n ≡ length lines →
    flat_map bytes_of (joined (map (parts_at lines) (range_with_len i n))) ≡ join_with_byte 10 (drop i lines)
unfolding lib.Utf8.encode
behind-whole lines u zero i e = ap (join_with_byte 10) (sym (drop_all i lines (omega arith)))
behind-whole lines u (suc zero) i e =
    let after : length (drop (i + 1) lines) ≡ 0 = omega (arith, length-drop (i + 1) lines) in
    kind-whole (kind_at lines i) (line_at lines i) (u i)
    ∙ ap (join_with_byte 10) (sym (drop_more lines i [] (omega arith) ∙ ap (λ l. l ∷ drop (i + 1) lines) (sym (at-get_or lines i)) ∙ ap (λ ls. line_at lines i ∷ ls) (drop_all (i + 1) lines (omega arith))))
behind-whole lines u (suc (suc n)) i e =
    let rest = joined (map (parts_at lines) (range_with_len (i + 1) (suc n))) in
    let next : drop (i + 1) lines ≡ get_or lines (i + 1) [] ∷ drop (i + 1 + 1) lines = drop_more lines (i + 1) [] (omega arith) in
    flat_map-append bytes_of (parts_at lines i) (single line_feed ∷ rest)
    ∙ ap (λ xs. xs ++ (10 ∷ flat_map bytes_of rest)) (kind-whole (kind_at lines i) (line_at lines i) (u i))
    ∙ ap (λ xs. line_at lines i ++ (10 ∷ xs)) (behind-whole lines u (suc n) (i + 1) (omega arith) ∙ ap (join_with_byte 10) next)
    ∙ sym (ap (join_with_byte 10) (drop_more lines i [] (omega arith) ∙ ap (λ l. l ∷ drop (i + 1) lines) (sym (at-get_or lines i)) ∙ ap (λ ls. line_at lines i ∷ ls) next))

pub division-whole : (text : List ℕ) → IsUtf8 text → flat_map bytes_of (division text) ≡ text
unfolding division
division-whole text u =
    behind-whole (lines_of text) (λ i. line-text text i u) (length (lines_of text)) 0 (omega arith) ∙ join_with_byte-slice_split 10 text
