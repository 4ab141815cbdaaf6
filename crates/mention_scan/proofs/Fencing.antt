-- The fence that the scanner carries from line to line, and the fences of the lines of its text.
use Rattle.std.proofs.Common.{◌≡◌, ℕ, zero, suc, ◌+◌, ◌-◌, ◌≤◌, ◌<◌, Bool, true, false, not, ◌&&◌, cond, List, [], ◌∷◌, ◌++◌, length, drop, Option, Some, None, refl, sym, ap, ◌∙◌, subst, arith, get_or, get_or-drop, nat_eq, nat_le, length-drop, ⊎_elim}
use Rattle.std.specs.Prelude.{is_none, if◌then◌else◌}
use Rattle.std.specs.List.{position_or_len}
use Rattle.std.specs.Option.{option_map_or, option_or}
use Rattle.std.proofs.lemmas.Bool.{and_right, cases_lt, not_from_true, not_from_false, true≢false}
use Rattle.std.proofs.lemmas.Bool.Decides.{nat_tests}
use Rattle.std.proofs.lemmas.List.Folds.{find-append}
use Rattle.std.proofs.lemmas.List.Sums.{prefix_len_passes, prefix_len_stops}
use Rattle.mention_scan.specs.declared.fence.Fence.{Fence}
use Rattle.mention_scan.specs.declared.line.Manner.{Manner}
use Rattle.mention_scan.specs.declared.line.Manner.TheVariants.{Fenced, Quoted, Plain}
use Rattle.mention_scan.specs.Fences.{Kind, fence_edge, code_line, quoted_line, plain_line, begins_fence, begins_quoted, closes, end_of_fence, fence_among, fence_around, is_quote, is_run_alone, kind_at, kind_inside, kind_outside, line_at, mark_length, mark_of, openings}

-- ---- what the scanner carries

-- the fence that is open behind a line that is read where this one is open, or none
abbrev pub fence_behind : Option Fence → List ℕ → Option Fence
fence_behind current line =
    option_map_or (λ fence. if is_run_alone fence.character fence.size line then None else Some fence) current
    (if begins_fence line then Some record { character = mark_of line; size = mark_length line; quotes = is_quote line } else None)

-- how a line is read where this fence is open, or none
abbrev pub manner_of : Option Fence → List ℕ → Manner
manner_of current line =
    option_map_or (λ fence. if fence.quotes && not (is_run_alone fence.character fence.size line) then Quoted else Fenced) current
    (if begins_fence line then Fenced else (if begins_quoted line then Quoted else Plain))

-- the fence that is open at line `i` opens at `opening`, which is the last place before `i` at which one opens
pub record Around (lines : List (List ℕ)) (i opening : ℕ) : Type 0 where
  pub earlier : List ℕ
  pub opened : openings lines i ≡ earlier ++ opening ∷ []
  pub ended : fence_among lines earlier i ≡ None
  pub lasts : nat_le i (end_of_fence lines opening) ≡ true
  pub before : opening < i

-- the fence is the one that is open at line `i`
pub record IsOpenAt (lines : List (List ℕ)) (i : ℕ) (fence : Fence) : Type 0 where
  pub opening : ℕ
  pub around : Around lines i opening
  pub character : fence.character ≡ mark_of (line_at lines opening)
  pub size : fence.size ≡ mark_length (line_at lines opening)
  pub quotes : fence.quotes ≡ is_quote (line_at lines opening)

abbrev pub IsCarried : List (List ℕ) → ℕ → Option Fence → Type 0
IsCarried lines i None = fence_around lines i ≡ None
IsCarried lines i (Some fence) = IsOpenAt lines i fence

pub carried-begin : (lines : List (List ℕ)) → IsCarried lines 0 None
carried-begin lines = refl

-- ---- where a fence ends

pub at-get_or : (lines : List (List ℕ)) (i : ℕ) → line_at lines i ≡ get_or lines i []
at-get_or [] i = refl
at-get_or (line ∷ lines) zero = refl
at-get_or (line ∷ lines) (suc i) = at-get_or lines i

-- the line at a place behind the opening one
line-behind : (lines : List (List ℕ)) (opening i j : ℕ) → opening + 1 + j ≡ i → get_or (drop (opening + 1) lines) j [] ≡ line_at lines i
line-behind lines opening i j e = get_or-drop (opening + 1) lines j [] ∙ ap (λ k. get_or lines k []) e ∙ sym (at-get_or lines i)

-- a line that closes a fence that lasts so far ends it
ends-here : (lines : List (List ℕ)) (opening i : ℕ) → opening < i → nat_le i (end_of_fence lines opening) ≡ true → closes (line_at lines opening) (line_at lines i) ≡ true →
    end_of_fence lines opening ≡ i
ends-here lines opening i before lasts closed =
    let behind = drop (opening + 1) lines in
    let far = position_or_len (closes (line_at lines opening)) behind in
    let j = i - (opening + 1) in
    let at : opening + 1 + j ≡ i = omega arith in
    let low : i ≤ opening + 1 + far = grind (arith, nat_tests) in
    ⊎_elim
    (λ less.
    let passed = prefix_len_passes (λ line. not (closes (line_at lines opening) line)) behind j [] less in
    let shut : not (closes (line_at lines opening) (line_at lines i)) ≡ true = subst (λ line. not (closes (line_at lines opening) line) ≡ true) (line-behind lines opening i j at) passed in
    absurd (true≢false (sym shut ∙ not_from_true _ closed)))
    (λ most. omega arith)
    (cases_lt j far)

-- and one that doesn't leaves it open
goes-on : (lines : List (List ℕ)) (opening i : ℕ) → opening < i → i < length lines → nat_le i (end_of_fence lines opening) ≡ true → closes (line_at lines opening) (line_at lines i) ≡ false →
    i < end_of_fence lines opening
goes-on lines opening i before inside lasts unshut =
    let behind = drop (opening + 1) lines in
    let far = position_or_len (closes (line_at lines opening)) behind in
    let j = i - (opening + 1) in
    let at : opening + 1 + j ≡ i = omega arith in
    let low : i ≤ opening + 1 + far = grind (arith, nat_tests) in
    let left : length behind ≡ length lines - (opening + 1) = length-drop (opening + 1) lines in
    ⊎_elim
    (λ less. omega arith)
    (λ most.
    let here : opening + 1 + far ≡ i = omega arith in
    let stops = prefix_len_stops (λ line. not (closes (line_at lines opening) line)) behind [] (omega arith) in
    let shut : not (closes (line_at lines opening) (line_at lines i)) ≡ false = subst (λ line. not (closes (line_at lines opening) line) ≡ false) (line-behind lines opening i far here) stops in
    absurd (true≢false (sym (not_from_false _ unshut) ∙ shut)))
    (cases_lt j far)

-- ---- one line more

-- fences that ended before a line ended before the next one
later-none : (lines : List (List ℕ)) (opened : List ℕ) (i : ℕ) → fence_among lines opened i ≡ None → fence_among lines opened (suc i) ≡ None
later-none lines [] i e = refl
later-none lines (o ∷ os) i e = by (nat_le i (end_of_fence lines o)) refl e (later-none lines os i)
  where
    by : (t : Bool) → nat_le i (end_of_fence lines o) ≡ t → cond t (Some o) (fence_among lines os i) ≡ None → (fence_among lines os i ≡ None → fence_among lines os (suc i) ≡ None) →
        cond (nat_le (suc i) (end_of_fence lines o)) (Some o) (fence_among lines os (suc i)) ≡ None
    by true is h behind = absurd cc
    by false is h behind =
        let less : nat_le (suc i) (end_of_fence lines o) ≡ false = grind (arith, nat_tests) in
        ap (λ t. cond t (Some o) (fence_among lines os (suc i))) less ∙ behind h

-- the openings before the next line
openings-more : (lines : List (List ℕ)) (i : ℕ) (t : Bool) → (begins_fence (line_at lines i) && is_none (fence_around lines i)) ≡ t →
    openings lines (suc i) ≡ cond t (openings lines i ++ i ∷ []) (openings lines i)
openings-more lines i t e = ap (λ b. cond b (openings lines i ++ i ∷ []) (openings lines i)) e

none-and : (b : Bool) (o : Option ℕ) → o ≡ None → (b && is_none o) ≡ b
none-and true o e = ap is_none e
none-and false o e = refl

-- outside fences
outside-more : (lines : List (List ℕ)) (i : ℕ) → fence_around lines i ≡ None → IsCarried lines (suc i) (fence_behind None (line_at lines i))
outside-more lines i e = by (begins_fence (line_at lines i)) refl
  where
    by : (t : Bool) → begins_fence (line_at lines i) ≡ t →
        IsCarried lines (suc i) (cond t (Some record { character = mark_of (line_at lines i); size = mark_length (line_at lines i); quotes = is_quote (line_at lines i) }) None)
    by true is = record {
      opening = i;
      around = record {
        earlier = openings lines i;
        opened = openings-more lines i true (none-and _ (fence_around lines i) e ∙ is);
        ended = later-none lines (openings lines i) i e;
        lasts = grind (arith, nat_tests);
        before = omega arith;
      };
      character = refl;
      size = refl;
      quotes = refl;
    }
    by false is =
        ap (λ os. fence_among lines os (suc i)) (openings-more lines i false (none-and _ (fence_around lines i) e ∙ is)) ∙ later-none lines (openings lines i) i e

-- the fence around a line
around-is : (lines : List (List ℕ)) (i opening : ℕ) → Around lines i opening → fence_around lines i ≡ Some opening
around-is lines i opening a =
    ap (λ os. fence_among lines os i) a.opened
    ∙ find-append (λ o. nat_le i (end_of_fence lines o)) a.earlier (opening ∷ [])
    ∙ ap (λ o. option_or o (fence_among lines (opening ∷ []) i)) a.ended
    ∙ ap (λ t. cond t (Some opening) None) a.lasts

-- in a fence none opens
inside-openings : (lines : List (List ℕ)) (i opening : ℕ) → (a : Around lines i opening) → openings lines (suc i) ≡ a.earlier ++ opening ∷ []
inside-openings lines i opening a =
    openings-more lines i false (and_right _ (is_none (fence_around lines i)) (ap is_none (around-is lines i opening a))) ∙ a.opened

-- what the scanner asks of a line is what closes the fence that is open
shuts : (lines : List (List ℕ)) (i : ℕ) (fence : Fence) (line : List ℕ) → (o : IsOpenAt lines i fence) → is_run_alone fence.character fence.size line ≡ closes (line_at lines o.opening) line
shuts lines i fence line o = ap (λ c. is_run_alone c fence.size line) o.character ∙ ap (λ n. is_run_alone (mark_of (line_at lines o.opening)) n line) o.size

-- in a fence
inside-more : (lines : List (List ℕ)) (i : ℕ) (fence : Fence) → i < length lines → IsOpenAt lines i fence → IsCarried lines (suc i) (fence_behind (Some fence) (line_at lines i))
inside-more lines i fence inside o = by (is_run_alone fence.character fence.size (line_at lines i)) (sym (shuts lines i fence (line_at lines i) o))
  where
    a : Around lines i o.opening
    a = o.around

    by : (t : Bool) → closes (line_at lines o.opening) (line_at lines i) ≡ t → IsCarried lines (suc i) (cond t None (Some fence))
    by true is =
        let end = ends-here lines o.opening i a.before a.lasts is in
        let over : nat_le (suc i) (end_of_fence lines o.opening) ≡ false = grind (arith, nat_tests) in
        ap (λ os. fence_among lines os (suc i)) (inside-openings lines i o.opening a)
        ∙ find-append (λ k. nat_le (suc i) (end_of_fence lines k)) a.earlier (o.opening ∷ [])
        ∙ ap (λ k. option_or k (fence_among lines (o.opening ∷ []) (suc i))) (later-none lines a.earlier i a.ended)
        ∙ ap (λ t. cond t (Some o.opening) None) over
    by false is =
        let later : i < end_of_fence lines o.opening = goes-on lines o.opening i a.before inside a.lasts is in
        record {
          opening = o.opening;
          around = record {
            earlier = a.earlier;
            opened = inside-openings lines i o.opening a;
            ended = later-none lines a.earlier i a.ended;
            lasts = grind (arith, nat_tests);
            before = let low = a.before in omega arith;
          };
          character = o.character;
          size = o.size;
          quotes = o.quotes;
        }

pub carried-more : (lines : List (List ℕ)) (i : ℕ) (current : Option Fence) → i < length lines → IsCarried lines i current → IsCarried lines (suc i) (fence_behind current (line_at lines i))
carried-more lines i None inside e = outside-more lines i e
carried-more lines i (Some fence) inside o = inside-more lines i fence inside o

-- ---- how a line is read

-- how a line of this kind is read
abbrev pub manner_for : Kind → Manner
manner_for fence_edge = Fenced
manner_for code_line = Fenced
manner_for quoted_line = Quoted
manner_for plain_line = Plain

outside-manner : (line : List ℕ) → manner_of None line ≡ manner_for (kind_outside line)
outside-manner line = by (begins_fence line) (begins_quoted line)
  where
    by : (t q : Bool) → cond t Fenced (cond q Quoted Plain) ≡ manner_for (cond t fence_edge (cond q quoted_line plain_line))
    by true q = refl
    by false true = refl
    by false false = refl

inside-manner : (lines : List (List ℕ)) (i : ℕ) (fence : Fence) → i < length lines → IsOpenAt lines i fence →
    manner_of (Some fence) (line_at lines i) ≡ manner_for (kind_at lines i)
inside-manner lines i fence inside o =
    by fence.quotes (is_run_alone fence.character fence.size (line_at lines i)) o.quotes (sym (shuts lines i fence (line_at lines i) o))
    ∙ sym (ap (λ k. manner_for (option_map_or (λ opening. kind_inside lines opening i) k (kind_outside (line_at lines i)))) (around-is lines i o.opening o.around))
  where
    a : Around lines i o.opening
    a = o.around

    at : (t q : Bool) → nat_eq i (end_of_fence lines o.opening) ≡ t → q ≡ is_quote (line_at lines o.opening) → cond (q && not t) Quoted Fenced ≡ manner_for (kind_inside lines o.opening i)
    at true q same word =
        ap (λ b. cond b Quoted Fenced) (and_right q false refl)
        ∙ sym (ap (λ b. manner_for (cond b fence_edge (cond (is_quote (line_at lines o.opening)) quoted_line code_line))) same)
    at false true same word =
        sym (ap (λ b. manner_for (cond b fence_edge (cond (is_quote (line_at lines o.opening)) quoted_line code_line))) same
        ∙ ap (λ b. manner_for (cond b quoted_line code_line)) (sym word))
    at false false same word =
        sym (ap (λ b. manner_for (cond b fence_edge (cond (is_quote (line_at lines o.opening)) quoted_line code_line))) same
        ∙ ap (λ b. manner_for (cond b quoted_line code_line)) (sym word))

    by : (q t : Bool) → q ≡ is_quote (line_at lines o.opening) → closes (line_at lines o.opening) (line_at lines i) ≡ t → cond (q && not t) Quoted Fenced ≡ manner_for (kind_inside lines o.opening i)
    by q true word is =
        let end = ends-here lines o.opening i a.before a.lasts is in
        at true q (grind (arith, nat_tests)) word
    by q false word is =
        let later : i < end_of_fence lines o.opening = goes-on lines o.opening i a.before inside a.lasts is in
        at false q (grind (arith, nat_tests)) word

pub carried-manner : (lines : List (List ℕ)) (i : ℕ) (current : Option Fence) → i < length lines → IsCarried lines i current →
    manner_of current (line_at lines i) ≡ manner_for (kind_at lines i)
carried-manner lines i None inside e =
    outside-manner (line_at lines i)
    ∙ sym (ap (λ k. manner_for (option_map_or (λ opening. kind_inside lines opening i) k (kind_outside (line_at lines i)))) e)
carried-manner lines i (Some fence) inside o = inside-manner lines i fence inside o
