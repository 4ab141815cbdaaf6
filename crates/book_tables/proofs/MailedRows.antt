-- What a user's batch rows are to a mail turn: each is found among the notices that wait, and what nothing bars is mailed.
use Rattle.std.proofs.Common.{◌≡◌, ℕ, ◌+◌, ◌++◌, ◌<◌, ◌≤◌, Bool, true, false, ◌&&◌, ◌∷◌, [], cond, List, Some, None, length, map, take, get_or, refl, sym, ap, ◌∙◌, subst, arith, length-append}
use Rattle.std.specs.Prelude.{Option, IfSome, IsPermutation, filter, is_some, is_none, if◌then◌else◌}
use Rattle.std.specs.List.{AllByRecursion}
use Rattle.std.proofs.lemmas.Bool.{eq-eqb}
use Rattle.std.proofs.lemmas.List.{append-nil, take_all, length-map}
use Rattle.std.proofs.lemmas.List.Elements.{filter-append}
use Rattle.chat_model.specs.declared.event.Stamped.{Stamped}
use Rattle.chat_model.specs.declared.ids.MessageId.{MessageId}
use Rattle.chat_model.specs.declared.ids.UserId.{UserId}
use Rattle.chat_model.specs.declared.row.Cause.{Cause}
use Rattle.mail_batches.specs.Batches.{rows_of}
use Rattle.notice_ledger.specs.Past.Owed.{Notice, bar, cause_of_bar}
use Rattle.notice_ledger.specs.Past.Due.{batch_rows}
use Rattle.notice_ledger.specs.Past.Outbox.{mailed}
use Rattle.notice_ledger.proofs.Standing.{unbarred-cause}
use Rattle.book_tables.specs.declared.tables.Tables.{Tables}
use Rattle.book_tables.specs.declared.tables.Waiting.{Waiting}
use Rattle.book_tables.specs.Notices.{is_barred, is_batch_row, IsInOrder, AreNumbered}
use Rattle.book_tables.specs.Tables.{Holds, notice_kept}
use Rattle.book_tables.proofs.Following.{IsRow, in_rows, each-row}
use Rattle.book_tables.proofs.Numbered.{if_gotten}
use Rattle.book_tables.proofs.Ordered.{in_order, numbered_so}
use Rattle.book_tables.proofs.Permuted.{filter-moved}
use Rattle.book_tables.proofs.Sought.{got, gets, has-so}
use Rattle.book_tables.proofs.Steps.{IsMadeOf, at_mapped}

-- nothing bars the notice
abbrev pub is_free : List Stamped → Notice → Bool
is_free past n = is_none (bar past n)

-- what a search answers for each row of the user's message among those that wait
abbrev pub IsAnswer : UserId → MessageId → List Waiting → Option Waiting → Type 0
IsAnswer u m ws found = AllByRecursion (λ w. is_batch_row u m w ≡ true → found ≡ (if is_barred w then None else Some w)) ws

-- the batch row of which a message at a place of the user's rows is
pub record Found (t : Tables) (past : List Stamped) (h : Holds t past) (u : UserId) (i : ℕ) (m : MessageId) : Type 0 where
  pub made : IsMadeOf (λ (n : Notice). n.number) (in_rows t past h u).of i m
  pub row : IsRow past t.waiting.items u made.from
  pub passes : is_batch_row u m (notice_kept past made.from) ≡ true

-- the message at a place stands there
stands : (ms : List MessageId) (i : ℕ) (d : MessageId) → i < length ms → let m = get_or ms i d in m ≡ get_or ms i m
stands ms i d lt = sym (got ms i (get_or ms i d) (get_or ms i d) (gets ms i d lt))

module _ (t : Tables) (past : List Stamped) (h : Holds t past) (u : UserId) (ms : List MessageId) (same : ms ≡ rows_of t.batches u) where
  pub found : (i : ℕ) (d : MessageId) → i < length ms → Found t past h u i (get_or ms i d)
  found i d lt =
      let m = get_or ms i d in
      let own = in_rows t past h u in
      let made = at_mapped (λ (n : Notice). n.number) ms own.of i m (same ∙ own.is) lt (stands ms i d lt) in
      let row = subst (λ (o : Option Notice). IfSome o (IsRow past t.waiting.items u)) made.at (if_gotten (IsRow past t.waiting.items u) i own.of (each-row t past h u)) in
      record {
        made = made;
        row = row;
        passes = (λ k. row.ready_mail k && eq-eqb made.from.number.0 m.0 (ap (λ (q : MessageId). q.0) (sym made.is)) k);
      }

  -- the search answers it where nothing bars it
  pub answered : (i : ℕ) (m : MessageId) (f : Found t past h u i m) (answer : Option Waiting) → (IsInOrder t.waiting.items → AreNumbered t.waiting.items → IsAnswer u m t.waiting.items answer)
      → answer ≡ (if is_free past f.made.from then Some (notice_kept past f.made.from) else None)
  answered i m f answer sought =
      let n = f.made.from in let v = notice_kept past n in
      has-so (λ w. is_batch_row u m w ≡ true → answer ≡ (if is_barred w then None else Some w)) t.waiting.items v (sought (in_order t past h) (numbered_so t past h)) f.row.waits f.passes
      ∙ (by (cause_of_bar past n) v ∙ ap (λ b. if b then Some v else None) (sym (unbarred-cause past n)))
    where
      by : (c : Option Cause) (v : Waiting) → (if is_some c then None else Some v) ≡ (if is_none c then Some v else None)
      by None v = refl
      by (Some c) v = refl

  -- those of the first rows that nothing bars
  abbrev pub free_rows : ℕ → List Notice
  free_rows i = filter (is_free past) (take i (in_rows t past h u).of)

  pub free_rows-next : (i : ℕ) (m : MessageId) (f : Found t past h u i m) → free_rows (i + 1) ≡ free_rows i ++ (if is_free past f.made.from then f.made.from ∷ [] else [])
  free_rows-next i m f = ap (filter (is_free past)) f.made.next ∙ filter-append (is_free past) (take i (in_rows t past h u).of) (f.made.from ∷ [])

  -- all of them are what a mail turn hands over
  pub free_rows-all : (i : ℕ) → length ms ≤ i → IsPermutation (mailed past u) (free_rows i)
  free_rows-all i le =
      let own = in_rows t past h u in
      let long : length own.of ≤ i = omega (arith, ap length (same ∙ own.is), length-map own.of (λ (n : Notice). n.number)) in
      subst (λ ns. IsPermutation (mailed past u) (filter (is_free past) ns)) (sym (take_all i own.of long)) (filter-moved (is_free past) (batch_rows past u) own.of own.moved)
