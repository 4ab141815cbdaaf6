-- The rows of messages, by number and event by event.
use Rattle.std.proofs.Common.{◌≡◌, ℕ, zero, suc, ◌+◌, ◌<◌, Bool, true, false, ◌||◌, ◌==◌, cond, List, [], ◌∷◌, ◌++◌, length, refl, sym, ap, ◌∙◌, arith}
use Rattle.std.specs.Prelude.{Option, Some, None, option_map, slice_get}
use Rattle.std.specs.Option.{option_or}
use Rattle.std.specs.Ordering.{is_eq}
use Rattle.std.proofs.Math.Bool.{or-false}
use Rattle.std.proofs.lemmas.Bool.{eq-eqb, ne_eqb}
use Rattle.chat_model.specs.declared.event.Stamped.{Stamped}
use Rattle.chat_model.specs.declared.event.Event.TheVariants.{Asked}
use Rattle.chat_model.specs.declared.ids.UserId.{UserId}
use Rattle.chat_model.specs.declared.ids.MessageId.{MessageId}
use Rattle.chat_model.specs.declared.request.Request.TheVariants.{Delete}
use Rattle.chat_model.specs.declared.row.Row.{Row}
use Rattle.chat_model.specs.declared.row.Row.TheVariants as row
use Rattle.chat_model.specs.declared.row.RowKey.{RowKey}
use Rattle.chat_model.specs.declared.row.RowKey.TheVariants as key
use Rattle.chat_model.specs.Rows.{key_cmp, row_at}
use Rattle.chat_model.proofs.Keys.{same_key, key_cmp_itself}
use Rattle.notice_ledger.specs.Past.Journal.{occurrence}
use Rattle.notice_ledger.specs.Past.Values.{SentMessage, message, message_of, numbered, messages, deletes, is_deleted}
use Rattle.notice_ledger.specs.Past.Rows.{message_rows_from}
use Rattle.notice_ledger.proofs.Appended.{is_deleted-append, message-append}
use Rattle.notice_ledger.proofs.RowKeys.{equal_from}
use Rattle.notice_ledger.proofs.Same.{same_message}

-- the row of a message
abbrev pub row_of : List Stamped → MessageId → SentMessage → Row
row_of j k m = row.Message k m.sender m.text (is_deleted j k)

-- the row of the message of a number, where there is one
abbrev pub message_row : List Stamped → MessageId → Option Row
message_row j k = option_map (row_of j k) (message j k)

-- two keys of messages are one exactly where they are of one number
pub message_key : (a b : MessageId) → is_eq (key_cmp (key.Message a) (key.Message b)) ≡ (a.0 == b.0)
message_key a b = by (a.0 == b.0) refl (is_eq (key_cmp (key.Message a) (key.Message b))) refl
  where
    number_of : RowKey → ℕ
    number_of (key.Message m) = m.0
    number_of _ = 0

    by : (x : Bool) → (a.0 == b.0) ≡ x → (y : Bool) → is_eq (key_cmp (key.Message a) (key.Message b)) ≡ y → y ≡ x
    by true e y h = sym h ∙ ((λ i. is_eq (key_cmp (key.Message (same_message a b e i)) (key.Message b))) ∙ ap is_eq (key_cmp_itself (key.Message b)))
    by false e false h = refl
    by false e true h = sym (eq-eqb a.0 b.0 (ap number_of (same_key (key.Message a) (key.Message b) (equal_from (key_cmp (key.Message a) (key.Message b)) h)))) ∙ e

-- no row stands below the first number
none_below : (j : List Stamped) (k : MessageId) (n : ℕ) (ms : List SentMessage) → k.0 < n → row_at (key.Message k) (message_rows_from j n ms) ≡ None
none_below j k n [] low = refl
none_below j k n (m ∷ ms) low =
    ap (λ b. cond b (Some (row_of j (record { 0 = n }) m)) (row_at (key.Message k) (message_rows_from j (n + 1) ms))) (message_key (record { 0 = n }) k ∙ ne_eqb n k.0 (λ e. omega (arith, e, low)))
    ∙ none_below j k (n + 1) ms (omega (arith, low))

at_place : (j : List Stamped) (k : MessageId) (n i : ℕ) (ms : List SentMessage) → k.0 ≡ n + i → row_at (key.Message k) (message_rows_from j n ms) ≡ option_map (row_of j k) (slice_get ms i)
at_place j k n i [] e = refl
at_place j k n zero (m ∷ ms) e =
    let same : n ≡ k.0 = omega (arith, e) in
    ap (λ b. cond b (Some (row_of j (record { 0 = n }) m)) (row_at (key.Message k) (message_rows_from j (n + 1) ms))) (message_key (record { 0 = n }) k ∙ eq-eqb n k.0 same)
    ∙ ap (λ (x : MessageId). Some (row_of j x m)) (same_message (record { 0 = n }) k (eq-eqb n k.0 same))
at_place j k n (suc i) (m ∷ ms) e =
    ap (λ b. cond b (Some (row_of j (record { 0 = n }) m)) (row_at (key.Message k) (message_rows_from j (n + 1) ms))) (message_key (record { 0 = n }) k ∙ ne_eqb n k.0 (λ f. omega (arith, e, f)))
    ∙ at_place j k (n + 1) i ms (omega (arith, e))

-- what stands at the key of a number
pub message_row-at : (j : List Stamped) (k : MessageId) → row_at (key.Message k) (message_rows_from j 1 (messages j)) ≡ message_row j k
message_row-at j k = by k.0 refl
  where
    by : (n : ℕ) → k.0 ≡ n → row_at (key.Message k) (message_rows_from j 1 (messages j)) ≡ message_row j k
    by zero e = none_below j k 1 (messages j) (omega (arith, e)) ∙ ap (λ n. option_map (row_of j k) (numbered n (messages j))) (sym e)
    by (suc n) e = at_place j k 1 n (messages j) (omega (arith, e)) ∙ ap (λ n. option_map (row_of j k) (numbered n (messages j))) (sym e)

-- ---- one more event

-- nothing sent is no further message
none_sent : (b : Bool) → cond {A = Option SentMessage} b None None ≡ None
none_sent true = refl
none_sent false = refl

-- an event that sends and deletes nothing leaves the rows
pub message_row-same : (j : List Stamped) (s : Stamped) (k : MessageId) → message_of (occurrence j s) ≡ None → deletes k s.event ≡ false → message_row (j ++ s ∷ []) k ≡ message_row j k
message_row-same j s k unsent kept =
    (λ i. option_map (λ m. row.Message k m.sender m.text ((is_deleted-append j s k ∙ (ap (λ b. is_deleted j k || b) kept ∙ or-false (is_deleted j k))) i)) ((message-append j s k ∙ ap (λ o. option_or (message j k) (cond (k.0 == length (messages j) + 1) o None)) unsent) i))
    ∙ by (message j k) (k.0 == length (messages j) + 1)
  where
    by : (o : Option SentMessage) (b : Bool) → option_map (row_of j k) (option_or o (cond b None None)) ≡ option_map (row_of j k) o
    by None b = ap (option_map (row_of j k)) (none_sent b)
    by (Some m) b = refl

-- a send adds the row of its message, which isn't deleted
pub message_row-sent : (j : List Stamped) (s : Stamped) (k : MessageId) → deletes k s.event ≡ false
    → message_row (j ++ s ∷ []) k ≡ option_or (message_row j k) (option_map (row_of j k) (cond (k.0 == length (messages j) + 1) (message_of (occurrence j s)) None))
message_row-sent j s k kept =
    (λ i. option_map (λ m. row.Message k m.sender m.text ((is_deleted-append j s k ∙ (ap (λ b. is_deleted j k || b) kept ∙ or-false (is_deleted j k))) i)) (message-append j s k i))
    ∙ by (message j k) (cond (k.0 == length (messages j) + 1) (message_of (occurrence j s)) None)
  where
    by : (o new : Option SentMessage) → option_map (row_of j k) (option_or o new) ≡ option_or (option_map (row_of j k) o) (option_map (row_of j k) new)
    by None new = refl
    by (Some m) new = refl

-- a deletion marks the row of its message, which keeps its text
pub message_row-deleted : (j : List Stamped) (at : ℕ) (v : UserId) (m k : MessageId) → message_row (j ++ record { at = at; event = Asked (Delete v m) } ∷ []) k ≡ option_map (λ x. row.Message k x.sender x.text (is_deleted j k || m.0 == k.0)) (message j k)
message_row-deleted j at v m k =
    (λ i. option_map (λ x. row.Message k x.sender x.text (is_deleted-append j (record { at = at; event = Asked (Delete v m) }) k i)) (message-append j (record { at = at; event = Asked (Delete v m) }) k i))
    ∙ by (message j k) (k.0 == length (messages j) + 1)
  where
    by : (o : Option SentMessage) (b : Bool) → option_map (λ x. row.Message k x.sender x.text (is_deleted j k || m.0 == k.0)) (option_or o (cond b None None)) ≡ option_map (λ x. row.Message k x.sender x.text (is_deleted j k || m.0 == k.0)) o
    by None b = ap (option_map (λ x. row.Message k x.sender x.text (is_deleted j k || m.0 == k.0))) (none_sent b)
    by (Some x) b = refl
