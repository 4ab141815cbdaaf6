-- The rows of messages after one more event: those before it with what the event sends or deletes.
use Rattle.std.proofs.Common.{◌≡◌, ℕ, ◌+◌, Bool, true, false, ◌||◌, ◌==◌, cond, List, [], ◌∷◌, ◌++◌, Option, Some, None, length, map, refl, sym, ap, ◌∙◌, subst}
use Rattle.std.specs.Prelude.{option_map, option_to_list}
use Rattle.std.specs.Option.{option_or}
use Rattle.std.specs.Ordering.{is_eq}
use Rattle.std.proofs.lemmas.Bool.{eq-eqb}
use Rattle.chat_model.specs.declared.event.Stamped.{Stamped}
use Rattle.chat_model.specs.declared.event.Event.{Event}
use Rattle.chat_model.specs.declared.event.Event.TheVariants.{Restart, Asked, Absorbed, MailTurn, PushTurn}
use Rattle.chat_model.specs.declared.request.Request.TheVariants.{AddUser, AddGroup, Member, AddChannel, Subscribe, Set, SetChannel, SetPolicy, Mute, Send, Direct, Delete, Read}
use Rattle.chat_model.specs.declared.ids.MessageId.{MessageId}
use Rattle.chat_model.specs.declared.ids.UserId.{UserId}
use Rattle.chat_model.specs.declared.row.Row.{Row}
use Rattle.chat_model.specs.declared.row.Row.TheVariants as row
use Rattle.chat_model.specs.declared.row.RowKey.TheVariants as key
use Rattle.chat_model.specs.declared.row.RowChange.{RowChange}
use Rattle.chat_model.specs.declared.row.RowChange.TheVariants.{Put}
use Rattle.chat_model.specs.Rows.{key_cmp, row_at}
use Rattle.chat_model.proofs.Rows.{row_after_all}
use Rattle.notice_ledger.specs.Past.Values.{SentMessage, sent_by, messages, message, numbered, deletes, is_deleted}
use Rattle.notice_ledger.specs.Past.Rows.{message_rows_from}
use Rattle.notice_ledger.proofs.MessageRows.{row_of, message_key, message_row, message_row-at, message_row-sent, message_row-deleted}
use Rattle.notice_ledger.proofs.RowKeys.{messages_apart}
use Rattle.notice_ledger.proofs.RowOrder.{row_after_all-puts}
use Rattle.notice_ledger.proofs.Same.{same_message, eqb-turned}
use Rattle.book_tables.specs.Prepared.{deleted_row}
use Rattle.book_tables.proofs.NewRows.{sent_rows, new_message_rows}
use Rattle.book_tables.proofs.PreferenceLemmas.{past_end}

-- the number of the message that is sent next
abbrev pub next_message : List Stamped → MessageId
next_message j = record { 0 = length (messages j) + 1 }

-- the puts of the rows of a journal's messages
abbrev message_puts : List Stamped → List RowChange
message_puts j = map Put (message_rows_from j 1 (messages j))

or_none : (o : Option Row) → option_or o None ≡ o
or_none None = refl
or_none (Some r) = refl

-- what they make of no row
puts_at : (j : List Stamped) (k : MessageId) → row_after_all (key.Message k) (message_puts j) None ≡ message_row j k
puts_at j k =
    row_after_all-puts (key.Message k) (message_rows_from j 1 (messages j)) None (messages_apart j 1 (messages j))
    ∙ (or_none (row_at (key.Message k) (message_rows_from j 1 (messages j))) ∙ message_row-at j k)

-- a message that is sent has a row at its number, and there is none yet
sent_at : (j : List Stamped) (k : MessageId) (o : Option SentMessage) → is_deleted j (next_message j) ≡ false
    → row_after_all (key.Message k) (map Put (sent_rows j o)) (message_row j k) ≡ option_or (message_row j k) (option_map (row_of j k) (cond (k.0 == length (messages j) + 1) o None))
sent_at j k None kept = by (k.0 == length (messages j) + 1) (message_row j k)
  where
    by : (b : Bool) (x : Option Row) → x ≡ option_or x (option_map (row_of j k) (cond {A = Option SentMessage} b None None))
    by true x = sym (or_none x)
    by false x = sym (or_none x)
sent_at j k (Some m) kept = by (k.0 == length (messages j) + 1) refl
  where
    -- at its number
    here : cond (is_eq (key_cmp (key.Message (record { 0 = length (messages j) + 1 })) (key.Message (record { 0 = length (messages j) + 1 })))) (Some (row.Message (record { 0 = length (messages j) + 1 }) m.sender m.text false)) (message_row j (record { 0 = length (messages j) + 1 }))
        ≡ option_or (message_row j (record { 0 = length (messages j) + 1 })) (Some (row_of j (record { 0 = length (messages j) + 1 }) m))
    here =
        ap (λ b. cond b (Some (row.Message (next_message j) m.sender m.text false)) (message_row j (next_message j))) (message_key (next_message j) (next_message j) ∙ eq-eqb (length (messages j) + 1) (length (messages j) + 1) refl)
        ∙ ((λ i. Some (row.Message (next_message j) m.sender m.text (sym kept i)))
        ∙ ap (λ x. option_or (option_map (row_of j (next_message j)) x) (Some (row_of j (next_message j) m))) (sym (past_end (messages j))))

    by : (b : Bool) → (k.0 == length (messages j) + 1) ≡ b
        → cond (is_eq (key_cmp (key.Message (next_message j)) (key.Message k))) (Some (row.Message (next_message j) m.sender m.text false)) (message_row j k) ≡ option_or (message_row j k) (option_map (row_of j k) (cond b (Some m) None))
    by true e =
        subst (λ (x : MessageId). cond (is_eq (key_cmp (key.Message (next_message j)) (key.Message x))) (Some (row.Message (next_message j) m.sender m.text false)) (message_row j x) ≡ option_or (message_row j x) (Some (row_of j x m))) (sym (same_message k (next_message j) e)) here
    by false e =
        ap (λ b. cond b (Some (row.Message (next_message j) m.sender m.text false)) (message_row j k)) (message_key (next_message j) k ∙ flip e) ∙ sym (or_none (message_row j k))
      where
        flip : (k.0 == length (messages j) + 1) ≡ false → (length (messages j) + 1 == k.0) ≡ false
        flip h = eqb-turned (length (messages j) + 1) k.0 ∙ h

-- a message that is deleted keeps its row, which says so
deleted_at : (j : List Stamped) (k m : MessageId)
    → row_after_all (key.Message k) (map Put (option_to_list (deleted_row j m))) (message_row j k) ≡ option_map (λ x. row.Message k x.sender x.text (is_deleted j k || m.0 == k.0)) (message j k)
deleted_at j k m = by (m.0 == k.0) refl
  where
    or_true : (b : Bool) → (b || true) ≡ true
    or_true true = refl
    or_true false = refl

    or_false : (b : Bool) → (b || false) ≡ b
    or_false true = refl
    or_false false = refl

    here : (o : Option SentMessage) (d : Bool) → row_after_all (key.Message k) (map Put (option_to_list (option_map (λ (sent : SentMessage). row.Message k sent.sender sent.text true) o))) (option_map (λ (x : SentMessage). row.Message k x.sender x.text d) o)
        ≡ option_map (λ (x : SentMessage). row.Message k x.sender x.text (d || true)) o
    here None d = refl
    here (Some x) d =
        ap (λ b. cond b (Some (row.Message k x.sender x.text true)) (Some (row.Message k x.sender x.text d))) (message_key k k ∙ eq-eqb k.0 k.0 refl) ∙ ap (λ t. Some (row.Message k x.sender x.text t)) (sym (or_true d))

    other : (o : Option SentMessage) → (m.0 == k.0) ≡ false → row_after_all (key.Message k) (map Put (option_to_list (option_map (λ (sent : SentMessage). row.Message m sent.sender sent.text true) o))) (message_row j k) ≡ message_row j k
    other None e = refl
    other (Some x) e = ap (λ b. cond b (Some (row.Message m x.sender x.text true)) (message_row j k)) (message_key m k ∙ e)

    by : (b : Bool) → (m.0 == k.0) ≡ b → row_after_all (key.Message k) (map Put (option_to_list (deleted_row j m))) (message_row j k) ≡ option_map (λ (x : SentMessage). row.Message k x.sender x.text (is_deleted j k || b)) (message j k)
    by true e = ap (λ (x : MessageId). row_after_all (key.Message k) (map Put (option_to_list (deleted_row j x))) (message_row j k)) (same_message m k e) ∙ here (message j k) (is_deleted j k)
    by false e = other (message j m) e ∙ (λ i. option_map (λ (x : SentMessage). row.Message k x.sender x.text (sym (or_false (is_deleted j k)) i)) (message j k))

-- an event that deletes nothing
sends : (k : MessageId) (j : List Stamped) (s : Stamped) → is_deleted j (next_message j) ≡ false → deletes k s.event ≡ false → new_message_rows j s.event ≡ sent_rows j (sent_by j s.event)
    → row_after_all (key.Message k) (map Put (new_message_rows j s.event)) (row_after_all (key.Message k) (message_puts j) None) ≡ row_after_all (key.Message k) (message_puts (j ++ s ∷ [])) None
sends k j s kept none is =
    (λ i. row_after_all (key.Message k) (map Put (is i)) (puts_at j k i))
    ∙ (sent_at j k (sent_by j s.event) kept ∙ (sym (message_row-sent j s k none) ∙ sym (puts_at (j ++ s ∷ []) k)))

-- the row at a message's key after an event is the row before it with the event's change
pub messages-after : (k : MessageId) (j : List Stamped) (s : Stamped) → is_deleted j (next_message j) ≡ false
    → row_after_all (key.Message k) (map Put (new_message_rows j s.event)) (row_after_all (key.Message k) (message_puts j) None) ≡ row_after_all (key.Message k) (message_puts (j ++ s ∷ [])) None
messages-after k j s kept = by s.at s.event
  where
    by : (at : ℕ) (e : Event) → row_after_all (key.Message k) (map Put (new_message_rows j e)) (row_after_all (key.Message k) (message_puts j) None) ≡ row_after_all (key.Message k) (message_puts (j ++ record { at = at; event = e } ∷ [])) None
    by at (Asked (Delete user m)) =
        ap (row_after_all (key.Message k) (map Put (option_to_list (deleted_row j m)))) (puts_at j k)
        ∙ (deleted_at j k m ∙ (sym (message_row-deleted j at user m k) ∙ sym (puts_at (j ++ record { at = at; event = Asked (Delete user m) } ∷ []) k)))
    by at Restart = sends k j (record { at = at; event = Restart }) kept refl refl
    by at (Asked (AddUser name bot)) = sends k j (record { at = at; event = Asked (AddUser name bot) }) kept refl refl
    by at (Asked (AddGroup name members)) = sends k j (record { at = at; event = Asked (AddGroup name members) }) kept refl refl
    by at (Asked (Member group user on)) = sends k j (record { at = at; event = Asked (Member group user on) }) kept refl refl
    by at (Asked (AddChannel name)) = sends k j (record { at = at; event = Asked (AddChannel name) }) kept refl refl
    by at (Asked (Subscribe user channel on)) = sends k j (record { at = at; event = Asked (Subscribe user channel on) }) kept refl refl
    by at (Asked (Set user change)) = sends k j (record { at = at; event = Asked (Set user change) }) kept refl refl
    by at (Asked (SetChannel user channel change)) = sends k j (record { at = at; event = Asked (SetChannel user channel change) }) kept refl refl
    by at (Asked (SetPolicy user channel topic policy)) = sends k j (record { at = at; event = Asked (SetPolicy user channel topic policy) }) kept refl refl
    by at (Asked (Mute user other on)) = sends k j (record { at = at; event = Asked (Mute user other on) }) kept refl refl
    by at (Asked (Send sender channel topic text)) = sends k j (record { at = at; event = Asked (Send sender channel topic text) }) kept refl refl
    by at (Asked (Direct sender to text)) = sends k j (record { at = at; event = Asked (Direct sender to text) }) kept refl refl
    by at (Asked (Read user messages)) = sends k j (record { at = at; event = Asked (Read user messages) }) kept refl refl
    by at (Absorbed outcome) = sends k j (record { at = at; event = Absorbed outcome }) kept refl refl
    by at (MailTurn user) = sends k j (record { at = at; event = MailTurn user }) kept refl refl
    by at (PushTurn item) = sends k j (record { at = at; event = PushTurn item }) kept refl refl
