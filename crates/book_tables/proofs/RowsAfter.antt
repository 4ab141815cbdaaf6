-- The rows of a journal with one more event are the rows before it with the changes that the event brings.
use Rattle.std.proofs.Common.{◌≡◌, ◌≢◌, ℕ, suc, ◌+◌, Bool, true, false, cond, List, [], ◌∷◌, ◌++◌, Option, Some, None, length, map, refl, sym, ap, ◌∙◌, arith, add-zero}
use Rattle.std.specs.Prelude.{option_map, option_to_list, is_some}
use Rattle.std.specs.Option.{option_map_or}
use Rattle.std.specs.List.{AllByRecursion, filter_map, cons_option}
use Rattle.std.proofs.lemmas.List.{map-append}
use Rattle.chat_model.specs.declared.event.Stamped.{Stamped}
use Rattle.chat_model.specs.declared.event.Event.{Event}
use Rattle.chat_model.specs.declared.event.Event.TheVariants.{Restart, Asked, Absorbed, MailTurn, PushTurn}
use Rattle.chat_model.specs.declared.request.Request.TheVariants.{AddUser, AddGroup, Member, AddChannel, Subscribe, Set, SetChannel, SetPolicy, Mute, Send, Direct, Delete, Read}
use Rattle.chat_model.specs.declared.entry.Entry.{Entry}
use Rattle.chat_model.specs.declared.ids.MessageId.{MessageId}
use Rattle.chat_model.specs.declared.ids.UserId.{UserId}
use Rattle.chat_model.specs.declared.trigger.Way.TheVariants.{Push}
use Rattle.chat_model.specs.declared.row.Row.{Row}
use Rattle.chat_model.specs.declared.row.Row.TheVariants as row
use Rattle.chat_model.specs.declared.row.RowKey.{RowKey}
use Rattle.chat_model.specs.declared.row.RowKey.TheVariants as key
use Rattle.chat_model.specs.declared.row.RowChange.{RowChange}
use Rattle.chat_model.specs.declared.row.RowChange.TheVariants.{Put, Remove}
use Rattle.chat_model.specs.Rows.{key_of, row_at, changed_all}
use Rattle.chat_model.proofs.Rows.{row_after, row_after_all, row_at-changed_all, row_after_all-append, changed_all-same, IsAscending-nil}
use Rattle.notice_ledger.specs.Past.Journal.{Occurrence, occurrence}
use Rattle.chat_model.specs.Settings.{changed_settings}
use Rattle.notice_ledger.specs.Past.Values.{Person, person, people, SentMessage, sent_by, message, messages, is_deleted, settings}
use Rattle.notice_ledger.specs.declared.accounts.Account.TheVariants as accounts
use Rattle.notice_ledger.specs.Past.Owed.{Notice, notices, was_dealt, account_of, is_pending, waiting}
use Rattle.notice_ledger.specs.Past.Outbox.{outbox, entries_by}
use Rattle.notice_ledger.specs.Past.Pushes.{is_push_turn}
use Rattle.notice_ledger.proofs.PushesWait.{PushesWait}
use Rattle.notice_ledger.specs.Past.Rows.{stage_of, user_rows_from, message_rows_from, outbox_rows_from, pending_row, listed_rows, by_key, rows}
use Rattle.notice_ledger.specs.Past.Rows as ledger
use Rattle.notice_ledger.proofs.ActiveAfter.{is_push_active, push_active-left}
use Rattle.notice_ledger.proofs.Appended.{people-nil, messages-nil, notices-nil, outbox-nil, outbox-append}
use Rattle.notice_ledger.proofs.OneMore.{row_at_stage, pending_rows-waiting}
use Rattle.notice_ledger.proofs.Queued.{is_queued, queued-account, queued-ready, pending-unbarred, unqueued-unready}
use Rattle.notice_ledger.proofs.Waiting.{waiting-pending}
use Rattle.notice_ledger.proofs.RowKeys.{table, other_key}
use Rattle.notice_ledger.proofs.RowOrder.{rows-ascending, rows-changed_all}
use Rattle.book_tables.specs.declared.pushes.PushKey.{PushKey}
use Rattle.book_tables.specs.declared.tables.Waiting.{Waiting}
use Rattle.book_tables.specs.Pushes.{has_push}
use Rattle.book_tables.specs.Tables.{stage_by, notice_at, notice_kept}
use Rattle.book_tables.proofs.ActivePushes.{active_keys, active_rows-keys, active_puts, puts_have}
use Rattle.book_tables.proofs.Kept.{unqueued-account}
use Rattle.book_tables.proofs.MessagesAfter.{next_message, messages-after}
use Rattle.book_tables.proofs.NewRows.{sent_rows, new_user_rows, new_message_rows, new_outbox_rows, changes_with}
use Rattle.book_tables.proofs.RowMoves.{change_key}
use Rattle.notice_ledger.specs.Lawful.{is_lawful_after}
use Rattle.notice_ledger.specs.Rows as any
use Rattle.notice_ledger.proofs.LawfulLemmas.{lawful-next}
use Rattle.book_tables.specs.declared.prepared.Prepared.{Prepared}
use Rattle.book_tables.specs.Prepared.{IsPreparedFor, changes_of, notice_row, active_row}
use Rattle.book_tables.proofs.UserRows.{users-after}

-- ---- tables

-- changes of rows of one table
abbrev pub AreOf : ℕ → List RowChange → Type 0
AreOf t changes = AllByRecursion (λ c. table (change_key c) ≡ t) changes

untouched_by : (k : RowKey) (c : RowChange) (x : Option Row) → table (change_key c) ≢ table k → row_after k c x ≡ x
untouched_by k (Put row) x other = ap (λ b. cond b (Some row) x) (other_key (key_of row) k other)
untouched_by k (Remove gone) x other = ap (λ b. cond b None x) (other_key gone k other)

untouched : (t : ℕ) (k : RowKey) (cs : List RowChange) (x : Option Row) → AreOf t cs → t ≢ table k → row_after_all k cs x ≡ x
untouched t k [] x of other = refl
untouched t k (c ∷ cs) x of other =
    ap (row_after_all k cs) (untouched_by k c x (λ e. other (sym of.0 ∙ e))) ∙ untouched t k cs x of.1 other

-- of five tables' changes those of a key's own
abbrev own : RowKey → List RowChange → List RowChange → List RowChange → List RowChange → List RowChange → List RowChange
own (key.User user) us ms ps qs os = us
own (key.Message message) us ms ps qs os = ms
own (key.Pending user message way) us ms ps qs os = ps
own (key.Active user message) us ms ps qs os = qs
own (key.Outbox number) us ms ps qs os = os

pub record AreTables (us ms ps qs os : List RowChange) : Type 0 where
  pub users : AreOf 0 us
  pub messages : AreOf 1 ms
  pub pending : AreOf 2 ps
  pub active : AreOf 3 qs
  pub outbox : AreOf 4 os

own_last : (k : RowKey) (us ms ps qs os : List RowChange) (x : Option Row) → AreTables us ms ps qs os
    → row_after_all k os (row_after_all k qs (row_after_all k ps (row_after_all k ms (row_after_all k us x)))) ≡ row_after_all k (own k us ms ps qs os) x
own_last (key.User u) us ms ps qs os x of =
    let k = key.User u in let y = row_after_all k us x in
    untouched 4 k os (row_after_all k qs (row_after_all k ps (row_after_all k ms y))) of.outbox (omega arith)
    ∙ (untouched 3 k qs (row_after_all k ps (row_after_all k ms y)) of.active (omega arith)
    ∙ (untouched 2 k ps (row_after_all k ms y) of.pending (omega arith) ∙ untouched 1 k ms y of.messages (omega arith)))
own_last (key.Message m) us ms ps qs os x of =
    let k = key.Message m in let y = row_after_all k us x in
    untouched 4 k os (row_after_all k qs (row_after_all k ps (row_after_all k ms y))) of.outbox (omega arith)
    ∙ (untouched 3 k qs (row_after_all k ps (row_after_all k ms y)) of.active (omega arith)
    ∙ (untouched 2 k ps (row_after_all k ms y) of.pending (omega arith) ∙ ap (row_after_all k ms) (untouched 0 k us x of.users (omega arith))))
own_last (key.Pending u m w) us ms ps qs os x of =
    let k = key.Pending u m w in let y = row_after_all k us x in
    untouched 4 k os (row_after_all k qs (row_after_all k ps (row_after_all k ms y))) of.outbox (omega arith)
    ∙ (untouched 3 k qs (row_after_all k ps (row_after_all k ms y)) of.active (omega arith)
    ∙ ap (row_after_all k ps) (untouched 1 k ms y of.messages (omega arith) ∙ untouched 0 k us x of.users (omega arith)))
own_last (key.Active u m) us ms ps qs os x of =
    let k = key.Active u m in let y = row_after_all k us x in
    untouched 4 k os (row_after_all k qs (row_after_all k ps (row_after_all k ms y))) of.outbox (omega arith)
    ∙ ap (row_after_all k qs) (untouched 2 k ps (row_after_all k ms y) of.pending (omega arith) ∙ (untouched 1 k ms y of.messages (omega arith) ∙ untouched 0 k us x of.users (omega arith)))
own_last (key.Outbox n) us ms ps qs os x of =
    let k = key.Outbox n in let y = row_after_all k us x in
    ap (row_after_all k os)
    (untouched 3 k qs (row_after_all k ps (row_after_all k ms y)) of.active (omega arith)
    ∙ (untouched 2 k ps (row_after_all k ms y) of.pending (omega arith) ∙ (untouched 1 k ms y of.messages (omega arith) ∙ untouched 0 k us x of.users (omega arith))))

own_changes : (k : RowKey) (us ms ps qs os : List RowChange) (x : Option Row) → AreTables us ms ps qs os → row_after_all k (us ++ (ms ++ (ps ++ (qs ++ os)))) x ≡ row_after_all k (own k us ms ps qs os) x
own_changes k us ms ps qs os x of =
    row_after_all-append k us (ms ++ (ps ++ (qs ++ os))) x
    ∙ (row_after_all-append k ms (ps ++ (qs ++ os)) (row_after_all k us x)
    ∙ (row_after_all-append k ps (qs ++ os) (row_after_all k ms (row_after_all k us x))
    ∙ (row_after_all-append k qs os (row_after_all k ps (row_after_all k ms (row_after_all k us x))) ∙ own_last k us ms ps qs os x of)))

-- ---- each table's rows

puts_append : (xs ys : List Row) → map Put (xs ++ ys) ≡ map Put xs ++ map Put ys
puts_append xs ys = map-append Put xs ys

pub users_are : (j : List Stamped) (n : ℕ) (ps : List Person) → AreOf 0 (map Put (user_rows_from j n ps))
users_are j n [] = tt
users_are j n (p ∷ ps) = (refl, users_are j (n + 1) ps)

pub messages_are : (j : List Stamped) (n : ℕ) (ms : List SentMessage) → AreOf 1 (map Put (message_rows_from j n ms))
messages_are j n [] = tt
messages_are j n (m ∷ ms) = (refl, messages_are j (n + 1) ms)

pub waiting_are : (ws : List Waiting) → AreOf 2 (map Put (map notice_row ws))
waiting_are [] = tt
waiting_are (w ∷ ws) = (refl, waiting_are ws)

pub active_are : (ps : List PushKey) → AreOf 3 (map Put (map active_row ps))
active_are [] = tt
active_are (p ∷ ps) = (refl, active_are ps)

pub outbox_are : (n : ℕ) (es : List Entry) → AreOf 4 (map Put (outbox_rows_from n es))
outbox_are n [] = tt
outbox_are n (e ∷ es) = (refl, outbox_are (n + 1) es)

pub put_some_are : {A : Type 0} (t : ℕ) (f : A → Row) → ((x : A) → table (key_of (f x)) ≡ t) → (o : Option A) → AreOf t (map Put (option_to_list (option_map f o)))
put_some_are t f each None = tt
put_some_are t f each (Some x) = (each x, tt)

new_users_are : (j : List Stamped) (e : Event) → AreOf 0 (map Put (new_user_rows j e))
new_users_are j Restart = tt
new_users_are j (Asked (AddUser name bot)) = (refl, tt)
new_users_are j (Asked (AddGroup name members)) = tt
new_users_are j (Asked (Member group user on)) = tt
new_users_are j (Asked (AddChannel name)) = tt
new_users_are j (Asked (Subscribe user channel on)) = tt
new_users_are j (Asked (Set user change)) = put_some_are 0 (λ (p : Person). row.User user p.name p.bot (changed_settings change (settings j user))) (λ p. refl) (person j user)
new_users_are j (Asked (SetChannel user channel change)) = tt
new_users_are j (Asked (SetPolicy user channel topic policy)) = tt
new_users_are j (Asked (Mute user other on)) = tt
new_users_are j (Asked (Send sender channel topic text)) = tt
new_users_are j (Asked (Direct sender to text)) = tt
new_users_are j (Asked (Delete user message)) = tt
new_users_are j (Asked (Read user messages)) = tt
new_users_are j (Absorbed outcome) = tt
new_users_are j (MailTurn user) = tt
new_users_are j (PushTurn item) = tt

sent_are : (j : List Stamped) (o : Option SentMessage) → AreOf 1 (map Put (sent_rows j o))
sent_are j o = put_some_are 1 (λ (m : SentMessage). row.Message (record { 0 = length (messages j) + 1 }) m.sender m.text false) (λ m. refl) o

new_messages_are : (j : List Stamped) (e : Event) → AreOf 1 (map Put (new_message_rows j e))
new_messages_are j (Asked (Delete user m)) = put_some_are 1 (λ (sent : SentMessage). row.Message m sent.sender sent.text true) (λ sent. refl) (message j m)
new_messages_are j Restart = tt
new_messages_are j (Asked (AddUser name bot)) = tt
new_messages_are j (Asked (AddGroup name members)) = tt
new_messages_are j (Asked (Member group user on)) = tt
new_messages_are j (Asked (AddChannel name)) = tt
new_messages_are j (Asked (Subscribe user channel on)) = tt
new_messages_are j (Asked (Set user change)) = tt
new_messages_are j (Asked (SetChannel user channel change)) = tt
new_messages_are j (Asked (SetPolicy user channel topic policy)) = tt
new_messages_are j (Asked (Mute user other on)) = tt
new_messages_are j (Asked (Send sender channel topic text)) = sent_are j (sent_by j (Asked (Send sender channel topic text)))
new_messages_are j (Asked (Direct sender to text)) = sent_are j (sent_by j (Asked (Direct sender to text)))
new_messages_are j (Asked (Read user messages)) = tt
new_messages_are j (Absorbed outcome) = tt
new_messages_are j (MailTurn user) = tt
new_messages_are j (PushTurn item) = tt

one_more : (n : ℕ) → 1 + n ≡ n + 1
one_more n = omega arith

step_on : (n m : ℕ) → (n + 1) + m ≡ n + suc m
step_on n m = omega arith

pub outbox_rows-append : (n : ℕ) (es fs : List Entry) → outbox_rows_from n (es ++ fs) ≡ outbox_rows_from n es ++ outbox_rows_from (n + length es) fs
outbox_rows-append n [] fs = ap (λ k. outbox_rows_from k fs) (sym (add-zero n))
outbox_rows-append n (e ∷ es) fs =
    ap (λ rs. row.Outbox (record { 0 = n }) e false ∷ rs) (outbox_rows-append (n + 1) es fs ∙ ap (λ k. outbox_rows_from (n + 1) es ++ outbox_rows_from k fs) (step_on n (length es)))

outbox_after : (j : List Stamped) (s : Stamped) → outbox_rows_from 1 (outbox (j ++ s ∷ [])) ≡ outbox_rows_from 1 (outbox j) ++ new_outbox_rows j s
outbox_after j s =
    ap (outbox_rows_from 1) (outbox-append j s)
    ∙ (outbox_rows-append 1 (outbox j) (entries_by j s.at s.event) ∙ ap (λ n. outbox_rows_from 1 (outbox j) ++ outbox_rows_from n (entries_by j s.at s.event)) (one_more (length (outbox j))))

-- ---- the pending rows

-- the notices that wait, as they are kept: those that the tables keep and nothing bars
abbrev pub all_pending : List Stamped → List Waiting
all_pending j = map (notice_kept j) (waiting j)

-- changes of pending rows that make of the rows of the notices that wait those of the notices that wait after the event
pub record MakesPending (j : List Stamped) (s : Stamped) (changes : List RowChange) : Type 0 where
  pub are : AreOf 2 changes
  pub makes : (k : RowKey) → row_after_all k changes (row_after_all k (map Put (map notice_row (all_pending j))) None) ≡ row_after_all k (map Put (map notice_row (all_pending (j ++ s ∷ [])))) None

-- a pending notice has the row of what is kept of it
pending_kept : (j : List Stamped) (n : Notice) → is_pending (account_of j n) ≡ true → pending_row j n ≡ Some (notice_row (notice_kept j n))
pending_kept j n h = by (is_queued j n) refl
  where
    two : (d : Bool) → option_map (row_at_stage n) (stage_of (cond d accounts.Held accounts.Flight)) ≡ Some (row_at_stage n (stage_by d false))
    two true = refl
    two false = refl

    by : (q : Bool) → is_queued j n ≡ q → pending_row j n ≡ Some (notice_row (notice_kept j n))
    by true q =
        ap (λ a. option_map (row_at_stage n) (stage_of a)) (queued-account j n q ∙ ap (λ c. option_map_or accounts.Cancelled c accounts.Ready) (pending-unbarred j n h))
        ∙ ap (λ o. Some (row_at_stage n (stage_by (was_dealt j n) (is_some o)))) (sym (queued-ready j n q).1)
    by false q =
        ap (λ a. option_map (row_at_stage n) (stage_of a)) (unqueued-account j n h q)
        ∙ (two (was_dealt j n) ∙ ap (λ o. Some (row_at_stage n (stage_by (was_dealt j n) (is_some o)))) (sym (unqueued-unready j n h q).no_event))

pub pending_rows-kept : (j : List Stamped) → filter_map (pending_row j) (notices j) ≡ map notice_row (all_pending j)
pending_rows-kept j = pending_rows-waiting j ∙ each (waiting j) (waiting-pending j)
  where
    each : (ns : List Notice) → AllByRecursion (λ n. is_pending (account_of j n) ≡ true) ns → filter_map (pending_row j) ns ≡ map notice_row (map (notice_kept j) ns)
    each [] all = refl
    each (n ∷ ns) all = (λ i. cons_option (pending_kept j n all.0 i) (each ns all.1 i))

-- ---- the rows of active pushes

-- changes of them that make of the rows of the active pushes those of the active pushes after the event
pub record MakesActive (j : List Stamped) (s : Stamped) (changes : List RowChange) : Type 0 where
  pub are : AreOf 3 changes
  pub makes : (u : UserId) (m : MessageId)
      → let k = key.Active u m in row_after_all k changes (row_after_all k (map Put (map active_row (active_keys j))) None) ≡ row_after_all k (map Put (map active_row (active_keys (j ++ s ∷ [])))) None

-- no change, where the event is no push turn
pub active_left : (j : List Stamped) (s : Stamped) → PushesWait j → is_push_turn s.event ≡ false → MakesActive j s []
active_left j s waits other = record {
  are = tt;
  makes = λ u m. active_puts j u m ∙ (ap (λ b. cond b (Some (row.Active u m)) None) (sym (push_active-left j s u m waits other)) ∙ sym (active_puts (j ++ s ∷ []) u m));
}

-- ---- all tables

-- the puts of a journal's rows, table by table
table_puts : (j : List Stamped) → map Put (listed_rows j)
    ≡ map Put (user_rows_from j 1 (people j)) ++ (map Put (message_rows_from j 1 (messages j)) ++ (map Put (map notice_row (all_pending j)) ++ (map Put (map active_row (active_keys j)) ++ map Put (outbox_rows_from 1 (outbox j)))))
table_puts j =
    let us = user_rows_from j 1 (people j) in let ms = message_rows_from j 1 (messages j) in let ps = map notice_row (all_pending j) in let qs = map active_row (active_keys j) in let os = outbox_rows_from 1 (outbox j) in
    (λ i. map Put (us ++ (ms ++ (pending_rows-kept j i ++ (active_rows-keys j i ++ os)))))
    ∙ (puts_append us (ms ++ (ps ++ (qs ++ os)))
    ∙ ap (λ cs. map Put us ++ cs) (puts_append ms (ps ++ (qs ++ os))
    ∙ ap (λ cs. map Put ms ++ cs) (puts_append ps (qs ++ os)
    ∙ ap (λ cs. map Put ps ++ cs) (puts_append qs os))))

tables_are : (j : List Stamped) → AreTables (map Put (user_rows_from j 1 (people j))) (map Put (message_rows_from j 1 (messages j))) (map Put (map notice_row (all_pending j))) (map Put (map active_row (active_keys j))) (map Put (outbox_rows_from 1 (outbox j)))
tables_are j = record {
  users = users_are j 1 (people j);
  messages = messages_are j 1 (messages j);
  pending = waiting_are (all_pending j);
  active = active_are (active_keys j);
  outbox = outbox_are 1 (outbox j);
}

changes_are : (j : List Stamped) (s : Stamped) (pending active : List RowChange) → AreOf 2 pending → AreOf 3 active → AreTables (map Put (new_user_rows j s.event)) (map Put (new_message_rows j s.event)) pending active (map Put (new_outbox_rows j s))
changes_are j s pending active are are_active = record {
  users = new_users_are j s.event;
  messages = new_messages_are j s.event;
  pending = are;
  active = are_active;
  outbox = outbox_are (length (outbox j) + 1) (entries_by j s.at s.event);
}

-- of the puts of a journal's rows those of a key's table
abbrev own_puts : RowKey → List Stamped → List RowChange
own_puts k j = own k (map Put (user_rows_from j 1 (people j))) (map Put (message_rows_from j 1 (messages j))) (map Put (map notice_row (all_pending j))) (map Put (map active_row (active_keys j))) (map Put (outbox_rows_from 1 (outbox j)))

-- what stands at a key in the rows of a journal
pub row_at-rows : (k : RowKey) (j : List Stamped) → row_at k (rows j) ≡ row_after_all k (own_puts k j) None
row_at-rows k j =
    ap (row_at k) (rows-changed_all j)
    ∙ (row_at-changed_all k (map Put (listed_rows j)) []
    ∙ (ap (λ cs. row_after_all k cs None) (table_puts j)
    ∙ own_changes k (map Put (user_rows_from j 1 (people j))) (map Put (message_rows_from j 1 (messages j))) (map Put (map notice_row (all_pending j))) (map Put (map active_row (active_keys j))) (map Put (outbox_rows_from 1 (outbox j))) None (tables_are j)))

-- at a key the new rows are the old with the changes of its own table
own_after : (k : RowKey) (j : List Stamped) (s : Stamped) (pending active : List RowChange) → is_deleted j (next_message j) ≡ false → MakesPending j s pending → MakesActive j s active
    → row_after_all k (own k (map Put (new_user_rows j s.event)) (map Put (new_message_rows j s.event)) pending active (map Put (new_outbox_rows j s))) (row_after_all k (own_puts k j) None) ≡ row_after_all k (own_puts k (j ++ s ∷ [])) None
own_after (key.User u) j s pending active kept makes makes_active = sym (users-after u j s s.event refl)
own_after (key.Message m) j s pending active kept makes makes_active = messages-after m j s kept
own_after (key.Pending u m w) j s pending active kept makes makes_active = makes.makes (key.Pending u m w)
own_after (key.Active u m) j s pending active kept makes makes_active = makes_active.makes u m
own_after (key.Outbox n) j s pending active kept makes makes_active =
    sym (ap (λ rs. row_after_all (key.Outbox n) rs None) (ap (map Put) (outbox_after j s) ∙ puts_append (outbox_rows_from 1 (outbox j)) (new_outbox_rows j s))
    ∙ row_after_all-append (key.Outbox n) (map Put (outbox_rows_from 1 (outbox j))) (map Put (new_outbox_rows j s)) None)

-- the rows after an event are the rows before it with its changes
pub rows-append : (j : List Stamped) (s : Stamped) (pending active : List RowChange) → is_deleted j (next_message j) ≡ false → MakesPending j s pending → MakesActive j s active → changed_all (changes_with j s pending active) (rows j) ≡ rows (j ++ s ∷ [])
rows-append j s pending active kept makes makes_active =
    changed_all-same (changes_with j s pending active) (rows j) (rows (j ++ s ∷ [])) (rows-ascending j) (rows-ascending (j ++ s ∷ [])) (λ k.
    ap (row_after_all k (changes_with j s pending active)) (row_at-rows k j)
    ∙ (own_changes k (map Put (new_user_rows j s.event)) (map Put (new_message_rows j s.event)) pending active (map Put (new_outbox_rows j s)) (row_after_all k (own_puts k j) None) (changes_are j s pending active makes.are makes_active.are)
    ∙ (own_after k j s pending active kept makes makes_active ∙ sym (row_at-rows k (j ++ s ∷ [])))))

-- puts of all that has a row, table by table, with these active pushes, make the rows
pub rows-made : (j : List Stamped) (qs : List PushKey) → ((u : UserId) (m : MessageId) → has_push qs u m ≡ is_push_active j u m)
    → changed_all (map Put (user_rows_from j 1 (people j)) ++ (map Put (message_rows_from j 1 (messages j)) ++ (map Put (map notice_row (all_pending j)) ++ (map Put (map active_row qs) ++ map Put (outbox_rows_from 1 (outbox j)))))) [] ≡ rows j
rows-made j qs same =
    let us = map Put (user_rows_from j 1 (people j)) in let ms = map Put (message_rows_from j 1 (messages j)) in let ps = map Put (map notice_row (all_pending j)) in let os = map Put (outbox_rows_from 1 (outbox j)) in
    changed_all-same (us ++ (ms ++ (ps ++ (map Put (map active_row qs) ++ os)))) [] (rows j) IsAscending-nil (rows-ascending j) (λ k.
    own_changes k us ms ps (map Put (map active_row qs)) os None (record { users = users_are j 1 (people j); messages = messages_are j 1 (messages j); pending = waiting_are (all_pending j); active = active_are qs; outbox = outbox_are 1 (outbox j) })
    ∙ (by k ∙ sym (row_at-rows k j)))
  where
    by : (k : RowKey) → row_after_all k (own k (map Put (user_rows_from j 1 (people j))) (map Put (message_rows_from j 1 (messages j))) (map Put (map notice_row (all_pending j))) (map Put (map active_row qs)) (map Put (outbox_rows_from 1 (outbox j)))) None ≡ row_after_all k (own_puts k j) None
    by (key.User u) = refl
    by (key.Message m) = refl
    by (key.Pending u m w) = refl
    by (key.Active u m) = puts_have u m qs None ∙ (ap (λ b. cond b (Some (row.Active u m)) None) (same u m) ∙ sym (active_puts j u m))
    by (key.Outbox n) = refl

-- the empty journal has no rows
pub rows-nil : rows [] ≡ []
unfolding rows
rows-nil = ap by_key (none_yet)
  where
    none_yet : listed_rows [] ≡ []
    none_yet =
        ap (λ us. us ++ (message_rows_from [] 1 (messages []) ++ (filter_map (pending_row []) (notices []) ++ (filter_map (ledger.active_row []) (notices []) ++ outbox_rows_from 1 (outbox []))))) (ap (user_rows_from [] 1) people-nil)
        ∙ (ap (λ ms. ms ++ (filter_map (pending_row []) (notices []) ++ (filter_map (ledger.active_row []) (notices []) ++ outbox_rows_from 1 (outbox [])))) (ap (message_rows_from [] 1) messages-nil)
        ∙ (ap (λ ns. filter_map (pending_row []) ns ++ (filter_map (ledger.active_row []) ns ++ outbox_rows_from 1 (outbox []))) notices-nil ∙ ap (outbox_rows_from 1) outbox-nil))

-- the rows after a lawful event are the rows before it with what was prepared for it
pub changes-kept : (j : List Stamped) (s : Stamped) (p : Prepared) → is_lawful_after j s ≡ true → IsPreparedFor j s p → changed_all (changes_of p) (any.rows j) ≡ any.rows (j ++ s ∷ [])
changes-kept j s p next fits =
    fits.changes ∙ ap rows (sym (lawful-next j s next))
