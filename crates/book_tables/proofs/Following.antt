-- What a message owes and what a turn makes, of tables that hold what the events before leave.
use Rattle.std.proofs.Common.{◌≡◌, ℕ, ◌+◌, Bool, true, false, ◌&&◌, ◌||◌, cond, not, List, [], ◌∷◌, ◌++◌, length, map, refl, sym, ap, ◌∙◌, subst, length-append}
use Rattle.std.proofs.Common.{◌<◌, arith}
use Rattle.std.specs.Prelude.{Option, Some, None, option_map, option_to_list, filter, IsPermutation, if◌then◌else◌}
use Rattle.std.specs.Option.{option_map_or}
use Rattle.std.specs.List.{AllByRecursion, filter_map, flat_map, cons_option}
use Rattle.std.proofs.lemmas.List.{append-nil, append_assoc}
use Rattle.chat_model.specs.declared.event.Stamped.{Stamped}
use Rattle.chat_model.specs.declared.event.Event.TheVariants.{Restart, Asked, Absorbed, MailTurn}
use Rattle.chat_model.specs.declared.request.Request.TheVariants.{AddUser, AddGroup, Member, AddChannel, Subscribe, Set, SetChannel, SetPolicy, Mute, Send, Direct, Delete, Read}
use Rattle.chat_model.specs.declared.ids.UserId.{UserId}
use Rattle.chat_model.specs.declared.ids.ChannelId.{ChannelId}
use Rattle.chat_model.specs.declared.ids.MessageId.{MessageId}
use Rattle.chat_model.specs.declared.ids.GroupId.{GroupId}
use Rattle.chat_model.specs.declared.entry.Entry.{Entry}
use Rattle.chat_model.specs.declared.row.Row.TheVariants as row
use Rattle.chat_model.specs.declared.row.RowChange.TheVariants.{Put}
use Rattle.chat_model.specs.declared.trigger.Trigger.{Trigger}
use Rattle.chat_model.specs.declared.facts.Facts.{Facts}
use Rattle.chat_model.specs.declared.policy.Policy.{Policy}
use Rattle.chat_model.specs.declared.policy.SpecificChange.{SpecificChange}
use Rattle.chat_model.specs.declared.settings.SettingChange.{SettingChange}
use Rattle.chat_model.specs.Triggers.{trigger_of, trigger_table, first_that_holds}
use Rattle.chat_model.specs.declared.trigger.Way.{Way}
use Rattle.chat_model.specs.declared.trigger.Way.TheVariants.{Mail, Push}
use Rattle.chat_model.specs.Settings.{default_settings, changed_settings}
use Rattle.notice_ledger.specs.declared.destination.Destination.{Destination}
use Rattle.notice_ledger.specs.declared.destination.Destination.TheVariants as destination
use Rattle.notice_ledger.specs.Past.Journal.{occurrence}
use Rattle.notice_ledger.specs.Past.Values.{numbered, Person, person, people, settings, is_one_of, users, SentMessage, message_of, sent_by, messages, is_deleted, deal_count}
use Rattle.notice_ledger.specs.Past.Triggers.{is_recipient, is_direct, is_participant_of, mentions_of, came_by, facts_of, trigger}
use Rattle.notice_ledger.specs.Past.Owed.{Notice, notices, same_way, notice_of, owed_of, owed_by}
use Rattle.notice_ledger.specs.Past.Due.{is_batch_row, batch_rows}
use Rattle.notice_ledger.specs.Past.Pushes.{is_push_turn}
use Rattle.notice_ledger.specs.Past.Outbox.{outbox, mail_entries, push_entries}
use Rattle.chat_model.specs.declared.push_item.PushItem.TheVariants.{Remove}
use Rattle.notice_ledger.specs.Past.Rows.{outbox_rows_from, rows}
use Rattle.notice_ledger.proofs.PushesWait.{PushesWait, lawful-pushes}
use Rattle.notice_ledger.proofs.Receipts.{unsent-undeleted}
use Rattle.notice_ledger.proofs.Appended.{outbox-append}
use Rattle.notice_ledger.proofs.Batches.{batch_rows-kept}
use Rattle.notice_ledger.proofs.Queued.{is_kept, kept, kept-each}
use Rattle.notice_ledger.proofs.Lists.{AllByRecursion-filter}
use Rattle.notice_ledger.proofs.Sent.{IsOfMessage, notices-messages}
use Rattle.mail_batches.specs.Batches.{rows_of}
use Rattle.book_tables.specs.declared.tables.Message.{Message}
use Rattle.book_tables.specs.declared.tables.Waiting.{Waiting}
use Rattle.book_tables.specs.declared.tables.Tables.{Tables}
use Rattle.chat_model.specs.declared.row.Stage.TheVariants.{Flight}
use Rattle.book_tables.specs.Notices.{is_barred, is_undecided, is_undecided_of, is_ready_mail_to, named_by, readied, dealt_to}
use Rattle.book_tables.proofs.NewRows.{changes_with}
use Rattle.book_tables.proofs.Moves.{no_request, bars_none}
use Rattle.notice_ledger.specs.Past.Values.{reads, deletes}
use Rattle.book_tables.proofs.CancelledBy.{read-bars, gone-bars}
use Rattle.book_tables.proofs.MessagesAfter.{next_message}
use Rattle.book_tables.proofs.RowsAfter.{MakesPending, MakesActive, active_left, rows-append}
use Rattle.book_tables.proofs.RowSteps.{makes_left, makes_barred, makes_start, makes_taken, makes_dealt, makes_cleared, makes_missed}
use Rattle.chat_model.specs.declared.deal.Outcome.TheVariants.{Dealt, Cleared, Missed}
use Rattle.chat_model.specs.declared.deal.QueueId.{QueueId}
use Rattle.chat_model.specs.declared.deal.UserVerdict.{UserVerdict}
use Rattle.chat_model.specs.declared.ids.DealNo.{DealNo}
use Rattle.chat_model.specs.declared.request.Request.{Request}
use Rattle.chat_model.specs.declared.row.RowChange.{RowChange}
use Rattle.chat_model.specs.Outcomes.{gives_idle, gives_live}
use Rattle.chat_model.specs.Rows.{changed_all}
use Rattle.book_tables.specs.Tables.{Holds, message_kept, notice_kept, in_flight, request_to, send_of, removal_turn, sent_after, owed_user}
use Rattle.book_tables.specs.Preferences.{Preferred, preferred, default_preferred, preferred_in}
use Rattle.book_tables.proofs.PreferenceLemmas.{past_end}
use Rattle.book_tables.specs.declared.prepared.Effect.{Effect}
use Rattle.book_tables.specs.Bars.{pairs_read, pairs_gone, unbarred_tests}
use Rattle.book_tables.specs.Prepared.{concerned, deleted_row, removed_push, notice_row, puts_where, removes_where, removed_mail, IsNext, IsSendOf, IsEffectOf}
use Rattle.book_tables.proofs.Numbered.{numbered-map}
use Rattle.book_tables.proofs.Steps.{map-flat_map}
use Rattle.book_tables.proofs.Kept.{all_kept, holds-kept, mail-kept, messages-kept}
use Rattle.book_tables.proofs.Permuted.{IsMadeOf, made_of, all-moved, Has, has-all, has-map}
use Rattle.book_tables.proofs.Standing.{names_long, messages_long, messages_dealt}

-- ---- an event that may stand next

-- the message that is sent next isn't deleted
pub next_kept : (past : List Stamped) (s : Stamped) → IsNext past s → is_deleted past (next_message past) ≡ false
next_kept past s next = subst (λ k. length (messages k) < length (messages past) + 1 → is_deleted k (next_message past) ≡ false) next.0 (unsent-undeleted past (next_message past)) (omega arith)

-- what waits to be pushed is as lawful events leave it
pub next_waits : (past : List Stamped) (s : Stamped) → IsNext past s → PushesWait past
next_waits past s next = subst PushesWait next.0 (lawful-pushes past)

-- each of what is kept has its message
kept-messages : (j : List Stamped) → AllByRecursion (IsOfMessage j) (kept j)
unfolding kept
kept-messages j = AllByRecursion-filter (IsOfMessage j) (is_kept j) (notices j) (notices-messages j)

-- a batch row as it is found among the notices that wait and the messages
pub record IsRow (past : List Stamped) (ws : List Waiting) (u : UserId) (n : Notice) : Type 0 where
  pub waits : Has (notice_kept past n) ws
  pub ready_mail : is_ready_mail_to u (notice_kept past n) ≡ true
  pub message : (ms : List Message) → ms ≡ map message_kept (messages past) → numbered n.number.0 ms ≡ Some (message_kept n.message)

-- ---- whom a message notifies

-- the settings among what is so of a user
pub facts_settings : (past : List Stamped) (m : SentMessage) (text : List ℕ) (u : UserId) → (facts_of past m text u).settings ≡ settings past u
unfolding facts_of
facts_settings past m text u = refl

-- who takes part in the topic counts only where the text has a wildcard for it
pub trigger-participant : (f : Facts) (p : Bool) (w : Way) → f.topic_wildcard ≡ false → trigger_of (record f { participant = p }) w ≡ trigger_of f w
unfolding trigger_of
trigger-participant f p w none =
    ap (λ b. trigger_of (record f { participant = p; topic_wildcard = b }) w) none ∙ sym (ap (λ b. trigger_of (record f { topic_wildcard = b }) w) none)

-- the trigger that the tables find, with these participants
pub trigger-found : (past : List Stamped) (k : Message) (u : UserId) (w : Way) (asked : Bool) (p : Bool) → asked ≡ (mentions_of past k.text).topic_wildcard → (asked ≡ true → p ≡ is_participant_of past k.to u)
    → trigger_of (record (facts_of past (sent_after past k) k.text u) { participant = p }) w ≡ trigger past (sent_after past k) k.text u w
unfolding trigger facts_of
trigger-found past k u w true p same told = ap (λ q. trigger_of (record (facts_of past (sent_after past k) k.text u) { participant = q }) w) (told refl)
trigger-found past k u w false p same told =
    trigger-participant (facts_of past (sent_after past k) k.text u) p w (ap (λ b. b && not (is_direct k.to)) (sym same))

not_recipient : (f : Facts) (w : Way) → f.recipient ≡ false → trigger_of f w ≡ None
unfolding trigger_of
not_recipient f w apart = ap (λ b. if b then None else first_that_holds (trigger_table f w)) (ap (λ r. f.own || f.bot || not r || f.sender_muted) apart ∙ out f.own f.bot f.sender_muted)
  where
    out : (a b c : Bool) → (a || b || true || c) ≡ true
    out true b c = refl
    out false true c = refl
    out false false c = refl

-- ---- what a message owes

-- what it owes by a way
abbrev pub owed_way : List Stamped → ℕ → Message → UserId → Way → Option Waiting
owed_way past at k u w = option_map in_flight (notice_of (occurrence past (send_of at k)) (sent_after past k) u w)

-- two that are added one after another
pub both_added : (past : List Stamped) (at : ℕ) (k : Message) (u : UserId) (owed : List Waiting) (a b : Option Waiting) → a ≡ owed_way past at k u Mail → b ≡ owed_way past at k u Push → (owed ++ option_to_list a) ++ option_to_list b ≡ owed ++ owed_user past at k u
both_added past at k u owed a b e f =
    append_assoc owed (option_to_list a) (option_to_list b)
    ∙ ap (λ ws. owed ++ ws) (ap (λ o. option_to_list o ++ option_to_list b) e ∙ (ap (λ o. option_to_list (owed_way past at k u Mail) ++ option_to_list o) f ∙ by (notice_of (occurrence past (send_of at k)) (sent_after past k) u Mail) (notice_of (occurrence past (send_of at k)) (sent_after past k) u Push)))
  where
    by : (x y : Option Notice) → option_to_list (option_map in_flight x) ++ option_to_list (option_map in_flight y) ≡ map in_flight (cons_option x (cons_option y []))
    by None None = refl
    by None (Some y) = refl
    by (Some x) None = refl
    by (Some x) (Some y) = refl

-- who is no recipient is owed none
pub owed-none : (past : List Stamped) (at : ℕ) (k : Message) (u : UserId) → is_recipient (sent_after past k) u ≡ false → owed_user past at k u ≡ []
unfolding trigger facts_of
owed-none past at k u apart =
    let none : (w : Way) → trigger past (sent_after past k) k.text u w ≡ None = λ w. not_recipient (facts_of past (sent_after past k) k.text u) w apart in
    ap (λ o. map in_flight (cons_option (noticed Mail o) (cons_option (noticed Push (trigger past (sent_after past k) k.text u Push)) []))) (none Mail)
    ∙ ap (λ o. map in_flight (cons_option (noticed Push o) [])) (none Push)
  where
    noticed : Way → Option Trigger → Option Notice
    noticed w o = option_map (λ (tr : Trigger). let n : Notice = record {
      user = u;
      number = record { 0 = length (messages past) + 1 };
      way = w;
      message = sent_after past k;
      trigger = tr;
      via = came_by past k.text u tr;
      deal = record { 0 = deal_count past };
      owing = occurrence past (send_of at k);
    } in n) o

-- the message that the send of a message sends
pub message-sent : (past : List Stamped) (at : ℕ) (k : Message) → message_of (occurrence past (send_of at k)) ≡ Some (sent_after past k)
message-sent past at k = by k.to k.sender k.text
  where
    by : (to : Destination) (sender : UserId) (text : List ℕ) → sent_by past (Asked (request_to sender to text)) ≡ Some (record { past = past; sender = sender; to = to; text = text })
    by (destination.Channel channel topic) sender text = refl
    by (destination.Direct to) sender text = refl

module _ (t : Tables) (past : List Stamped) (holds : Holds t past) where
  many_messages : length (messages past) ≡ length t.messages.items
  many_messages = sym (messages_long t past holds)

  many_deals : deal_count past ≡ length t.messages.items
  many_deals = sym (messages_dealt t past holds)

  -- the notice of a trigger
  pub notice-kept : (at : ℕ) (k : Message) (u : UserId) (w : Way) (found : Option Trigger) (made : Trigger → Waiting) → found ≡ trigger past (sent_after past k) k.text u w
      → ((tr : Trigger) → made tr ≡ record { user = u; message = record { 0 = length t.messages.items + 1 }; way = w; trigger = tr; via = came_by past k.text u tr; deal = record { 0 = length t.messages.items }; online = same_way w Push && (settings past u).push_online; stage = Flight; barred = None })
      → option_map made found ≡ owed_way past at k u w
  notice-kept at k u w found made same is = by found ∙ ap (λ o. option_map in_flight (noticed o)) same
    where
      noticed : Option Trigger → Option Notice
      noticed o = option_map (λ (tr : Trigger). let n : Notice = record {
        user = u;
        number = record { 0 = length (messages past) + 1 };
        way = w;
        message = sent_after past k;
        trigger = tr;
        via = came_by past k.text u tr;
        deal = record { 0 = deal_count past };
        owing = occurrence past (send_of at k);
      } in n) o

      numbered_so : ℕ → ℕ → Trigger → Waiting
      numbered_so number deal tr = record { user = u; message = record { 0 = number + 1 }; way = w; trigger = tr; via = came_by past k.text u tr; deal = record { 0 = deal }; online = same_way w Push && (settings past u).push_online; stage = Flight; barred = None }

      by : (o : Option Trigger) → option_map made o ≡ option_map in_flight (noticed o)
      by None = refl
      by (Some tr) =
          ap Some (is tr ∙ (ap (λ n. numbered_so n (length t.messages.items) tr) (sym many_messages) ∙ ap (λ n. numbered_so (length (messages past)) n tr) (sym many_deals)))

  -- what the message owes, user by user
  pub owed-users : (at : ℕ) (k : Message) (ids : List UserId) → ids ≡ users past → flat_map (owed_user past at k) ids ≡ map in_flight (owed_by (occurrence past (send_of at k)))
  owed-users at k ids same =
      ap (flat_map (owed_user past at k)) same
      ∙ (sym (map-flat_map in_flight (λ u. filter_map (notice_of (occurrence past (send_of at k)) (sent_after past k) u) (Mail ∷ Push ∷ [])) (users past))
      ∙ ap (λ o. map in_flight (option_map_or (owed_of (occurrence past (send_of at k))) o [])) (sym (message-sent past at k)))

  -- ---- the entries of a turn

  -- the user's rows are the messages of these notices
  pub in_rows : (u : UserId) → IsMadeOf (λ (n : Notice). n.number) (batch_rows past u) (rows_of t.batches u)
  in_rows u = made_of (λ (n : Notice). n.number) (batch_rows past u) (rows_of t.batches u) (holds.batches.rows u)

  -- each of them is found among those that wait by its message, and its message is there
  pub each-row : (u : UserId) → AllByRecursion (IsRow past t.waiting.items u) (in_rows u).of
  each-row u =
      all-moved (IsRow past t.waiting.items u) (batch_rows past u) (in_rows u).of (in_rows u).moved
      (subst (λ (ns : List Notice). AllByRecursion (IsRow past t.waiting.items u) ns) (sym (batch_rows-kept past u)) (among (kept past) (has-all (kept past)) (kept-each past) (kept-messages past)))
    where
      among : (ns : List Notice) → AllByRecursion (λ n. Has n (kept past)) ns → AllByRecursion (λ n. is_kept past n ≡ true) ns → AllByRecursion (IsOfMessage past) ns → AllByRecursion (IsRow past t.waiting.items u) (filter (is_batch_row past u) ns)
      among [] has each of = tt
      among (n ∷ ns) has each of = by (is_batch_row past u n) refl (among ns has.1 each.1 of.1)
        where
          by : (b : Bool) → is_batch_row past u n ≡ b → AllByRecursion (IsRow past t.waiting.items u) (filter (is_batch_row past u) ns) → AllByRecursion (IsRow past t.waiting.items u) (cond b (n ∷ filter (is_batch_row past u) ns) (filter (is_batch_row past u) ns))
          by true e rest = (
            record {
              waits = subst (Has (notice_kept past n)) (sym (holds-kept t past holds)) (has-map (notice_kept past) n (kept past) has.0);
              ready_mail = mail-kept u past n each.0 ∙ e;
              message = λ ms same. ap (numbered n.number.0) same ∙ (numbered-map message_kept n.number.0 (messages past) ∙ ap (option_map message_kept) of.0);
            },
            rest,
          )
          by false e rest = rest

  -- ---- the changes of the rows

  -- where changes are those of the event's own rows, with changes of pending rows and of active pushes', they make the rows
  -- with the event
  pub made_with : (s : Stamped) → IsNext past s → (pending active : List RowChange) → MakesPending past s pending → MakesActive past s active → (cs : List RowChange) → cs ≡ changes_with past s pending active → changed_all cs (rows past) ≡ rows (past ++ s ∷ [])
  made_with s next pending active makes makes_active cs are = ap (λ xs. changed_all xs (rows past)) are ∙ rows-append past s pending active (next_kept past s next) makes makes_active

  -- an event that is no push turn changes no row of an active push
  made : (s : Stamped) → IsNext past s → is_push_turn s.event ≡ false → (pending : List RowChange) → MakesPending past s pending → (cs : List RowChange) → cs ≡ changes_with past s pending [] → changed_all cs (rows past) ≡ rows (past ++ s ∷ [])
  made s next other pending makes cs are = made_with s next pending [] makes (active_left past s (next_waits past s next) other) cs are

  -- a request that sends nothing changes no pending row
  nothing_pending : (at : ℕ) (r : Request) → ((u : UserId) (m : MessageId) → reads u m (Asked r) ≡ false) → ((m : MessageId) → deletes m (Asked r) ≡ false) → owed_by (occurrence past (record { at = at; event = Asked r })) ≡ [] → MakesPending past (record { at = at; event = Asked r }) []
  nothing_pending at r unread undeleted none =
      let s : Stamped = record { at = at; event = Asked r } in
      subst (λ (ns : List Notice). MakesPending past s (map (λ w. Put (notice_row w)) (map in_flight ns))) none (makes_left past s (no_request r) (bars_none s unread undeleted) (λ u k online. refl) (λ u k. refl) (λ k. refl))

  pub no-changes_group : (at : ℕ) (name : List ℕ) (members : List UserId) → IsNext past (record { at = at; event = Asked (AddGroup name members) }) → changed_all [] (rows past) ≡ rows (past ++ record { at = at; event = Asked (AddGroup name members) } ∷ [])
  no-changes_group at name members next = made (record { at = at; event = Asked (AddGroup name members) }) next refl [] (nothing_pending at (AddGroup name members) (λ u m. refl) (λ m. refl) refl) [] refl

  pub no-changes_member : (at : ℕ) (group : GroupId) (user : UserId) (on : Bool) → IsNext past (record { at = at; event = Asked (Member group user on) }) → changed_all [] (rows past) ≡ rows (past ++ record { at = at; event = Asked (Member group user on) } ∷ [])
  no-changes_member at group user on next = made (record { at = at; event = Asked (Member group user on) }) next refl [] (nothing_pending at (Member group user on) (λ u m. refl) (λ m. refl) refl) [] refl

  pub no-changes_channel : (at : ℕ) (name : List ℕ) → IsNext past (record { at = at; event = Asked (AddChannel name) }) → changed_all [] (rows past) ≡ rows (past ++ record { at = at; event = Asked (AddChannel name) } ∷ [])
  no-changes_channel at name next = made (record { at = at; event = Asked (AddChannel name) }) next refl [] (nothing_pending at (AddChannel name) (λ u m. refl) (λ m. refl) refl) [] refl

  pub no-changes_subscription : (at : ℕ) (user : UserId) (channel : ChannelId) (on : Bool) → IsNext past (record { at = at; event = Asked (Subscribe user channel on) }) → changed_all [] (rows past) ≡ rows (past ++ record { at = at; event = Asked (Subscribe user channel on) } ∷ [])
  no-changes_subscription at user channel on next = made (record { at = at; event = Asked (Subscribe user channel on) }) next refl [] (nothing_pending at (Subscribe user channel on) (λ u m. refl) (λ m. refl) refl) [] refl

  pub no-changes_specific : (at : ℕ) (user : UserId) (channel : ChannelId) (change : SpecificChange) → IsNext past (record { at = at; event = Asked (SetChannel user channel change) }) → changed_all [] (rows past) ≡ rows (past ++ record { at = at; event = Asked (SetChannel user channel change) } ∷ [])
  no-changes_specific at user channel change next = made (record { at = at; event = Asked (SetChannel user channel change) }) next refl [] (nothing_pending at (SetChannel user channel change) (λ u m. refl) (λ m. refl) refl) [] refl

  pub no-changes_policy : (at : ℕ) (user : UserId) (channel : ChannelId) (topic : List ℕ) (policy : Policy) → IsNext past (record { at = at; event = Asked (SetPolicy user channel topic policy) }) → changed_all [] (rows past) ≡ rows (past ++ record { at = at; event = Asked (SetPolicy user channel topic policy) } ∷ [])
  no-changes_policy at user channel topic policy next = made (record { at = at; event = Asked (SetPolicy user channel topic policy) }) next refl [] (nothing_pending at (SetPolicy user channel topic policy) (λ u m. refl) (λ m. refl) refl) [] refl

  pub no-changes_mute : (at : ℕ) (user other : UserId) (on : Bool) → IsNext past (record { at = at; event = Asked (Mute user other on) }) → changed_all [] (rows past) ≡ rows (past ++ record { at = at; event = Asked (Mute user other on) } ∷ [])
  no-changes_mute at user other on next = made (record { at = at; event = Asked (Mute user other on) }) next refl [] (nothing_pending at (Mute user other on) (λ u m. refl) (λ m. refl) refl) [] refl

  -- ---- starts and absorbed outcomes

  kept_there : (f : List Waiting → List RowChange) → f t.waiting.items ≡ f (all_kept past)
  kept_there f = ap f (holds-kept t past holds)

  pub changes-start : (at : ℕ) → IsNext past (record { at = at; event = Restart }) → changed_all (puts_where is_undecided readied t.waiting.items) (rows past) ≡ rows (past ++ record { at = at; event = Restart } ∷ [])
  changes-start at next =
      made (record { at = at; event = Restart }) next refl (puts_where is_undecided readied (all_kept past)) (makes_start past at) (puts_where is_undecided readied t.waiting.items)
      (kept_there (puts_where is_undecided readied) ∙ sym (append-nil (puts_where is_undecided readied (all_kept past))))

  pub changes-dealt : (at : ℕ) (k : DealNo) (verdicts : List UserVerdict) (idle live : List UserId) → ((u : UserId) → is_one_of idle u ≡ gives_idle verdicts u) → ((u : UserId) → is_one_of live u ≡ gives_live verdicts u)
      → IsNext past (record { at = at; event = Absorbed (Dealt k verdicts) }) → changed_all (puts_where (is_undecided_of k) (dealt_to idle live) t.waiting.items) (rows past) ≡ rows (past ++ record { at = at; event = Absorbed (Dealt k verdicts) } ∷ [])
  changes-dealt at k verdicts idle live are_idle are_live next =
      made (record { at = at; event = Absorbed (Dealt k verdicts) }) next refl (puts_where (is_undecided_of k) (dealt_to idle live) (all_kept past)) (makes_dealt past at k verdicts idle live are_idle are_live) (puts_where (is_undecided_of k) (dealt_to idle live) t.waiting.items)
      (kept_there (puts_where (is_undecided_of k) (dealt_to idle live)) ∙ sym (append-nil (puts_where (is_undecided_of k) (dealt_to idle live) (all_kept past))))

  pub changes-cleared : (at : ℕ) (u : UserId) (deals : List DealNo) (q : QueueId)
      → IsNext past (record { at = at; event = Absorbed (Cleared u deals q) }) → changed_all (flat_map (λ test. removes_where test t.waiting.items) (named_by u deals)) (rows past) ≡ rows (past ++ record { at = at; event = Absorbed (Cleared u deals q) } ∷ [])
  changes-cleared at u deals q next =
      let f = λ (ws : List Waiting). flat_map (λ test. removes_where test ws) (named_by u deals) in
      made (record { at = at; event = Absorbed (Cleared u deals q) }) next refl (f (all_kept past)) (makes_cleared past at u deals q) (f t.waiting.items) (kept_there f ∙ sym (append-nil (f (all_kept past))))

  pub changes-missed : (at : ℕ) (u : UserId) (deals : List DealNo)
      → IsNext past (record { at = at; event = Absorbed (Missed u deals) }) → changed_all (flat_map (λ test. puts_where test readied t.waiting.items) (named_by u deals)) (rows past) ≡ rows (past ++ record { at = at; event = Absorbed (Missed u deals) } ∷ [])
  changes-missed at u deals next =
      let f = λ (ws : List Waiting). flat_map (λ test. puts_where test readied ws) (named_by u deals) in
      made (record { at = at; event = Absorbed (Missed u deals) }) next refl (f (all_kept past)) (makes_missed past at u deals) (f t.waiting.items) (kept_there f ∙ sym (append-nil (f (all_kept past))))

  -- a user who isn't there has set nothing
  new_settings : settings past (record { 0 = length (people past) + 1 }) ≡ default_settings
  new_settings =
      let long : numbered (length t.preferences.items + 1) t.preferences.items ≡ None = past_end t.preferences.items in
      ap (λ (p : Preferred). p.settings) (sym (holds.preferences (record { 0 = length (people past) + 1 })))
      ∙ ap (λ (p : Preferred). p.settings) (ap (λ n. preferred_in t.preferences.items (n + 1)) (sym holds.preferences_long) ∙ ap (λ o. option_map_or preferred o default_preferred) long)

  pub changes-user : (at : ℕ) (name : List ℕ) (bot : Bool) (n : ℕ) → n ≡ length t.names.items → IsNext past (record { at = at; event = Asked (AddUser name bot) }) → changed_all (Put (row.User (record { 0 = n + 1 }) name bot default_settings) ∷ []) (rows past) ≡ rows (past ++ record { at = at; event = Asked (AddUser name bot) } ∷ [])
  changes-user at name bot n many next =
      made (record { at = at; event = Asked (AddUser name bot) }) next refl [] (nothing_pending at (AddUser name bot) (λ u m. refl) (λ m. refl) refl) (Put (row.User (record { 0 = n + 1 }) name bot default_settings) ∷ [])
      (ap (λ n. Put (row.User (record { 0 = n + 1 }) name bot default_settings) ∷ []) (many ∙ names_long t past holds)
      ∙ ap (λ s. Put (row.User (record { 0 = length (people past) + 1 }) name bot s) ∷ []) (sym new_settings))

  -- a switch of a user who is there, or of nobody
  pub changes-setting : (at : ℕ) (user : UserId) (change : SettingChange)
      → IsNext past (record { at = at; event = Asked (Set user change) }) → changed_all (map Put (option_to_list (option_map (λ (p : Person). row.User user p.name p.bot (changed_settings change (settings past user))) (person past user)))) (rows past) ≡ rows (past ++ record { at = at; event = Asked (Set user change) } ∷ [])
  changes-setting at user change next =
      let puts = map Put (option_to_list (option_map (λ (p : Person). row.User user p.name p.bot (changed_settings change (settings past user))) (person past user))) in
      made (record { at = at; event = Asked (Set user change) }) next refl [] (nothing_pending at (Set user change) (λ u m. refl) (λ m. refl) refl) puts (sym (append-nil puts))

  pub changes-send : (at : ℕ) (k : Message) (n : ℕ) (ws : List Waiting) → n ≡ length t.messages.items → ws ≡ map in_flight (owed_by (occurrence past (send_of at k)))
      → IsNext past (send_of at k) → changed_all (Put (row.Message (record { 0 = n + 1 }) k.sender k.text false) ∷ map (λ w. Put (notice_row w)) ws) (rows past) ≡ rows (past ++ send_of at k ∷ [])
  changes-send at k n ws many are next =
      ap (λ cs. changed_all cs (rows past)) (ap (λ n. Put (row.Message (record { 0 = n + 1 }) k.sender k.text false) ∷ map (λ w. Put (notice_row w)) ws) (many ∙ messages_long t past holds)
      ∙ ap (λ ws. Put (row.Message (record { 0 = length (messages past) + 1 }) k.sender k.text false) ∷ map (λ w. Put (notice_row w)) ws) are)
      ∙ by k.to k.sender k.text next
    where
      by : (to : Destination) (sender : UserId) (text : List ℕ)
          → IsNext past (record { at = at; event = Asked (request_to sender to text) })
          → changed_all (Put (row.Message (record { 0 = length (messages past) + 1 }) sender text false) ∷ map (λ w. Put (notice_row w)) (map in_flight (owed_by (occurrence past (record { at = at; event = Asked (request_to sender to text) }))))) (rows past)
          ≡ rows (past ++ record { at = at; event = Asked (request_to sender to text) } ∷ [])
      by (destination.Channel channel topic) sender text next =
          let s : Stamped = record { at = at; event = Asked (Send sender channel topic text) } in
          let new = map (λ w. Put (notice_row w)) (map in_flight (owed_by (occurrence past s))) in
          made s next refl new (makes_left past s (no_request (Send sender channel topic text)) (bars_none s (λ u m. refl) (λ m. refl)) (λ u k online. refl) (λ u k. refl) (λ k. refl)) (Put (row.Message (record { 0 = length (messages past) + 1 }) sender text false) ∷ new)
          (ap (λ cs. Put (row.Message (record { 0 = length (messages past) + 1 }) sender text false) ∷ cs) (sym (append-nil new)))
      by (destination.Direct to) sender text next =
          let s : Stamped = record { at = at; event = Asked (Direct sender to text) } in
          let new = map (λ w. Put (notice_row w)) (map in_flight (owed_by (occurrence past s))) in
          made s next refl new (makes_left past s (no_request (Direct sender to text)) (bars_none s (λ u m. refl) (λ m. refl)) (λ u k online. refl) (λ u k. refl) (λ k. refl)) (Put (row.Message (record { 0 = length (messages past) + 1 }) sender text false) ∷ new)
          (ap (λ cs. Put (row.Message (record { 0 = length (messages past) + 1 }) sender text false) ∷ cs) (sym (append-nil new)))

  pub changes-mails : (at : ℕ) (user : UserId) (n : ℕ) (es : List Entry) → n ≡ length t.outbox.items → es ≡ mail_entries past at user
      → IsNext past (record { at = at; event = MailTurn user }) → changed_all (map (removed_mail user) (rows_of t.batches user) ++ map Put (outbox_rows_from (n + 1) es)) (rows past) ≡ rows (past ++ record { at = at; event = MailTurn user } ∷ [])
  changes-mails at user n es many are next =
      let gone = map (removed_mail user) (rows_of t.batches user) in
      made (record { at = at; event = MailTurn user }) next refl gone
      (makes_taken past at user (rows_of t.batches user) (subst (λ (ms : List MessageId). IsPermutation ms (rows_of t.batches user)) (sym (messages-kept user past)) (holds.batches.rows user)))
      (gone ++ map Put (outbox_rows_from (n + 1) es))
      (ap (λ n. gone ++ map Put (outbox_rows_from (n + 1) es)) (many ∙ ap length holds.outbox)
      ∙ ap (λ es. gone ++ map Put (outbox_rows_from (length (outbox past) + 1) es)) are)

  -- ---- reads, deletions and removals

  pub changes-read : (at : ℕ) (u : UserId) (ms : List MessageId) → IsNext past (record { at = at; event = Asked (Read u ms) })
      → changed_all (flat_map (λ test. removes_where test t.waiting.items) (unbarred_tests (pairs_read u ms))) (rows past) ≡ rows (past ++ record { at = at; event = Asked (Read u ms) } ∷ [])
  changes-read at u ms next =
      let s : Stamped = record { at = at; event = Asked (Read u ms) } in let gone = λ (ws : List Waiting). flat_map (λ test. removes_where test ws) (unbarred_tests (pairs_read u ms)) in
      made s next refl (gone (all_kept past)) (makes_barred past s (no_request (Read u ms)) refl (λ v k online. refl) (λ v k. refl) (λ k. refl) (pairs_read u ms) (read-bars past at u ms)) (gone t.waiting.items)
      (kept_there gone ∙ sym (append-nil (gone (all_kept past))))

  pub changes-delete : (at : ℕ) (u : UserId) (m : MessageId) → IsNext past (record { at = at; event = Asked (Delete u m) })
      → changed_all (map Put (option_to_list (deleted_row past m)) ++ flat_map (λ test. removes_where test t.waiting.items) (unbarred_tests (pairs_gone (concerned past m) m))) (rows past) ≡ rows (past ++ record { at = at; event = Asked (Delete u m) } ∷ [])
  changes-delete at u m next =
      let s : Stamped = record { at = at; event = Asked (Delete u m) } in let gone = λ (ws : List Waiting). flat_map (λ test. removes_where test ws) (unbarred_tests (pairs_gone (concerned past m) m)) in
      let row_put = map Put (option_to_list (deleted_row past m)) in
      made s next refl (gone (all_kept past)) (makes_barred past s (no_request (Delete u m)) refl (λ v k online. refl) (λ v k. refl) (λ k. refl) (pairs_gone (concerned past m) m) (gone-bars past at u m)) (row_put ++ gone t.waiting.items)
      (ap (λ cs. row_put ++ cs) (kept_there gone ∙ sym (append-nil (gone (all_kept past)))))

-- nothing bars a notice that was just owed, so each has its row
pub puts-flight : (ns : List Notice) → puts_where (λ w. not (is_barred w)) (λ w. w) (map in_flight ns) ≡ map (λ w. Put (notice_row w)) (map in_flight ns)
puts-flight [] = refl
puts-flight (n ∷ ns) = ap (λ cs. Put (notice_row (in_flight n)) ∷ cs) (puts-flight ns)

-- a mail turn adds its entries to the outbox
pub outbox-mails : (past : List Stamped) (at : ℕ) (u : UserId) → length (outbox (past ++ record { at = at; event = MailTurn u } ∷ [])) ≡ length (outbox past) + length (mail_entries past at u)
outbox-mails past at u =
    ap length (outbox-append past (record { at = at; event = MailTurn u })) ∙ length-append (outbox past) (mail_entries past at u)

-- the effect of a send, wherever it goes
pub effect-send : (past : List Stamped) (at : ℕ) (sender : UserId) (to : Destination) (text : List ℕ) (e : Effect) → IsSendOf past at sender to text e → IsEffectOf past at (Asked (request_to sender to text)) e
effect-send past at sender (destination.Channel channel topic) text e fits = fits
effect-send past at sender (destination.Direct to) text e fits = fits
