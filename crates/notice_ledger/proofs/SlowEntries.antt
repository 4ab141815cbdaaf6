-- What the slow computation finds of a turn's entries.
use Rattle.std.proofs.Common.{◌≡◌, ℕ, true, false, ◌&&◌, List, [], ◌∷◌, ◌++◌, length, map, refl, sym, ap, ◌∙◌}
use Rattle.std.specs.Prelude.{Option, Some, None, option_map, is_none, filter, find, if◌then◌else◌}
use Rattle.std.specs.Option.{option_map_or}
use Rattle.std.specs.List.{AllByRecursion, filter_map, cons_option}
use Rattle.std.proofs.lemmas.List.{append-nil}
use Rattle.std.proofs.lemmas.List.Elements.{filter_map-append}
use Rattle.chat_model.specs.declared.event.Stamped.{Stamped}
use Rattle.chat_model.specs.declared.event.Event.{Event}
use Rattle.chat_model.specs.declared.entry.Conversation.{Conversation}
use Rattle.chat_model.specs.declared.ids.MessageId.{MessageId}
use Rattle.chat_model.specs.declared.ids.UserId.{UserId}
use Rattle.chat_model.specs.declared.trigger.Way.TheVariants.{Mail, Push}
use Rattle.mail_batches.specs.declared.grouping.ReadyItem.{ReadyItem}
use Rattle.mail_batches.specs.Entries.{no_message_twice, entries_of}
use Rattle.mail_batches.proofs.EntryCounts.{entries-counted, no_message_twice-map}
use Rattle.notice_ledger.specs.declared.owed.Owed.{Owed}
use Rattle.notice_ledger.specs.Past.Journal.{occurrences, occurrences_after}
use Rattle.notice_ledger.specs.Past.Values.{numbered, user_name, SentMessage, Sending, sending_of, message_of, messages}
use Rattle.notice_ledger.specs.Past.Owed.{Notice, notices, notice_to, bar, switch_on}
use Rattle.notice_ledger.specs.Past.Due.{is_batch_row, batch_rows}
use Rattle.notice_ledger.specs.Past.Outbox.{conversation_of, ready_item, mailed, mail_entries, is_pushed}
use Rattle.notice_ledger.specs.Plain.{owed_kept, bar_kept, bare_item, conversation_kept, ready_item_kept, is_of_kept}
use Rattle.notice_ledger.proofs.Batches.{mailed-once}
use Rattle.notice_ledger.proofs.Lists.{AllByRecursion-filter}
use Rattle.notice_ledger.proofs.OwedLemmas.{numbered-map}
use Rattle.notice_ledger.proofs.Sent.{IsOfMessage, notices-messages}
use Rattle.notice_ledger.proofs.SlowLemmas.{find-map}
use Rattle.notice_ledger.proofs.TurnLemmas.{filter-map}

filter_map-push : {X Y : Type 0} (h : X → Option Y) (xs : List X) (x : X) (y : Y) → Some y ≡ h x → filter_map h xs ++ y ∷ [] ≡ filter_map h (xs ++ x ∷ [])
filter_map-push h xs x y e = ap (λ o. filter_map h xs ++ cons_option o []) e ∙ sym (filter_map-append h xs (x ∷ []))

filter_map-left : {X Y : Type 0} (h : X → Option Y) (xs : List X) (x : X) → None ≡ h x → filter_map h xs ≡ filter_map h (xs ++ x ∷ [])
filter_map-left h xs x e = sym (append-nil (filter_map h xs)) ∙ (ap (λ o. filter_map h xs ++ cons_option o []) e ∙ sym (filter_map-append h xs (x ∷ [])))

-- ---- conversations

-- the conversation of the message that an event sends, with the names behind these events
abbrev pub conversation_by : List Stamped → Event → Option Conversation
conversation_by j e = option_map (λ (m : Sending). conversation_of j m.sender m.to) (sending_of e)

-- the conversations of the messages that these send
abbrev pub conversations_in : List Stamped → List Stamped → List Conversation
conversations_in j ss = filter_map (λ s. conversation_by j s.event) ss

pub conversations-more : (j ss : List Stamped) (s : Stamped) (found : List Conversation) (made : Conversation) → found ≡ conversations_in j ss → Some made ≡ conversation_by j s.event → found ++ made ∷ [] ≡ conversations_in j (ss ++ s ∷ [])
conversations-more j ss s found made so_far is = ap (λ cs. cs ++ made ∷ []) so_far ∙ filter_map-push (λ s. conversation_by j s.event) ss s made is

pub conversations-same : (j ss : List Stamped) (s : Stamped) (found : List Conversation) → found ≡ conversations_in j ss → None ≡ conversation_by j s.event → found ≡ conversations_in j (ss ++ s ∷ [])
conversations-same j ss s found so_far none = so_far ∙ filter_map-left (λ s. conversation_by j s.event) ss s none

-- they are those of the messages
pub conversations-messages : (j : List Stamped) → conversations_in j j ≡ map (λ (m : SentMessage). conversation_of j m.sender m.to) (messages j)
unfolding messages occurrences
conversations-messages j = after [] j
  where
    one : (past : List Stamped) (o : Option Sending) (rest : List SentMessage)
        → cons_option (option_map (λ (m : Sending). conversation_of j m.sender m.to) o) (map (λ (m : SentMessage). conversation_of j m.sender m.to) rest)
        ≡ map (λ (m : SentMessage). conversation_of j m.sender m.to) (cons_option (option_map (λ (s : Sending). let m : SentMessage = record { past = past; sender = s.sender; to = s.to; text = s.text } in m) o) rest)
    one past None rest = refl
    one past (Some m) rest = refl

    after : (past ss : List Stamped) → conversations_in j ss ≡ map (λ (m : SentMessage). conversation_of j m.sender m.to) (filter_map message_of (occurrences_after past ss))
    after past [] = refl
    after past (s ∷ ss) =
        ap (cons_option (conversation_by j s.event)) (after (past ++ s ∷ []) ss)
        ∙ one past (sending_of s.event) (filter_map message_of (occurrences_after (past ++ s ∷ []) ss))

-- the conversation that is found at the number of a notice's message
pub conversation-found : (j : List Stamped) (n : Owed) (found : List Conversation) (o : Option Conversation) → found ≡ map (λ (m : SentMessage). conversation_of j m.sender m.to) (messages j) → o ≡ numbered n.message.0 found → o ≡ conversation_kept j n
conversation-found j n found o are at = at ∙ (ap (numbered n.message.0) are ∙ numbered-map (λ (m : SentMessage). conversation_of j m.sender m.to) n.message.0 (messages j))

-- ---- items

pub items-more : (j : List Stamped) (rows : List Owed) (n : Owed) (items : List ReadyItem) (c : Conversation) → items ≡ filter_map (ready_item_kept j) rows → Some c ≡ conversation_kept j n
    → items ++ record { conversation = c; item = bare_item n.message } ∷ [] ≡ filter_map (ready_item_kept j) (rows ++ n ∷ [])
items-more j rows n items c so_far is =
    ap (λ is. is ++ record { conversation = c; item = bare_item n.message } ∷ []) so_far
    ∙ filter_map-push (ready_item_kept j) rows n (record { conversation = c; item = bare_item n.message }) (ap (option_map (λ (c : Conversation). let k : ReadyItem = record { conversation = c; item = bare_item n.message } in k)) is)

pub items-same : (j : List Stamped) (rows : List Owed) (n : Owed) (items : List ReadyItem) → items ≡ filter_map (ready_item_kept j) rows → None ≡ conversation_kept j n → items ≡ filter_map (ready_item_kept j) (rows ++ n ∷ [])
items-same j rows n items so_far none =
    so_far ∙ filter_map-left (ready_item_kept j) rows n (ap (option_map (λ (c : Conversation). let k : ReadyItem = record { conversation = c; item = bare_item n.message } in k)) none)

-- an item that shows nothing of its message but the number
bare : ReadyItem → ReadyItem
bare k = record { conversation = k.conversation; item = bare_item k.item.message }

-- the items of notices are those that a mail turn hands over, bare
items-bare : (j : List Stamped) (ns : List Notice) → AllByRecursion (IsOfMessage j) ns → filter_map (ready_item_kept j) (map owed_kept ns) ≡ map bare (map (ready_item j) ns)
unfolding bare
items-bare j [] all = refl
items-bare j (n ∷ ns) all =
    ap (λ (o : Option SentMessage). cons_option (option_map (λ (c : Conversation). let k : ReadyItem = record { conversation = c; item = bare_item n.number } in k) (option_map (λ (m : SentMessage). conversation_of j m.sender m.to) o)) (filter_map (ready_item_kept j) (map owed_kept ns))) all.0
    ∙ ap (λ ks. bare (ready_item j n) ∷ ks) (items-bare j ns all.1)

-- the batch rows that no event bars are those that a mail turn hands over
pub mailed_kept : (j : List Stamped) (u : UserId) (rows mailed_rows : List Owed) → rows ≡ map owed_kept (batch_rows j u) → mailed_rows ≡ filter (λ n. is_none (bar_kept j n)) rows → mailed_rows ≡ map owed_kept (mailed j u)
mailed_kept j u rows mailed_rows are kept = kept ∙ (ap (filter (λ n. is_none (bar_kept j n))) are ∙ filter-map (λ n. is_none (bar_kept j n)) owed_kept (batch_rows j u))

-- the slow items of what a mail turn hands over
slow_items : (j : List Stamped) (u : UserId) (rows : List Owed) (items : List ReadyItem) → rows ≡ map owed_kept (mailed j u) → items ≡ filter_map (ready_item_kept j) rows → items ≡ map bare (map (ready_item j) (mailed j u))
slow_items j u rows items are made =
    made
    ∙ (ap (filter_map (ready_item_kept j)) are
    ∙ items-bare j (mailed j u) (AllByRecursion-filter (IsOfMessage j) (λ n. is_none (bar j n)) (batch_rows j u)
    (AllByRecursion-filter (IsOfMessage j) (is_batch_row j u) (notices j) (notices-messages j))))

pub slow_items-once : (j : List Stamped) (u : UserId) (rows : List Owed) (items : List ReadyItem) → rows ≡ map owed_kept (mailed j u) → items ≡ filter_map (ready_item_kept j) rows → no_message_twice items ≡ true
unfolding bare
slow_items-once j u rows items are made =
    ap no_message_twice (slow_items j u rows items are made)
    ∙ (no_message_twice-map bare (λ k. refl) (λ k. refl) (map (ready_item j) (mailed j u)) ∙ mailed-once j u)

-- they make as many entries as the mail turn
pub turn_entries-on : (j : List Stamped) (at : ℕ) (u : UserId) (name : List ℕ) (rows : List Owed) (items : List ReadyItem) → switch_on j u Mail ≡ true → rows ≡ map owed_kept (mailed j u) → items ≡ filter_map (ready_item_kept j) rows
    → length (entries_of u name at items) ≡ length (mail_entries j at u)
unfolding bare
turn_entries-on j at u name rows items on are made =
    ap (λ is. length (entries_of u name at is)) (slow_items j u rows items are made)
    ∙ (entries-counted bare (λ k. refl) (λ k. refl) u u (user_name j u) name at at (map (ready_item j) (mailed j u))
    ∙ ap (λ b. length (if b then entries_of u (user_name j u) at (map (ready_item j) (mailed j u)) else [])) (sym on))

pub turn_entries-off : (j : List Stamped) (at : ℕ) (u : UserId) → switch_on j u Mail ≡ false → 0 ≡ length (mail_entries j at u)
turn_entries-off j at u off = ap (λ b. length (if b then entries_of u (user_name j u) at (map (ready_item j) (mailed j u)) else [])) (sym off)

-- ---- a push turn

-- a push that is found is handed over where the switch is on
pub pushed-found : (j : List Stamped) (u : UserId) (m : MessageId) (found : List Owed) (o : Option Owed) → found ≡ map owed_kept (notices j) → o ≡ find (is_of_kept u m Push) found
    → option_map_or (λ n. is_none (bar_kept j n) && switch_on j n.user Push) o false ≡ option_map_or (is_pushed j) (notice_to j u m Push) false
pushed-found j u m found o are at =
    ap (λ p. option_map_or (λ n. is_none (bar_kept j n) && switch_on j n.user Push) p false) (at ∙ (ap (find (is_of_kept u m Push)) are ∙ find-map (is_of_kept u m Push) owed_kept (notices j)))
    ∙ by (notice_to j u m Push)
  where
    by : (p : Option Notice) → option_map_or (λ n. is_none (bar_kept j n) && switch_on j n.user Push) (option_map owed_kept p) false ≡ option_map_or (is_pushed j) p false
    by None = refl
    by (Some n) = refl
