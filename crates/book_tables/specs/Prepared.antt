-- What is prepared for an event: the changes of the rows, and the effect on the tables.
use Rattle.std.specs.Prelude.{◌≡◌, ◌+◌, ℕ, Bool, true, false, Option, Some, None, List, [], ◌∷◌, ◌++◌, length, map, filter, option_map, option_to_list, is_some, ◌&&◌, ◌||◌}
use Rattle.std.specs.List.{AllByRecursion}
use Rattle.std.specs.Option.{option_map_or}
use Rattle.chat_model.specs.declared.event.Stamped.{Stamped}
use Rattle.chat_model.specs.declared.event.Event.{Event}
use Rattle.chat_model.specs.declared.event.Event.TheVariants.{Restart, Asked, Absorbed, MailTurn, PushTurn}
use Rattle.chat_model.specs.declared.request.Request.TheVariants.{AddUser, AddGroup, Member, AddChannel, Subscribe, Set, SetChannel, SetPolicy, Mute, Send, Direct, Delete, Read}
use Rattle.chat_model.specs.declared.ids.UserId.{UserId}
use Rattle.chat_model.specs.declared.ids.MessageId.{MessageId}
use Rattle.chat_model.specs.declared.mentions.GroupName.{GroupName}
use Rattle.chat_model.specs.declared.push_item.PushItem.{PushItem}
use Rattle.chat_model.specs.declared.push_item.PushItem.TheVariants as item
use Rattle.chat_model.specs.declared.row.Row.{Row}
use Rattle.chat_model.specs.declared.row.Row.TheVariants as row
use Rattle.chat_model.specs.declared.row.Cause.{Cause}
use Rattle.chat_model.specs.declared.row.Cause.TheVariants.{Deleted}
use Rattle.chat_model.specs.declared.row.Cause.TheVariants as causes
use Rattle.chat_model.specs.declared.row.RowKey.{RowKey}
use Rattle.chat_model.specs.declared.row.RowKey.TheVariants as key
use Rattle.chat_model.specs.declared.row.RowChange.{RowChange}
use Rattle.chat_model.specs.declared.row.RowChange.TheVariants.{Put, Remove}
use Rattle.chat_model.specs.declared.deal.UserVerdict.{UserVerdict}
use Rattle.chat_model.specs.declared.trigger.Way.TheVariants.{Mail}
use Rattle.chat_model.specs.declared.deal.Outcome.TheVariants.{Dealt, Cleared, Missed}
use Rattle.chat_model.specs.declared.ids.DealNo.{DealNo}
use Rattle.chat_model.specs.Outcomes.{gives_idle, gives_live}
use Rattle.chat_model.specs.Rows.{changed_all}
use Rattle.chat_model.specs.declared.entry.Entry.{Entry}
use Rattle.chat_model.specs.declared.deal.Deal.{Deal}
use Rattle.notice_ledger.specs.Past.Journal.{occurrence}
use Rattle.notice_ledger.specs.Past.Values.{people, groups, numbered, message, is_one_of}
use Rattle.notice_ledger.specs.Past.Triggers.{goes_to}
use Rattle.notice_ledger.specs.Past.Owed.{Notice, notices, owed_by, account_of, is_pending, bar_cause}
use Rattle.notice_ledger.specs.Past.Audit.{in_64_bits, same_account}
use Rattle.notice_ledger.specs.declared.accounts.Account.TheVariants.{LiveQueue}
use Rattle.notice_ledger.specs.Past.Deals.{deal_of, deals}
use Rattle.notice_ledger.specs.Past.Outbox.{mail_items, mail_entries, push_entries}
use Rattle.notice_ledger.specs.Past.Pushes.{is_push_turn, items_by, removals_by}
use Rattle.notice_ledger.specs.Past.Rows.{rows}
use Rattle.notice_ledger.specs.Lawful.{lawful, IsLawful, is_lawful_after}
use Rattle.notice_ledger.specs.Past.Lawful.{may_stand}
use Rattle.book_tables.specs.declared.pushes.PushKey.{PushKey}
use Rattle.book_tables.specs.declared.tables.Message.{Message}
use Rattle.book_tables.specs.declared.tables.Waiting.{Waiting}
use Rattle.book_tables.specs.declared.tables.Tables.{Tables}
use Rattle.book_tables.specs.declared.prepared.Effect.{Effect}
use Rattle.book_tables.specs.declared.prepared.Effect.TheVariants as effect
use Rattle.book_tables.specs.declared.prepared.Prepared.{Prepared}
use Rattle.book_tables.specs.Pushes.{item_of, has_push}
use Rattle.book_tables.specs.UserSets.{users_in}
use Rattle.notice_ledger.specs.declared.destination.Destination.{Destination}
use Rattle.notice_ledger.specs.declared.destination.Destination.TheVariants as destination
use Rattle.book_tables.specs.declared.preferences.Preference.TheVariants as preference
use Rattle.book_tables.specs.Tables.{Holds, StandsFor, in_flight, send_of, switched_at, switched_at_push}

-- the row of a notice that waits
abbrev pub notice_row : Waiting → Row
notice_row w = row.Pending w.user w.message w.way w.trigger w.deal w.stage

-- the key of a notice's row
abbrev pub key_of_notice : Waiting → RowKey
key_of_notice w = key.Pending w.user w.message w.way

-- the row of an active push
abbrev pub active_row : PushKey → Row
active_row p = row.Active p.user p.message

-- the rows that the turn of a push adds behind so many entries, where it has this entry: none where it isn't handed over
abbrev pub turn_rows : PushKey → ℕ → Option Entry → List RowChange
turn_rows p n None = []
turn_rows p n (Some e) = Put (active_row p) ∷ Put (row.Outbox (record { 0 = n + 1 }) e false) ∷ []

-- the rows of the notices that pass a test, as they become
abbrev pub puts_where : (Waiting → Bool) → (Waiting → Waiting) → List Waiting → List RowChange
puts_where test become ws = map (λ w. Put (notice_row (become w))) (filter test ws)

-- the rows of the notices that pass a test go
abbrev pub removes_where : (Waiting → Bool) → List Waiting → List RowChange
removes_where test ws = map (λ w. Remove (key_of_notice w)) (filter test ws)

-- the effect adds this group with these members
abbrev pub IsGroup : Effect → GroupName → List UserId → Type 0
IsGroup (effect.Group group members) g us = (group ≡ g) × (users_in members ≡ us)
IsGroup _ g us = ⊥

-- the effect adds this message, which goes to whom it goes behind these, with these notices and this deal
abbrev pub IsMessage : List Stamped → Effect → Message → List Waiting → Deal → Type 0
IsMessage past (effect.Message message addressees waiting deal) m ws d =
    (message ≡ m) × ((u : UserId) → is_one_of (users_in addressees) u ≡ goes_to past m.to u) × (waiting.items ≡ ws) × (deal ≡ d)
IsMessage past _ m ws d = ⊥

-- the effect makes all ready, with these items
abbrev pub IsStart : Effect → List PushItem → Type 0
IsStart (effect.Start pushes) is = map item_of pushes.items ≡ is
IsStart _ is = ⊥

-- the effect deals this deal with these verdicts and items
abbrev pub IsDealt : Effect → DealNo → List UserVerdict → List PushItem → Type 0
IsDealt (effect.Dealt deal idle live pushes) k verdicts is =
    (deal ≡ k) × ((u : UserId) → is_one_of (users_in idle) u ≡ gives_idle verdicts u) × ((u : UserId) → is_one_of (users_in live) u ≡ gives_live verdicts u)
    × (map item_of pushes.items ≡ is)
IsDealt _ k verdicts is = ⊥

-- the effect makes the user's notices of these deals ready, with these items
abbrev pub IsMissed : Effect → UserId → List DealNo → List PushItem → Type 0
IsMissed (effect.Missed user deals pushes) u ks is = (user ≡ u) × (deals ≡ ks) × (map item_of pushes.items ≡ is)
IsMissed _ u ks is = ⊥

-- the row of a user's mail notice of a message goes
abbrev pub removed_mail : UserId → MessageId → RowChange
removed_mail u m = Remove (key.Pending u m Mail)

-- the row of a user's active push of a message goes
abbrev pub removed_push : UserId → MessageId → RowChange
removed_push u m = Remove (key.Active u m)

-- the effect hands so many notices over to the user in these entries, and switches so many off
abbrev pub IsMailed : Effect → UserId → List Entry → ℕ → ℕ → Type 0
IsMailed (effect.Mailed user entries handed off) u es h n = (user ≡ u) × (entries.items ≡ es) × (handed ≡ h) × (off ≡ n)
IsMailed _ u es h n = ⊥

-- the effect is the turn of the user's push of this message, with these entries, and switches so many off
abbrev pub IsPushed : Effect → UserId → MessageId → List Entry → ℕ → Type 0
IsPushed (effect.Pushed user message entry off) u m es n = (user ≡ u) × (message ≡ m) × (option_to_list entry ≡ es) × (off ≡ n)
IsPushed _ u m es n = ⊥

-- the effect is the turn of the removal of the user's pushes of these messages, with these entries
abbrev pub IsRemoved : Effect → UserId → List MessageId → List Entry → Type 0
IsRemoved (effect.Removed user messages entry) u ms es = (user ≡ u) × (messages ≡ ms) × (entry ∷ [] ≡ es)
IsRemoved _ u ms es = ⊥

-- the effect adds the message of a send with what it owes
abbrev pub IsSendOf : List Stamped → ℕ → UserId → Destination → List ℕ → Effect → Type 0
IsSendOf past at sender to text e =
    let m : Message = record { sender = sender; to = to; text = text } in
    let o = occurrence past (send_of at m) in IsMessage past e m (map in_flight (owed_by o)) (deal_of o)

-- the items that an event makes behind these
abbrev pub items_made : List Stamped → Stamped → List PushItem
items_made past s = items_by (past ++ s ∷ []) (occurrence past s)

-- the removals that an event makes behind these
abbrev pub removals_made : List Stamped → Stamped → List PushItem
removals_made past s = removals_by (past ++ s ∷ []) (occurrence past s)

-- an event behind these bars a notice
abbrev pub is_barred_at : List Stamped → Stamped → Notice → Bool
is_barred_at past s n = is_some (bar_cause n.user n.number n.way (occurrence past s))

-- and so cancels it: it was still to be handed over, or a live queue had cleared it
abbrev pub is_cancelled_at : List Stamped → Stamped → Notice → Bool
is_cancelled_at past s n = is_barred_at past s n && (is_pending (account_of past n) || same_account (account_of past n) LiveQueue)

-- the effect bars what the event behind these bars, for this cause, with the removals that it makes, and deletes this message
abbrev pub IsBarred : List Stamped → Stamped → Cause → Option MessageId → Effect → Type 0
IsBarred past s c m (effect.Barred cause deleted pairs cancelled removals) =
    (cause ≡ c) × (deleted ≡ m)
    × AllByRecursion (λ n. has_push pairs.items n.user n.number ≡ is_barred_at past s n) (notices past)
    × (cancelled ≡ in_64_bits (length (filter (is_cancelled_at past s) (notices past))))
    × (removals.items ≡ items_made past s)
IsBarred past s c m _ = ⊥

-- the row of a message that becomes deleted
abbrev pub deleted_row : List Stamped → MessageId → Option Row
deleted_row past m = option_map (λ sent. row.Message m sent.sender sent.text true) (message past m)

-- the users to whom a message's send owes a notice, ascending
abbrev pub concerned : List Stamped → MessageId → List UserId
concerned past m = option_map_or (λ d. d.users) (numbered m.0 (deals past)) []

-- the effect is that of an event at a stamp, behind these
abbrev pub IsEffectOf : List Stamped → ℕ → Event → Effect → Type 0
IsEffectOf past at Restart e = IsStart e (items_made past (record { at = at; event = Restart }))
IsEffectOf past at (Asked (AddUser name bot)) e = e ≡ effect.User (record { id = record { 0 = length (people past) + 1 }; name = name }) bot
IsEffectOf past at (Asked (AddGroup name members)) e = IsGroup e (record { id = record { 0 = length (groups past) + 1 }; name = name }) members
IsEffectOf past at (Asked (Member group user on)) e = e ≡ effect.Membership group user on
IsEffectOf past at (Asked (AddChannel name)) e = e ≡ effect.Channel name
IsEffectOf past at (Asked (Subscribe user channel on)) e = e ≡ effect.Subscription channel user on
IsEffectOf past at (Asked (Set user change)) e = e ≡ effect.Preference user (preference.Setting change)
IsEffectOf past at (Asked (SetChannel user channel change)) e = e ≡ effect.Preference user (preference.Specific channel change)
IsEffectOf past at (Asked (SetPolicy user channel topic policy)) e = e ≡ effect.Preference user (preference.Policy channel topic policy)
IsEffectOf past at (Asked (Mute user other on)) e = e ≡ effect.Preference user (preference.Mute other on)
IsEffectOf past at (Asked (Send sender channel topic text)) e = IsSendOf past at sender (destination.Channel channel topic) text e
IsEffectOf past at (Asked (Direct sender to text)) e = IsSendOf past at sender (destination.Direct to) text e
IsEffectOf past at (Asked (Delete user message)) e = IsBarred past (record { at = at; event = Asked (Delete user message) }) Deleted (Some message) e
IsEffectOf past at (Asked (Read user messages)) e = IsBarred past (record { at = at; event = Asked (Read user messages) }) causes.Read None e
IsEffectOf past at (Absorbed (Dealt deal verdicts)) e = IsDealt e deal verdicts (items_made past (record { at = at; event = Absorbed (Dealt deal verdicts) }))
IsEffectOf past at (Absorbed (Cleared user deals queue)) e = e ≡ effect.Cleared user deals
IsEffectOf past at (Absorbed (Missed user deals)) e = IsMissed e user deals (items_made past (record { at = at; event = Absorbed (Missed user deals) }))
IsEffectOf past at (MailTurn user) e = IsMailed e user (mail_entries past at user) (length (mail_items past user)) (switched_at past user)
IsEffectOf past at (PushTurn (item.Notify user message)) e = IsPushed e user message (push_entries past at (item.Notify user message)) (switched_at_push past user message)
IsEffectOf past at (PushTurn (item.Remove user messages)) e = IsRemoved e user messages (push_entries past at (item.Remove user messages))

-- it was prepared for this event behind these, which all count: its changes make of the rows of these those with the event
pub record Follows (past : List Stamped) (s : Stamped) (p : Prepared) : Type 0 where
  pub at : p.at ≡ s.at
  pub changes : changed_all p.changes.items (rows past) ≡ rows (past ++ s ∷ [])
  pub effect : IsEffectOf past s.at s.event p.effect

-- events that all count, and where the event is a push turn, it may stand behind them
abbrev pub IsNext : List Stamped → Stamped → Type 0
IsNext past s = IsLawful past × (is_push_turn s.event ≡ true → may_stand past s.at s.event ≡ true)

-- it was prepared for this event behind all events that count for which the tables stand
abbrev pub FollowsAll : Tables → Stamped → Prepared → Type 0
FollowsAll t s p = (past : List Stamped) → Holds t past → IsNext past s → Follows past s p

-- it was prepared for this event after this journal
abbrev pub IsPreparedFor : List Stamped → Stamped → Prepared → Type 0
IsPreparedFor j s p = Follows (lawful j) s p

-- the event may stand next, after a journal for which the tables stand
abbrev pub MayFollow : Tables → Stamped → Type 0
MayFollow t s = (j : List Stamped) × (StandsFor t j) × (is_lawful_after j s ≡ true)

-- it was prepared from these tables, which stand for a journal, for an event that is lawful then
abbrev pub WasPrepared : Tables → Prepared → Type 0
WasPrepared t p = (j : List Stamped) × (s : Stamped) × (StandsFor t j) × (is_lawful_after j s ≡ true) × (IsPreparedFor j s p)

-- the changes of the rows that were prepared
abbrev pub changes_of : Prepared → List RowChange
changes_of p = p.changes.items
