-- When the tables stand for a journal.
use Rattle.std.specs.Prelude.{◌≡◌, ℕ, Bool, true, false, not, ◌&&◌, ◌||◌, List, [], ◌∷◌, Option, Some, None, is_some, is_none, option_map, length, map, filter, IsPermutation, if◌then◌else◌}
use Rattle.std.specs.List.{filter_map}
use Rattle.std.specs.Option.{option_map_or}
use Rattle.chat_model.specs.declared.event.Stamped.{Stamped}
use Rattle.chat_model.specs.declared.event.Event.TheVariants.{Asked, PushTurn}
use Rattle.chat_model.specs.declared.request.Request.TheVariants.{Send, Direct}
use Rattle.chat_model.specs.declared.ids.UserId.{UserId}
use Rattle.chat_model.specs.declared.ids.ChannelId.{ChannelId}
use Rattle.chat_model.specs.declared.ids.GroupId.{GroupId}
use Rattle.chat_model.specs.declared.ids.MessageId.{MessageId}
use Rattle.chat_model.specs.declared.push_item.PushItem.{PushItem}
use Rattle.chat_model.specs.declared.push_item.PushItem.TheVariants.{Notify, Remove}
use Rattle.chat_model.specs.declared.request.Request.{Request}
use Rattle.chat_model.specs.declared.row.Cause.TheVariants.{Read, Deleted, SwitchedOff}
use Rattle.chat_model.specs.declared.row.Cause.{Cause}
use Rattle.chat_model.specs.declared.trigger.Way.TheVariants as ways
use Rattle.notice_ledger.specs.Past.Journal.{last_stamp, occurrence}
use Rattle.notice_ledger.specs.Past.Values.{SentMessage, people, user_names, groups, group_names, is_member, channels, messages, message, is_deleted, subscribed}
use Rattle.notice_ledger.specs.Past.Triggers.{goes_to}
use Rattle.notice_ledger.specs.declared.accounts.Account.TheVariants.{Handed, Cancelled, LiveQueue}
use Rattle.notice_ledger.specs.declared.accounts.Account.{Account}
use Rattle.notice_ledger.specs.declared.accounts.Account.TheVariants as accounts
use Rattle.notice_ledger.specs.declared.destination.Destination.{Destination}
use Rattle.notice_ledger.specs.declared.destination.Destination.TheVariants as destination
use Rattle.notice_ledger.specs.Owed.{account, notice_to}
use Rattle.notice_ledger.specs.Pushes.{oldest_item}
use Rattle.notice_ledger.specs.Past.Owed.{Notice, notices, notice_of, pushes_online, ready, was_dealt, bar, cause_of_bar, is_unbarred, turn, account_of, is_pending, notice_to as notice_behind, switch_on}
use Rattle.notice_ledger.specs.Past.Pushes.{waiting_items, is_active}
use Rattle.notice_ledger.specs.Past.Deals.{deals}
pub use Rattle.notice_ledger.specs.Past.Runs.{start_count}
use Rattle.notice_ledger.specs.Past.Due.{DueUser, batch_rows, due}
use Rattle.notice_ledger.specs.Past.Outbox.{outbox, mailed}
use Rattle.notice_ledger.specs.Past.Audit.{in_64_bits, owed_with, removals_written, same_account}
use Rattle.notice_ledger.specs.Lawful.{lawful}
use Rattle.mail_batches.specs.Batches.{Waiting as Batches, due_of, rows_of}
use Rattle.mail_batches.specs.declared.batches.DueUser.{DueUser as FoundDue}
use Rattle.book_tables.specs.declared.pushes.PushVerdict.{PushVerdict}
use Rattle.book_tables.specs.declared.pushes.PushVerdict.TheVariants as verdict
use Rattle.book_tables.specs.declared.tables.Message.{Message}
use Rattle.chat_model.specs.declared.row.Stage.{Stage}
use Rattle.chat_model.specs.declared.row.Stage.TheVariants.{Flight, Held, Ready}
use Rattle.book_tables.specs.declared.tables.Waiting.{Waiting}
use Rattle.book_tables.specs.declared.tables.Tables.{Tables}
use Rattle.book_tables.specs.UserSets.{has_in, AreUserSets}
use Rattle.book_tables.specs.Preferences.{preferred_in, preferred_by}
use Rattle.book_tables.specs.Receipts.{is_marked}

-- a message as the tables keep it
abbrev pub message_kept : SentMessage → Message
message_kept m = record { sender = m.sender; to = m.to; text = m.text }

-- how far a notice that waits has come, by whether its deal was absorbed and whether it has a ready event
abbrev pub stage_by : Bool → Bool → Stage
stage_by dealt true = Ready
stage_by true false = Held
stage_by false false = Flight

-- a notice with how far it has come and why it is barred, if it is
abbrev pub notice_at : Stage → Option Cause → Notice → Waiting
notice_at g c n = record { user = n.user; message = n.number; way = n.way; trigger = n.trigger; deal = n.deal; via = n.via; online = pushes_online n; stage = g; barred = c }

-- a notice as the tables keep it while it waits, and a push while it is active
abbrev pub notice_kept : List Stamped → Notice → Waiting
notice_kept j n = notice_at (stage_by (was_dealt j n) (is_some (ready j n))) (cause_of_bar j n) n

-- a notice that was just owed
abbrev pub in_flight : Notice → Waiting
in_flight n = notice_at Flight None n

-- a notice that a live queue cleared, as the tables keep it
abbrev pub cleared_kept : Notice → Waiting
cleared_kept n = notice_at Held None n

-- a notice is up for its turn: it has a ready event, no bar before that event, and no turn
abbrev pub awaits_turn : List Stamped → Notice → Bool
awaits_turn j n = option_map_or (is_unbarred n) (ready j n) false && is_none (turn j n)

-- a notice stays with those that wait until it is cancelled, or ready and its turn comes
abbrev pub stays : List Stamped → Notice → Bool
stays j n = is_pending (account_of j n) || awaits_turn j n

-- a live queue cleared the notice, and nothing bars it
abbrev pub is_live : List Stamped → Notice → Bool
is_live j n = same_account (account_of j n) LiveQueue

-- the request that sends a message
abbrev pub request_to : UserId → Destination → List ℕ → Request
request_to sender (destination.Channel channel topic) text = Send sender channel topic text
request_to sender (destination.Direct to) text = Direct sender to text

-- the send of a message at a stamp
abbrev pub send_of : ℕ → Message → Stamped
send_of at m = record { at = at; event = Asked (request_to m.sender m.to m.text) }

-- the message behind these events
abbrev pub sent_after : List Stamped → Message → SentMessage
sent_after past m = record { past = past; sender = m.sender; to = m.to; text = m.text }

-- what the send of a message behind these owes a user, mail before push
abbrev pub owed_user : List Stamped → ℕ → Message → UserId → List Waiting
owed_user past at m u = map in_flight (filter_map (notice_of (occurrence past (send_of at m)) (sent_after past m) u) (ways.Mail ∷ ways.Push ∷ []))

-- how many notices a mail turn of the user behind these switches off
abbrev pub switched_at : List Stamped → UserId → ℕ
switched_at past u = if switch_on past u ways.Mail then 0 else length (mailed past u)

-- how many notices a push turn of the user's notice of a message behind these switches off: one that nothing bars, where the
-- switch is off
abbrev pub switched_at_push : List Stamped → UserId → MessageId → ℕ
switched_at_push past u m = option_map_or (λ n. if is_none (bar past n) && not (switch_on past u ways.Push) then 1 else 0) (notice_behind past u m ways.Push) 0

-- the batches hold what these events leave: each user's batch rows by their messages, in some order, and due moment
pub record HoldBatches (b : Batches) (past : List Stamped) : Type 0 where
  pub rows : (u : UserId) → IsPermutation (map (λ n. n.number) (batch_rows past u)) (rows_of b u)
  pub due : (u : UserId) → due_of b u ≡ due past u

-- the tables hold what these events, which all count, leave
pub record Holds (t : Tables) (past : List Stamped) : Type 0 where
  pub last : t.last ≡ last_stamp past
  pub starts : t.starts ≡ in_64_bits (start_count past)
  pub names : t.names.items ≡ user_names past
  pub bots : t.bots.items ≡ map (λ p. p.bot) (people past)
  pub preferences : (u : UserId) → preferred_in t.preferences.items u.0 ≡ preferred_by past u
  pub preferences_long : length t.preferences.items ≡ length (people past)
  pub members : (g : GroupId) (u : UserId) → has_in t.members.items g.0 u ≡ is_member past g u
  pub member_sets : AreUserSets (length (groups past)) (length (people past)) t.members.items
  pub groups : t.groups.items ≡ group_names past
  pub subscribers : (c : ChannelId) (u : UserId) → has_in t.subscribers.items c.0 u ≡ subscribed past u c
  pub subscriber_sets : AreUserSets (length (channels past)) (length (people past)) t.subscribers.items
  pub channels : t.channels.items ≡ channels past
  pub addressees : (m : MessageId) (u : UserId) → has_in t.addressees.items m.0 u ≡ option_map_or (λ s. goes_to s.past s.to u) (message past m) false
  pub addressees_long : length t.addressees.items ≡ length (messages past)
  pub deleted : (m : MessageId) → is_marked t.deleted.items m.0 ≡ is_deleted past m
  pub deleted_long : length t.deleted.items ≡ length (messages past)
  pub messages : t.messages.items ≡ map message_kept (messages past)
  pub waiting : t.waiting.items ≡ map (notice_kept past) (filter (stays past) (notices past))
  pub cleared : t.cleared.items ≡ map cleared_kept (filter (is_live past) (notices past))
  pub batches : HoldBatches t.batches past
  pub items : t.pushes.items ≡ waiting_items past
  pub active : t.active.items ≡ map (notice_kept past) (filter (is_active past) (notices past))
  pub deals : t.deals.items ≡ deals past
  pub outbox : t.outbox.items ≡ outbox past
  pub handed : t.handed ≡ in_64_bits (owed_with past Handed)
  pub off : t.off ≡ in_64_bits (owed_with past (Cancelled SwitchedOff))
  pub read : t.read ≡ in_64_bits (owed_with past (Cancelled Read))
  pub gone : t.gone ≡ in_64_bits (owed_with past (Cancelled Deleted))
  pub written : t.written ≡ in_64_bits (removals_written past)

-- the tables stand for a list of events: they hold what its lawful events leave
abbrev pub StandsFor : Tables → List Stamped → Type 0
StandsFor t j = Holds t (lawful j)

-- the tables hold what some events leave
abbrev pub HoldSome : Tables → Type 0
HoldSome t = (past : List Stamped) × Holds t past

-- what a search for the least due moment found
abbrev pub found_due : FoundDue → DueUser
found_due d = record { due = d.due; user = d.user }

-- ---- push turns

-- the push turn of a user's notice of a message at a stamp
abbrev pub push_turn : ℕ → UserId → MessageId → Stamped
push_turn at u m = record { at = at; event = PushTurn (Notify u m) }

-- the turn of a removal at a stamp
abbrev pub removal_turn : ℕ → UserId → List MessageId → Stamped
removal_turn at u ms = record { at = at; event = PushTurn (Remove u ms) }

-- the item waits longest, after a journal for which the tables stand
abbrev pub IsOldest : Tables → PushItem → Type 0
IsOldest t i = (j : List Stamped) × (StandsFor t j) × (oldest_item j ≡ Some i)

-- the item of the user's push of this message does
abbrev pub WaitsLongest : Tables → UserId → MessageId → Type 0
WaitsLongest t u m = IsOldest t (Notify u m)

-- the user's push of this message is owed behind these, up for its turn, and kept so
pub record IsReadyPush (past : List Stamped) (u : UserId) (m : MessageId) (w : Waiting) : Type 0 where
  pub notice : Notice
  pub owed : notice_behind past u m ways.Push ≡ Some notice
  pub is_next : awaits_turn past notice ≡ true
  pub kept : w ≡ notice_kept past notice

-- the user's push of this message was handed over, and its notice has this trigger; or it was dropped for this cause
abbrev pub IsVerdict : List Stamped → UserId → MessageId → PushVerdict → Type 0
IsVerdict j u m (verdict.Hand trigger) = (account j u m ways.Push ≡ Handed) × (option_map (λ n. n.trigger) (notice_to j u m ways.Push) ≡ Some trigger)
IsVerdict j u m (verdict.Drop cause) = account j u m ways.Push ≡ Cancelled cause
