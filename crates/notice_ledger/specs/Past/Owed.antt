-- Owed notices, and what becomes of each.
use Rattle.std.specs.Prelude.{ℕ, ◌+◌, Bool, true, false, not, ◌&&◌, ◌||◌, ◌==◌, List, [], ◌∷◌, Option, Some, None, option_and_then, is_some, is_none, length, find, filter, option_map, if◌then◌else◌}
use Rattle.std.specs.Option.{option_map_or}
use Rattle.std.specs.List.{filter_map, flat_map}
use Rattle.chat_model.specs.declared.event.Stamped.{Stamped}
use Rattle.chat_model.specs.declared.event.Event.{Event}
use Rattle.chat_model.specs.declared.event.Event.TheVariants.{MailTurn, PushTurn}
use Rattle.chat_model.specs.declared.ids.UserId.{UserId}
use Rattle.chat_model.specs.declared.ids.GroupId.{GroupId}
use Rattle.chat_model.specs.declared.ids.MessageId.{MessageId}
use Rattle.chat_model.specs.declared.ids.DealNo.{DealNo}
use Rattle.chat_model.specs.declared.deal.Outcome.{Outcome}
use Rattle.chat_model.specs.declared.push_item.PushItem.TheVariants.{Notify}
use Rattle.chat_model.specs.declared.row.Cause.{Cause}
use Rattle.chat_model.specs.declared.row.Cause.TheVariants.{Read, Deleted, SwitchedOff}
use Rattle.chat_model.specs.declared.settings.Settings.{Settings}
use Rattle.chat_model.specs.declared.trigger.Trigger.{Trigger}
use Rattle.chat_model.specs.declared.trigger.Way.{Way}
use Rattle.chat_model.specs.declared.trigger.Way.TheVariants.{Mail, Push}
use Rattle.chat_model.specs.Outcomes.{is_dealt, is_dealt_live, is_dealt_idle, is_cleared, is_missed}
use Rattle.chat_model.specs.Settings.{push_switch}
use Rattle.notice_ledger.specs.declared.accounts.Account.{Account}
use Rattle.notice_ledger.specs.declared.accounts.Account.TheVariants.{NotOwed, Flight, Held, Ready, Handed, Cancelled, LiveQueue}
use Rattle.notice_ledger.specs.Past.Journal.{Occurrence, occurrences, first_behind, some_behind, absorbs}
use Rattle.notice_ledger.specs.Past.Runs.{is_restart}
use Rattle.notice_ledger.specs.Past.Values.{SentMessage, message_of, messages, users, deal_count, settings, reads, deletes}
use Rattle.notice_ledger.specs.Past.Triggers.{trigger, came_by}

-- an owed notice: to whom, of which message, by which way; with its trigger, the group by which it comes, its deal and the
-- event that owes it
pub record Notice : Type 0 where
  pub user : UserId
  pub number : MessageId
  pub way : Way
  pub message : SentMessage
  pub trigger : Trigger
  pub via : Option GroupId
  pub deal : DealNo
  pub owing : Occurrence

-- two ways are the same
abbrev pub same_way : Way → Way → Bool
same_way Mail Mail = true
same_way Push Push = true
same_way _ _ = false

-- the notice is to this user, of this message, by this way
abbrev pub is_of : UserId → MessageId → Way → Notice → Bool
is_of u m w n = n.user.0 == u.0 && n.number.0 == m.0 && same_way n.way w

-- what the send of a message owes a user by a way
abbrev pub notice_of : Occurrence → SentMessage → UserId → Way → Option Notice
notice_of o m u w =
    option_map (λ t. record {
      user = u;
      number = record { 0 = length (messages o.past) + 1 };
      way = w;
      message = m;
      trigger = t;
      via = came_by o.past m.text u t;
      deal = record { 0 = deal_count o.past };
      owing = o;
    }) (trigger o.past m m.text u w)

-- what a message's send owes: by user, mail before push
abbrev pub owed_of : Occurrence → SentMessage → List Notice
owed_of o m = flat_map (λ u. filter_map (notice_of o m u) (Mail ∷ Push ∷ [])) (users o.past)

-- what an event owes: by user, mail before push
abbrev pub owed_by : Occurrence → List Notice
owed_by o = option_map_or (owed_of o) (message_of o) []

-- the owed notices, in the order of the events that owe them
unfoldable pub notices : List Stamped → List Notice
notices j = flat_map owed_by (occurrences j)

-- ---- readiness

-- the notice is a push to a user who wanted pushes while online at the event that owes it
abbrev pub pushes_online : Notice → Bool
pushes_online n = same_way n.way Push && (settings n.owing.past n.user).push_online

-- an outcome that makes a notice of a user and a deal ready: the deal is dealt with Idle for the user, or with Live where
-- the notice pushes to who is online, or it is missed for the user
abbrev pub readies_by : UserId → DealNo → Bool → Outcome → Bool
readies_by u k online o = is_dealt_idle u k o || (online && is_dealt_live u k o) || is_missed u k o

-- an event that makes it ready: one that absorbs such an outcome, or a start of the office
abbrev pub readies : UserId → DealNo → Bool → Event → Bool
readies u k online e = is_restart e || absorbs (readies_by u k online) e

-- an event that clears it: one that absorbs a clearing of the deal for the user
abbrev pub clears : UserId → DealNo → Event → Bool
clears u k e = absorbs (is_cleared u k) e

-- the first event behind a place that makes it ready and before which none behind the place clears it
abbrev pub ready_behind : ℕ → UserId → DealNo → Bool → List Stamped → Option Occurrence
ready_behind place u k online j =
    first_behind place (λ o. readies u k online o.event && not (some_behind place (λ p. clears u k p.event) o.past)) j

-- a notice's ready event
abbrev pub ready : List Stamped → Notice → Option Occurrence
ready j n = ready_behind n.owing.place n.user n.deal (pushes_online n) j

-- an absorbed outcome cleared the notice
abbrev pub was_cleared : List Stamped → Notice → Bool
was_cleared j n = some_behind n.owing.place (λ o. clears n.user n.deal o.event) j

-- the notice's deal was absorbed
abbrev pub was_dealt : List Stamped → Notice → Bool
was_dealt j n = some_behind n.owing.place (λ o. absorbs (is_dealt n.deal) o.event) j

-- ---- bars

-- the cause with which an event bars the notices of a user, a message and a way, if it bars them: a read of the message by
-- the user, or its deletion
unfoldable pub bar_cause : UserId → MessageId → Way → Occurrence → Option Cause
bar_cause u m w o = if reads u m o.event then Some Read else if deletes m o.event then Some Deleted else None

-- the first event behind a place that bars them
abbrev pub bar_behind : ℕ → UserId → MessageId → Way → List Stamped → Option Occurrence
bar_behind place u m w j = first_behind place (λ o. is_some (bar_cause u m w o)) j

-- a notice's bar
abbrev pub bar : List Stamped → Notice → Option Occurrence
bar j n = bar_behind n.owing.place n.user n.number n.way j

-- the cause of a notice's bar
abbrev pub cause_of_bar : List Stamped → Notice → Option Cause
cause_of_bar j n = option_and_then (bar_cause n.user n.number n.way) (bar j n)

-- no bar of the notice stands before an event
abbrev pub is_unbarred : Notice → Occurrence → Bool
is_unbarred n o = is_none (bar o.past n)

-- ---- turns

-- an event is a mail turn of the user
abbrev pub is_mail_turn_of : UserId → Event → Bool
is_mail_turn_of u (MailTurn v) = v.0 == u.0
is_mail_turn_of u _ = false

-- an event is the push turn of the user's notice of the message
abbrev pub is_push_turn_of : UserId → MessageId → Event → Bool
is_push_turn_of u m (PushTurn (Notify v n)) = v.0 == u.0 && n.0 == m.0
is_push_turn_of u m _ = false

-- an event is a turn of a notice: by mail one of its user, and by push one of the notice itself
abbrev pub is_turn_of : UserId → MessageId → Way → Event → Bool
is_turn_of u m Mail e = is_mail_turn_of u e
is_turn_of u m Push e = is_push_turn_of u m e

-- a notice's turn is the first after its ready event
abbrev pub turn : List Stamped → Notice → Option Occurrence
turn j n = option_and_then (λ r. first_behind r.place (λ o. is_turn_of n.user n.number n.way o.event) j) (ready j n)

-- the switch that a turn of a way looks at: by mail that of mentions, and by push that of mentions or that of pushes to a
-- user who is online
abbrev pub turn_switch : Way → Settings → Bool
turn_switch Mail s = s.mail_mentions
turn_switch Push s = push_switch s

-- a user's switch for a turn of a way
abbrev pub switch_on : List Stamped → UserId → Way → Bool
switch_on j u w = turn_switch w (settings j u)

-- a notice that had its turn is handed, or cancelled where the switch was off before the turn
abbrev pub decided : Notice → Occurrence → Account
decided n t = if switch_on t.past n.user n.way then Handed else Cancelled SwitchedOff

-- ---- accounts

-- the table of accounts, of which the first row that applies holds: what a turn with no bar before it decided, a bar, a
-- ready event, a clearing, an absorbed deal, and nothing of these
abbrev pub account_by : Option Account → Option Cause → Bool → Bool → Bool → Account
account_by (Some at_turn) barred is_ready cleared dealt = at_turn
account_by None (Some cause) is_ready cleared dealt = Cancelled cause
account_by None None true cleared dealt = Ready
account_by None None false true dealt = LiveQueue
account_by None None false false true = Held
account_by None None false false false = Flight

-- what a notice's turn decided, where no bar stands before it
abbrev pub at_turn : List Stamped → Notice → Option Account
at_turn j n = option_and_then (λ t. if is_unbarred n t then Some (decided n t) else None) (turn j n)

-- where an owed notice stands
abbrev pub account_of : List Stamped → Notice → Account
account_of j n = account_by (at_turn j n) (cause_of_bar j n) (is_some (ready j n)) (was_cleared j n) (was_dealt j n)

-- the owed notice of a user, a message and a way, if there is one
abbrev pub notice_to : List Stamped → UserId → MessageId → Way → Option Notice
notice_to j u m w = find (is_of u m w) (notices j)

-- where the notice of a user, a message and a way stands
abbrev pub account : List Stamped → UserId → MessageId → Way → Account
account j u m w = option_map_or (account_of j) (notice_to j u m w) NotOwed

-- a notice that was handed over
abbrev pub is_handed : Account → Bool
is_handed Handed = true
is_handed _ = false

-- a notice that an event or a live queue cancelled
abbrev pub is_cancelled : Account → Bool
is_cancelled (Cancelled cause) = true
is_cancelled LiveQueue = true
is_cancelled _ = false

-- a notice that is still to be handed over: in flight, held or ready
abbrev pub is_pending : Account → Bool
is_pending Flight = true
is_pending Held = true
is_pending Ready = true
is_pending _ = false

-- the notices that wait: those with a pending account
unfoldable pub waiting : List Stamped → List Notice
waiting j = filter (λ n. is_pending (account_of j n)) (notices j)
