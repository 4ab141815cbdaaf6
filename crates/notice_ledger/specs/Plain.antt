-- What the slow computation keeps of a notice and of a message, and what it computes of them.
use Rattle.std.specs.Prelude.{ℕ, Bool, false, ◌&&◌, ◌||◌, ◌==◌, not, nat_le, nat_lt, List, [], ◌∷◌, Option, Some, None, option_and_then, option_map, unwrap_or, is_none, is_some, length, map, filter, count_by, if◌then◌else◌}
use Rattle.std.specs.Option.{option_map_or}
use Rattle.std.specs.List.{list_any, filter_map, flat_map}
use Rattle.chat_model.specs.declared.event.Stamped.{Stamped}
use Rattle.chat_model.specs.declared.counts.Counts.{Counts}
use Rattle.chat_model.specs.declared.entry.Conversation.{Conversation}
use Rattle.chat_model.specs.declared.entry.Item.{Item}
use Rattle.chat_model.specs.declared.facts.Facts.{Facts}
use Rattle.chat_model.specs.declared.mentions.Mentions.{Mentions}
use Rattle.chat_model.specs.declared.ids.UserId.{UserId}
use Rattle.chat_model.specs.declared.ids.MessageId.{MessageId}
use Rattle.chat_model.specs.declared.mentions.UserName.{UserName}
use Rattle.chat_model.specs.declared.push_item.PushItem.{PushItem}
use Rattle.chat_model.specs.declared.push_item.PushItem.TheVariants.{Notify}
use Rattle.chat_model.specs.declared.row.Cause.{Cause}
use Rattle.chat_model.specs.declared.row.Cause.TheVariants.{Read, Deleted, SwitchedOff}
use Rattle.chat_model.specs.declared.trigger.Trigger.TheVariants.{Mention}
use Rattle.chat_model.specs.declared.trigger.Way.{Way}
use Rattle.chat_model.specs.declared.trigger.Way.TheVariants.{Mail, Push}
use Rattle.mail_batches.specs.declared.grouping.ReadyItem.{ReadyItem}
use Rattle.revocation.specs.Removals.{removals_of}
use Rattle.notice_ledger.specs.declared.accounts.Account.{Account}
use Rattle.notice_ledger.specs.declared.accounts.Account.TheVariants.{Flight, Held, Ready, Handed, Cancelled, LiveQueue}
use Rattle.notice_ledger.specs.declared.bars.FoundBar.{FoundBar}
use Rattle.notice_ledger.specs.declared.owed.Owed.{Owed}
use Rattle.notice_ledger.specs.declared.pushes.ReadyPush.{ReadyPush}
use Rattle.notice_ledger.specs.declared.readiness.Spot.{Spot}
use Rattle.notice_ledger.specs.declared.revocations.RevokedPush.{RevokedPush}
use Rattle.notice_ledger.specs.declared.slow.RemovalCounts.{RemovalCounts}
use Rattle.notice_ledger.specs.declared.turns.FoundTurn.{FoundTurn}
use Rattle.chat_model.specs.Ascending.{ascending_once_by}
use Rattle.chat_model.specs.Outcomes.{is_dealt}
use Rattle.chat_model.specs.Triggers.{trigger_of}
use Rattle.notice_ledger.specs.declared.facts.Heard.{Heard}
use Rattle.notice_ledger.specs.declared.due.DueUser.{DueUser as FoundDue}
use Rattle.notice_ledger.specs.Past.Journal.{Occurrence, first_behind, some_behind, absorbs}
use Rattle.notice_ledger.specs.Past.Values.{numbered, messages, is_one_of, is_member, settings, has_muted}
use Rattle.notice_ledger.specs.Past.Triggers.{goes_to, is_direct, is_participant_of, policy_for, specific_for}
use Rattle.notice_ledger.specs.Past.Owed.{Notice, same_way, pushes_online, clears, ready_behind, bar_cause, bar_behind, is_turn_of, switch_on, account_by, is_handed}
use Rattle.notice_ledger.specs.Past.Pushes.{removes}
use Rattle.notice_ledger.specs.Past.Due.{DueUser}
use Rattle.notice_ledger.specs.Past.Outbox.{conversation_of}
use Rattle.notice_ledger.specs.Past.Audit.{in_64_bits, same_account}

-- a notice as the slow computation keeps it
abbrev pub owed_kept : Notice → Owed
owed_kept n = record { user = n.user; message = n.number; way = n.way; deal = n.deal; online = pushes_online n; place = n.owing.place }

-- the user is mentioned, by name or by a group of the user
abbrev pub is_mentioned_in : List Stamped → Mentions → UserId → Bool
is_mentioned_in past mentioned u = is_one_of mentioned.users u || list_any (λ g. is_member past g u) mentioned.groups

-- what is so of the user
unfoldable pub facts_heard : List Stamped → Heard → UserId → Facts
facts_heard past m u = record {
  own = u.0 == m.sender.0;
  bot = unwrap_or (numbered u.0 m.bots.items) false;
  sender_muted = has_muted past u m.sender;
  recipient = goes_to past m.to u && not (u.0 == m.sender.0);
  direct = is_direct m.to;
  mentioned = is_mentioned_in past m.mentioned u;
  channel_wildcard = m.mentioned.channel_wildcard && not (is_direct m.to);
  topic_wildcard = m.mentioned.topic_wildcard && not (is_direct m.to);
  participant = is_participant_of past m.to u;
  policy = policy_for past m.to u;
  specific = specific_for past m.to u;
  settings = settings past u;
}

-- the notice by a way, if what is so of the user triggers it
abbrev pub owed_by_facts : Owed → Facts → Way → Option Owed
owed_by_facts n facts w =
    if is_some (trigger_of facts w) then Some (record n { way = w; online = same_way w Push && facts.settings.push_online }) else None

-- what the message owes the user by the way
abbrev pub owed_to : List Stamped → Heard → UserId → Way → Option Owed
owed_to past m u w =
    owed_by_facts (record { user = u; message = m.number; way = Mail; deal = m.deal; online = false; place = length past }) (facts_heard past m u) w

-- what the message owes these users: by user, mail before push
abbrev pub owed_to_all : List Stamped → Heard → List UserName → List Owed
owed_to_all past m users = flat_map (λ name. filter_map (owed_to past m name.id) (Mail ∷ Push ∷ [])) users

-- the notice's ready event
abbrev pub ready_kept : List Stamped → Owed → Option Occurrence
ready_kept j n = ready_behind n.place n.user n.deal n.online j

-- the place and the stamp of an event
abbrev pub spot_of : Occurrence → Spot
spot_of o = record { place = o.place; at = o.at }

-- of two events the one at the lesser place
abbrev pub earlier_spot : Spot → Spot → Spot
earlier_spot a b = if nat_lt b.place a.place then b else a

-- an absorbed outcome cleared the notice
abbrev pub cleared_kept : List Stamped → Owed → Bool
cleared_kept j n = some_behind n.place (λ o. clears n.user n.deal o.event) j

-- the notice's deal was absorbed
abbrev pub dealt_kept : List Stamped → Owed → Bool
dealt_kept j n = some_behind n.place (λ o. absorbs (is_dealt n.deal) o.event) j

-- the notice's bar
abbrev pub bar_kept : List Stamped → Owed → Option Occurrence
bar_kept j n = bar_behind n.place n.user n.message n.way j

-- a bar of the notice with its cause
abbrev pub bar_found : Owed → Occurrence → Option FoundBar
bar_found n o = option_map (λ c. record { place = o.place; cause = c }) (bar_cause n.user n.message n.way o)

-- the cause of the notice's bar
abbrev pub cause_kept : List Stamped → Owed → Option Cause
cause_kept j n = option_and_then (bar_cause n.user n.message n.way) (bar_kept j n)

-- no bar of the notice stands before an event
abbrev pub is_unbarred_kept : Owed → Occurrence → Bool
is_unbarred_kept n o = is_none (bar_kept o.past n)

-- the notice's ready event, where no bar stands before it
abbrev pub unbarred_ready_kept : List Stamped → Owed → Option Occurrence
unbarred_ready_kept j n = option_and_then (λ r. if is_unbarred_kept n r then Some r else None) (ready_kept j n)

-- the first event behind the ready one that is a turn of the notice
abbrev pub turn_kept : List Stamped → Owed → Option Occurrence
turn_kept j n = option_and_then (λ r. first_behind r.place (λ o. is_turn_of n.user n.message n.way o.event) j) (ready_kept j n)

-- what the notice's turn decided
abbrev pub decided_kept : Owed → Occurrence → Account
decided_kept n t = if switch_on t.past n.user n.way then Handed else Cancelled SwitchedOff

-- what a turn behind these events decides, where none of them bars the notice
abbrev pub decided_unbarred_kept : List Stamped → Owed → Option Account
decided_unbarred_kept past n =
    if is_none (bar_kept past n) then Some (if switch_on past n.user n.way then Handed else Cancelled SwitchedOff) else None

-- a turn of the notice with what it decided
abbrev pub turn_found : Owed → Occurrence → FoundTurn
turn_found n t = record { place = t.place; decided = decided_unbarred_kept t.past n }

-- what the notice's turn decided, where no bar stands before it
abbrev pub at_turn_kept : List Stamped → Owed → Option Account
at_turn_kept j n = option_and_then (λ t. if is_none (bar_kept t.past n) then Some (decided_kept n t) else None) (turn_kept j n)

-- where the notice stands
abbrev pub account_kept : List Stamped → Owed → Account
account_kept j n =
    account_by (at_turn_kept j n) (cause_kept j n) (is_some (ready_kept j n)) (cleared_kept j n) (dealt_kept j n)

-- the notice is a batch row of the user
abbrev pub is_batch_kept : List Stamped → UserId → Owed → Bool
is_batch_kept j u n =
    n.user.0 == u.0 && same_way n.way Mail && (is_some (unbarred_ready_kept j n) && is_none (turn_kept j n))

-- a message's item that shows nothing of it but its number
abbrev pub bare_item : MessageId → Item
bare_item m = record { message = m; sender = record { 0 = 0 }; sender_name = []; trigger = Mention; via = None; text = [] }

-- the conversation of a notice's message
abbrev pub conversation_kept : List Stamped → Owed → Option Conversation
conversation_kept j n = option_map (λ m. conversation_of j m.sender m.to) (numbered n.message.0 (messages j))

-- a notice's message with its conversation
abbrev pub ready_item_kept : List Stamped → Owed → Option ReadyItem
ready_item_kept j n = option_map (λ c. record { conversation = c; item = bare_item n.message }) (conversation_kept j n)

-- a user with a due moment, as it was found
abbrev pub found_due : FoundDue → DueUser
found_due d = record { due = d.due; user = d.user }

-- it is the user's turn at a stamp, where this user has the least due moment
abbrev pub is_next_turn : Option DueUser → UserId → ℕ → Bool
is_next_turn first u at = option_map_or (λ d. d.user.0 == u.0 && nat_le d.due at) first false

-- a push notice with the place of its ready event, where it has one and no bar stands before it
abbrev pub ready_push_kept : List Stamped → Owed → Option ReadyPush
ready_push_kept j n =
    if same_way n.way Push then option_map (λ o. record { user = n.user; message = n.message; place = o.place }) (unbarred_ready_kept j n) else None

-- a push stands before another: by user, then message
abbrev pub stands_before_kept : ReadyPush → ReadyPush → Bool
stands_before_kept a b = nat_lt a.user.0 b.user.0 || a.user.0 == b.user.0 && nat_lt a.message.0 b.message.0

-- a push before the first one that it stands before
abbrev pub put_by_user_kept : ReadyPush → List ReadyPush → List ReadyPush
put_by_user_kept p [] = p ∷ []
put_by_user_kept p (other ∷ rest) = if stands_before_kept p other then p ∷ other ∷ rest else other ∷ put_by_user_kept p rest

-- pushes by user, then message
abbrev pub by_user_kept : List ReadyPush → List ReadyPush
by_user_kept [] = []
by_user_kept (p ∷ rest) = put_by_user_kept p (by_user_kept rest)

-- those of the pushes that the event at a place makes ready, by user, then message
abbrev pub items_kept : List ReadyPush → ℕ → List ReadyPush
items_kept pushes place = by_user_kept (filter (λ p. p.place == place) pushes)

-- the item of a push
abbrev pub notify_kept : ReadyPush → PushItem
notify_kept p = Notify p.user p.message

-- ---- revocations

-- the notice's turn, where it handed the notice over
abbrev pub handed_kept : List Stamped → Owed → Option Occurrence
handed_kept j n = option_and_then (λ t. if is_unbarred_kept n t && is_handed (decided_kept n t) then Some t else None) (turn_kept j n)

-- the event that revokes the notice
abbrev pub revocation_kept : List Stamped → Owed → Option Occurrence
revocation_kept j n = option_and_then (λ t. bar_behind t.place n.user n.message n.way j) (handed_kept j n)

-- a push notice with the place of the event that revokes it, where one does
abbrev pub revoked_push_kept : List Stamped → Owed → Option RevokedPush
revoked_push_kept j n =
    if same_way n.way Push then option_map (λ o. record { user = n.user; message = n.message; place = o.place }) (revocation_kept j n) else None

-- the messages of the pushes to a user that the event at a place revokes, ascending
abbrev pub revoked_messages_kept : List RevokedPush → ℕ → UserId → List MessageId
revoked_messages_kept revoked place u =
    ascending_once_by (λ m. m.0) (map (λ p. p.message) (filter (λ p. p.user.0 == u.0 && p.place == place) revoked))

-- the removals to a user that the event at a place makes
abbrev pub removals_to_kept : List RevokedPush → ℕ → UserId → List PushItem
removals_to_kept revoked place u = removals_of u (revoked_messages_kept revoked place u)

-- one of the items that wait removes the push
abbrev pub is_removed_kept : List PushItem → RevokedPush → Bool
is_removed_kept waiting p = list_any (removes p.user p.message) waiting

-- how many of the revoked pushes have a removal among the items that wait, and how many have none there
abbrev pub removals_counted : List PushItem → List RevokedPush → RemovalCounts
removals_counted waiting revoked = record {
  waiting = in_64_bits (count_by (is_removed_kept waiting) revoked);
  written = in_64_bits (count_by (λ p. not (is_removed_kept waiting p)) revoked);
}

-- the notice is to this user, of this message, by this way
abbrev pub is_of_kept : UserId → MessageId → Way → Owed → Bool
is_of_kept u m w n = n.user.0 == u.0 && n.message.0 == m.0 && same_way n.way w

-- the counts of these accounts, with so many entries, and with these removals
abbrev pub counts_kept : List Account → ℕ → RemovalCounts → Counts
counts_kept accounts entries removals = record {
  flight = in_64_bits (count_by (λ a. same_account a Flight) accounts);
  held = in_64_bits (count_by (λ a. same_account a Held) accounts);
  ready = in_64_bits (count_by (λ a. same_account a Ready) accounts);
  handed = in_64_bits (count_by (λ a. same_account a Handed) accounts);
  read = in_64_bits (count_by (λ a. same_account a (Cancelled Read)) accounts);
  deleted = in_64_bits (count_by (λ a. same_account a (Cancelled Deleted)) accounts);
  off = in_64_bits (count_by (λ a. same_account a (Cancelled SwitchedOff)) accounts);
  live = in_64_bits (count_by (λ a. same_account a LiveQueue) accounts);
  entries = entries;
  waiting = removals.waiting;
  written = removals.written;
}
