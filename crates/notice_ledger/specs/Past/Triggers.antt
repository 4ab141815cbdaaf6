-- Whom a message notifies, and by which trigger. Two positions count: who receives a message is settled at its send, and
-- all else at the event that may owe a notice, with the text that the event gives the message.
use Rattle.std.specs.Prelude.{ℕ, Bool, true, false, ◌&&◌, ◌||◌, not, ◌==◌, nat_lt, List, filter, Option, None, if◌then◌else◌}
use Rattle.std.specs.List.{list_any, reduce}
use Rattle.mention_scan.specs.Mentions.{mentions}
use Rattle.chat_model.specs.declared.event.Stamped.{Stamped}
use Rattle.chat_model.specs.declared.facts.Facts.{Facts}
use Rattle.chat_model.specs.declared.ids.GroupId.{GroupId}
use Rattle.chat_model.specs.declared.ids.UserId.{UserId}
use Rattle.chat_model.specs.declared.mentions.Mentions.{Mentions}
use Rattle.chat_model.specs.declared.policy.Policy.{Policy}
use Rattle.chat_model.specs.declared.policy.Policy.TheVariants.{Inherit}
use Rattle.chat_model.specs.declared.policy.Specific.{Specific}
use Rattle.chat_model.specs.declared.trigger.Trigger.{Trigger}
use Rattle.chat_model.specs.declared.trigger.Trigger.TheVariants.{Mention}
use Rattle.chat_model.specs.declared.trigger.Way.{Way}
use Rattle.chat_model.specs.Settings.{default_specific}
use Rattle.chat_model.specs.Triggers.{trigger_of}
use Rattle.notice_ledger.specs.declared.destination.Destination.{Destination}
use Rattle.notice_ledger.specs.declared.destination.Destination.TheVariants as destination
use Rattle.notice_ledger.specs.Past.Values.{SentMessage, is_bot, user_names, group_names, is_one_of, is_member, member_count, subscribed, settings, specific, policy, has_muted, is_participant}

-- a message goes to the users who are subscribed to its channel, or to those whom a direct message names
abbrev pub goes_to : List Stamped → Destination → UserId → Bool
goes_to j (destination.Channel channel topic) u = subscribed j u channel
goes_to j (destination.Direct to) u = is_one_of to u

-- a message's recipients are those to whom it goes just before its send, the sender aside
abbrev pub is_recipient : SentMessage → UserId → Bool
is_recipient m u = goes_to m.past m.to u && not (u.0 == m.sender.0)

-- what a text mentions, with the users and groups that there are
unfoldable pub mentions_of : List Stamped → List ℕ → Mentions
mentions_of j text = mentions text (user_names j) (group_names j)

-- the text mentions the user by name
abbrev pub is_named : List Stamped → List ℕ → UserId → Bool
is_named j text u = is_one_of (mentions_of j text).users u

-- the text mentions a group of the user
abbrev pub is_named_by_group : List Stamped → List ℕ → UserId → Bool
is_named_by_group j text u = list_any (λ g. is_member j g u) (mentions_of j text).groups

-- the text mentions the user, by name or by a group of the user
abbrev pub is_mentioned : List Stamped → List ℕ → UserId → Bool
is_mentioned j text u = is_named j text u || is_named_by_group j text u

-- a direct message has no channel and no topic
abbrev pub is_direct : Destination → Bool
is_direct (destination.Channel channel topic) = false
is_direct (destination.Direct to) = true

-- the user is a participant of the message's topic; a direct message has none
abbrev pub is_participant_of : List Stamped → Destination → UserId → Bool
is_participant_of j (destination.Channel channel topic) u = is_participant j u channel topic
is_participant_of j (destination.Direct to) u = false

-- the user's policy for the message's topic
abbrev pub policy_for : List Stamped → Destination → UserId → Policy
policy_for j (destination.Channel channel topic) u = policy j u channel topic
policy_for j (destination.Direct to) u = Inherit

-- the user's settings for the message's channel
abbrev pub specific_for : List Stamped → Destination → UserId → Specific
specific_for j (destination.Channel channel topic) u = specific j u channel
specific_for j (destination.Direct to) u = default_specific

-- what is so of a user just before an event that may owe the user a notice of the message, with the text that the event
-- gives the message; wildcards in a direct message mention nobody
unfoldable pub facts_of : List Stamped → SentMessage → List ℕ → UserId → Facts
facts_of j m text u = record {
  own = u.0 == m.sender.0;
  bot = is_bot j u;
  sender_muted = has_muted j u m.sender;
  recipient = is_recipient m u;
  direct = is_direct m.to;
  mentioned = is_mentioned j text u;
  channel_wildcard = (mentions_of j text).channel_wildcard && not (is_direct m.to);
  topic_wildcard = (mentions_of j text).topic_wildcard && not (is_direct m.to);
  participant = is_participant_of j m.to u;
  policy = policy_for j m.to u;
  specific = specific_for j m.to u;
  settings = settings j u;
}

-- the trigger by which a message notifies a user by a way: the first of the table that holds, by what is so of the user
unfoldable pub trigger : List Stamped → SentMessage → List ℕ → UserId → Way → Option Trigger
trigger j m text u w = trigger_of (facts_of j m text u) w

-- of two groups the one with fewer members, and at a tie the first
abbrev pub smaller : List Stamped → GroupId → GroupId → GroupId
smaller j g h = if nat_lt (member_count j h) (member_count j g) then h else g

-- the mentioned group of the user with the fewest members, ties by the lower number
abbrev pub smallest_named : List Stamped → List ℕ → UserId → Option GroupId
smallest_named j text u = reduce (smaller j) (filter (λ g. is_member j g u) (mentions_of j text).groups)

-- the trigger is a mention
abbrev pub is_mention : Trigger → Bool
is_mention Mention = true
is_mention _ = false

-- the group by which a notice of this trigger comes to a user: only a mention comes by one, and only where the text
-- doesn't mention the user by name
unfoldable pub came_by : List Stamped → List ℕ → UserId → Trigger → Option GroupId
came_by j text u trigger = if is_mention trigger && not (is_named j text u) then smallest_named j text u else None
