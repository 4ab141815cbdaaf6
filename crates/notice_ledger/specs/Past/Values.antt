-- What there is, and the values before a position. A function of a journal means here: of the events before
-- the position that is spoken of.
use Rattle.std.specs.Prelude.{ℕ, zero, suc, ◌+◌, Bool, false, not, ◌&&◌, ◌||◌, ◌==◌, List, [], ◌∷◌, Option, Some, None, option_and_then, option_map, is_some, unwrap_or, length, map, slice_get, count_by, if◌then◌else◌}
use Rattle.std.specs.Option.{option_map_or}
use Rattle.std.specs.List.{filter_map, list_any, range_with_len}
use Rattle.std.specs.Str.{str_eq_ignore_ascii_case}
use Rattle.chat_model.specs.declared.event.Stamped.{Stamped}
use Rattle.chat_model.specs.declared.event.Event.{Event}
use Rattle.chat_model.specs.declared.event.Event.TheVariants.{Asked}
use Rattle.chat_model.specs.declared.request.Request.TheVariants.{AddUser, AddGroup, Member, AddChannel, Subscribe, Set, SetChannel, SetPolicy, Mute, Send, Direct, Delete, Read}
use Rattle.chat_model.specs.declared.ids.UserId.{UserId}
use Rattle.chat_model.specs.declared.ids.ChannelId.{ChannelId}
use Rattle.chat_model.specs.declared.ids.GroupId.{GroupId}
use Rattle.chat_model.specs.declared.ids.MessageId.{MessageId}
use Rattle.chat_model.specs.declared.policy.Policy.{Policy}
use Rattle.chat_model.specs.declared.policy.Policy.TheVariants.{Inherit}
use Rattle.chat_model.specs.declared.policy.Specific.{Specific}
use Rattle.chat_model.specs.declared.policy.SpecificChange.{SpecificChange}
use Rattle.chat_model.specs.declared.settings.Settings.{Settings}
use Rattle.chat_model.specs.declared.settings.SettingChange.{SettingChange}
use Rattle.chat_model.specs.declared.mentions.UserName.{UserName}
use Rattle.chat_model.specs.declared.mentions.GroupName.{GroupName}
use Rattle.chat_model.specs.Settings.{default_settings, given_mail_mentions, given_push_mentions, given_push_online, given_channel_mail, given_channel_push, given_wildcards, given_followed_mail, given_followed_push, given_followed_wildcards, given_period, default_specific, given_muted, given_specific_mail, given_specific_push, given_specific_wildcards}
use Rattle.notice_ledger.specs.declared.destination.Destination.{Destination}
use Rattle.notice_ledger.specs.declared.destination.Destination.TheVariants as destination
use Rattle.notice_ledger.specs.Past.Journal.{Occurrence, occurrences, last_given}

-- the n-th of a list, from 1
abbrev pub numbered : {A : Type 0} → ℕ → List A → Option A
numbered zero xs = None
numbered (suc n) xs = slice_get xs n

-- a user, as it was added
pub record Person : Type 0 where
  pub name : List ℕ
  pub bot : Bool

-- the user that an event adds, if it adds one
abbrev pub person_of : Event → Option Person
person_of (Asked (AddUser name bot)) = Some (record { name = name; bot = bot })
person_of _ = None

-- the users, in the order of their numbers
unfoldable pub people : List Stamped → List Person
people j = filter_map (λ s. person_of s.event) j

-- the user of a number
abbrev pub person : List Stamped → UserId → Option Person
person j u = numbered u.0 (people j)

-- a user's name
abbrev pub user_name : List Stamped → UserId → List ℕ
user_name j u = option_map_or (λ p. p.name) (person j u) []

-- the user is there and is a bot
abbrev pub is_bot : List Stamped → UserId → Bool
is_bot j u = option_map_or (λ p. p.bot) (person j u) false

-- there is a user of that number
abbrev pub is_user : List Stamped → UserId → Bool
is_user j u = is_some (person j u)

-- the numbers of the users, ascending
abbrev pub users : List Stamped → List UserId
users j = map (λ n. record { 0 = n }) (range_with_len 1 (length (people j)))

-- each user with its name, ascending
abbrev pub named_from : ℕ → List Person → List UserName
named_from n [] = []
named_from n (p ∷ ps) = record { id = record { 0 = n }; name = p.name } ∷ named_from (n + 1) ps

-- the users with their names, ascending
abbrev pub user_names : List Stamped → List UserName
user_names j = named_from 1 (people j)

-- the group that an event adds, by its name
abbrev pub group_of : Event → Option (List ℕ)
group_of (Asked (AddGroup name members)) = Some name
group_of _ = None

-- the names of the groups, in the order of their numbers
unfoldable pub groups : List Stamped → List (List ℕ)
groups j = filter_map (λ s. group_of s.event) j

-- a group's name
abbrev pub group_name : List Stamped → GroupId → List ℕ
group_name j g = unwrap_or (numbered g.0 (groups j)) []

-- there is a group of that number
abbrev pub is_group : List Stamped → GroupId → Bool
is_group j g = is_some (numbered g.0 (groups j))

-- each group with its name, ascending
abbrev pub named_groups_from : ℕ → List (List ℕ) → List GroupName
named_groups_from n [] = []
named_groups_from n (name ∷ names) = record { id = record { 0 = n }; name = name } ∷ named_groups_from (n + 1) names

-- the groups with their names, ascending
abbrev pub group_names : List Stamped → List GroupName
group_names j = named_groups_from 1 (groups j)

-- the channel that an event adds, by its name
abbrev pub channel_of : Event → Option (List ℕ)
channel_of (Asked (AddChannel name)) = Some name
channel_of _ = None

-- the names of the channels, in the order of their numbers
unfoldable pub channels : List Stamped → List (List ℕ)
channels j = filter_map (λ s. channel_of s.event) j

-- a channel's name
abbrev pub channel_name : List Stamped → ChannelId → List ℕ
channel_name j c = unwrap_or (numbered c.0 (channels j)) []

-- there is a channel of that number
abbrev pub is_channel : List Stamped → ChannelId → Bool
is_channel j c = is_some (numbered c.0 (channels j))

-- a message as it was sent, with the events before its send
pub record SentMessage : Type 0 where
  pub past : List Stamped
  pub sender : UserId
  pub to : Destination
  pub text : List ℕ

-- what an event sends
pub record Sending : Type 0 where
  pub sender : UserId
  pub to : Destination
  pub text : List ℕ

abbrev pub sending_of : Event → Option Sending
sending_of (Asked (Send sender channel topic text)) = Some (record { sender = sender; to = destination.Channel channel topic; text = text })
sending_of (Asked (Direct sender to text)) = Some (record { sender = sender; to = destination.Direct to; text = text })
sending_of _ = None

-- the message that an event behind these sends
abbrev pub sent_by : List Stamped → Event → Option SentMessage
sent_by past event = option_map (λ s. record { past = past; sender = s.sender; to = s.to; text = s.text }) (sending_of event)

-- the message that an event sends
abbrev pub message_of : Occurrence → Option SentMessage
message_of o = sent_by o.past o.event

-- the messages, in the order of their numbers
unfoldable pub messages : List Stamped → List SentMessage
messages j = filter_map message_of (occurrences j)

-- the message of a number
abbrev pub message : List Stamped → MessageId → Option SentMessage
message j m = numbered m.0 (messages j)

-- an event deletes the message
abbrev pub deletes : MessageId → Event → Bool
deletes m (Asked (Delete user message)) = message.0 == m.0
deletes m _ = false

-- a message is deleted where an event deletes it
unfoldable pub is_deleted : List Stamped → MessageId → Bool
is_deleted j m = list_any (λ s. deletes m s.event) j

-- there is a message of that number, and it isn't deleted
abbrev pub is_message : List Stamped → MessageId → Bool
is_message j m = is_some (message j m) && not (is_deleted j m)

-- an event is a read of the message by the user
abbrev pub reads : UserId → MessageId → Event → Bool
reads u m (Asked (Read user messages)) = user.0 == u.0 && list_any (λ n. n.0 == m.0) messages
reads u m _ = false

-- an event makes a deal where it sends a message
abbrev pub makes_deal : Event → Bool
makes_deal event = is_some (sending_of event)

-- the number of deals
unfoldable pub deal_count : List Stamped → ℕ
deal_count j = count_by (λ s. makes_deal s.event) j

-- the user is one of these
abbrev pub is_one_of : List UserId → UserId → Bool
is_one_of us u = list_any (λ v. v.0 == u.0) us

-- what an event makes of a user's membership in a group: the event that adds the group makes members of those whom it
-- names and of nobody else
abbrev pub membership_change : GroupId → UserId → List Stamped → Event → Option Bool
membership_change g u past (Asked (AddGroup name members)) = if length (groups past) + 1 == g.0 then Some (is_one_of members u) else None
membership_change g u past (Asked (Member group user on)) = if group.0 == g.0 && user.0 == u.0 then Some on else None
membership_change g u past _ = None

-- whether a user is a member of a group
unfoldable pub is_member : List Stamped → GroupId → UserId → Bool
is_member j g u = last_given (λ o. membership_change g u o.past o.event) false j

-- how many members a group has
unfoldable pub member_count : List Stamped → GroupId → ℕ
member_count j g = count_by (is_member j g) (users j)

-- what an event makes of a user's subscription to a channel
abbrev pub subscription_change : UserId → ChannelId → Event → Option Bool
subscription_change u c (Asked (Subscribe user channel on)) = if user.0 == u.0 && channel.0 == c.0 then Some on else None
subscription_change u c _ = None

-- whether a user is subscribed to a channel
unfoldable pub subscribed : List Stamped → UserId → ChannelId → Bool
subscribed j u c = last_given (λ o. subscription_change u c o.event) false j

-- how many subscribers a channel has
unfoldable pub subscriber_count : List Stamped → ChannelId → ℕ
subscriber_count j c = count_by (λ u. subscribed j u c) (users j)

-- what an event changes of a user's settings
abbrev pub setting_change : UserId → Event → Option SettingChange
setting_change u (Asked (Set user change)) = if user.0 == u.0 then Some change else None
setting_change u _ = None

-- one of a user's settings: what the last change gives to it, else what it is at first
abbrev pub setting : {A : Type 0} → (SettingChange → Option A) → A → List Stamped → UserId → A
setting given start j u = last_given (λ o. option_and_then given (setting_change u o.event)) start j

-- a user's settings
unfoldable pub settings : List Stamped → UserId → Settings
settings j u = record {
  mail_mentions = setting given_mail_mentions default_settings.mail_mentions j u;
  push_mentions = setting given_push_mentions default_settings.push_mentions j u;
  push_online = setting given_push_online default_settings.push_online j u;
  channel_mail = setting given_channel_mail default_settings.channel_mail j u;
  channel_push = setting given_channel_push default_settings.channel_push j u;
  wildcards = setting given_wildcards default_settings.wildcards j u;
  followed_mail = setting given_followed_mail default_settings.followed_mail j u;
  followed_push = setting given_followed_push default_settings.followed_push j u;
  followed_wildcards = setting given_followed_wildcards default_settings.followed_wildcards j u;
  period = setting given_period default_settings.period j u;
}

-- what an event changes of a user's settings for a channel
abbrev pub specific_change : UserId → ChannelId → Event → Option SpecificChange
specific_change u c (Asked (SetChannel user channel change)) = if user.0 == u.0 && channel.0 == c.0 then Some change else None
specific_change u c _ = None

-- one of a user's settings for a channel: what the last change gives to it, else what it is at first
abbrev pub channel_setting : {A : Type 0} → (SpecificChange → Option A) → A → List Stamped → UserId → ChannelId → A
channel_setting given start j u c = last_given (λ o. option_and_then given (specific_change u c o.event)) start j

-- a user's settings for a channel
unfoldable pub specific : List Stamped → UserId → ChannelId → Specific
specific j u c = record {
  muted = channel_setting given_muted default_specific.muted j u c;
  mail = channel_setting given_specific_mail default_specific.mail j u c;
  push = channel_setting given_specific_push default_specific.push j u c;
  wildcards = channel_setting given_specific_wildcards default_specific.wildcards j u c;
}

-- what an event makes of a user's policy for a topic of a channel, without ASCII case
abbrev pub policy_change : UserId → ChannelId → List ℕ → Event → Option Policy
policy_change u c topic (Asked (SetPolicy user channel other policy)) =
    if user.0 == u.0 && channel.0 == c.0 && str_eq_ignore_ascii_case topic other then Some policy else None
policy_change u c topic _ = None

-- a user's policy for a topic of a channel
unfoldable pub policy : List Stamped → UserId → ChannelId → List ℕ → Policy
policy j u c topic = last_given (λ o. policy_change u c topic o.event) Inherit j

-- what an event makes of a user's muting of another
abbrev pub mute_change : UserId → UserId → Event → Option Bool
mute_change u v (Asked (Mute user other on)) = if user.0 == u.0 && other.0 == v.0 then Some on else None
mute_change u v _ = None

-- whether a user has muted another
unfoldable pub has_muted : List Stamped → UserId → UserId → Bool
has_muted j u v = last_given (λ o. mute_change u v o.event) false j

-- a message goes to this topic of this channel, without ASCII case
abbrev pub is_to_topic : ChannelId → List ℕ → Destination → Bool
is_to_topic c topic (destination.Channel channel other) = channel.0 == c.0 && str_eq_ignore_ascii_case topic other
is_to_topic c topic (destination.Direct to) = false

-- the user sent the message to this topic, and it isn't deleted
abbrev pub takes_part_by : List Stamped → UserId → ChannelId → List ℕ → ℕ → SentMessage → Bool
takes_part_by j u c topic n m = m.sender.0 == u.0 && is_to_topic c topic m.to && not (is_deleted j (record { 0 = n }))

-- one of the messages from a number on passes a test of its number and itself
abbrev pub some_from : (ℕ → SentMessage → Bool) → ℕ → List SentMessage → Bool
some_from test n [] = false
some_from test n (m ∷ ms) = test n m || some_from test (n + 1) ms

-- a participant of a topic of a channel is the sender of a message that was sent to it and isn't deleted
unfoldable pub is_participant : List Stamped → UserId → ChannelId → List ℕ → Bool
is_participant j u c topic = some_from (takes_part_by j u c topic) 1 (messages j)
