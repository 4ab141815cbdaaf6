-- The table of the triggers: which counts first, and where each holds.
use Rattle.std.specs.Prelude.{Bool, not, ◌&&◌, ◌||◌, List, [], ◌∷◌, Option, None, find, option_map, if◌then◌else◌}
use Rattle.chat_model.specs.declared.facts.Facts.{Facts}
use Rattle.chat_model.specs.declared.settings.Settings.{Settings}
use Rattle.chat_model.specs.declared.policy.Specific.{Specific}
use Rattle.chat_model.specs.declared.trigger.Way.{Way}
use Rattle.chat_model.specs.declared.trigger.Way.TheVariants.{Mail, Push}
use Rattle.chat_model.specs.declared.trigger.Trigger.{Trigger}
use Rattle.chat_model.specs.declared.trigger.Trigger.TheVariants.{Direct, Mention, FollowedTopicWildcard, FollowedChannelWildcard, TopicWildcard, ChannelWildcard, FollowedTopic, Channel}
use Rattle.chat_model.specs.Visibility.{allows, followed}

-- a way's switch for mentions
abbrev pub mention_switch : Way → Settings → Bool
mention_switch Mail s = s.mail_mentions
mention_switch Push s = s.push_mentions

-- a way's switch for followed topics
abbrev pub followed_switch : Way → Settings → Bool
followed_switch Mail s = s.followed_mail
followed_switch Push s = s.followed_push

-- a way's switch for all messages of a channel
abbrev pub channel_switch : Way → Settings → Bool
channel_switch Mail s = s.channel_mail
channel_switch Push s = s.channel_push

-- what a user's settings for one channel say of a way
abbrev pub specific_switch : Way → Specific → Option Bool
specific_switch Mail s = s.mail
specific_switch Push s = s.push

-- a trigger, and whether it holds
pub record TriggerRow : Type 0 where
  pub trigger : Trigger
  pub holds : Bool

abbrev pub row : Trigger → Bool → TriggerRow
row trigger holds = record { trigger = trigger; holds = holds }

-- wildcards notify for the sake of following: the topic is followed with the user's switch for that, and the switch for
-- mentions is on
abbrev pub follows_wildcards : Facts → Way → Bool
follows_wildcards f w = followed f.policy f.settings.followed_wildcards && mention_switch w f.settings

-- wildcards are allowed, and the switch for mentions is on
abbrev pub allows_wildcards : Facts → Way → Bool
allows_wildcards f w = allows f.specific.muted f.policy f.specific.wildcards f.settings.wildcards && mention_switch w f.settings

-- messages of the topic notify for the sake of following
abbrev pub follows_messages : Facts → Way → Bool
follows_messages f w = followed f.policy (followed_switch w f.settings)

-- messages of the channel are allowed
abbrev pub allows_messages : Facts → Way → Bool
allows_messages f w = allows f.specific.muted f.policy (specific_switch w f.specific) (channel_switch w f.settings)

-- the triggers in their order
abbrev pub trigger_table : Facts → Way → List TriggerRow
trigger_table f w =
    row Direct (f.direct && mention_switch w f.settings)
    ∷ row Mention (f.mentioned && mention_switch w f.settings)
    ∷ row FollowedTopicWildcard (f.topic_wildcard && f.participant && follows_wildcards f w)
    ∷ row FollowedChannelWildcard (f.channel_wildcard && follows_wildcards f w)
    ∷ row TopicWildcard (f.topic_wildcard && f.participant && allows_wildcards f w)
    ∷ row ChannelWildcard (f.channel_wildcard && allows_wildcards f w)
    ∷ row FollowedTopic (not f.direct && follows_messages f w)
    ∷ row Channel (not f.direct && allows_messages f w)
    ∷ []

-- the first trigger that holds
abbrev pub first_that_holds : List TriggerRow → Option Trigger
first_that_holds rows = option_map (λ r. r.trigger) (find (λ r. r.holds) rows)

-- who is never notified: the sender, a bot, who is no recipient, and who has muted the sender
abbrev pub is_left_out : Facts → Bool
is_left_out f = f.own || f.bot || not f.recipient || f.sender_muted

-- by what a message notifies a user by a way
unfoldable pub trigger_of : Facts → Way → Option Trigger
trigger_of f w = if is_left_out f then None else first_that_holds (trigger_table f w)
