-- What is gathered of a message once, and whom it then concerns.
use Rattle.std.specs.Prelude.{ℕ, ◌+◌, ◌≡◌, Bool, true, false, not, ◌&&◌, ◌||◌, ◌==◌, List, [], ◌∷◌, Option, Some, None, if◌then◌else◌}
use Rattle.chat_model.specs.declared.event.Stamped.{Stamped}
use Rattle.chat_model.specs.declared.ids.ChannelId.{ChannelId}
use Rattle.chat_model.specs.declared.ids.UserId.{UserId}
use Rattle.notice_ledger.specs.declared.destination.Destination.{Destination}
use Rattle.notice_ledger.specs.declared.destination.Destination.TheVariants as destination
use Rattle.notice_ledger.specs.Past.Values.{is_user, is_one_of, is_to_topic}
use Rattle.notice_ledger.specs.Past.Triggers.{is_participant_of, mentions_of}
use Rattle.book_tables.specs.declared.topic_key.TopicKey.{TopicKey}
use Rattle.book_tables.specs.declared.facts.Gathered.{Gathered}
use Rattle.book_tables.specs.declared.tables.Message.{Message}
use Rattle.book_tables.specs.declared.tables.Waiting.{Waiting}
use Rattle.book_tables.specs.Receipts.{is_marked}
use Rattle.book_tables.specs.Tables.{owed_user}

-- the user sent one of these messages, which stand from a number on, to the topic, and it isn't marked as deleted
abbrev pub took_part_from : List Bool → UserId → ChannelId → List ℕ → ℕ → List Message → Bool
took_part_from deleted u c topic n [] = false
took_part_from deleted u c topic n (m ∷ ms) =
    (m.sender.0 == u.0 && is_to_topic c topic m.to && not (is_marked deleted n)) || took_part_from deleted u c topic (n + 1) ms

-- the topic to which a message goes, none of a direct one
abbrev pub topic_of : Destination → Option TopicKey
topic_of (destination.Channel channel topic) = Some (record { channel = channel; topic = topic })
topic_of (destination.Direct to) = None

-- it was gathered of the message behind these events; participants are asked for only where the text has a wildcard for
-- its topic
pub record IsGathered (past : List Stamped) (message : Message) (gathered : Gathered) : Type 0 where
  pub mentioned : gathered.mentioned ≡ mentions_of past message.text
  pub topic : gathered.topic ≡ topic_of message.to
  pub participants : gathered.mentioned.topic_wildcard ≡ true → (u : UserId) → is_one_of gathered.participants.users.items u ≡ is_participant_of past message.to u

-- what the message owes one of its addressees: none where there is no such user
abbrev pub owed_there : List Stamped → ℕ → Message → UserId → List Waiting
owed_there past at message u = if is_user past u then owed_user past at message u else []
