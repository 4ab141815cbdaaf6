-- The outbox: the entries that the turns make, numbered from 1 in their order.
use Rattle.std.specs.Prelude.{ℕ, ◌-◌, Bool, ◌&&◌, List, [], ◌∷◌, ◌++◌, length, is_none, option_map, map, filter, if◌then◌else◌}
use Rattle.std.specs.List.{flat_map}
use Rattle.std.specs.Option.{option_map_or}
use Rattle.chat_model.specs.declared.event.Stamped.{Stamped}
use Rattle.chat_model.specs.declared.event.Event.{Event}
use Rattle.chat_model.specs.declared.event.Event.TheVariants.{MailTurn, PushTurn}
use Rattle.chat_model.specs.declared.entry.Item.{Item}
use Rattle.chat_model.specs.declared.entry.Entry.{Entry}
use Rattle.chat_model.specs.declared.entry.Entry.TheVariants as entry
use Rattle.chat_model.specs.declared.entry.Conversation.{Conversation}
use Rattle.chat_model.specs.declared.entry.Conversation.TheVariants.{Channel, Direct}
use Rattle.chat_model.specs.declared.ids.GroupId.{GroupId}
use Rattle.chat_model.specs.declared.ids.UserId.{UserId}
use Rattle.chat_model.specs.declared.mentions.GroupName.{GroupName}
use Rattle.chat_model.specs.declared.push_item.PushItem.{PushItem}
use Rattle.chat_model.specs.declared.push_item.PushItem.TheVariants.{Notify, Remove}
use Rattle.chat_model.specs.declared.trigger.Way.TheVariants as ways
use Rattle.chat_model.specs.Ascending.{ascending_once_by}
use Rattle.chat_model.specs.Texts.{beginning}
use Rattle.mail_batches.specs.declared.grouping.ReadyItem.{ReadyItem}
use Rattle.mail_batches.specs.Entries.{entries_of}
use Rattle.notice_ledger.specs.declared.destination.Destination.{Destination}
use Rattle.notice_ledger.specs.declared.destination.Destination.TheVariants as destination
use Rattle.notice_ledger.specs.Past.Journal.{occurrences}
use Rattle.notice_ledger.specs.Past.Values.{user_name, group_name, channel_name}
use Rattle.notice_ledger.specs.Past.Owed.{Notice, notice_to, bar, switch_on}
use Rattle.notice_ledger.specs.Limits.{pushed_characters}
use Rattle.notice_ledger.specs.Past.Due.{batch_rows}

-- a group with its name
abbrev pub named_group : List Stamped → GroupId → GroupName
named_group j g = record { id = g; name = group_name j g }

-- what an entry shows of a notice, with the names and the text before the turn
abbrev pub item : List Stamped → Notice → Item
item j n = record {
  message = n.number;
  sender = n.message.sender;
  sender_name = user_name j n.message.sender;
  trigger = n.trigger;
  via = option_map (named_group j) n.via;
  text = n.message.text;
}

-- the users of a direct message are those whom it names and its sender, ascending, once each
abbrev pub users_of : UserId → List UserId → List UserId
users_of sender to = ascending_once_by (λ u. u.0) (to ++ sender ∷ [])

-- a conversation is a channel and a topic, or the users of a direct message and its sender
abbrev pub conversation_of : List Stamped → UserId → Destination → Conversation
conversation_of j sender (destination.Channel channel topic) = Channel channel (channel_name j channel) topic
conversation_of j sender (destination.Direct to) = Direct (users_of sender to) sender

-- the conversation of a notice's message
abbrev pub conversation : List Stamped → Notice → Conversation
conversation j n = conversation_of j n.message.sender n.message.to

-- a notice's message with its conversation, as a mail turn hands them over
abbrev pub ready_item : List Stamped → Notice → ReadyItem
ready_item j n = record { conversation = conversation j n; item = item j n }

-- the notices that a user's mail turn hands over: the batch rows before it that have no bar before it
abbrev pub mailed : List Stamped → UserId → List Notice
mailed j u = filter (λ n. is_none (bar j n)) (batch_rows j u)

-- what a user's mail turn hands over, where the mail switch is on before it
abbrev pub mail_items : List Stamped → UserId → List ReadyItem
mail_items j u = if switch_on j u ways.Mail then map (ready_item j) (mailed j u) else []

-- how many of a user's batch rows a mail turn makes no item of
abbrev pub dropped : List Stamped → UserId → ℕ
dropped j u = length (batch_rows j u) - length (mail_items j u)

-- the entries of a user's mail turn, where the mail switch is on before it: the messages by their conversations
abbrev pub mail_entries : List Stamped → ℕ → UserId → List Entry
mail_entries j at u = if switch_on j u ways.Mail then entries_of u (user_name j u) at (map (ready_item j) (mailed j u)) else []

-- what a push shows of a notice: the first 200 characters of the text
abbrev pub pushed_item : List Stamped → Notice → Item
pushed_item j n = record (item j n) { text = beginning pushed_characters n.message.text }

-- the entry of a push notice that is handed over at a stamp
abbrev pub push_entry : List Stamped → ℕ → Notice → Entry
push_entry j at n = entry.Push n.user (user_name j n.user) at (conversation j n) (pushed_item j n)

-- a push notice is handed over at its turn where it has no bar and the push switch is on before the turn
abbrev pub is_pushed : List Stamped → Notice → Bool
is_pushed j n = is_none (bar j n) && switch_on j n.user ways.Push

-- the entries of an item's push turn at a stamp: one where the notice is handed over, and one for a removal
abbrev pub push_entries : List Stamped → ℕ → PushItem → List Entry
push_entries j at (Notify u m) = option_map_or (λ n. if is_pushed j n then push_entry j at n ∷ [] else []) (notice_to j u m ways.Push) []
push_entries j at (Remove u ms) = entry.Remove u (user_name j u) at ms ∷ []

-- the entries that an event at a stamp adds
abbrev pub entries_by : List Stamped → ℕ → Event → List Entry
entries_by past at (MailTurn u) = mail_entries past at u
entries_by past at (PushTurn i) = push_entries past at i
entries_by past at _ = []

-- the entries that the events add, in their order
unfoldable pub outbox : List Stamped → List Entry
outbox j = flat_map (λ o. entries_by o.past o.at o.event) (occurrences j)
