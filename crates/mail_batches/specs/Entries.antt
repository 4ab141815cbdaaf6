-- How the messages of a mail turn become entries.
use Rattle.std.specs.Prelude.{ℕ, Bool, true, not, ◌==◌, ◌&&◌, ◌||◌, nat_le, List, [], ◌∷◌, map, filter}
use Rattle.std.specs.List.{list_all, list_any}
use Rattle.chat_model.specs.declared.ids.UserId.{UserId}
use Rattle.chat_model.specs.declared.entry.Entry.{Entry}
use Rattle.chat_model.specs.declared.entry.Entry.TheVariants.{Mail}
use Rattle.chat_model.specs.Ascending.{ascending_once_by}
use Rattle.mail_batches.specs.declared.grouping.ReadyItem.{ReadyItem}
use Rattle.mail_batches.specs.Conversations.{same_conversation}

-- the number of an item's message
abbrev pub message_of : ReadyItem → ℕ
message_of i = i.item.message.0

-- no message stands in two of the items
abbrev pub no_message_twice : List ReadyItem → Bool
no_message_twice [] = true
no_message_twice (i ∷ is) = not (list_any (λ k. message_of k == message_of i) is) && no_message_twice is

-- the items by ascending message
abbrev pub by_message : List ReadyItem → List ReadyItem
by_message items = ascending_once_by message_of items

-- two items are of one conversation
abbrev pub together : ReadyItem → ReadyItem → Bool
together i k = same_conversation i.conversation k.conversation

-- an item begins an entry where no item of its conversation has a lower message
abbrev pub begins : List ReadyItem → ReadyItem → Bool
begins items i = list_all (λ k. not (together i k) || nat_le (message_of i) (message_of k)) items

-- the entry that an item begins: the items of its conversation, shown as the conversation of this first one
abbrev pub entry_of : UserId → List ℕ → ℕ → List ReadyItem → ReadyItem → Entry
entry_of user name at items first = Mail user name at first.conversation (map (λ k. k.item) (filter (together first) items))

-- the entries of a user's items, by their first message, with ascending messages in each
abbrev pub entries_of : UserId → List ℕ → ℕ → List ReadyItem → List Entry
entries_of user name at items = map (entry_of user name at (by_message items)) (filter (begins (by_message items)) (by_message items))
