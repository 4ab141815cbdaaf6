-- The items of a mail turn by conversation, before they become entries.
use Rattle.std.specs.Prelude.{ℕ, List, map, filter}
use Rattle.chat_model.specs.declared.ids.UserId.{UserId}
use Rattle.chat_model.specs.declared.entry.Entry.{Entry}
use Rattle.chat_model.specs.declared.entry.Entry.TheVariants.{Mail}
use Rattle.mail_batches.specs.declared.grouping.ReadyItem.{ReadyItem}
use Rattle.mail_batches.specs.declared.grouping.Group.{Group}
use Rattle.mail_batches.specs.Entries.{together, begins}

-- the group that an item begins
abbrev pub group_of : List ReadyItem → ReadyItem → Group
group_of items first = record { conversation = first.conversation; items = map (λ k. k.item) (filter (together first) items) }

-- the groups of items that ascend
abbrev pub groups_of : List ReadyItem → List Group
groups_of items = map (group_of items) (filter (begins items) items)

-- the entry of a group
abbrev pub entry_from : UserId → List ℕ → ℕ → Group → Entry
entry_from user name at g = Mail user name at g.conversation g.items
