-- Lists in parts, and the removals of the messages that are revoked.
use Rattle.std.specs.Prelude.{ℕ, ◌*◌, List, length, map, take, drop}
use Rattle.std.specs.Int.{div_ceil}
use Rattle.std.specs.List.{range_with_len}
use Rattle.chat_model.specs.declared.ids.UserId.{UserId}
use Rattle.chat_model.specs.declared.ids.MessageId.{MessageId}
use Rattle.chat_model.specs.declared.push_item.PushItem.{PushItem}
use Rattle.chat_model.specs.declared.push_item.PushItem.TheVariants.{Remove}

-- the part of a number, from 0, of a list in parts of a size
abbrev pub part : {A : Type 0} → ℕ → List A → ℕ → List A
part size xs k = take size (drop (k * size) xs)

-- the list in parts of a size: as many as have an item, of which the last may be smaller
abbrev pub in_parts : {A : Type 0} → ℕ → List A → List (List A)
in_parts size xs = map (part size xs) (range_with_len 0 (div_ceil (length xs) size))

-- a removal has this many messages at most
abbrev pub most_messages : ℕ
most_messages = 200

-- the removals of a user's revoked messages
abbrev pub removals_of : UserId → List MessageId → List PushItem
removals_of user messages = map (Remove user) (in_parts most_messages messages)
