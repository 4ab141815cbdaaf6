-- What waits to be pushed, and which pushes are active.
use Rattle.std.specs.Prelude.{ℕ, List, [], ◌∷◌, refl}
use Rattle.std.specs.Coded.{Coded, code_by, coded×, coded_ℕ, coded_list}
use Rattle.std.specs.FinSet as set
use Rattle.std.specs.Ordering.{nat_cmp}
use Rattle.std.specs.Cmp.Lexicographic.{slice_cmp}
use Rattle.chat_model.specs.declared.ids.UserId.{UserId}
use Rattle.chat_model.specs.declared.ids.MessageId.{MessageId}
use Rattle.chat_model.specs.declared.push_item.PushItem.{PushItem}

-- the flag of a push: its user's number, then its message's
abbrev pub flag : UserId → MessageId → List ℕ
flag user message = user.0 ∷ message.0 ∷ []

-- the items that wait, the oldest first; the flags that are set; and for how many more of each there is room
pub record Pushes : Type 0 where
  pub items : List PushItem
  pub flags : set.FinSet (slice_cmp nat_cmp)
  pub item_room : ℕ
  pub flag_room : ℕ
