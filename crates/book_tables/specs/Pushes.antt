-- The pushes, each by its user and its message.
use Rattle.std.specs.Prelude.{◌≡◌, Bool, ◌&&◌, ◌==◌, List}
use Rattle.std.specs.List.{list_any}
use Rattle.std.specs.List.Sorted.{IsStrictlySortedBy}
use Rattle.std.specs.Ordering.{nat_cmp, ordering_then}
use Rattle.std.specs.declared.cmp.Ordering.{Ordering}
use Rattle.chat_model.specs.declared.ids.MessageId.{MessageId}
use Rattle.chat_model.specs.declared.ids.UserId.{UserId}
use Rattle.chat_model.specs.declared.push_item.PushItem.{PushItem}
use Rattle.chat_model.specs.declared.push_item.PushItem.TheVariants.{Notify}
use Rattle.book_tables.specs.declared.pushes.PushKey.{PushKey}
use Rattle.book_tables.specs.declared.tables.Waiting.{Waiting}
use Rattle.book_tables.specs.Notices.{is_undecided_push, goes_ready}

-- the push of a notice
abbrev pub push_of : Waiting → PushKey
push_of w = record { user = w.user; message = w.message }

-- the item that tells its user
abbrev pub item_of : PushKey → PushItem
item_of p = Notify p.user p.message

-- by user, then message
abbrev pub push_cmp : PushKey → PushKey → Ordering
push_cmp a b = ordering_then (nat_cmp a.user.0 b.user.0) (nat_cmp a.message.0 b.message.0)

-- the push of this user and message is one of these
abbrev pub has_push : List PushKey → UserId → MessageId → Bool
has_push ps u m = list_any (λ p. p.user.0 == u.0 && p.message.0 == m.0) ps

-- they are those pushes by user, then message, once each
pub record IsOnceEach (ps qs : List PushKey) : Type 0 where
  pub order : IsStrictlySortedBy push_cmp qs
  pub same : (u : UserId) (m : MessageId) → has_push qs u m ≡ has_push ps u m

-- an undecided push that goes ready where users were found idle or live
abbrev pub is_readied_push : List UserId → List UserId → Waiting → Bool
is_readied_push idle live w = is_undecided_push w && goes_ready idle live w
