-- The room that an effect needs in the tables.
use Rattle.std.specs.Prelude.{◌≡◌, ◌+◌, ◌*◌, ◌<◌, ◌≤◌, true, IfSome, length, filter, vec_len, vec_capacity}
use Rattle.notice_ledger.specs.Past.Values.{numbered}
use Rattle.book_tables.specs.declared.tables.Tables.{Tables}
use Rattle.book_tables.specs.declared.prepared.Effect.{Effect}
use Rattle.book_tables.specs.declared.prepared.Effect.TheVariants as effect
use Rattle.book_tables.specs.declared.prepared.Prepared.{Prepared}
use Rattle.book_tables.specs.Notices.{of_deal, IsInOrder}
use Rattle.book_tables.specs.Preferences.{HasPlaceFor}
use Rattle.book_tables.specs.UserSets.{HasPlace}

-- the tables have room for the effect: a user who leaves a set needs none, each notice that becomes ready may be a row of a
-- batch, and each push that becomes ready makes an item
abbrev pub HasRoom : Tables → Effect → Type 0
HasRoom t (effect.Start pushes) = (length t.waiting.items ≤ t.batches.spare) × (length pushes.items ≤ t.pushes.item_room)
HasRoom t (effect.User user bot) = (vec_len t.names < vec_capacity t.names) × (vec_len t.bots < vec_capacity t.bots) × (vec_len t.preferences < vec_capacity t.preferences)
HasRoom t (effect.Preference user change) = IfSome (numbered user.0 t.preferences.items) (HasPlaceFor change)
HasRoom t (effect.Group group members) = (vec_len t.groups < vec_capacity t.groups) × (vec_len t.members < vec_capacity t.members)
HasRoom t (effect.Membership group user on) = on ≡ true → IfSome (numbered group.0 t.members.items) HasPlace
HasRoom t (effect.Channel name) = (vec_len t.channels < vec_capacity t.channels) × (vec_len t.subscribers < vec_capacity t.subscribers)
HasRoom t (effect.Subscription channel user on) = on ≡ true → IfSome (numbered channel.0 t.subscribers.items) HasPlace
HasRoom t (effect.Message message addressees waiting deal) =
    (vec_len t.messages < vec_capacity t.messages) × (vec_len t.addressees < vec_capacity t.addressees) × (vec_len t.deleted < vec_capacity t.deleted)
    × (vec_len t.waiting + vec_len waiting ≤ vec_capacity t.waiting)
    × (vec_len t.deals < vec_capacity t.deals)
HasRoom t (effect.Dealt deal idle live pushes) = (IsInOrder t.waiting.items → length (filter (of_deal deal) t.waiting.items) ≤ t.batches.spare) × (length pushes.items ≤ t.pushes.item_room)
HasRoom t (effect.Cleared user deals) = vec_len t.cleared + 2 * length deals ≤ vec_capacity t.cleared
HasRoom t (effect.Missed user deals pushes) = (length deals ≤ t.batches.spare) × (length pushes.items ≤ t.pushes.item_room)
HasRoom t (effect.Mailed user entries handed off) = vec_len t.outbox + vec_len entries ≤ vec_capacity t.outbox
HasRoom t (effect.Pushed user message entry off) = IfSome entry (λ e. (vec_len t.active < vec_capacity t.active) × (vec_len t.outbox < vec_capacity t.outbox))
HasRoom t (effect.Barred cause deleted pairs cancelled removals) = length removals.items ≤ t.pushes.item_room
HasRoom t (effect.Removed user messages entry) = vec_len t.outbox < vec_capacity t.outbox

-- the tables have room for what was prepared
abbrev pub HasRoomFor : Tables → Prepared → Type 0
HasRoomFor t p = HasRoom t p.effect
