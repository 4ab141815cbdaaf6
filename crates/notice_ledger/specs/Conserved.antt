-- No notice is lost and none is doubled.
use Rattle.std.specs.Prelude.{◌≡◌, ◌≢◌, ℕ, ◌+◌, Bool, true, false, ◌&&◌, ◌==◌, List, sum_by, count_by, if◌then◌else◌}
use Rattle.std.specs.Option.{option_map_or}
use Rattle.chat_model.specs.declared.event.Stamped.{Stamped}
use Rattle.chat_model.specs.declared.entry.Entry.{Entry}
use Rattle.chat_model.specs.declared.entry.Entry.TheVariants as entry
use Rattle.chat_model.specs.declared.ids.UserId.{UserId}
use Rattle.chat_model.specs.declared.ids.MessageId.{MessageId}
use Rattle.chat_model.specs.declared.push_item.PushItem.{PushItem}
use Rattle.chat_model.specs.declared.push_item.PushItem.TheVariants.{Remove}
use Rattle.chat_model.specs.declared.row.Row.{Row}
use Rattle.chat_model.specs.declared.row.Row.TheVariants as row
use Rattle.chat_model.specs.declared.trigger.Way.{Way}
use Rattle.chat_model.specs.declared.trigger.Way.TheVariants.{Mail, Push}
use Rattle.notice_ledger.specs.declared.accounts.Account.{Account}
use Rattle.notice_ledger.specs.declared.accounts.Account.TheVariants.{NotOwed}
use Rattle.notice_ledger.specs.Past.Owed.{same_way, is_cancelled}
use Rattle.notice_ledger.specs.Owed.{account, notice_to}
use Rattle.notice_ledger.specs.Pushes.{waiting_items}
use Rattle.notice_ledger.specs.Lawful.{lawful}
use Rattle.notice_ledger.specs.Past.Pushes as past
use Rattle.notice_ledger.specs.Rows as any

-- a row is the pending row of a notice
abbrev pub is_pending_row : UserId → MessageId → Way → Row → Bool
is_pending_row u m w (row.Pending user message way trigger deal stage) = user.0 == u.0 && message.0 == m.0 && same_way way w
is_pending_row u m w _ = false

-- how many items an entry of a way has of a user's message: mails come by mail entries, and pushes by push entries
abbrev pub items_of : UserId → MessageId → Way → Entry → ℕ
items_of u m Mail (entry.Mail user name at conversation items) = if user.0 == u.0 then count_by (λ i. i.message.0 == m.0) items else 0
items_of u m Push (entry.Push user name at conversation item) = if user.0 == u.0 && item.message.0 == m.0 then 1 else 0
items_of u m _ _ = 0

-- how many items an outbox row has of it
abbrev pub items_in_row : UserId → MessageId → Way → Row → ℕ
items_in_row u m w (row.Outbox number entry spooled) = items_of u m w entry
items_in_row u m w _ = 0

-- how many pending rows a notice has
abbrev pub pending_places : UserId → MessageId → Way → List Row → ℕ
pending_places u m w rows = count_by (is_pending_row u m w) rows

-- how many items it has in the outbox rows of its way
abbrev pub outbox_places : UserId → MessageId → Way → List Row → ℕ
outbox_places u m w rows = sum_by (items_in_row u m w) rows

-- one where it is cancelled
abbrev pub cancelled_places : Account → ℕ
cancelled_places account = if is_cancelled account then 1 else 0

-- the places of a notice in rows and in a journal: as a pending row, as an item of the outbox, as cancelled
abbrev pub places_of : List Stamped → List Row → UserId → MessageId → Way → ℕ
places_of j rows u m w = pending_places u m w rows + outbox_places u m w rows + cancelled_places (account j u m w)

-- ---- revocations

-- the push of a user's message is revoked
abbrev pub is_revoked : List Stamped → UserId → MessageId → Bool
is_revoked j u m = option_map_or (past.is_revoked (lawful j)) (notice_to j u m Push) false

-- one where a removal names the message
abbrev pub named_once : UserId → MessageId → UserId → List MessageId → ℕ
named_once u m v ms = if v.0 == u.0 then count_by (λ n. n.0 == m.0) ms else 0

-- how often a waiting item that removes pushes names a user's message
abbrev pub removals_in_item : UserId → MessageId → PushItem → ℕ
removals_in_item u m (Remove v ms) = named_once u m v ms
removals_in_item u m _ = 0

-- how often a removal entry does
abbrev pub removals_in_entry : UserId → MessageId → Entry → ℕ
removals_in_entry u m (entry.Remove v name at ms) = named_once u m v ms
removals_in_entry u m _ = 0

abbrev pub removals_in_row : UserId → MessageId → Row → ℕ
removals_in_row u m (row.Outbox number entry spooled) = removals_in_entry u m entry
removals_in_row u m _ = 0

-- the places of a revocation: in the items that wait, and in the removal entries of the outbox rows
abbrev pub removal_places : List Stamped → List Row → UserId → MessageId → ℕ
removal_places j rows u m = sum_by (removals_in_item u m) (waiting_items j) + sum_by (removals_in_row u m) rows

-- each owed notice has one place, and so never two; a notice that is not owed has none. Each item of a push entry has one
-- removal, waiting or written, where its push is revoked, and else none; and nothing but the item of a push entry has a removal
pub record IsConserved (j : List Stamped) (rows : List Row) : Type 0 where
  pub owed : (u : UserId) (m : MessageId) (w : Way) → account j u m w ≢ NotOwed → places_of j rows u m w ≡ 1
  pub not_owed : (u : UserId) (m : MessageId) (w : Way) → account j u m w ≡ NotOwed → places_of j rows u m w ≡ 0
  pub revoked : (u : UserId) (m : MessageId) → is_revoked j u m ≡ true → removal_places j rows u m ≡ 1
  pub not_revoked : (u : UserId) (m : MessageId) → is_revoked j u m ≡ false → removal_places j rows u m ≡ 0
  pub pushed : (u : UserId) (m : MessageId) → is_revoked j u m ≡ true → outbox_places u m Push rows ≡ 1

-- ---- laws

-- the rows of any list of events conserve its notices
abbrev pub RowsConserve : Type 0
RowsConserve = (j : List Stamped) → IsConserved j (any.rows j)
