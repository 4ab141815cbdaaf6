-- What waits to be pushed after any list of events.
use Rattle.std.specs.Prelude.{List, Option}
use Rattle.chat_model.specs.declared.event.Stamped.{Stamped}
use Rattle.chat_model.specs.declared.push_item.PushItem.{PushItem}
use Rattle.notice_ledger.specs.Past.Pushes as past
use Rattle.notice_ledger.specs.Lawful.{lawful}

-- the items that wait after the lawful events, the oldest first
abbrev pub waiting_items : List Stamped → List PushItem
waiting_items j = past.waiting_items (lawful j)

-- the item that waits longest after the lawful events, if one waits
abbrev pub oldest_item : List Stamped → Option PushItem
oldest_item j = past.oldest_item (lawful j)
