-- The outbox of any list of events.
use Rattle.std.specs.Prelude.{ℕ, List}
use Rattle.chat_model.specs.declared.event.Stamped.{Stamped}
use Rattle.chat_model.specs.declared.entry.Entry.{Entry}
use Rattle.chat_model.specs.declared.ids.UserId.{UserId}
use Rattle.notice_ledger.specs.Past.Outbox as past
use Rattle.notice_ledger.specs.Lawful.{lawful}

-- the entries of a user's mail turn at a stamp, behind the lawful events
abbrev pub mail_entries : List Stamped → ℕ → UserId → List Entry
mail_entries j at u = past.mail_entries (lawful j) at u

-- how many of a user's batch rows a mail turn makes no item of, behind the lawful events
abbrev pub dropped : List Stamped → UserId → ℕ
dropped j u = past.dropped (lawful j) u

-- the entries that the lawful events add, in their order
abbrev pub outbox : List Stamped → List Entry
outbox j = past.outbox (lawful j)
