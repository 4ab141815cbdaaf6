-- When mails are due after any list of events.
use Rattle.std.specs.Prelude.{ℕ, List, Option}
use Rattle.chat_model.specs.declared.event.Stamped.{Stamped}
use Rattle.chat_model.specs.declared.ids.UserId.{UserId}
use Rattle.notice_ledger.specs.Past.Owed.{Notice}
pub use Rattle.notice_ledger.specs.Past.Due.{DueUser}
use Rattle.notice_ledger.specs.Past.Due as past
use Rattle.notice_ledger.specs.Lawful.{lawful}

-- a user's batch rows after the lawful events
abbrev pub batch_rows : List Stamped → UserId → List Notice
batch_rows j u = past.batch_rows (lawful j) u

-- a user's due moment after the lawful events
abbrev pub due : List Stamped → UserId → Option ℕ
due j u = past.due (lawful j) u

-- the user with the least due moment after the lawful events, ties by the lower number
abbrev pub first_due : List Stamped → Option DueUser
first_due j = past.first_due (lawful j)
