-- The owed notices, and where each stands, after any list of events.
use Rattle.std.specs.Prelude.{List, Option}
use Rattle.chat_model.specs.declared.event.Stamped.{Stamped}
use Rattle.chat_model.specs.declared.ids.UserId.{UserId}
use Rattle.chat_model.specs.declared.ids.MessageId.{MessageId}
use Rattle.chat_model.specs.declared.trigger.Way.{Way}
use Rattle.notice_ledger.specs.declared.accounts.Account.{Account}
use Rattle.notice_ledger.specs.Past.Owed.{Notice}
use Rattle.notice_ledger.specs.Past.Owed as past
use Rattle.notice_ledger.specs.Lawful.{lawful}

-- the notice of a user, a message and a way that the lawful events owe, if there is one
abbrev pub notice_to : List Stamped → UserId → MessageId → Way → Option Notice
notice_to j u m w = past.notice_to (lawful j) u m w

-- where the notice of a user, a message and a way stands after the lawful events
abbrev pub account : List Stamped → UserId → MessageId → Way → Account
account j u m w = past.account (lawful j) u m w
