-- The counts of any list of events.
use Rattle.std.specs.Prelude.{List}
use Rattle.chat_model.specs.declared.event.Stamped.{Stamped}
use Rattle.chat_model.specs.declared.counts.Counts.{Counts}
use Rattle.notice_ledger.specs.Past.Audit as past
use Rattle.notice_ledger.specs.Lawful.{lawful}

-- how many owed notices of the lawful events stand where, and how many outbox entries they add
abbrev pub counts_of : List Stamped → Counts
counts_of j = past.counts_of (lawful j)
