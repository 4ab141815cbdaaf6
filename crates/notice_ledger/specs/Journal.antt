-- The stamps of any list of events, and how many deals it made.
use Rattle.std.specs.Prelude.{ℕ, List}
use Rattle.chat_model.specs.declared.event.Stamped.{Stamped}
use Rattle.notice_ledger.specs.Past.Journal as past
use Rattle.notice_ledger.specs.Past.Values as values
use Rattle.notice_ledger.specs.Lawful.{lawful}

-- the last stamp of the lawful events, 0 where there is none
abbrev pub last_stamp : List Stamped → ℕ
last_stamp j = past.last_stamp (lawful j)

-- what is stamped at a moment: the greater of the moment and the last stamp
abbrev pub stamp : List Stamped → ℕ → ℕ
stamp j now = past.stamp (lawful j) now

-- the number of deals of the lawful events
abbrev pub deal_count : List Stamped → ℕ
deal_count j = values.deal_count (lawful j)
