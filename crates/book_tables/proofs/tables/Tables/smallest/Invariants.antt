use Rattle.std.proofs.Common.{◌≡◌, List, take}
use Rattle.std.specs.Prelude.{filter}
use Rattle.std.specs.List.{reduce}
use Rattle.chat_model.specs.declared.event.Stamped.{Stamped}
use Rattle.notice_ledger.specs.Past.Values.{is_member}
use Rattle.notice_ledger.specs.Past.Triggers.{smaller}
use Rattle.book_tables.specs.Tables.{Holds}
use Rattle.book_tables.proofs.tables.Tables.smallest.Given as goal

abbrev pub invariant-loop-group : goal.invariant-loop-group
invariant-loop-group l = (past : List Stamped) → Holds l.self past → l.smallest ≡ reduce (smaller past) (filter (λ g. is_member past g l.user) (take l.group-index l.groups))
