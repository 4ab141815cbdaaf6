use Rattle.std.proofs.Common.{take}
use Rattle.book_tables.specs.Tables.{StandsFor}
use Rattle.office.proofs.replay.replay.Given as goal

abbrev pub invariant-loop-event : goal.invariant-loop-event
invariant-loop-event l = StandsFor l.tables (take l.event-index l.journal)
