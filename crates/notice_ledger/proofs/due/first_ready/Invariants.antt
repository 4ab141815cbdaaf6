use Rattle.std.proofs.Common.{◌≡◌, take}
use Rattle.notice_ledger.proofs.TurnLemmas.{first_ready}
use Rattle.notice_ledger.proofs.due.first_ready.Given as goal

abbrev pub invariant-loop-row : goal.invariant-loop-row
invariant-loop-row l = l.first ≡ first_ready l.journal (take l.row-index l.rows)
