use Rattle.std.proofs.Common.{◌≡◌, None, take}
use Rattle.notice_ledger.specs.Plain.{ready_kept}
use Rattle.notice_ledger.proofs.readiness.ready.Given as goal

abbrev pub invariant-loop-i : goal.invariant-loop-i
invariant-loop-i l = ready_kept (take l.i l.journal) l.notice ≡ None
