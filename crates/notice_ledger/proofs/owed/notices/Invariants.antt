use Rattle.std.proofs.Common.{◌≡◌, map, take}
use Rattle.notice_ledger.specs.Past.Owed.{notices}
use Rattle.notice_ledger.specs.Plain.{owed_kept}
use Rattle.notice_ledger.proofs.owed.notices.Given as goal

abbrev pub invariant-loop-i : goal.invariant-loop-i
invariant-loop-i l = l.found.items ≡ map owed_kept (notices (take l.i l.journal))
