use Rattle.std.proofs.Common.{◌≡◌, None, take}
use Rattle.notice_ledger.specs.Past.Owed.{clears}
use Rattle.notice_ledger.specs.Past.Journal.{first_behind}
use Rattle.notice_ledger.proofs.readiness.was_cleared.Given as goal

abbrev pub invariant-loop-i : goal.invariant-loop-i
invariant-loop-i l = first_behind l.notice.place (λ o. clears l.notice.user l.notice.deal o.event) (take l.i l.journal) ≡ None
