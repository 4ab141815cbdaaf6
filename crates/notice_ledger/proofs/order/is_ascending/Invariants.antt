use Rattle.std.proofs.Common.{◌≡◌, true, take}
use Rattle.notice_ledger.specs.InOrder.{is_ascending}
use Rattle.notice_ledger.proofs.order.is_ascending.Given as goal

abbrev pub invariant-loop-i : goal.invariant-loop-i
invariant-loop-i l = is_ascending (take l.i l.users) ≡ true
