use Rattle.std.proofs.Common.{◌≡◌, None, take}
use Rattle.notice_ledger.specs.Past.Journal.{first_behind}
use Rattle.notice_ledger.specs.Past.Owed.{is_turn_of}
use Rattle.notice_ledger.proofs.turns.turn_behind.Given as goal

abbrev pub invariant-loop-i : goal.invariant-loop-i
invariant-loop-i l = first_behind l.place (λ o. is_turn_of l.notice.user l.notice.message l.notice.way o.event) (take l.i l.journal) ≡ None
