use Rattle.std.proofs.Common.{◌≡◌, None, take}
use Rattle.notice_ledger.specs.Past.Owed.{bar_behind}
use Rattle.notice_ledger.proofs.bars.bar_behind.Given as goal

abbrev pub invariant-loop-i : goal.invariant-loop-i
invariant-loop-i l = bar_behind l.place l.notice.user l.notice.message l.notice.way (take l.i l.journal) ≡ None
