use Rattle.std.proofs.Common.{◌≡◌, take}
use Rattle.notice_ledger.specs.Past.Values.{has_muted}
use Rattle.notice_ledger.proofs.settings.has_muted.Given as goal

abbrev pub invariant-loop-stamped : goal.invariant-loop-stamped
invariant-loop-stamped l = l.on ≡ has_muted (take l.stamped-index l.past) l.user l.other
