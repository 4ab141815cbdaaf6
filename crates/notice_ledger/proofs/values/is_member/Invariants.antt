use Rattle.std.proofs.Common.{◌≡◌, take}
use Rattle.notice_ledger.specs.Past.Values.{is_member}
use Rattle.notice_ledger.proofs.values.is_member.Given as goal

abbrev pub invariant-loop-i : goal.invariant-loop-i
invariant-loop-i l = l.on ≡ is_member (take l.i l.past) l.group l.user
