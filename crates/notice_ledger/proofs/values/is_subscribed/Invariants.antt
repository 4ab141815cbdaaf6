use Rattle.std.proofs.Common.{◌≡◌, take}
use Rattle.notice_ledger.specs.Past.Values.{subscribed}
use Rattle.notice_ledger.proofs.values.is_subscribed.Given as goal

abbrev pub invariant-loop-stamped : goal.invariant-loop-stamped
invariant-loop-stamped l = l.on ≡ subscribed (take l.stamped-index l.past) l.user l.channel
