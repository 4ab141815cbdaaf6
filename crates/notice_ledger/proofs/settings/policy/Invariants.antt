use Rattle.std.proofs.Common.{◌≡◌, take}
use Rattle.notice_ledger.specs.Past.Values.{policy}
use Rattle.notice_ledger.proofs.settings.policy.Given as goal

abbrev pub invariant-loop-stamped : goal.invariant-loop-stamped
invariant-loop-stamped l = l.policy ≡ policy (take l.stamped-index l.past) l.user l.channel l.topic
