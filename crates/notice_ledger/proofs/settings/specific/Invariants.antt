use Rattle.std.proofs.Common.{◌≡◌, take}
use Rattle.notice_ledger.specs.Past.Values.{specific}
use Rattle.notice_ledger.proofs.settings.specific.Given as goal

abbrev pub invariant-loop-stamped : goal.invariant-loop-stamped
invariant-loop-stamped l = l.specific ≡ specific (take l.stamped-index l.past) l.user l.channel
