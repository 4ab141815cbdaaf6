use Rattle.std.proofs.Common.{◌≡◌, take}
use Rattle.notice_ledger.specs.Past.Values.{settings}
use Rattle.notice_ledger.proofs.settings.settings.Given as goal

abbrev pub invariant-loop-stamped : goal.invariant-loop-stamped
invariant-loop-stamped l = l.settings ≡ settings (take l.stamped-index l.past) l.user
