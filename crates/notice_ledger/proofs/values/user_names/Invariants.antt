use Rattle.std.proofs.Common.{◌≡◌, take}
use Rattle.notice_ledger.specs.Past.Values.{user_names}
use Rattle.notice_ledger.proofs.values.user_names.Given as goal

abbrev pub invariant-loop-stamped : goal.invariant-loop-stamped
invariant-loop-stamped l = l.names.items ≡ user_names (take l.stamped-index l.past)
