use Rattle.std.proofs.Common.{◌≡◌, take}
use Rattle.notice_ledger.specs.Past.Values.{channels}
use Rattle.notice_ledger.proofs.values.channel_names.Given as goal

abbrev pub invariant-loop-stamped : goal.invariant-loop-stamped
invariant-loop-stamped l = l.names.items ≡ channels (take l.stamped-index l.past)
