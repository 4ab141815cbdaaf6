use Rattle.std.proofs.Common.{◌≡◌, length, take}
use Rattle.notice_ledger.specs.Past.Outbox.{outbox}
use Rattle.notice_ledger.specs.Past.Audit.{in_64_bits}
use Rattle.notice_ledger.proofs.outbox.entry_count.Given as goal

abbrev pub invariant-loop-i : goal.invariant-loop-i
invariant-loop-i l = l.count ≡ in_64_bits (length (outbox (take l.i l.events)))
