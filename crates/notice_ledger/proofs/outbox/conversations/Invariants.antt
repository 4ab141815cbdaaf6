use Rattle.std.proofs.Common.{◌≡◌, take}
use Rattle.notice_ledger.proofs.SlowEntries.{conversations_in}
use Rattle.notice_ledger.proofs.outbox.conversations.Given as goal

abbrev pub invariant-loop-stamped : goal.invariant-loop-stamped
invariant-loop-stamped l = l.found.items ≡ conversations_in l.past (take l.stamped-index l.past)
