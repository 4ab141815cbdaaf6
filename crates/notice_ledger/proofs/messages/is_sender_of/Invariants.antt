use Rattle.std.proofs.Common.{◌≡◌, None, take}
use Rattle.notice_ledger.specs.Past.Values.{message}
use Rattle.notice_ledger.proofs.messages.is_sender_of.Given as goal

abbrev pub invariant-loop-i : goal.invariant-loop-i
invariant-loop-i l = message (take l.i l.past) l.message ≡ None
