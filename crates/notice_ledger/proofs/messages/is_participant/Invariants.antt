use Rattle.std.proofs.Common.{◌≡◌, false, take}
use Rattle.notice_ledger.specs.Past.Values.{messages, some_from, takes_part_by}
use Rattle.notice_ledger.proofs.messages.is_participant.Given as goal

abbrev pub invariant-loop-i : goal.invariant-loop-i
invariant-loop-i l = some_from (takes_part_by l.past l.user l.channel l.topic) 1 (messages (take l.i l.past)) ≡ false
