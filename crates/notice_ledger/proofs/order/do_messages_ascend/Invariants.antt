use Rattle.std.proofs.Common.{◌≡◌, true, take}
use Rattle.chat_model.specs.Ascending.{is_ascending_by}
use Rattle.notice_ledger.proofs.order.do_messages_ascend.Given as goal

abbrev pub invariant-loop-i : goal.invariant-loop-i
invariant-loop-i l = is_ascending_by (λ m. m.0) (take l.i l.messages) ≡ true
