use Rattle.std.proofs.Common.{sym}
use Rattle.chat_model.specs.declared.ids.MessageId.{MessageId}
use Rattle.notice_ledger.proofs.AscendingSteps.{first_ascends, is_ascending-kept, is_ascending-lost, is_ascending-all}
use Rattle.notice_ledger.proofs.order.do_messages_ascend.Goals as goal

pub loop-i-init : goal.loop-i-init
loop-i-init c = first_ascends (λ (m : MessageId). m.0) (let none : MessageId = record { 0 = 0 } in none) c.args.messages.now

pub loop-i-preserved : goal.loop-i-preserved
loop-i-preserved c = is_ascending-kept (λ (m : MessageId). m.0) (let none : MessageId = record { 0 = 0 } in none) c.args.messages.now c.loop-i.i c.loop-i.auto.i c.loop-i-test.true c.loop-i.invariant c.if-messages-i.false

pub returns-then-messages-i : goal.returns-then-messages-i
returns-then-messages-i c = sym (is_ascending-lost (λ (m : MessageId). m.0) (let none : MessageId = record { 0 = 0 } in none) c.args.messages.now c.loop-i.i c.loop-i.auto.i c.loop-i-test.true c.if-messages-i.true)

pub returns : goal.returns
returns c = sym (is_ascending-all (λ (m : MessageId). m.0) (let none : MessageId = record { 0 = 0 } in none) c.args.messages.now c.loop-i.i c.loop-i-test.false c.loop-i.invariant)
