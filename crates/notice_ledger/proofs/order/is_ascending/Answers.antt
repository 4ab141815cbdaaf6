use Rattle.std.proofs.Common.{sym}
use Rattle.chat_model.specs.declared.ids.UserId.{UserId}
use Rattle.notice_ledger.proofs.AscendingSteps.{first_ascends, is_ascending-kept, is_ascending-lost, is_ascending-all}
use Rattle.notice_ledger.proofs.order.is_ascending.Goals as goal

pub loop-i-init : goal.loop-i-init
loop-i-init c = first_ascends (λ (u : UserId). u.0) (let none : UserId = record { 0 = 0 } in none) c.args.users.now

pub loop-i-preserved : goal.loop-i-preserved
loop-i-preserved c = is_ascending-kept (λ (u : UserId). u.0) (let none : UserId = record { 0 = 0 } in none) c.args.users.now c.loop-i.i c.loop-i.auto.i c.loop-i-test.true c.loop-i.invariant c.if-users-i.false

pub returns-then-users-i : goal.returns-then-users-i
returns-then-users-i c = sym (is_ascending-lost (λ (u : UserId). u.0) (let none : UserId = record { 0 = 0 } in none) c.args.users.now c.loop-i.i c.loop-i.auto.i c.loop-i-test.true c.if-users-i.true)

pub returns : goal.returns
returns c = sym (is_ascending-all (λ (u : UserId). u.0) (let none : UserId = record { 0 = 0 } in none) c.args.users.now c.loop-i.i c.loop-i-test.false c.loop-i.invariant)
