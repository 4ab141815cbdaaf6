use Rattle.std.proofs.Common.{take, sym, ap, ◌∙◌}
use Rattle.std.specs.Prelude.{unwrap_or}
use Rattle.chat_model.specs.declared.event.Stamped.{Stamped}
use Rattle.notice_ledger.specs.Past.Values.{is_member, membership_change}
use Rattle.notice_ledger.proofs.Lists.{take_next}
use Rattle.notice_ledger.proofs.Appended.{is_member-nil, is_member-append}
use Rattle.notice_ledger.proofs.values.is_member.Goals as goal

pub loop-i-init : goal.loop-i-init
loop-i-init c = sym (is_member-nil c.args.group c.args.user)

pub loop-i-preserved : goal.loop-i-preserved
loop-i-preserved c =
    let j = take c.loop-i.i c.args.past.now in let s = c.index-past-i.result in
    let next = take_next c.args.past.now c.loop-i.i s c.loop-i-test.true c.index-past-i.is in
    c.unwrap_or-on.ensures
    ∙ (ap (λ o. unwrap_or o c.loop-i.on) (c.membership_change.ensures ∙ ap (λ (t : Stamped). membership_change c.args.group c.args.user j t.event) (sym c.index-past-i.is))
    ∙ (ap (λ b. unwrap_or (membership_change c.args.group c.args.user j s.event) b) c.loop-i.invariant
    ∙ (sym (is_member-append j s c.args.group c.args.user) ∙ ap (λ k. is_member k c.args.group c.args.user) (sym next))))
