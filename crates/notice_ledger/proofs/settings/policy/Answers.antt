use Rattle.std.proofs.Common.{take, sym, ap, ◌∙◌}
use Rattle.std.specs.Prelude.{unwrap_or}
use Rattle.notice_ledger.specs.Past.Values.{policy, policy_change}
use Rattle.notice_ledger.proofs.Lists.{take_next}
use Rattle.notice_ledger.proofs.SettingLemmas.{policy-nil, policy-append}
use Rattle.notice_ledger.proofs.settings.policy.Goals as goal

pub loop-stamped-init : goal.loop-stamped-init
loop-stamped-init c = sym (policy-nil c.args.user c.args.channel c.args.topic.now)

pub loop-stamped-preserved : goal.loop-stamped-preserved
loop-stamped-preserved c =
    let j = take c.loop-stamped.stamped-index c.args.past.now in let s = c.stamped-item.result in
    let next = take_next c.args.past.now c.loop-stamped.stamped-index s c.loop-stamped-test.true c.stamped-item.is in
    let topic = c.args.topic.now in
    c.unwrap_or-policy.ensures
    ∙ (ap (λ o. unwrap_or o c.loop-stamped.policy) c.policy_change.ensures
    ∙ (ap (λ b. unwrap_or (policy_change c.args.user c.args.channel topic s.event) b) c.loop-stamped.invariant
    ∙ (sym (policy-append j s c.args.user c.args.channel topic) ∙ ap (λ k. policy k c.args.user c.args.channel topic) (sym next))))
