use Rattle.std.proofs.Common.{take, sym, ap, ◌∙◌}
use Rattle.std.specs.Prelude.{unwrap_or}
use Rattle.notice_ledger.specs.Past.Values.{subscribed, subscription_change}
use Rattle.notice_ledger.proofs.Lists.{take_next}
use Rattle.notice_ledger.proofs.Appended.{subscribed-nil, subscribed-append}
use Rattle.notice_ledger.proofs.values.is_subscribed.Goals as goal

pub loop-stamped-init : goal.loop-stamped-init
loop-stamped-init c = sym (subscribed-nil c.args.user c.args.channel)

pub loop-stamped-preserved : goal.loop-stamped-preserved
loop-stamped-preserved c =
    let j = take c.loop-stamped.stamped-index c.args.past.now in let s = c.stamped-item.result in
    let next = take_next c.args.past.now c.loop-stamped.stamped-index s c.loop-stamped-test.true c.stamped-item.is in
    c.unwrap_or-on.ensures
    ∙ (ap (λ o. unwrap_or o c.loop-stamped.on) c.subscription_change.ensures
    ∙ (ap (λ b. unwrap_or (subscription_change c.args.user c.args.channel s.event) b) c.loop-stamped.invariant
    ∙ (sym (subscribed-append j s c.args.user c.args.channel) ∙ ap (λ k. subscribed k c.args.user c.args.channel) (sym next))))
