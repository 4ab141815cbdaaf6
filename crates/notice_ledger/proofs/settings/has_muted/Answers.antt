use Rattle.std.proofs.Common.{take, sym, ap, ◌∙◌}
use Rattle.std.specs.Prelude.{unwrap_or}
use Rattle.notice_ledger.specs.Past.Values.{has_muted, mute_change}
use Rattle.notice_ledger.proofs.Lists.{take_next}
use Rattle.notice_ledger.proofs.SettingLemmas.{has_muted-nil, has_muted-append}
use Rattle.notice_ledger.proofs.settings.has_muted.Goals as goal

pub loop-stamped-init : goal.loop-stamped-init
loop-stamped-init c = sym (has_muted-nil c.args.user c.args.other)

pub loop-stamped-preserved : goal.loop-stamped-preserved
loop-stamped-preserved c =
    let j = take c.loop-stamped.stamped-index c.args.past.now in let s = c.stamped-item.result in
    let next = take_next c.args.past.now c.loop-stamped.stamped-index s c.loop-stamped-test.true c.stamped-item.is in
    c.unwrap_or-on.ensures
    ∙ (ap (λ o. unwrap_or o c.loop-stamped.on) c.mute_change.ensures
    ∙ (ap (λ b. unwrap_or (mute_change c.args.user c.args.other s.event) b) c.loop-stamped.invariant
    ∙ (sym (has_muted-append j s c.args.user c.args.other) ∙ ap (λ k. has_muted k c.args.user c.args.other) (sym next))))
