use Rattle.std.proofs.Common.{take, sym, ap, ◌∙◌}
use Rattle.std.specs.Option.{option_map_or}
use Rattle.chat_model.specs.Settings.{changed_specific}
use Rattle.notice_ledger.specs.Past.Values.{specific}
use Rattle.notice_ledger.proofs.Lists.{take_next}
use Rattle.notice_ledger.proofs.SettingLemmas.{specific-nil, specific-append}
use Rattle.notice_ledger.proofs.settings.specific.Goals as goal
use Rattle.notice_ledger.proofs.settings.specific.Goals.{in-Some, in_default}

pub loop-stamped-init : goal.loop-stamped-init
loop-stamped-init c = c.default-specific.ensures ∙ sym (specific-nil c.args.user c.args.channel)

pub loop-stamped-preserved : goal.loop-stamped-preserved
loop-stamped-preserved c =
    let j = take c.loop-stamped.stamped-index c.args.past.now in let s = c.stamped-item.result in
    let next = take_next c.args.past.now c.loop-stamped.stamped-index s c.loop-stamped-test.true c.stamped-item.is in
    let before = specific j c.args.user c.args.channel in
    let after = sym (specific-append j s c.args.user c.args.channel) ∙ ap (λ k. specific k c.args.user c.args.channel) (sym next) in
    elim c.match-specific_change.branch [
      | in-Some w ↦
          w.specific-is
          ∙ (w.changed-specific.ensures
          ∙ (ap (changed_specific w.in-Some.change) c.loop-stamped.invariant
          ∙ (ap (λ o. option_map_or (λ d. changed_specific d before) o before) w.in-Some.ensures ∙ after)))
      | in_default w ↦
          w.specific-is
          ∙ (c.loop-stamped.invariant ∙ (ap (λ o. option_map_or (λ d. changed_specific d before) o before) w.in_default.ensures ∙ after))
    ]
