use Rattle.std.proofs.Common.{take, sym, ap, ◌∙◌}
use Rattle.std.specs.Option.{option_map_or}
use Rattle.chat_model.specs.Settings.{changed_settings}
use Rattle.notice_ledger.specs.Past.Values.{settings}
use Rattle.notice_ledger.proofs.Lists.{take_next}
use Rattle.notice_ledger.proofs.SettingLemmas.{settings-nil, settings-append}
use Rattle.notice_ledger.proofs.settings.settings.Goals as goal
use Rattle.notice_ledger.proofs.settings.settings.Goals.{in-Some, in_default}

pub loop-stamped-init : goal.loop-stamped-init
loop-stamped-init c = c.default-settings.ensures ∙ sym (settings-nil c.args.user)

pub loop-stamped-preserved : goal.loop-stamped-preserved
loop-stamped-preserved c =
    let j = take c.loop-stamped.stamped-index c.args.past.now in let s = c.stamped-item.result in
    let next = take_next c.args.past.now c.loop-stamped.stamped-index s c.loop-stamped-test.true c.stamped-item.is in
    let before = settings j c.args.user in
    let after = sym (settings-append j s c.args.user) ∙ ap (λ k. settings k c.args.user) (sym next) in
    elim c.match-setting_change.branch [
      | in-Some w ↦
          w.settings-is
          ∙ (w.changed-settings.ensures
          ∙ (ap (changed_settings w.in-Some.change) c.loop-stamped.invariant
          ∙ (ap (λ o. option_map_or (λ d. changed_settings d before) o before) w.in-Some.ensures ∙ after)))
      | in_default w ↦
          w.settings-is
          ∙ (c.loop-stamped.invariant ∙ (ap (λ o. option_map_or (λ d. changed_settings d before) o before) w.in_default.ensures ∙ after))
    ]
