use Rattle.std.proofs.Common.{sym, ap, ◌∙◌}
use Rattle.chat_model.specs.declared.settings.Settings.{Settings}
use Rattle.book_tables.specs.declared.preferences.Preference.{Preference}
use Rattle.book_tables.specs.Preferences.{preferred, preferred_after}
use Rattle.book_tables.proofs.preferences.Preferences.change.Goals as goal

pub returns-in-Setting : goal.returns-in-Setting
returns-in-Setting c =
    ap (λ (s : Settings). record (preferred c.args.self.now) { settings = s }) c.changed-self.ensures
    ∙ ap (λ (change : Preference). preferred_after change (preferred c.args.self.now)) (sym c.in-Setting.is)

pub returns-in-Specific : goal.returns-in-Specific
returns-in-Specific c = c.change_specific.ensures ∙ ap (λ (change : Preference). preferred_after change (preferred c.args.self.now)) (sym c.in-Specific.is)

pub returns-in-Policy : goal.returns-in-Policy
returns-in-Policy c = c.set_policy.ensures ∙ ap (λ (change : Preference). preferred_after change (preferred c.args.self.now)) (sym c.in-Policy.is)

pub returns-in-Mute : goal.returns-in-Mute
returns-in-Mute c = c.set_muted.ensures ∙ ap (λ (change : Preference). preferred_after change (preferred c.args.self.now)) (sym c.in-Mute.is)
