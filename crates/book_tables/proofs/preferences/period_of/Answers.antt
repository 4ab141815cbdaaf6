use Rattle.std.proofs.Common.{ap, ◌∙◌}
use Rattle.std.specs.Prelude.{Option}
use Rattle.std.specs.Option.{option_map_or}
use Rattle.chat_model.specs.declared.settings.Settings.{Settings}
use Rattle.book_tables.specs.declared.preferences.Preferences.{Preferences}
use Rattle.book_tables.specs.Preferences.{preferred, default_preferred}
use Rattle.book_tables.proofs.preferences.period_of.Goals as goal

pub returns-in-Some : goal.returns-in-Some
returns-in-Some c = ap (λ (o : Option Preferences). (option_map_or preferred o default_preferred).settings.period) c.in-Some.ensures

pub returns-in-None : goal.returns-in-None
returns-in-None c = ap (λ (s : Settings). s.period) c.default.ensures ∙ ap (λ (o : Option Preferences). (option_map_or preferred o default_preferred).settings.period) c.in-None.ensures
