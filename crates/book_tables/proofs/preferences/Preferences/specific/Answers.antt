use Rattle.std.proofs.Common.{ap, ◌∙◌}
use Rattle.std.specs.Prelude.{Option, unwrap_or}
use Rattle.chat_model.specs.declared.policy.Specific.{Specific}
use Rattle.chat_model.specs.Settings.{default_specific}
use Rattle.book_tables.proofs.preferences.Preferences.specific.Goals as goal

pub returns-in-Some : goal.returns-in-Some
returns-in-Some c = ap (λ (o : Option Specific). unwrap_or o default_specific) c.in-Some.ensures.value

pub returns-in-None : goal.returns-in-None
returns-in-None c = c.default.ensures ∙ ap (λ (o : Option Specific). unwrap_or o default_specific) c.in-None.ensures.value
