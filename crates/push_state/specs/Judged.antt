-- What becomes of a push at its turn.
use Rattle.std.specs.Prelude.{Option, Some, None, if◌then◌else◌}
use Rattle.chat_model.specs.Settings.{push_switch}
use Rattle.chat_model.specs.declared.row.Cause.{Cause}
use Rattle.chat_model.specs.declared.row.Cause.TheVariants.{SwitchedOff}
use Rattle.chat_model.specs.declared.settings.Settings.{Settings}
use Rattle.push_state.specs.declared.judging.Judged.{Judged}
use Rattle.push_state.specs.declared.judging.Judged.TheVariants as outcome

-- what bars the push counts first, then the user's push switch
abbrev pub judged : Option Cause → Settings → Judged
judged (Some cause) s = outcome.Drop cause
judged None s = if push_switch s then outcome.Hand else outcome.Drop SwitchedOff
