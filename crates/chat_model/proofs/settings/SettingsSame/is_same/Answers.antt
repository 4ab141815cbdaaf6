use Rattle.chat_model.proofs.Exact.{settings_exact, told}
use Rattle.chat_model.proofs.settings.SettingsSame.is_same.Goals as goal

pub returns : goal.returns
returns c = told _ _ _ c.eq.ensures (settings_exact c.args.self.now c.args.other.now)
