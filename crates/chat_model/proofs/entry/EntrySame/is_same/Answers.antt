use Rattle.chat_model.proofs.Exact.{entry_exact, told}
use Rattle.chat_model.proofs.entry.EntrySame.is_same.Goals as goal

pub returns : goal.returns
returns c = told _ _ _ c.eq.ensures (entry_exact c.args.self.now c.args.other.now)
