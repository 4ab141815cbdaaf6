use Rattle.chat_model.proofs.Exact.{item_exact, told}
use Rattle.chat_model.proofs.entry.ItemSame.is_same.Goals as goal

pub returns : goal.returns
returns c = told _ _ _ c.eq.ensures (item_exact c.args.self.now c.args.other.now)
