use Rattle.chat_model.proofs.Exact.{push_item_exact, told}
use Rattle.chat_model.proofs.push_item.PushItemSame.is_same.Goals as goal

pub returns : goal.returns
returns c = told _ _ _ c.eq.ensures (push_item_exact c.args.self.now c.args.other.now)
