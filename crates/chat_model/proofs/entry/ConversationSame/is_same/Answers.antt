use Rattle.chat_model.proofs.Exact.{conversation_exact, told}
use Rattle.chat_model.proofs.entry.ConversationSame.is_same.Goals as goal

pub returns : goal.returns
returns c = told _ _ _ c.eq.ensures (conversation_exact c.args.self.now c.args.other.now)
