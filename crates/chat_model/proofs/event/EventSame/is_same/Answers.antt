use Rattle.chat_model.proofs.Exact.{event_exact, told}
use Rattle.chat_model.proofs.event.EventSame.is_same.Goals as goal

pub returns : goal.returns
returns c = told _ _ _ c.eq.ensures (event_exact c.args.self.now c.args.other.now)
