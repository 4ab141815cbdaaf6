use Rattle.chat_model.proofs.Exact.{stamped_exact, told}
use Rattle.chat_model.proofs.event.StampedSame.is_same.Goals as goal

pub returns : goal.returns
returns c = told _ _ _ c.eq.ensures (stamped_exact c.args.self.now c.args.other.now)
