use Rattle.chat_model.proofs.Exact.{outcome_exact, told}
use Rattle.chat_model.proofs.deal.OutcomeSame.is_same.Goals as goal

pub returns : goal.returns
returns c = told _ _ _ c.eq.ensures (outcome_exact c.args.self.now c.args.other.now)
