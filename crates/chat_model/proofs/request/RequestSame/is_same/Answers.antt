use Rattle.chat_model.proofs.Exact.{request_exact, told}
use Rattle.chat_model.proofs.request.RequestSame.is_same.Goals as goal

pub returns : goal.returns
returns c = told _ _ _ c.eq.ensures (request_exact c.args.self.now c.args.other.now)
