use Rattle.chat_model.proofs.Exact.{row_exact, told}
use Rattle.chat_model.proofs.row.RowSame.is_same.Goals as goal

pub returns : goal.returns
returns c = told _ _ _ c.eq.ensures (row_exact c.args.self.now c.args.other.now)
