use Rattle.chat_model.proofs.Exact.{row_change_exact, told}
use Rattle.chat_model.proofs.row.RowChangeSame.is_same.Goals as goal

pub returns : goal.returns
returns c = told _ _ _ c.eq.ensures (row_change_exact c.args.self.now c.args.other.now)
