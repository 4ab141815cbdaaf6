use Rattle.notice_ledger.proofs.Conservation.{rows-conserved}
use Rattle.notice_ledger.proofs.laws.rows_conserve.Goals as goal

pub returns : goal.returns
returns c = rows-conserved
