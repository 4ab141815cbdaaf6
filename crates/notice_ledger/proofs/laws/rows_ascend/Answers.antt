use Rattle.notice_ledger.specs.Lawful.{lawful}
use Rattle.notice_ledger.proofs.RowOrder.{rows-ascending}
use Rattle.notice_ledger.proofs.laws.rows_ascend.Goals as goal

pub returns : goal.returns
returns c = λ j. rows-ascending (lawful j)
