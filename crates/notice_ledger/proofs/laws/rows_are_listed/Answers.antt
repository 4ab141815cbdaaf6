use Rattle.notice_ledger.specs.Lawful.{lawful}
use Rattle.notice_ledger.proofs.RowOrder.{rows-listed}
use Rattle.notice_ledger.proofs.laws.rows_are_listed.Goals as goal

pub returns : goal.returns
returns c = λ j. rows-listed (lawful j)
