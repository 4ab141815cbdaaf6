use Rattle.office.proofs.Conserved.{kept-conserved}
use Rattle.office.proofs.office.Office.close.Goals as goal

pub returns-clause-conserved : goal.returns-clause-conserved
returns-clause-conserved g c = kept-conserved _ _ c.self.invariant.kept
