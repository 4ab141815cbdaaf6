use Rattle.std.proofs.Common.{ap, ◌∙◌}
use Rattle.notice_ledger.specs.Deals.{run_number}
use Rattle.office.specs.Office.{OfficeSeen}
use Rattle.office.proofs.office.Office.run_number.Goals as goal

pub returns : goal.returns
returns g c = c.starts.ensures c.self.inside.journal.items c.self.invariant.tables ∙ ap (λ (o : OfficeSeen g.row.K.Denot). run_number o.journal) c.self.view_is
