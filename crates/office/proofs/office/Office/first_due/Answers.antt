use Rattle.std.proofs.Common.{ap, ◌∙◌}
use Rattle.notice_ledger.specs.Due.{first_due}
use Rattle.office.specs.Office.{OfficeSeen}
use Rattle.office.proofs.office.Office.first_due.Goals as goal

pub returns : goal.returns
returns g c = c.first_due.ensures c.self.inside.journal.items c.self.invariant.tables ∙ ap (λ (o : OfficeSeen g.row.K.Denot). first_due o.journal) c.self.view_is
