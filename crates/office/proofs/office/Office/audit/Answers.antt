use Rattle.std.proofs.Common.{ap, ◌∙◌}
use Rattle.notice_ledger.specs.Audit.{counts_of}
use Rattle.office.specs.Office.{OfficeSeen}
use Rattle.office.proofs.office.Office.audit.Goals as goal

pub returns : goal.returns
returns g c = c.audit.ensures c.self.inside.journal.items c.self.invariant.tables ∙ ap (λ (o : OfficeSeen g.row.K.Denot). counts_of o.journal) c.self.view_is
