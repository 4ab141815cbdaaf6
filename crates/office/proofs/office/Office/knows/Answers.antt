use Rattle.std.proofs.Common.{ap, ◌∙◌}
use Rattle.notice_ledger.specs.Deals.{knows}
use Rattle.office.specs.Office.{OfficeSeen}
use Rattle.office.proofs.office.Office.knows.Goals as goal

pub returns : goal.returns
returns g c = c.knows.ensures c.self.inside.journal.items c.self.invariant.tables ∙ ap (λ (o : OfficeSeen g.row.K.Denot). knows o.journal c.args.user) c.self.view_is
