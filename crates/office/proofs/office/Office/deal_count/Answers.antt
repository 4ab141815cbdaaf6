use Rattle.std.proofs.Common.{ap, ◌∙◌}
use Rattle.notice_ledger.specs.Journal.{deal_count}
use Rattle.office.specs.Office.{OfficeSeen}
use Rattle.office.proofs.office.Office.deal_count.Goals as goal

pub returns : goal.returns
returns g c = c.deals.ensures c.self.inside.journal.items c.self.invariant.tables ∙ ap (λ (o : OfficeSeen g.row.K.Denot). deal_count o.journal) c.self.view_is
