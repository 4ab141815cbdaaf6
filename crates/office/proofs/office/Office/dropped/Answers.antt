use Rattle.std.proofs.Common.{ap, ◌∙◌}
use Rattle.notice_ledger.specs.Outbox.{dropped}
use Rattle.office.specs.Office.{OfficeSeen}
use Rattle.office.proofs.office.Office.dropped.Goals as goal

pub returns : goal.returns
returns g c = c.dropped.ensures c.self.inside.journal.items c.self.invariant.tables ∙ ap (λ (o : OfficeSeen g.row.K.Denot). dropped o.journal c.args.user) c.self.view_is
