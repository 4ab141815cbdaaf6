use Rattle.std.proofs.Common.{length, ap, ◌∙◌}
use Rattle.notice_ledger.specs.Outbox.{outbox}
use Rattle.office.specs.Office.{OfficeSeen}
use Rattle.office.proofs.office.Office.entries.Goals as goal

pub returns : goal.returns
returns g c = c.entries.ensures c.self.inside.journal.items c.self.invariant.tables ∙ ap (λ (o : OfficeSeen g.row.K.Denot). length (outbox o.journal)) c.self.view_is
