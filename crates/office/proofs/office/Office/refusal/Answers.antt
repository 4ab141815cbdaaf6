use Rattle.std.proofs.Common.{ap, ◌∙◌}
use Rattle.notice_ledger.specs.Refusals.{refusal}
use Rattle.office.specs.Office.{OfficeSeen}
use Rattle.office.proofs.office.Office.refusal.Goals as goal

pub returns : goal.returns
returns g c = c.check.ensures c.self.inside.journal.items c.self.invariant.tables ∙ ap (λ (o : OfficeSeen g.row.K.Denot). refusal o.journal c.args.request.now) c.self.view_is
