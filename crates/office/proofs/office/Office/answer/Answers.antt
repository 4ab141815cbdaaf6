use Rattle.std.proofs.Common.{ap, ◌∙◌}
use Rattle.office.specs.Office.{OfficeSeen, answer_of}
use Rattle.office.proofs.office.Office.answer.Goals as goal

pub returns : goal.returns
returns g c = c.answer.ensures c.self.inside.journal.items c.self.invariant.tables ∙ ap (λ (o : OfficeSeen g.row.K.Denot). answer_of o.journal c.args.request.now) c.self.view_is
