use Rattle.std.proofs.Common.{sym, ap, ◌∙◌}
use Rattle.mail_batches.specs.Batches.{rows_of}
use Rattle.mail_batches.proofs.Waits.{rows-waiting}
use Rattle.mail_batches.proofs.batches.Batches.rows.Goals as goal

pub returns : goal.returns
returns c = c.of.ensures ∙ (sym (rows-waiting c.self.inside.rows c.self.inside.dues c.args.user c.self.invariant.0) ∙ ap (λ w. rows_of w c.args.user) c.self.view_is)
