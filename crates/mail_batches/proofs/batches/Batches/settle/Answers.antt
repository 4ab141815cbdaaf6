use Rattle.std.proofs.Common.{ap, ◌∙◌}
use Rattle.mail_batches.specs.Batches.{settled}
use Rattle.mail_batches.proofs.Waits.{settled-waiting}
use Rattle.mail_batches.proofs.batches.Batches.settle.Goals as goal

pub returns : goal.returns
returns c =
    settled-waiting c.self.inside.rows c.remove.new.self c.self.inside.dues c.remove-2.new.self c.args.user c.remove.ensures.values c.remove-2.ensures.values c.remove.ensures.spare
    ∙ ap (λ w. settled w c.args.user) c.self.view_is
