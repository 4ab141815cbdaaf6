use Rattle.std.proofs.Common.{◌≡◌, ◌+◌, ◌==◌, cond, ℕ, ap, ◌∙◌}
use Rattle.mail_batches.specs.ByUser.{values_of, or_first}
use Rattle.mail_batches.specs.Batches.{with_row}
use Rattle.mail_batches.proofs.Waits.{with_row-waiting}
use Rattle.mail_batches.proofs.batches.Batches.ready.Goals as goal

pub returns : goal.returns
returns c =
    let due = c.args.at + c.args.period in
    let dues : (v : ℕ) → values_of v c.add_first.new.self.entries ≡ cond (v == c.args.user.0) (or_first due (values_of v c.self.inside.dues.entries)) (values_of v c.self.inside.dues.entries) =
    λ v. c.add_first.ensures.values v ∙ ap (λ at. cond (v == c.args.user.0) (or_first (at + c.args.period) (values_of v c.self.inside.dues.entries)) (values_of v c.self.inside.dues.entries)) c.seconds.ensures.value in
    with_row-waiting c.self.inside.rows c.add.new.self c.self.inside.dues c.add_first.new.self c.args.user c.args.message due c.self.invariant.0 c.add.ensures.values dues c.add.ensures.spare
    ∙ ap (λ w. with_row w c.args.user c.args.message due) c.self.view_is
