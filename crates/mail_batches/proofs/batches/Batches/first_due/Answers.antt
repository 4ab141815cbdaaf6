use Rattle.std.proofs.Common.{◌≡◌, subst}
use Rattle.std.specs.Option.{MatchOption}
use Rattle.std.specs.FinMap as finite
use Rattle.mail_batches.specs.Batches.{Waiting, IsDueFirst}
use Rattle.mail_batches.proofs.Waits.{first-waiting}
use Rattle.mail_batches.proofs.batches.Batches.first_due.Goals as goal

pub returns : goal.returns
returns c =
    subst (λ (w : Waiting). MatchOption c.least.result (w.batches ≡ finite.empty) (IsDueFirst w)) c.self.view_is
    (first-waiting c.self.inside.rows c.self.inside.dues c.least.result c.self.invariant.0 c.least.ensures)
