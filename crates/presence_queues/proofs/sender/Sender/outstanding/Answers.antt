use Rattle.std.proofs.Common.{ap, ◌∙◌, ◌==◌, []}
use Rattle.std.specs.Prelude.{find}
use Rattle.std.specs.Option.{option_map_or}
use Rattle.missed_hook.specs.Outstanding.{outstanding}
use Rattle.presence_queues.specs.declared.waiting.Waiting.{Waiting}
use Rattle.presence_queues.proofs.Entries.{deals_of-read}
use Rattle.presence_queues.proofs.sender.Sender.outstanding.Goals as goal

pub returns : goal.returns
returns g c =
    c.deals_of.ensures
    ∙ (ap (λ ws. option_map_or (λ (w : Waiting). w.deals.items) (find (λ w. w.user.0 == c.args.user.0) ws) []) c.deref.ensures.value
    ∙ (deals_of-read c.args.user c.self.inside.waiting.items
    ∙ (c.self.invariant.waits c.args.user ∙ ap (λ s. outstanding s.sent c.args.user) c.self.view_is)))
