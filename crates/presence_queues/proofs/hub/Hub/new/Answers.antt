use Rattle.std.proofs.Common.{sym, subst}
use Rattle.presence_queues.specs.Fields.{hub_of}
use Rattle.presence_queues.specs.Law.{KeepsHubLaw}
use Rattle.presence_queues.proofs.Registering.{new_law}
use Rattle.presence_queues.proofs.hub.Hub.new.Goals as goal

pub invariant_of-result : goal.invariant_of-result
invariant_of-result g c =
    subst KeepsHubLaw
    (sym (λ i. hub_of c.args.run c.args.first (c.new.ensures.items i) (c.new-2.ensures.items i) (c.new-3.ensures i) (c.new-4.ensures.items i)))
    (new_law c.args.run c.args.first (g.T.Post.taken c.args.pipe))
