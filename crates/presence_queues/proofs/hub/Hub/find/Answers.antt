use Rattle.std.proofs.Common.{sym, ap, ◌∙◌, refl, subst}
use Rattle.presence_queues.specs.Law.{KeepsHubLaw}
use Rattle.presence_queues.proofs.Found.{all_mine, queue_at-fields}
use Rattle.presence_queues.proofs.hub.Hub.find.Goals as goal

pub returns-clause-queue : goal.returns-clause-queue
returns-clause-queue g c =
    queue_at-fields c.args.self.now c.self.inside.queues.items c.deref.result.now c.args.user c.args.queue _
    (sym (ap (λ h. h.queues) c.self.view_is)) c.deref.ensures.value (c.if-queue-self.false ∙ ap (λ h. h.run) c.self.view_is) c.find_queue.ensures

pub returns-clause-mine : goal.returns-clause-mine
returns-clause-mine g c = all_mine c.args.self.now c.args.user c.args.queue (subst KeepsHubLaw c.self.view_is c.self.invariant) _ refl
