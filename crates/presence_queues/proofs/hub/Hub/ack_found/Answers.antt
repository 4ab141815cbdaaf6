use Rattle.std.proofs.Common.{◌≡◌, ◌≢◌, ◌==◌, Some, None, cond, take, drop, ◌++◌, length, refl, sym, ap, ◌∙◌, subst, arith}
use Rattle.std.specs.Prelude.{◌&&◌, filter, map}
use Rattle.std.specs.List.{list_any}
use Rattle.missed_hook.specs.Orderly.{IsOrderly}
use Rattle.presence_queues.specs.Fields.{hub_of, queue_of, queues_seen}
use Rattle.presence_queues.specs.Hub.{HubSeen, queue_at}
use Rattle.presence_queues.specs.Law.{KeepsHubLaw}
use Rattle.presence_queues.specs.Steps.{acked, acked_deals, and_sent, is_acked, outcome_by, polled}
use Rattle.presence_queues.proofs.Acking.{acked_law, acked_settled}
use Rattle.presence_queues.proofs.Changes.{acked_fields}
use Rattle.presence_queues.proofs.Found.{acked_answer, queue_at-fields, queue_at-id, same_run}
use Rattle.presence_queues.proofs.InPlace.{written_back_once}
use Rattle.presence_queues.proofs.hub.Hub.ack_found.Goals as goal

pub unreachable-requires : goal.unreachable-requires
unreachable-requires g c =
    let hub : HubSeen = hub_of c.self.inside.run c.self.inside.next c.self.inside.registrations.items c.self.inside.beats.items c.self.inside.sender c.self.inside.queues.items in
    let lives : queue_at hub c.args.user c.args.queue ≢ None = subst (λ (h : HubSeen). queue_at h c.args.user c.args.queue ≢ None) (sym c.self.view_is) c.requires.lives in
    lives (sym (queue_at-fields hub c.self.inside.queues.items c.deref.result.now c.args.user c.args.queue None refl c.deref.ensures.value (same_run hub c.args.user c.args.queue lives) c.in_default.ensures))

pub settle-requires : goal.settle-requires
settle-requires g c =
    let hub : HubSeen = hub_of c.self.inside.run c.self.inside.next c.self.inside.registrations.items c.self.inside.beats.items c.self.inside.sender c.self.inside.queues.items in
    let lives : queue_at hub c.args.user c.args.queue ≢ None = subst (λ (h : HubSeen). queue_at h c.args.user c.args.queue ≢ None) (sym c.self.view_is) c.requires.lives in
    let found : queue_at hub c.args.user c.args.queue ≡ Some (queue_of c.in-Some.found.now) = sym (queue_at-fields hub c.self.inside.queues.items c.deref.result.now c.args.user c.args.queue (Some c.in-Some.found.now) refl c.deref.ensures.value (same_run hub c.args.user c.args.queue lives) c.in-Some.ensures) in
    let same : c.args.queue ≡ record { run = c.self.inside.run; number = c.in-Some.found.now.number } = queue_at-id hub c.args.user c.args.queue (queue_of c.in-Some.found.now) found in
    let gone : c.deref-2.result.now ≡ acked_deals hub c.args.user (queue_of c.in-Some.found.now) c.args.upto = c.deref-2.ensures.value ∙ (c.in_ok-gone.ensures ∙ ap (filter (λ k. list_any (λ item. is_acked c.args.upto item && item.deal.0 == k.0) c.in-Some.found.now.items.items)) c.outstanding.ensures) in
    record { orderly = subst IsOrderly (sym (λ i. and_sent c.self.inside.sender.sent (outcome_by c.args.user (Some (same i))) (gone i))) (acked_settled c.args.user (queue_of c.in-Some.found.now) c.args.upto hub c.self.invariant.orderly).orderly }

pub invariant_of-self-2 : goal.invariant_of-self-2
invariant_of-self-2 g c =
    let hub : HubSeen = hub_of c.self.inside.run c.self.inside.next c.self.inside.registrations.items c.self.inside.beats.items c.self.inside.sender c.self.inside.queues.items in
    let lives : queue_at hub c.args.user c.args.queue ≢ None = subst (λ (h : HubSeen). queue_at h c.args.user c.args.queue ≢ None) (sym c.self.view_is) c.requires.lives in
    let found : queue_at hub c.args.user c.args.queue ≡ Some (queue_of c.in-Some.found.now) = sym (queue_at-fields hub c.self.inside.queues.items c.deref.result.now c.args.user c.args.queue (Some c.in-Some.found.now) refl c.deref.ensures.value (same_run hub c.args.user c.args.queue lives) c.in-Some.ensures) in
    let same : c.args.queue ≡ record { run = c.self.inside.run; number = c.in-Some.found.now.number } = queue_at-id hub c.args.user c.args.queue (queue_of c.in-Some.found.now) found in
    let gone : c.deref-2.result.now ≡ acked_deals hub c.args.user (queue_of c.in-Some.found.now) c.args.upto = c.deref-2.ensures.value ∙ (c.in_ok-gone.ensures ∙ ap (filter (λ k. list_any (λ item. is_acked c.args.upto item && item.deal.0 == k.0) c.in-Some.found.now.items.items)) c.outstanding.ensures) in
    let after : hub_of c.self.inside.run c.self.inside.next c.self.inside.registrations.items c.self.inside.beats.items c.settle.new.self (take c.self.inside.queues.len (c.poll.new.queues ++ drop (length c.poll.new.queues) c.self.inside.queues.items)) ≡ acked c.args.user (queue_of c.in-Some.found.now) c.args.upto c.args.now hub =
    acked_fields c.self.inside.run c.self.inside.next c.self.inside.registrations.items c.self.inside.beats.items c.self.inside.sender c.settle.new.self c.self.inside.queues.items _ c.args.user c.args.queue (queue_of c.in-Some.found.now) c.args.upto c.args.now c.deref-2.result.now same gone c.in_ok-settle.ensures.ok
    (written_back_once queue_of (λ p. cond (p.number == c.args.queue.number) (polled c.args.upto c.args.now p) p) c.self.inside.queues.len c.self.inside.queues.items c.poll.new.queues (omega arith)
    (c.poll.ensures ∙ ap (λ qs. map (λ p. cond (p.number == c.args.queue.number) (polled c.args.upto c.args.now p) p) (queues_seen qs)) c.deref_mut.ensures.value)) in
    subst KeepsHubLaw (sym after) (acked_law c.args.user c.args.queue (queue_of c.in-Some.found.now) c.args.upto c.args.now hub found c.self.invariant)

pub returns-clause-ok : goal.returns-clause-ok
returns-clause-ok g c =
    let hub : HubSeen = hub_of c.self.inside.run c.self.inside.next c.self.inside.registrations.items c.self.inside.beats.items c.self.inside.sender c.self.inside.queues.items in
    let lives : queue_at hub c.args.user c.args.queue ≢ None = subst (λ (h : HubSeen). queue_at h c.args.user c.args.queue ≢ None) (sym c.self.view_is) c.requires.lives in
    let found : queue_at hub c.args.user c.args.queue ≡ Some (queue_of c.in-Some.found.now) = sym (queue_at-fields hub c.self.inside.queues.items c.deref.result.now c.args.user c.args.queue (Some c.in-Some.found.now) refl c.deref.ensures.value (same_run hub c.args.user c.args.queue lives) c.in-Some.ensures) in
    let same : c.args.queue ≡ record { run = c.self.inside.run; number = c.in-Some.found.now.number } = queue_at-id hub c.args.user c.args.queue (queue_of c.in-Some.found.now) found in
    let gone : c.deref-2.result.now ≡ acked_deals hub c.args.user (queue_of c.in-Some.found.now) c.args.upto = c.deref-2.ensures.value ∙ (c.in_ok-gone.ensures ∙ ap (filter (λ k. list_any (λ item. is_acked c.args.upto item && item.deal.0 == k.0) c.in-Some.found.now.items.items)) c.outstanding.ensures) in
    let after : hub_of c.self.inside.run c.self.inside.next c.self.inside.registrations.items c.self.inside.beats.items c.settle.new.self (take c.self.inside.queues.len (c.poll.new.queues ++ drop (length c.poll.new.queues) c.self.inside.queues.items)) ≡ acked c.args.user (queue_of c.in-Some.found.now) c.args.upto c.args.now hub =
    acked_fields c.self.inside.run c.self.inside.next c.self.inside.registrations.items c.self.inside.beats.items c.self.inside.sender c.settle.new.self c.self.inside.queues.items _ c.args.user c.args.queue (queue_of c.in-Some.found.now) c.args.upto c.args.now c.deref-2.result.now same gone c.in_ok-settle.ensures.ok
    (written_back_once queue_of (λ p. cond (p.number == c.args.queue.number) (polled c.args.upto c.args.now p) p) c.self.inside.queues.len c.self.inside.queues.items c.poll.new.queues (omega arith)
    (c.poll.ensures ∙ ap (λ qs. map (λ p. cond (p.number == c.args.queue.number) (polled c.args.upto c.args.now p) p) (queues_seen qs)) c.deref_mut.ensures.value)) in
    acked_answer hub c.args.self.now _ c.args.user c.args.queue (queue_of c.in-Some.found.now) c.args.upto c.args.now c.in_ok-left.left found c.self.view_is c.in_ok-left.ensures after
