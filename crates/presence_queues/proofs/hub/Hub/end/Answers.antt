use Rattle.std.proofs.Common.{◌≡◌, true, refl, sym, ap, ◌∙◌, subst}
use Rattle.std.specs.Prelude.{All, option_map}
use Rattle.std.proofs.lemmas.List.Elements.{recursion_from_All}
use Rattle.missed_hook.specs.Orderly.{IsOrderly}
use Rattle.presence_queues.specs.Fields.{ends_by, hub_of}
use Rattle.presence_queues.specs.Hub.{HubSeen, is_of, lowest_queue, unheld}
use Rattle.presence_queues.specs.Law.{KeepsHubLaw}
use Rattle.presence_queues.specs.Steps.{and_sent, ended, outcome_by}
use Rattle.presence_queues.proofs.Changes.{ended_fields, lowest-seen, sent_end, unheld-seen}
use Rattle.presence_queues.proofs.Ends.{end_settled, ended_law, without}
use Rattle.presence_queues.proofs.hub.Hub.end.Goals as goal

pub settle-requires : goal.settle-requires
settle-requires g c =
    let hub : HubSeen = hub_of c.self.inside.run c.self.inside.next c.self.inside.registrations.items c.self.inside.beats.items c.self.inside.sender c.self.inside.queues.items in
    let lowest : c.lowest_living-lowest.result ≡ lowest_queue (without (ends_by c.args.ending.now) hub) c.args.user = lowest-seen hub c.args.user (ends_by c.args.ending.now) c.self.inside.queues.items c.deref-2.result.now _ refl c.deref-2.ensures.value c.lowest_living-lowest.ensures in
    let gone : c.deref-3.result.now ≡ unheld (without (ends_by c.args.ending.now) hub) c.args.user = c.deref-3.ensures.value ∙ unheld-seen hub c.args.user (ends_by c.args.ending.now) c.self.inside.queues.items c.deref.result.now c.outstanding-deals.result.now _ refl c.deref.ensures.value c.outstanding-deals.ensures c.in_ok-gone.ensures in
    record {
      orderly =
          subst IsOrderly
          (sym ((λ i. and_sent c.self.inside.sender.sent (outcome_by c.args.user ((c.queue_id.ensures ∙ ap (option_map (λ n. record { run = c.self.inside.run; number = n })) lowest) i)) (gone i))
          ∙ sent_end (without (ends_by c.args.ending.now) hub) c.args.user _ refl))
          (end_settled (without (ends_by c.args.ending.now) hub) c.args.user _ refl c.self.invariant.orderly).orderly;
    }

pub invariant_of-self-2 : goal.invariant_of-self-2
invariant_of-self-2 g c =
    let hub : HubSeen = hub_of c.self.inside.run c.self.inside.next c.self.inside.registrations.items c.self.inside.beats.items c.self.inside.sender c.self.inside.queues.items in
    let lowest : c.lowest_living-lowest.result ≡ lowest_queue (without (ends_by c.args.ending.now) hub) c.args.user = lowest-seen hub c.args.user (ends_by c.args.ending.now) c.self.inside.queues.items c.deref-2.result.now _ refl c.deref-2.ensures.value c.lowest_living-lowest.ensures in
    let gone : c.deref-3.result.now ≡ unheld (without (ends_by c.args.ending.now) hub) c.args.user = c.deref-3.ensures.value ∙ unheld-seen hub c.args.user (ends_by c.args.ending.now) c.self.inside.queues.items c.deref.result.now c.outstanding-deals.result.now _ refl c.deref.ensures.value c.outstanding-deals.ensures c.in_ok-gone.ensures in
    let after : hub_of c.self.inside.run c.self.inside.next c.self.inside.registrations.items c.self.inside.beats.items c.settle.new.self c.end.new.queues.items ≡ ended c.args.user (ends_by c.args.ending.now) hub =
    ended_fields c.self.inside.run c.self.inside.next c.self.inside.registrations.items c.self.inside.beats.items c.self.inside.sender c.settle.new.self c.self.inside.queues.items c.end.new.queues.items c.args.user (ends_by c.args.ending.now) c.queue_id.result c.lowest_living-lowest.result c.deref-3.result.now c.queue_id.ensures lowest gone c.in_ok-settle.ensures.ok c.end.ensures in
    let mine : All (λ q. ends_by c.args.ending.now q ≡ true → is_of c.args.user q ≡ true) hub.queues = subst (λ (h : HubSeen). All (λ q. ends_by c.args.ending.now q ≡ true → is_of c.args.user q ≡ true) h.queues) (sym c.self.view_is) c.requires.mine in
    subst KeepsHubLaw (sym after) (ended_law c.args.user (ends_by c.args.ending.now) hub (recursion_from_All (λ q. ends_by c.args.ending.now q ≡ true → is_of c.args.user q ≡ true) hub.queues mine) c.self.invariant)

pub returns-clause-ok : goal.returns-clause-ok
returns-clause-ok g c =
    let hub : HubSeen = hub_of c.self.inside.run c.self.inside.next c.self.inside.registrations.items c.self.inside.beats.items c.self.inside.sender c.self.inside.queues.items in
    let lowest : c.lowest_living-lowest.result ≡ lowest_queue (without (ends_by c.args.ending.now) hub) c.args.user = lowest-seen hub c.args.user (ends_by c.args.ending.now) c.self.inside.queues.items c.deref-2.result.now _ refl c.deref-2.ensures.value c.lowest_living-lowest.ensures in
    let gone : c.deref-3.result.now ≡ unheld (without (ends_by c.args.ending.now) hub) c.args.user = c.deref-3.ensures.value ∙ unheld-seen hub c.args.user (ends_by c.args.ending.now) c.self.inside.queues.items c.deref.result.now c.outstanding-deals.result.now _ refl c.deref.ensures.value c.outstanding-deals.ensures c.in_ok-gone.ensures in
    let after : hub_of c.self.inside.run c.self.inside.next c.self.inside.registrations.items c.self.inside.beats.items c.settle.new.self c.end.new.queues.items ≡ ended c.args.user (ends_by c.args.ending.now) hub =
    ended_fields c.self.inside.run c.self.inside.next c.self.inside.registrations.items c.self.inside.beats.items c.self.inside.sender c.settle.new.self c.self.inside.queues.items c.end.new.queues.items c.args.user (ends_by c.args.ending.now) c.queue_id.result c.lowest_living-lowest.result c.deref-3.result.now c.queue_id.ensures lowest gone c.in_ok-settle.ensures.ok c.end.ensures in
    after ∙ ap (ended c.args.user (ends_by c.args.ending.now)) c.self.view_is
