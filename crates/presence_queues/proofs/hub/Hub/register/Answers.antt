use Rattle.std.proofs.Common.{◌≡◌, ◌+◌, length, sym, subst, arith}
use Rattle.presence_queues.specs.Law.{KeepsHubLaw}
use Rattle.presence_queues.proofs.Hubs.{registered_fields}
use Rattle.presence_queues.proofs.Registering.{registered_law}
use Rattle.presence_queues.proofs.hub.Hub.register.Goals as goal

pub invariant_of-self-2 : goal.invariant_of-self-2
invariant_of-self-2 g c =
    let place : c.len-number.result ≡ length c.self.inside.registrations.items + 1 = omega arith in
    subst KeepsHubLaw
    (sym (registered_fields c.self.inside.run c.self.inside.next c.self.inside.registrations.items c.reserve.new.self.items c.push_reserved.new.self.items c.self.inside.beats.items c.self.inside.sender c.self.inside.queues.items c.reserve-2.new.self.items c.push_reserved-2.new.self.items c.args.user c.args.now _
    c.reserve.ensures.items
    c.push_reserved.ensures.items
    c.reserve-2.ensures.items
    c.push_reserved-2.ensures.items
    (λ i. record { number = place i; user = c.args.user; poll = c.args.now; next = 0; items = c.new.ensures.items i })))
    (registered_law c.args.user c.args.now _ c.self.invariant)
