use Rattle.std.proofs.Common.{◌≡◌, ◌-◌, ◌<◌, ◌^◌, ◌∷◌, [], ◌++◌, List, ℕ, sym, ap, ◌∙◌, subst, arith}
use Rattle.std.specs.Prelude.{map}
use Rattle.std.proofs.lemmas.List.Elements.{All-same}
use Rattle.chat_model.specs.declared.ids.DealNo.{DealNo}
use Rattle.chat_model.specs.declared.deal.Outcome.TheVariants.{Dealt}
use Rattle.chat_model.specs.declared.deal.UserVerdict.{UserVerdict}
use Rattle.missed_hook.specs.Orderly.{IsOrderly}
use Rattle.presence_queues.specs.declared.queue.Queue.{Queue}
use Rattle.presence_queues.specs.Fields.{HasRoomFor, hub_of, queue_of, queues_seen}
use Rattle.presence_queues.specs.Hub.{verdicts}
use Rattle.presence_queues.specs.Law.{KeepsHubLaw}
use Rattle.presence_queues.specs.Steps.{received}
use Rattle.presence_queues.proofs.Dealing.{dealt_law, dealt_orderly}
use Rattle.presence_queues.proofs.Hubs.{dealt_fields, next_fit}
use Rattle.presence_queues.proofs.InPlace.{written_back_twice, written_list}
use Rattle.presence_queues.proofs.hub.Hub.deal.Goals as goal

pub deal-requires : goal.deal-requires
deal-requires g c =
    let number : c.args.deal.now.number ≡ c.self.inside.next = ap {A = ℕ} {B = DealNo} (λ n. record { 0 = n }) c.if-deal-self.false in
    let told : c.as_slice-2.result.now ≡ verdicts (hub_of c.self.inside.run c.self.inside.next c.self.inside.registrations.items c.self.inside.beats.items c.self.inside.sender c.self.inside.queues.items) c.args.now c.args.deal.now.users =
    c.as_slice-2.ensures ∙ (c.in_ok-verdicts.ensures ∙ (λ i. verdicts (sym c.self.view_is i) c.args.now (c.as_slice.ensures i))) in
    record {
      orderly =
          subst (λ (given : List UserVerdict). IsOrderly (c.self.inside.sender.sent ++ Dealt c.args.deal.now.number given ∷ [])) (sym told)
          (dealt_orderly c.args.deal.now c.args.now (hub_of c.self.inside.run c.self.inside.next c.self.inside.registrations.items c.self.inside.beats.items c.self.inside.sender c.self.inside.queues.items) number c.requires.ascending c.self.invariant);
    }

pub receive-requires-clause-room : goal.receive-requires-clause-room
receive-requires-clause-room g c =
    All-same (HasRoomFor c.args.deal.now) c.deref_mut-2.result.now c.reserve_for.new.queues
    (c.deref_mut-2.ensures.value ∙ written_list queue_of c.self.inside.queues.len c.self.inside.queues.items c.reserve_for.new.queues (omega arith) (c.reserve_for.ensures.same ∙ ap queues_seen c.deref_mut.ensures.value))
    c.in_ok-reserve_for.ensures.room

pub receive-requires-clause-fit : goal.receive-requires-clause-fit
receive-requires-clause-fit g c =
    All-same (λ (q : Queue). q.next < 2 ^ 64 - 1) c.deref_mut-2.result.now c.reserve_for.new.queues
    (c.deref_mut-2.ensures.value ∙ written_list queue_of c.self.inside.queues.len c.self.inside.queues.items c.reserve_for.new.queues (omega arith) (c.reserve_for.ensures.same ∙ ap queues_seen c.deref_mut.ensures.value))
    (next_fit c.self.inside.next (2 ^ 64 - 1) c.self.inside.queues.items c.reserve_for.new.queues (omega (arith, c.if-deal-self.false)) (c.reserve_for.ensures.same ∙ ap queues_seen c.deref_mut.ensures.value) c.self.invariant.items)

pub invariant_of-self-2 : goal.invariant_of-self-2
invariant_of-self-2 g c =
    let number : c.args.deal.now.number ≡ c.self.inside.next = ap {A = ℕ} {B = DealNo} (λ n. record { 0 = n }) c.if-deal-self.false in
    let told : c.as_slice-2.result.now ≡ verdicts (hub_of c.self.inside.run c.self.inside.next c.self.inside.registrations.items c.self.inside.beats.items c.self.inside.sender c.self.inside.queues.items) c.args.now c.args.deal.now.users =
    c.as_slice-2.ensures ∙ (c.in_ok-verdicts.ensures ∙ (λ i. verdicts (sym c.self.view_is i) c.args.now (c.as_slice.ensures i))) in
    subst KeepsHubLaw
    (sym (dealt_fields c.self.inside.run c.self.inside.next c.self.inside.registrations.items c.self.inside.beats.items c.self.inside.sender c.deal.new.self c.self.inside.queues.items _ c.args.deal.now c.args.now c.as_slice-2.result.now
    c.if-deal-self.false
    c.in_ok-deal.ensures.ok
    told
    (written_back_twice queue_of (received c.args.deal.now) c.self.inside.queues.len c.self.inside.queues.items c.reserve_for.new.queues c.receive.new.queues
    (omega arith)
    (c.reserve_for.ensures.same ∙ ap queues_seen c.deref_mut.ensures.value)
    (c.receive.ensures ∙ ap (λ qs. map (received c.args.deal.now) (queues_seen qs)) c.deref_mut-2.ensures.value))))
    (dealt_law c.args.deal.now c.args.now (hub_of c.self.inside.run c.self.inside.next c.self.inside.registrations.items c.self.inside.beats.items c.self.inside.sender c.self.inside.queues.items) number c.requires.ascending c.self.invariant)
