-- An ack keeps the whole law.
use Rattle.std.proofs.Common.{◌≡◌, ◌≢◌, ℕ, ◌+◌, Bool, true, false, not, ◌&&◌, ◌||◌, ◌==◌, cond, List, [], ◌∷◌, Option, Some, None, refl, sym, ap, ◌∙◌, subst, inl, inr}
use Rattle.std.specs.Prelude.{IfSome, filter, find, map}
use Rattle.std.specs.List.{AllByRecursion, list_any}
use Rattle.std.proofs.lemmas.Bool.{and_from, and_parts, cases_eq, cond_both, eqb-true, false≢true, not-true, or_left, or_right}
use Rattle.std.proofs.lemmas.List.Elements.{All-filter, All-map, All-weaker}
use Rattle.chat_model.specs.declared.ids.DealNo.{DealNo}
use Rattle.chat_model.specs.declared.ids.UserId.{UserId}
use Rattle.chat_model.specs.declared.deal.QueueId.{QueueId}
use Rattle.missed_hook.specs.Orderly.{IsOrderly}
use Rattle.missed_hook.specs.Outstanding.{has_deal, outstanding}
use Rattle.missed_hook.proofs.Ascents.{ascending-filter, ascending-map}
use Rattle.missed_hook.proofs.Waiting.{Settles-cleared, has_deal-filter, may_clear}
use Rattle.presence_queues.specs.declared.queue.Held.{Held}
use Rattle.presence_queues.specs.Hub.{HubSeen, QueueSeen, holds, is_of, queue_at}
use Rattle.presence_queues.specs.Law.{HoldsInOrder, IsBelow, IsRegistered, KeepsHubLaw}
use Rattle.presence_queues.specs.Steps.{acked, acked_deals, and_sent, is_acked, outcome_by, polled}
use Rattle.presence_queues.proofs.Searches.{any-map, each_weaker, found_alone, found_passes}
use Rattle.presence_queues.proofs.Settling.{Settled, settled}

-- an acked item of the queue is one of the deal
abbrev pub was_acked : QueueSeen → Option ℕ → DealNo → Bool
was_acked q upto k = list_any (λ item. is_acked upto item && item.deal.0 == k.0) q.items

-- the queue that an id finds
pub found_in : (hub : HubSeen) (u : UserId) (id : QueueId) (q : QueueSeen) → queue_at hub u id ≡ Some q → find (λ p. is_of u p && p.number == id.number) hub.queues ≡ Some q
found_in hub u id q e = by (id.run == hub.run) e
  where
    by : (b : Bool) → cond b (find (λ p. is_of u p && p.number == id.number) hub.queues) None ≡ Some q → find (λ p. is_of u p && p.number == id.number) hub.queues ≡ Some q
    by true f = f
    by false f = cc

pub queue_at-mine : (hub : HubSeen) (u : UserId) (id : QueueId) (q : QueueSeen) → queue_at hub u id ≡ Some q → is_of u q ≡ true
queue_at-mine hub u id q e = (and_parts (is_of u q) (q.number == id.number) (found_passes (λ p. is_of u p && p.number == id.number) hub.queues q (found_in hub u id q e))).0

pub queue_at-alone : (hub : HubSeen) (u : UserId) (id : QueueId) (q : QueueSeen) → KeepsHubLaw hub → queue_at hub u id ≡ Some q → AllByRecursion (λ (p : QueueSeen). p.number ≡ q.number → p ≡ q) hub.queues
queue_at-alone hub u id q h e = found_alone (λ (p : QueueSeen). p.number) (λ p. is_of u p && p.number == id.number) hub.queues q h.numbers (found_in hub u id q e)

abbrev after_ack : QueueSeen → Option ℕ → ℕ → QueueSeen → QueueSeen
after_ack q upto now p = cond (p.number == q.number) (polled upto now p) p

either_way : (P : QueueSeen → Type 0) (q : QueueSeen) (upto : Option ℕ) (now : ℕ) (p : QueueSeen) → P (polled upto now p) → P p → P (after_ack q upto now p)
either_way P q upto now p with_it without = cond_both (p.number == q.number) (polled upto now p) p P (λ _. with_it) (λ _. without)

-- an item that isn't acked is left
item_left : (upto : Option ℕ) (k : DealNo) (items : List Held) → list_any (λ item. is_acked upto item && item.deal.0 == k.0) items ≡ false → list_any (λ item. item.deal.0 == k.0) items ≡ true → list_any (λ item. item.deal.0 == k.0) (filter (λ item. not (is_acked upto item)) items) ≡ true
item_left upto k [] h found = found
item_left upto k (i ∷ is) h found = by (is_acked upto i) (i.deal.0 == k.0) refl h found (item_left upto k is)
  where
    by : (b c : Bool) → (i.deal.0 == k.0) ≡ c → (b && c || list_any (λ item. is_acked upto item && item.deal.0 == k.0) is) ≡ false → (c || list_any (λ item. item.deal.0 == k.0) is) ≡ true
        → (list_any (λ item. is_acked upto item && item.deal.0 == k.0) is ≡ false → list_any (λ item. item.deal.0 == k.0) is ≡ true → list_any (λ item. item.deal.0 == k.0) (filter (λ item. not (is_acked upto item)) is) ≡ true)
        → list_any (λ item. item.deal.0 == k.0) (cond (not b) (i ∷ filter (λ item. not (is_acked upto item)) is) (filter (λ item. not (is_acked upto item)) is)) ≡ true
    by true true e g f ih = absurd (false≢true (sym g))
    by true false e g f ih = ih g f
    by false true e g f ih = or_left _ _ e
    by false false e g f ih = or_right _ _ (ih g f)

pub acked_settled : (u : UserId) (q : QueueSeen) (upto : Option ℕ) (hub : HubSeen) → IsOrderly hub.sent → Settled u (was_acked q upto) hub.sent (and_sent hub.sent (outcome_by u (Some (record { run = hub.run; number = q.number }))) (acked_deals hub u q upto))
acked_settled u q upto hub h =
    settled hub.sent u (was_acked q upto) (outcome_by u (Some (record { run = hub.run; number = q.number }))) (acked_deals hub u q upto) refl h (λ ks. Settles-cleared u ks (record { run = hub.run; number = q.number })) (λ ks. refl) (λ some. may_clear hub.sent u (was_acked q upto) some)

pub acked_law : (u : UserId) (id : QueueId) (q : QueueSeen) (upto : Option ℕ) (now : ℕ) (hub : HubSeen) → queue_at hub u id ≡ Some q → KeepsHubLaw hub → KeepsHubLaw (acked u q upto now hub)
acked_law u id q upto now hub e h = record {
  orderly = s.orderly;
  last = subst (λ (o : Option DealNo). IfSome o (λ last. last.0 + 1 ≡ hub.next.0)) (sym s.last) h.last;
  items = All-map (HoldsInOrder hub.next) (after_ack q upto now) hub.queues (All-weaker (HoldsInOrder hub.next) _ (λ p k. either_way (HoldsInOrder hub.next) q upto now p (in_order p k) k) hub.queues h.items);
  numbers = ascending-map (λ (p : QueueSeen). p.number) (λ (p : QueueSeen). p.number) (after_ack q upto now) (λ p. either_way (λ r. r.number ≡ p.number) q upto now p refl refl) hub.queues h.numbers;
  registered = All-map (IsRegistered hub.registrations) (after_ack q upto now) hub.queues (All-weaker (IsRegistered hub.registrations) _ (λ p k. either_way (IsRegistered hub.registrations) q upto now p (record { from_one = k.from_one; user = k.user }) k) hub.queues h.registered);
  held = λ v k f. elim (cases_eq u.0 v.0) [ inl same ↦ mine v k same f | inr other ↦ anothers v k other f ];
}
  where
    s : Settled u (was_acked q upto) hub.sent (and_sent hub.sent (outcome_by u (Some (record { run = hub.run; number = q.number }))) (acked_deals hub u q upto))
    s = acked_settled u q upto hub h.orderly

    in_order : (p : QueueSeen) → HoldsInOrder hub.next p → HoldsInOrder hub.next (polled upto now p)
    in_order p k = record {
      events = ascending-filter (λ (item : Held). item.event) (λ item. not (is_acked upto item)) p.items k.events;
      deals = ascending-filter (λ (item : Held). item.deal.0) (λ item. not (is_acked upto item)) p.items k.deals;
      below = All-filter (λ item. not (is_acked upto item)) (IsBelow p.next hub.next.0) p.items k.below;
      next = k.next;
    }

    alone : AllByRecursion (λ (p : QueueSeen). p.number ≡ q.number → p ≡ q) hub.queues
    alone = queue_at-alone hub u id q h e

    -- a queue of the user holds on to a deal that isn't acked
    holds_on : (k : DealNo) → was_acked q upto k ≡ false → (p : QueueSeen) → (p.number ≡ q.number → p ≡ q) → (is_of u p && holds k p) ≡ true → (is_of u (after_ack q upto now p) && holds k (after_ack q upto now p)) ≡ true
    holds_on k left p one f =
        let parts = and_parts (is_of u p) (holds k p) f in
        cond_both (p.number == q.number) (polled upto now p) p (λ r. (is_of u r && holds k r) ≡ true)
        (λ same.
        let it : p ≡ q = one (eqb-true p.number q.number same) in
        let unacked : was_acked p upto k ≡ false = ap (λ r. was_acked r upto k) it ∙ left in
        and_from (is_of u p) (holds k (polled upto now p)) parts.0 (item_left upto k p.items unacked parts.1))
        (λ _. f)

    -- another user's queue stays
    stays : (v : UserId) (k : DealNo) → u.0 ≢ v.0 → (p : QueueSeen) → (p.number ≡ q.number → p ≡ q) → (is_of v p && holds k p) ≡ true → (is_of v (after_ack q upto now p) && holds k (after_ack q upto now p)) ≡ true
    stays v k other p one f =
        let parts = and_parts (is_of v p) (holds k p) f in
        cond_both (p.number == q.number) (polled upto now p) p (λ r. (is_of v r && holds k r) ≡ true)
        (λ same.
        let it : p ≡ q = one (eqb-true p.number q.number same) in
        let of_u : (p.user.0 == u.0) ≡ true = ap (is_of u) it ∙ queue_at-mine hub u id q e in
        absurd (other (sym (eqb-true p.user.0 u.0 of_u) ∙ eqb-true p.user.0 v.0 parts.0)))
        (λ _. f)

    mine : (v : UserId) (k : DealNo) → u.0 ≡ v.0 → has_deal (outstanding (acked u q upto now hub).sent v) k ≡ true → list_any (λ p. is_of v p && holds k p) (map (after_ack q upto now) hub.queues) ≡ true
    mine v k same f =
        let of_u : v ≡ u = ap {A = ℕ} {B = UserId} (λ n. record { 0 = n }) (sym same) in
        let at_u : has_deal (outstanding (acked u q upto now hub).sent u) k ≡ true = subst (λ (w : UserId). has_deal (outstanding (acked u q upto now hub).sent w) k ≡ true) of_u f in
        let parts = and_parts (not (was_acked q upto k)) (has_deal (outstanding hub.sent u) k) (sym (has_deal-filter (λ d. not (was_acked q upto d)) (outstanding hub.sent u) k) ∙ (ap (λ ks. has_deal ks k) (sym s.same) ∙ at_u)) in
        subst (λ (w : UserId). list_any (λ p. is_of w p && holds k p) (map (after_ack q upto now) hub.queues) ≡ true) (sym of_u)
        (any-map (λ p. is_of u p && holds k p) (λ p. is_of u p && holds k p) (after_ack q upto now) hub.queues (each_weaker (λ (p : QueueSeen). p.number ≡ q.number → p ≡ q) _ (holds_on k (not-true (was_acked q upto k) parts.0)) hub.queues alone) (h.held u k parts.1))

    anothers : (v : UserId) (k : DealNo) → u.0 ≢ v.0 → has_deal (outstanding (acked u q upto now hub).sent v) k ≡ true → list_any (λ p. is_of v p && holds k p) (map (after_ack q upto now) hub.queues) ≡ true
    anothers v k other f =
        any-map (λ p. is_of v p && holds k p) (λ p. is_of v p && holds k p) (after_ack q upto now) hub.queues (each_weaker (λ (p : QueueSeen). p.number ≡ q.number → p ≡ q) _ (stays v k other) hub.queues alone)
        (h.held v k (ap (λ ks. has_deal ks k) (sym (s.other v other)) ∙ f))
