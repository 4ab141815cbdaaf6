-- A deal keeps the whole law.
use Rattle.std.proofs.Common.{◌≡◌, ℕ, ◌+◌, ◌<◌, Bool, true, false, ◌&&◌, ◌||◌, ◌==◌, cond, List, [], ◌∷◌, ◌++◌, Option, Some, None, refl, sym, ap, ◌∙◌, subst, arith, inl, inr}
use Rattle.std.specs.Prelude.{IfSome, map}
use Rattle.std.specs.List.{list_any}
use Rattle.std.proofs.lemmas.Bool.{and_from, and_parts, cond_both, eqb-true, false≢true, or_cases, or_left, or_right}
use Rattle.std.proofs.lemmas.List.Elements.{All-map, All-push, All-weaker, recursion_from_All}
use Rattle.std.proofs.lemmas.List.Folds.{list_any-append}
use Rattle.chat_model.specs.declared.ids.DealNo.{DealNo}
use Rattle.chat_model.specs.declared.ids.UserId.{UserId}
use Rattle.chat_model.specs.declared.deal.Deal.{Deal}
use Rattle.chat_model.specs.declared.deal.Outcome.TheVariants.{Dealt}
use Rattle.chat_model.specs.declared.deal.UserVerdict.{UserVerdict}
use Rattle.chat_model.specs.declared.deal.Verdict.TheVariants.{Idle, Live}
use Rattle.chat_model.specs.Ascending.{is_ascending_by}
use Rattle.missed_hook.specs.Orderly.{IsOrderly, last_dealt}
use Rattle.missed_hook.specs.Outstanding.{gives_live, has_deal, is_live, outstanding}
use Rattle.missed_hook.proofs.Ascents.{ascending-map, ascending-push}
use Rattle.missed_hook.proofs.OrderlyLists.{IsOrderly-push}
use Rattle.missed_hook.proofs.Waiting.{last_dealt-push, outstanding-dealt}
use Rattle.presence_queues.specs.declared.queue.Held.{Held}
use Rattle.presence_queues.specs.Hub.{HubSeen, QueueSeen, holds, is_of, is_recent, verdict, verdicts}
use Rattle.presence_queues.specs.Law.{HoldsInOrder, IsBelow, IsRegistered, KeepsHubLaw}
use Rattle.presence_queues.specs.Steps.{dealt, is_dealt_to, with_deal}
use Rattle.presence_queues.proofs.Searches.{any-map, each, each_weaker}

pub same_user : (u v : UserId) → (u.0 == v.0) ≡ true → u ≡ v
same_user u v h = ap {A = ℕ} {B = UserId} (λ n. record { 0 = n }) (eqb-true u.0 v.0 h)

if_some : {A : Type 0} (P Q : A → Type 0) → ((x : A) → P x → Q x) → (o : Option A) → IfSome o P → IfSome o Q
if_some P Q f None h = tt
if_some P Q f (Some x) h = f x h

-- a queue after the deal
abbrev after_deal : Deal → QueueSeen → QueueSeen
after_deal deal q = cond (is_dealt_to deal q) (with_deal deal q) q

-- what holds of a queue with the deal and without it
either_way : (P : QueueSeen → Type 0) (deal : Deal) (q : QueueSeen) → P (with_deal deal q) → P q → P (after_deal deal q)
either_way P deal q with_it without = cond_both (is_dealt_to deal q) (with_deal deal q) q P (λ _. with_it) (λ _. without)

in_order : (deal : Deal) (next : DealNo) (q : QueueSeen) → deal.number ≡ next → HoldsInOrder next q → HoldsInOrder (record { 0 = next.0 + 1 }) (after_deal deal q)
in_order deal next q e h =
    let number : deal.number.0 ≡ next.0 = ap {A = DealNo} {B = ℕ} (λ d. d.0) e in
    either_way (HoldsInOrder (record { 0 = next.0 + 1 })) deal q
    (record {
      events = ascending-push (λ (item : Held). item.event) q.items (added deal q) h.events (each_weaker (IsBelow q.next next.0) (λ (item : Held). item.event < q.next) (λ item k. k.0) q.items (recursion_from_All (IsBelow q.next next.0) q.items h.below));
      deals = ascending-push (λ (item : Held). item.deal.0) q.items (added deal q) h.deals (each_weaker (IsBelow q.next next.0) (λ (item : Held). item.deal.0 < deal.number.0) (λ item k. omega (arith, k.1, number)) q.items (recursion_from_All (IsBelow q.next next.0) q.items h.below));
      below = All-push (IsBelow (q.next + 1) (next.0 + 1)) q.items (added deal q) (All-weaker (IsBelow q.next next.0) (IsBelow (q.next + 1) (next.0 + 1)) (λ item k. (omega (arith, k.0), omega (arith, k.1))) q.items h.below) (omega arith, omega (arith, number));
      next = omega (arith, h.next);
    })
    (record {
      events = h.events;
      deals = h.deals;
      below = All-weaker (IsBelow q.next next.0) (IsBelow q.next (next.0 + 1)) (λ item k. (k.0, omega (arith, k.1))) q.items h.below;
      next = omega (arith, h.next);
    })
  where
    added : Deal → QueueSeen → Held
    added deal q = record { event = q.next; deal = deal.number; message = deal.message }

-- a Live verdict is given to a user of the deal who has a live queue
live_given : (hub : HubSeen) (now : ℕ) (users : List UserId) (u : UserId) → gives_live (verdicts hub now users) u ≡ true → (list_any (is_of u) hub.queues ≡ true) × (list_any (λ v. v.0 == u.0) users ≡ true)
live_given hub now [] u h = absurd (false≢true h)
live_given hub now (v ∷ vs) u h =
    elim (or_cases (v.0 == u.0 && is_live (verdict hub now v)) (gives_live (verdicts hub now vs) u) h) [
      | inl here ↦ first here
      | inr there ↦
          let rest = live_given hub now vs u there in
          (rest.0, or_right (v.0 == u.0) (list_any (λ w. w.0 == u.0) vs) rest.1)
    ]
  where
    has_queue : (b c : Bool) → is_live (cond (b && c) Live Idle) ≡ true → b ≡ true
    has_queue true c e = refl
    has_queue false c e = e

    first : (v.0 == u.0 && is_live (verdict hub now v)) ≡ true → (list_any (is_of u) hub.queues ≡ true) × ((v.0 == u.0 || list_any (λ w. w.0 == u.0) vs) ≡ true)
    first here =
        let parts = and_parts (v.0 == u.0) (is_live (verdict hub now v)) here in
        let queue : list_any (is_of v) hub.queues ≡ true = has_queue (list_any (is_of v) hub.queues) (is_recent hub v now) parts.1 in
        (subst (λ (w : UserId). list_any (is_of w) hub.queues ≡ true) (same_user v u parts.0) queue, or_left (v.0 == u.0) (list_any (λ w. w.0 == u.0) vs) parts.0)

-- a queue holds what it held
holds_on : (deal : Deal) (u : UserId) (k : DealNo) (q : QueueSeen) → (is_of u q && holds k q) ≡ true → (is_of u (after_deal deal q) && holds k (after_deal deal q)) ≡ true
holds_on deal u k q h =
    let parts = and_parts (is_of u q) (holds k q) h in
    either_way (λ p. (is_of u p && holds k p) ≡ true) deal q
    (and_from (is_of u q) (holds k (with_deal deal q)) parts.0 (list_any-append _ q.items (record { event = q.next; deal = deal.number; message = deal.message } ∷ []) ∙ or_left _ _ parts.1))
    h

-- a queue of a user of the deal holds it
holds_it : (deal : Deal) (u : UserId) (k : DealNo) → list_any (λ v. v.0 == u.0) deal.users ≡ true → (deal.number.0 == k.0) ≡ true → (q : QueueSeen) → is_of u q ≡ true → (is_of u (after_deal deal q) && holds k (after_deal deal q)) ≡ true
holds_it deal u k among it q mine =
    let dealt_to : is_dealt_to deal q ≡ true = subst (λ (w : UserId). list_any (λ v. v.0 == w.0) deal.users ≡ true) (sym (same_user q.user u mine)) among in
    cond_both (is_dealt_to deal q) (with_deal deal q) q (λ p. (is_of u p && holds k p) ≡ true)
    (λ _. and_from (is_of u q) (holds k (with_deal deal q)) mine (list_any-append _ q.items (record { event = q.next; deal = deal.number; message = deal.message } ∷ []) ∙ or_right _ _ (or_left _ _ it)))
    (λ f. absurd (false≢true (sym f ∙ dealt_to)))

pub dealt_orderly : (deal : Deal) (now : ℕ) (hub : HubSeen) → deal.number ≡ hub.next → is_ascending_by (λ u. u.0) deal.users ≡ true → KeepsHubLaw hub → IsOrderly (hub.sent ++ Dealt deal.number (verdicts hub now deal.users) ∷ [])
dealt_orderly deal now hub e ascending h =
    IsOrderly-push hub.sent (Dealt deal.number (verdicts hub now deal.users)) h.orderly
    (record {
      next = if_some _ (λ last. deal.number.0 ≡ last.0 + 1) (λ last k. ap {A = DealNo} {B = ℕ} (λ d. d.0) e ∙ sym k) (last_dealt hub.sent) h.last;
      ascending = ascending-map (λ (u : UserId). u.0) (λ (v : UserVerdict). v.user.0) (λ u. record { user = u; verdict = verdict hub now u }) (λ u. refl) deal.users ascending;
    })

pub dealt_law : (deal : Deal) (now : ℕ) (hub : HubSeen) → deal.number ≡ hub.next → is_ascending_by (λ u. u.0) deal.users ≡ true → KeepsHubLaw hub → KeepsHubLaw (dealt deal now hub)
dealt_law deal now hub e ascending h = record {
  orderly = next;
  last = subst (λ (o : Option DealNo). IfSome o (λ last. last.0 + 1 ≡ hub.next.0 + 1)) (sym (last_dealt-push hub.sent deal.number (verdicts hub now deal.users))) (ap {A = DealNo} {B = ℕ} (λ d. d.0 + 1) e);
  items = All-map (HoldsInOrder (record { 0 = hub.next.0 + 1 })) (after_deal deal) hub.queues (All-weaker (HoldsInOrder hub.next) _ (λ q k. in_order deal hub.next q e k) hub.queues h.items);
  numbers = ascending-map (λ (q : QueueSeen). q.number) (λ (q : QueueSeen). q.number) (after_deal deal) (λ q. either_way (λ p. p.number ≡ q.number) deal q refl refl) hub.queues h.numbers;
  registered = All-map (IsRegistered hub.registrations) (after_deal deal) hub.queues (All-weaker (IsRegistered hub.registrations) _ (λ q k. either_way (IsRegistered hub.registrations) deal q (record { from_one = k.from_one; user = k.user }) k) hub.queues h.registered);
  held = λ u k f. held u k (sym (ap (λ ks. has_deal ks k) (outstanding-dealt hub.sent deal.number (verdicts hub now deal.users) u h.orderly next)) ∙ f);
}
  where
    next : IsOrderly (hub.sent ++ Dealt deal.number (verdicts hub now deal.users) ∷ [])
    next = dealt_orderly deal now hub e ascending h

    old : (u : UserId) (k : DealNo) → has_deal (outstanding hub.sent u) k ≡ true → list_any (λ q. is_of u q && holds k q) (map (after_deal deal) hub.queues) ≡ true
    old u k f = any-map _ _ (after_deal deal) hub.queues (each _ (holds_on deal u k) hub.queues) (h.held u k f)

    new : (u : UserId) (k : DealNo) → gives_live (verdicts hub now deal.users) u ≡ true → (deal.number.0 == k.0) ≡ true → list_any (λ q. is_of u q && holds k q) (map (after_deal deal) hub.queues) ≡ true
    new u k live it =
        let given = live_given hub now deal.users u live in
        any-map (is_of u) _ (after_deal deal) hub.queues (each _ (holds_it deal u k given.1 it) hub.queues) given.0

    added : (u : UserId) (k : DealNo) (b : Bool) → gives_live (verdicts hub now deal.users) u ≡ b → has_deal (cond b (deal.number ∷ []) []) k ≡ true → list_any (λ q. is_of u q && holds k q) (map (after_deal deal) hub.queues) ≡ true
    added u k true live f = elim (or_cases (deal.number.0 == k.0) false f) [ inl it ↦ new u k live it | inr never ↦ absurd (false≢true never) ]
    added u k false live f = absurd (false≢true f)

    held : (u : UserId) (k : DealNo) → has_deal (outstanding hub.sent u ++ cond (gives_live (verdicts hub now deal.users) u) (deal.number ∷ []) []) k ≡ true → list_any (λ q. is_of u q && holds k q) (map (after_deal deal) hub.queues) ≡ true
    held u k f =
        elim (or_cases (has_deal (outstanding hub.sent u) k) (has_deal (cond (gives_live (verdicts hub now deal.users) u) (deal.number ∷ []) []) k) (sym (list_any-append _ (outstanding hub.sent u) (cond (gives_live (verdicts hub now deal.users) u) (deal.number ∷ []) [])) ∙ f)) [
          | inl before ↦ old u k before
          | inr fresh ↦ added u k (gives_live (verdicts hub now deal.users) u) refl fresh
        ]
