-- An end of queues of a user keeps the whole law.
use Rattle.std.proofs.Common.{◌≡◌, ◌≢◌, ℕ, ◌+◌, Bool, true, false, not, ◌&&◌, List, [], ◌∷◌, Option, Some, None, refl, sym, ap, ◌∙◌, subst, inl, inr}
use Rattle.std.specs.Prelude.{IfSome, filter, fold, map, min}
use Rattle.std.specs.List.{AllByRecursion, list_any}
use Rattle.std.proofs.lemmas.Bool.{and_parts, cases_eq, eqb-true, not-false, not-true}
use Rattle.std.proofs.lemmas.List.Elements.{All-filter}
use Rattle.chat_model.specs.declared.ids.DealNo.{DealNo}
use Rattle.chat_model.specs.declared.ids.UserId.{UserId}
use Rattle.missed_hook.specs.Orderly.{IsOrderly}
use Rattle.missed_hook.specs.Outstanding.{has_deal, outstanding}
use Rattle.missed_hook.proofs.Ascents.{ascending-filter}
use Rattle.missed_hook.proofs.Waiting.{Settles-cleared, Settles-missed, filter_true, has_deal-filter, may_clear}
use Rattle.presence_queues.specs.Hub.{HubSeen, QueueSeen, holds, is_of, least, lesser, lowest_queue, queues_of, unheld}
use Rattle.presence_queues.specs.Law.{HoldsInOrder, IsRegistered, KeepsHubLaw}
use Rattle.presence_queues.specs.Steps.{ended, outcome_by, sent_after_end}
use Rattle.presence_queues.proofs.Searches.{any-filter, any-filtered, each_weaker}
use Rattle.presence_queues.proofs.Settling.{Settled, settled}

-- no queue of the user holds the deal
abbrev pub is_unheld : HubSeen → UserId → DealNo → Bool
is_unheld hub u k = not (list_any (holds k) (queues_of hub u))

there_is : (ns : List ℕ) (m : ℕ) → fold lesser (Some m) ns ≡ None → ⊥
there_is [] m e = cc
there_is (n ∷ ns) m e = there_is ns (min m n) e

-- without a queue of the user, no deal is held
pub none_held : (qs : List QueueSeen) → least (map (λ q. q.number) qs) ≡ None → (ks : List DealNo) → ks ≡ filter (λ k. not (list_any (holds k) qs)) ks
none_held [] e ks = sym (filter_true ks)
none_held (q ∷ qs) e ks = absurd (there_is (map (λ p. p.number) qs) q.number e)

pub end_settled : (hub : HubSeen) (u : UserId) (lowest : Option ℕ) → lowest_queue hub u ≡ lowest → IsOrderly hub.sent → Settled u (is_unheld hub u) hub.sent (sent_after_end hub u lowest)
end_settled hub u None e h =
    settled hub.sent u (is_unheld hub u) (outcome_by u None) (outstanding hub.sent u) (none_held (queues_of hub u) e (outstanding hub.sent u)) h (λ ks. Settles-missed u ks) (λ ks. refl) (λ some. record { some = some; all = refl })
end_settled hub u (Some lowest) e h =
    settled hub.sent u (is_unheld hub u) (outcome_by u (Some (record { run = hub.run; number = lowest }))) (unheld hub u) refl h (λ ks. Settles-cleared u ks (record { run = hub.run; number = lowest })) (λ ks. refl) (λ some. may_clear hub.sent u (is_unheld hub u) some)

-- the hub once the queues are gone, before an outcome is sent
abbrev pub without : (QueueSeen → Bool) → HubSeen → HubSeen
without ends hub = record hub { queues = filter (λ q. not (ends q)) hub.queues }

pub ended_law : (u : UserId) (ends : QueueSeen → Bool) (hub : HubSeen) → AllByRecursion (λ q. ends q ≡ true → is_of u q ≡ true) hub.queues → KeepsHubLaw hub → KeepsHubLaw (ended u ends hub)
ended_law u ends hub mine h = record {
  orderly = s.orderly;
  last = subst (λ (o : Option DealNo). IfSome o (λ last. last.0 + 1 ≡ hub.next.0)) (sym s.last) h.last;
  items = All-filter (λ q. not (ends q)) (HoldsInOrder hub.next) hub.queues h.items;
  numbers = ascending-filter (λ (q : QueueSeen). q.number) (λ q. not (ends q)) hub.queues h.numbers;
  registered = All-filter (λ q. not (ends q)) (IsRegistered hub.registrations) hub.queues h.registered;
  held = λ v k f. elim (cases_eq u.0 v.0) [ inl same ↦ of_user v k same f | inr other ↦ of_another v k other f ];
}
  where
    s : Settled u (is_unheld (without ends hub) u) hub.sent (sent_after_end (without ends hub) u (lowest_queue (without ends hub) u))
    s = end_settled (without ends hub) u (lowest_queue (without ends hub) u) refl h.orderly

    of_user : (v : UserId) (k : DealNo) → u.0 ≡ v.0 → has_deal (outstanding (ended u ends hub).sent v) k ≡ true → list_any (λ q. is_of v q && holds k q) (ended u ends hub).queues ≡ true
    of_user v k same f =
        let of_u : v ≡ u = ap {A = ℕ} {B = UserId} (λ n. record { 0 = n }) (sym same) in
        let at_u : has_deal (outstanding (ended u ends hub).sent u) k ≡ true = subst (λ (w : UserId). has_deal (outstanding (ended u ends hub).sent w) k ≡ true) of_u f in
        let parts = and_parts (not (is_unheld (without ends hub) u k)) (has_deal (outstanding hub.sent u) k) (sym (has_deal-filter (λ d. not (is_unheld (without ends hub) u d)) (outstanding hub.sent u) k) ∙ (ap (λ ks. has_deal ks k) (sym s.same) ∙ at_u)) in
        let holding : list_any (holds k) (queues_of (without ends hub) u) ≡ true = not-false (list_any (holds k) (queues_of (without ends hub) u)) (not-true (is_unheld (without ends hub) u k) parts.0) in
        subst (λ (w : UserId). list_any (λ q. is_of w q && holds k q) (ended u ends hub).queues ≡ true) (sym of_u) (sym (any-filtered (holds k) (is_of u) (ended u ends hub).queues) ∙ holding)

    lives : (v : UserId) (k : DealNo) → u.0 ≢ v.0 → (q : QueueSeen) → (ends q ≡ true → is_of u q ≡ true) → (is_of v q && holds k q) ≡ true → not (ends q) ≡ true
    lives v k other q of_u f = by (ends q) refl
      where
        by : (b : Bool) → ends q ≡ b → not b ≡ true
        by true e = absurd (other (sym (eqb-true q.user.0 u.0 (of_u e)) ∙ eqb-true q.user.0 v.0 (and_parts (is_of v q) (holds k q) f).0))
        by false e = refl

    of_another : (v : UserId) (k : DealNo) → u.0 ≢ v.0 → has_deal (outstanding (ended u ends hub).sent v) k ≡ true → list_any (λ q. is_of v q && holds k q) (ended u ends hub).queues ≡ true
    of_another v k other f =
        any-filter (λ q. is_of v q && holds k q) (λ q. not (ends q)) hub.queues (each_weaker (λ q. ends q ≡ true → is_of u q ≡ true) _ (lives v k other) hub.queues mine)
        (h.held v k (ap (λ ks. has_deal ks k) (sym (s.other v other)) ∙ f))
