-- A queue that an id finds among the fields of a hub.
use Rattle.std.proofs.Common.{◌≡◌, ◌≢◌, ℕ, Bool, true, false, not, ◌==◌, cond, List, Option, Some, None, refl, sym, ap, ◌∙◌, subst, inl, inr}
use Rattle.std.proofs.Common.{Bor}
use Rattle.std.specs.Prelude.{◌&&◌, All, IsSomeAnd, find, is_some, map, option_map}
use Rattle.std.specs.Option.{option_copied}
use Rattle.std.proofs.lemmas.Bool.{and_parts, cases_Bool, eq-eqb, eqb-true, false≢true}
use Rattle.std.proofs.lemmas.List.Elements.{All-from_recursion}
use Rattle.chat_model.specs.declared.ids.UserId.{UserId}
use Rattle.chat_model.specs.declared.deal.QueueId.{QueueId}
use Rattle.presence_queues.specs.declared.answer.QueueItem.{QueueItem}
use Rattle.presence_queues.specs.declared.queue.Queue.{Queue}
use Rattle.presence_queues.specs.Fields.{queue_of, queues_seen}
use Rattle.presence_queues.specs.Hub.{HubSeen, QueueSeen, is_of, queue_at}
use Rattle.presence_queues.specs.Law.{KeepsHubLaw}
use Rattle.presence_queues.specs.Steps.{IsAcked, IsLeft, acked, ended, item_of, left_items}
use Rattle.presence_queues.proofs.Acking.{found_in, queue_at-alone, queue_at-mine}
use Rattle.presence_queues.proofs.Entries.{find-seen}
use Rattle.presence_queues.proofs.Searches.{each_weaker, found_passes}

-- an id of another run finds none
pub other_run : (hub : HubSeen) (u : UserId) (id : QueueId) → (id.run == hub.run) ≡ false → queue_at hub u id ≡ None
other_run hub u id e = ap (λ b. cond b (find (λ q. is_of u q && q.number == id.number) hub.queues) None) e

-- an id that finds a queue is of the hub's run
pub same_run : (hub : HubSeen) (u : UserId) (id : QueueId) → queue_at hub u id ≢ None → id.run ≡ hub.run
same_run hub u id lives = elim (cases_Bool (id.run == hub.run)) [ inl e ↦ eqb-true id.run hub.run e | inr e ↦ absurd (lives (other_run hub u id e)) ]

-- an id of the hub's run finds the queue that is found among the fields
pub queue_at-fields : (hub : HubSeen) (queues given : List Queue) (u : UserId) (id : QueueId) (found : Option Queue) → hub.queues ≡ queues_seen queues → given ≡ queues → id.run ≡ hub.run → found ≡ find (λ q. is_of u (queue_of q) && q.number == id.number) given → option_map queue_of found ≡ queue_at hub u id
queue_at-fields hub queues given u id found of_queues of_given run e =
    ap (option_map queue_of) (e ∙ ap (find (λ q. is_of u (queue_of q) && q.number == id.number)) of_given)
    ∙ (sym (find-seen queue_of (λ q. is_of u q && q.number == id.number) queues)
    ∙ (ap (find (λ q. is_of u q && q.number == id.number)) (sym of_queues)
    ∙ ap (λ b. cond b (find (λ q. is_of u q && q.number == id.number) hub.queues) None) (sym (eq-eqb id.run hub.run run))))

-- the id is that of the queue
pub queue_at-id : (hub : HubSeen) (u : UserId) (id : QueueId) (q : QueueSeen) → queue_at hub u id ≡ Some q → id ≡ record { run = hub.run; number = q.number }
queue_at-id hub u id q e =
    let run : id.run ≡ hub.run = same_run hub u id (λ none. cc) in
    let number : q.number ≡ id.number = eqb-true q.number id.number (and_parts (is_of u q) (q.number == id.number) (found_passes (λ p. is_of u p && p.number == id.number) hub.queues q (found_in hub u id q e))).1 in
    λ i. record { run = run i; number = sym number i }

-- all queues of the number are the user's
pub all_mine : (hub : HubSeen) (u : UserId) (id : QueueId) → KeepsHubLaw hub → (o : Option QueueSeen) → queue_at hub u id ≡ o → o ≢ None → All (λ q. (q.number == id.number) ≡ true → is_of u q ≡ true) hub.queues
all_mine hub u id h None e lives = absurd (lives refl)
all_mine hub u id h (Some q) e lives =
    All-from_recursion _ hub.queues (each_weaker (λ (p : QueueSeen). p.number ≡ q.number → p ≡ q) (λ p. (p.number == id.number) ≡ true → is_of u p ≡ true) mine hub.queues (queue_at-alone hub u id q h e))
  where
    number : q.number ≡ id.number
    number = eqb-true q.number id.number (and_parts (is_of u q) (q.number == id.number) (found_passes (λ p. is_of u p && p.number == id.number) hub.queues q (found_in hub u id q e))).1

    mine : (p : QueueSeen) → (p.number ≡ q.number → p ≡ q) → (p.number == id.number) ≡ true → is_of u p ≡ true
    mine p one f = ap (is_of u) (one (eqb-true p.number id.number f ∙ sym number)) ∙ queue_at-mine hub u id q e

-- an ack's answer, read off the fields
pub acked_answer : (hub seen after : HubSeen) (u : UserId) (id : QueueId) (q : QueueSeen) (upto : Option ℕ) (now : ℕ) (left : List QueueItem) → queue_at hub u id ≡ Some q → hub ≡ seen → left ≡ map item_of (left_items upto q) → after ≡ acked u q upto now hub → IsAcked u id upto now seen left after
acked_answer hub seen after u id q upto now left found same e changed =
    subst (λ (o : Option QueueSeen). IsSomeAnd o (λ p. (left ≡ map item_of (left_items upto p)) × (after ≡ acked u p upto now seen)))
    (sym found ∙ ap (λ h. queue_at h u id) same)
    (e, changed ∙ ap (acked u q upto now) same)

-- a queue that was found
pub found_some : (r : Option (Bor Queue)) (o : Option QueueSeen) (b : Bool) → is_some r ≡ not b → b ≡ false → option_map queue_of (option_copied r) ≡ o → o ≢ None
found_some None o b e f h = absurd (false≢true (e ∙ ap not f))
found_some (Some x) o b e f h = λ none. cc

-- a leave's answer
pub left_answer : (hub after : HubSeen) (u : UserId) (id : QueueId) (o : Option QueueSeen) → queue_at hub u id ≡ o → o ≢ None → after ≡ ended u (λ p. p.number == id.number) hub → IsLeft u id hub after
left_answer hub after u id None e lives changed = absurd (lives refl)
left_answer hub after u id (Some q) e lives changed =
    subst (λ (o : Option QueueSeen). IsSomeAnd o (λ r. after ≡ ended u (λ p. p.number == r.number) hub)) (sym e)
    (changed ∙ ap (λ n. ended u (λ p. p.number == n) hub) (ap {A = QueueId} {B = ℕ} (λ i. i.number) (queue_at-id hub u id q e)))
