-- The steps of a hub: what each call leaves of it, and what it answers. All that isn't named stays.
use Rattle.std.specs.Prelude.{◌≡◌, ◌≢◌, ℕ, ◌+◌, ◌≤◌, ◌==◌, Bool, false, not, ◌&&◌, List, [], ◌∷◌, ◌++◌, Option, None, Some, IsSomeAnd, filter, length, map, max, nat_le, if◌then◌else◌}
use Rattle.std.specs.List.{list_any, slice_get}
use Rattle.std.specs.Option.{option_to_list}
use Rattle.chat_model.specs.declared.ids.DealNo.{DealNo}
use Rattle.chat_model.specs.declared.ids.UserId.{UserId}
use Rattle.chat_model.specs.declared.deal.Deal.{Deal}
use Rattle.chat_model.specs.declared.deal.Outcome.{Outcome}
use Rattle.chat_model.specs.declared.deal.Outcome.TheVariants.{Dealt, Cleared, Missed}
use Rattle.chat_model.specs.declared.deal.QueueId.{QueueId}
use Rattle.missed_hook.specs.Outstanding.{outstanding}
use Rattle.presence_queues.specs.declared.answer.DealAnswer.{DealAnswer}
use Rattle.presence_queues.specs.declared.answer.DealAnswer.TheVariants as deal_answer
use Rattle.presence_queues.specs.declared.answer.QueueItem.{QueueItem}
use Rattle.presence_queues.specs.declared.answer.SweepAnswer.{SweepAnswer}
use Rattle.presence_queues.specs.declared.answer.SweepAnswer.TheVariants.{Ended, NoneOverdue}
use Rattle.presence_queues.specs.declared.beats.Beat.{Beat}
use Rattle.presence_queues.specs.declared.queue.Held.{Held}
use Rattle.presence_queues.specs.Hub.{HubSeen, QueueSeen, is_of, is_overdue, least, lowest_queue, overdue_user, queue_at, unheld, verdicts}

-- a hub to which nothing happened yet
abbrev pub new_hub : ℕ → DealNo → List Outcome → HubSeen
new_hub run first taken = record { run = run; next = first; registrations = []; beats = []; sent = []; taken = taken; queues = [] }

-- ---- register and beat

-- a further registration, whose place is the number of a further queue
abbrev pub registered : UserId → ℕ → HubSeen → HubSeen
registered u now hub = record hub {
  registrations = hub.registrations ++ u ∷ [];
  queues = hub.queues ++ record { number = length hub.registrations + 1; user = u; poll = now; next = 0; items = [] } ∷ [];
}

-- the later of the beat and the moment, where it is the user's
abbrev pub later_beat : UserId → ℕ → Beat → Beat
later_beat u now beat = if beat.user.0 == u.0 then record beat { at = max beat.at now } else beat

-- the user has the later beat, or this one as the first
abbrev pub beats_after : UserId → ℕ → List Beat → List Beat
beats_after u now beats =
    if list_any (λ beat. beat.user.0 == u.0) beats then map (later_beat u now) beats
    else beats ++ record { user = u; at = now } ∷ []

abbrev pub beaten : UserId → ℕ → HubSeen → HubSeen
beaten u now hub = record hub { beats = beats_after u now hub.beats }

-- ---- deal

-- the queue with the deal's message behind its items, under its next event number
abbrev pub with_deal : Deal → QueueSeen → QueueSeen
with_deal deal q = record q {
  next = q.next + 1;
  items = q.items ++ record { event = q.next; deal = deal.number; message = deal.message } ∷ [];
}

-- the queue is of a user of the deal
abbrev pub is_dealt_to : Deal → QueueSeen → Bool
is_dealt_to deal q = list_any (λ u. u.0 == q.user.0) deal.users

abbrev pub received : Deal → QueueSeen → QueueSeen
received deal q = if is_dealt_to deal q then with_deal deal q else q

-- the verdicts are sent, and the message stands in each live queue of each user of the deal
abbrev pub dealt : Deal → ℕ → HubSeen → HubSeen
dealt deal now hub = record hub {
  next = record { 0 = hub.next.0 + 1 };
  sent = hub.sent ++ Dealt deal.number (verdicts hub now deal.users) ∷ [];
  queues = map (received deal) hub.queues;
}

-- what a deal is answered, and the hub after it
abbrev pub IsDealt : Deal → ℕ → HubSeen → DealAnswer → HubSeen → Type 0
IsDealt deal now hub (deal_answer.Dealt given) after = (deal.number ≡ hub.next) × (given ≡ verdicts hub now deal.users) × (after ≡ dealt deal now hub)
IsDealt deal now hub (deal_answer.NotNext next) after = (deal.number ≢ hub.next) × (next ≡ hub.next) × (after ≡ hub)

-- ---- ack

-- the item has an event number up to the acked one
abbrev pub is_acked : Option ℕ → Held → Bool
is_acked None item = false
is_acked (Some upto) item = nat_le item.event upto

-- the acked number is at or behind the queue's next event number
abbrev pub IsPastNext : Option ℕ → QueueSeen → Type 0
IsPastNext None q = ⊥
IsPastNext (Some upto) q = q.next ≤ upto

-- the items that an ack leaves
abbrev pub left_items : Option ℕ → QueueSeen → List Held
left_items upto q = filter (λ item. not (is_acked upto item)) q.items

-- the queue, polled and without its acked items
abbrev pub polled : Option ℕ → ℕ → QueueSeen → QueueSeen
polled upto now q = record q { poll = now; items = left_items upto q }

-- an item as it is answered
abbrev pub item_of : Held → QueueItem
item_of item = record { event = item.event; message = item.message }

-- what is outstanding for the user and stands in an acked item of the queue
abbrev pub acked_deals : HubSeen → UserId → QueueSeen → Option ℕ → List DealNo
acked_deals hub u q upto = filter (λ k. list_any (λ item. is_acked upto item && item.deal.0 == k.0) q.items) (outstanding hub.sent u)

-- the deals of a user are cleared by a queue, or missed
abbrev pub outcome_by : UserId → Option QueueId → List DealNo → Outcome
outcome_by u None deals = Missed u deals
outcome_by u (Some queue) deals = Cleared u deals queue

-- what was sent, and then the outcome of these deals, if there are any
abbrev pub and_sent : List Outcome → (List DealNo → Outcome) → List DealNo → List Outcome
and_sent sent outcome [] = sent
and_sent sent outcome (k ∷ ks) = sent ++ outcome (k ∷ ks) ∷ []

-- the queue is polled and without its acked items, and of these it clears the deals that are outstanding
abbrev pub acked : UserId → QueueSeen → Option ℕ → ℕ → HubSeen → HubSeen
acked u q upto now hub = record hub {
  sent = and_sent hub.sent (outcome_by u (Some (record { run = hub.run; number = q.number }))) (acked_deals hub u q upto);
  queues = map (λ p. if p.number == q.number then polled upto now p else p) hub.queues;
}

-- the user has a live queue of the id, and its items that are left are answered
abbrev pub IsAcked : UserId → QueueId → Option ℕ → ℕ → HubSeen → List QueueItem → HubSeen → Type 0
IsAcked u id upto now hub left after = IsSomeAnd (queue_at hub u id) (λ q. (left ≡ map item_of (left_items upto q)) × (after ≡ acked u q upto now hub))

-- ---- after an end of queues of a user

-- what is sent then: what is outstanding for the user is missed where no queue lives, or else cleared by the living
-- queue of the lowest number, where it stands in no living queue
abbrev pub sent_after_end : HubSeen → UserId → Option ℕ → List Outcome
sent_after_end hub u None = and_sent hub.sent (outcome_by u None) (outstanding hub.sent u)
sent_after_end hub u (Some lowest) = and_sent hub.sent (outcome_by u (Some (record { run = hub.run; number = lowest }))) (unheld hub u)

abbrev pub after_end : UserId → HubSeen → HubSeen
after_end u hub = record hub { sent = sent_after_end hub u (lowest_queue hub u) }

-- the queues that end are gone, and what follows for the user is sent
abbrev pub ended : UserId → (QueueSeen → Bool) → HubSeen → HubSeen
ended u ends hub = after_end u (record hub { queues = filter (λ q. not (ends q)) hub.queues })

-- ---- leave and sweep

-- the user has a live queue of the id, which ends
abbrev pub IsLeft : UserId → QueueId → HubSeen → HubSeen → Type 0
IsLeft u id hub after = IsSomeAnd (queue_at hub u id) (λ q. after ≡ ended u (λ p. p.number == q.number) hub)

-- the queue is an overdue one of the user
abbrev pub is_swept : UserId → ℕ → QueueSeen → Bool
is_swept u now q = is_of u q && is_overdue now q

-- the least moment at which a queue will be overdue
abbrev pub next_overdue : HubSeen → Option ℕ
next_overdue hub = least (map (λ q. q.poll + 601) hub.queues)

-- what a sweep is answered, and the hub after it
abbrev pub IsSwept : ℕ → HubSeen → SweepAnswer → HubSeen → Type 0
IsSwept now hub (Ended u queues) after = (overdue_user hub now ≡ Some u.0) × (queues ≡ length (filter (is_swept u now) hub.queues)) × (after ≡ ended u (is_swept u now) hub)
IsSwept now hub (NoneOverdue next) after = (overdue_user hub now ≡ None) × (next ≡ next_overdue hub) × (after ≡ hub)

-- ---- take

-- the next outcome is taken from the hub's pipe, if there is one; so none is exactly where all were taken
pub record IsTaken (before : HubSeen) (answer : Option Outcome) (after : HubSeen) : Type 0 where
  pub is : answer ≡ slice_get before.sent (length before.taken)
  pub left : after ≡ record before { taken = before.taken ++ option_to_list answer }
