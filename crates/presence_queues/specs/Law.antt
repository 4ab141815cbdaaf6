-- What holds of a hub after each of its steps.
use Rattle.std.specs.Prelude.{◌≡◌, ℕ, ◌+◌, ◌-◌, ◌<◌, ◌≤◌, true, ◌&&◌, List, Some, All, IfSome}
use Rattle.std.specs.List.{list_any, slice_get}
use Rattle.chat_model.specs.declared.ids.DealNo.{DealNo}
use Rattle.chat_model.specs.declared.ids.UserId.{UserId}
use Rattle.chat_model.specs.Ascending.{is_ascending_by}
use Rattle.missed_hook.specs.Orderly.{IsOrderly, last_dealt}
use Rattle.missed_hook.specs.Outstanding.{has_deal, outstanding}
use Rattle.presence_queues.specs.declared.queue.Held.{Held}
use Rattle.presence_queues.specs.Hub.{HubSeen, QueueSeen, holds, is_of}

-- the item lies below this event number and this deal
abbrev pub IsBelow : ℕ → ℕ → Held → Type 0
IsBelow event deal item = (item.event < event) × (item.deal.0 < deal)

-- the items ascend in event number and in deal, and lie below the next event number and the next deal
pub record HoldsInOrder (next_deal : DealNo) (q : QueueSeen) : Type 0 where
  pub events : is_ascending_by (λ item. item.event) q.items ≡ true
  pub deals : is_ascending_by (λ item. item.deal.0) q.items ≡ true
  pub below : All (IsBelow q.next next_deal.0) q.items
  pub next : q.next ≤ next_deal.0

-- the queue's number is a place, from 1, at which the registrations have its user
pub record IsRegistered (registrations : List UserId) (q : QueueSeen) : Type 0 where
  pub from_one : 1 ≤ q.number
  pub user : slice_get registrations (q.number - 1) ≡ Some q.user

-- what holds of every hub
pub record KeepsHubLaw (hub : HubSeen) : Type 0 where
  pub orderly : IsOrderly hub.sent
  -- the deal that was dealt last is the one before the next
  pub last : IfSome (last_dealt hub.sent) (λ last. last.0 + 1 ≡ hub.next.0)
  pub items : All (HoldsInOrder hub.next) hub.queues
  -- the queues stand by their numbers, so no two have the same
  pub numbers : is_ascending_by (λ q. q.number) hub.queues ≡ true
  pub registered : All (IsRegistered hub.registrations) hub.queues
  -- every deal that is outstanding for a user stands in a live queue of the user
  pub held : (u : UserId) (k : DealNo) → has_deal (outstanding hub.sent u) k ≡ true → list_any (λ q. is_of u q && holds k q) hub.queues ≡ true
