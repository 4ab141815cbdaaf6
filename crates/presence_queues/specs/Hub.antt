-- A hub as contracts see it, and what is read off it.
use Rattle.std.specs.Prelude.{ℕ, ◌+◌, ◌==◌, Bool, not, ◌&&◌, List, Option, None, Some, filter, find, fold, map, min, nat_le, nat_lt, if◌then◌else◌}
use Rattle.std.specs.List.{list_any}
use Rattle.chat_model.specs.declared.ids.DealNo.{DealNo}
use Rattle.chat_model.specs.declared.ids.UserId.{UserId}
use Rattle.chat_model.specs.declared.deal.Outcome.{Outcome}
use Rattle.chat_model.specs.declared.deal.QueueId.{QueueId}
use Rattle.chat_model.specs.declared.deal.UserVerdict.{UserVerdict}
use Rattle.chat_model.specs.declared.deal.Verdict.{Verdict}
use Rattle.chat_model.specs.declared.deal.Verdict.TheVariants.{Idle, Live}
use Rattle.missed_hook.specs.Outstanding.{outstanding}
use Rattle.presence_queues.specs.declared.beats.Beat.{Beat}
use Rattle.presence_queues.specs.declared.queue.Held.{Held}

-- a live queue: its number, its user, when it was polled last, its next event number, and the items that it holds
pub record QueueSeen : Type 0 where
  pub number : ℕ
  pub user : UserId
  pub poll : ℕ
  pub next : ℕ
  pub items : List Held

-- a hub: its run, the deal that is dealt next, the users of all registrations, the latest beat of each user, what
-- it sent and what of it was taken, and the live queues
pub record HubSeen : Type 0 where
  pub run : ℕ
  pub next : DealNo
  pub registrations : List UserId
  pub beats : List Beat
  pub sent : List Outcome
  pub taken : List Outcome
  pub queues : List QueueSeen

-- the lesser of a number, if there is one yet, and the next
abbrev pub lesser : Option ℕ → ℕ → Option ℕ
lesser None n = Some n
lesser (Some m) n = Some (min m n)

-- the least of some numbers
abbrev pub least : List ℕ → Option ℕ
least ns = fold lesser None ns

-- the queue is the user's
abbrev pub is_of : UserId → QueueSeen → Bool
is_of u q = q.user.0 == u.0

-- the live queues of the user
abbrev pub queues_of : HubSeen → UserId → List QueueSeen
queues_of hub u = filter (is_of u) hub.queues

-- the queue holds an item of the deal
abbrev pub holds : DealNo → QueueSeen → Bool
holds k q = list_any (λ item. item.deal.0 == k.0) q.items

-- the user has a live queue with this id
abbrev pub queue_at : HubSeen → UserId → QueueId → Option QueueSeen
queue_at hub u id = if id.run == hub.run then find (λ q. is_of u q && q.number == id.number) hub.queues else None

-- a beat of the user at most 140 seconds ago is recorded
abbrev pub is_recent : HubSeen → UserId → ℕ → Bool
is_recent hub u now = list_any (λ beat. beat.user.0 == u.0 && nat_le now (beat.at + 140)) hub.beats

-- Live with a live queue and a recent beat, else Idle
abbrev pub verdict : HubSeen → ℕ → UserId → Verdict
verdict hub now u = if list_any (is_of u) hub.queues && is_recent hub u now then Live else Idle

-- the verdict for each user
abbrev pub verdicts : HubSeen → ℕ → List UserId → List UserVerdict
verdicts hub now users = map (λ u. record { user = u; verdict = verdict hub now u }) users

-- the queue was polled last more than 600 seconds ago
abbrev pub is_overdue : ℕ → QueueSeen → Bool
is_overdue now q = nat_lt (q.poll + 600) now

-- the lowest-numbered user of an overdue queue
abbrev pub overdue_user : HubSeen → ℕ → Option ℕ
overdue_user hub now = least (map (λ q. q.user.0) (filter (is_overdue now) hub.queues))

-- the lowest number of a live queue of the user
abbrev pub lowest_queue : HubSeen → UserId → Option ℕ
lowest_queue hub u = least (map (λ q. q.number) (queues_of hub u))

-- what is outstanding for the user and stands in no live queue of the user
abbrev pub unheld : HubSeen → UserId → List DealNo
unheld hub u = filter (λ k. not (list_any (holds k) (queues_of hub u))) (outstanding hub.sent u)
