-- How the fields of a hub are seen.
use Rattle.std.specs.Prelude.{◌≡◌, ℕ, ◌<◌, ◌==◌, ◌++◌, Bool, true, not, List, [], ◌∷◌, filter, find, map, if◌then◌else◌}
use Rattle.std.specs.List.{list_any}
use Rattle.std.specs.Option.{option_map_or}
use Rattle.std.specs.Vec.{vec_len, vec_capacity}
use Rattle.chat_model.specs.declared.ids.DealNo.{DealNo}
use Rattle.chat_model.specs.declared.ids.UserId.{UserId}
use Rattle.chat_model.specs.declared.deal.Deal.{Deal}
use Rattle.chat_model.specs.declared.deal.Outcome.{Outcome}
use Rattle.chat_model.specs.declared.deal.UserVerdict.{UserVerdict}
use Rattle.missed_hook.specs.Orderly.{IsOrderly}
use Rattle.missed_hook.specs.Outstanding.{gives_live, has_deal, outstanding}
use Rattle.missed_hook.specs.Passed.{Passed}
use Rattle.presence_queues.specs.declared.beats.Beat.{Beat}
use Rattle.presence_queues.specs.declared.ending.Ending.{Ending}
use Rattle.presence_queues.specs.declared.ending.Ending.TheVariants as ending
use Rattle.presence_queues.specs.declared.queue.Queue.{Queue}
use Rattle.presence_queues.specs.declared.waiting.Waiting.{Waiting}
use Rattle.presence_queues.specs.Hub.{HubSeen, QueueSeen}
use Rattle.presence_queues.specs.Steps.{is_dealt_to, is_swept}

-- a queue as it is seen, without the room that it has
abbrev pub queue_of : Queue → QueueSeen
queue_of q = record { number = q.number; user = q.user; poll = q.poll; next = q.next; items = q.items.items }

abbrev pub queues_seen : List Queue → List QueueSeen
queues_seen queues = map queue_of queues

-- there is room for the deal's item, where the queue is of one of its users
abbrev pub HasRoomFor : Deal → Queue → Type 0
HasRoomFor deal q = is_dealt_to deal (queue_of q) ≡ true → vec_len q.items < vec_capacity q.items

-- the queue of a number ends, or each overdue queue of a user
abbrev pub ends_by : Ending → QueueSeen → Bool
ends_by (ending.Number number) q = q.number == number
ends_by (ending.Overdue user now) q = is_swept user now q

-- a user, and the deals that wait for the user
pub record WaitingSeen : Type 0 where
  pub user : UserId
  pub deals : List DealNo

abbrev pub waiting_of : Waiting → WaitingSeen
waiting_of w = record { user = w.user; deals = w.deals.items }

abbrev pub waiting_seen : List Waiting → List WaitingSeen
waiting_seen ws = map waiting_of ws

-- there is room for a further deal, where a verdict is Live for the user
abbrev pub HasRoomIfLive : List UserVerdict → Waiting → Type 0
HasRoomIfLive verdicts w = gives_live verdicts w.user ≡ true → vec_len w.deals < vec_capacity w.deals

-- with the deal, where a verdict is Live for the user
abbrev pub with_live : List UserVerdict → DealNo → WaitingSeen → WaitingSeen
with_live verdicts k w = if gives_live verdicts w.user then record w { deals = w.deals ++ k ∷ [] } else w

-- without these deals, where they are the user's
abbrev pub forgotten : UserId → List DealNo → WaitingSeen → WaitingSeen
forgotten u gone w = if w.user.0 == u.0 then record w { deals = filter (λ k. not (has_deal gone k)) w.deals } else w

-- the user has an entry
abbrev pub has_entry : UserId → List WaitingSeen → Bool
has_entry u ws = list_any (λ w. w.user.0 == u.0) ws

-- the deals that wait for a user, none where the user has no entry
abbrev pub deals_of : UserId → List WaitingSeen → List DealNo
deals_of u ws = option_map_or (λ w. w.deals) (find (λ w. w.user.0 == u.0) ws) []

-- what was sent is orderly, and what waits for a user is what is outstanding
pub record IsWaiting (sent : List Outcome) (ws : List WaitingSeen) : Type 0 where
  pub orderly : IsOrderly sent
  pub waits : (u : UserId) → deals_of u ws ≡ outstanding sent u

-- a hub as it is seen: each queue without its room, and the pipe by what went through it
abbrev pub hub_of : ℕ → DealNo → List UserId → List Beat → Passed → List Queue → HubSeen
hub_of run next registrations beats passed queues = record {
  run = run;
  next = next;
  registrations = registrations;
  beats = beats;
  sent = passed.sent;
  taken = passed.taken;
  queues = queues_seen queues;
}
