-- The fields of a hub after its steps.
use Rattle.std.proofs.Common.{◌≡◌, ℕ, ◌+◌, ◌<◌, ◌==◌, Bool, cond, List, [], ◌∷◌, ◌++◌, length, get_or, sym, ap, ◌∙◌, subst, arith}
use Rattle.std.specs.Prelude.{◌&&◌, All, map, nat_le}
use Rattle.std.specs.List.{list_any}
use Rattle.std.proofs.lemmas.List.{length-map, map-append}
use Rattle.chat_model.specs.declared.ids.DealNo.{DealNo}
use Rattle.chat_model.specs.declared.ids.UserId.{UserId}
use Rattle.chat_model.specs.declared.deal.Deal.{Deal}
use Rattle.chat_model.specs.declared.deal.Outcome.TheVariants.{Dealt}
use Rattle.chat_model.specs.declared.deal.UserVerdict.{UserVerdict}
use Rattle.chat_model.specs.declared.deal.Verdict.TheVariants.{Idle, Live}
use Rattle.missed_hook.specs.Passed.{Passed}
use Rattle.presence_queues.specs.declared.beats.Beat.{Beat}
use Rattle.presence_queues.specs.declared.queue.Queue.{Queue}
use Rattle.presence_queues.specs.Fields.{hub_of, queue_of, queues_seen}
use Rattle.presence_queues.specs.Hub.{HubSeen, QueueSeen, is_of, verdict, verdicts}
use Rattle.presence_queues.specs.Law.{HoldsInOrder}
use Rattle.presence_queues.specs.Steps.{dealt, received, registered}
use Rattle.presence_queues.proofs.Entries.{any-seen}
use Rattle.presence_queues.proofs.InPlace.{get_or-map}

pub registered_fields : (run : ℕ) (next : DealNo) (registrations roomy after : List UserId) (beats : List Beat) (passed : Passed) (queues queues_roomy queues_after : List Queue) (u : UserId) (now : ℕ) (q : Queue) → roomy ≡ registrations → after ≡ roomy ++ u ∷ [] → queues_roomy ≡ queues → queues_after ≡ queues_roomy ++ q ∷ [] → queue_of q ≡ record { number = length registrations + 1; user = u; poll = now; next = 0; items = [] } → hub_of run next after beats passed queues_after ≡ registered u now (hub_of run next registrations beats passed queues)
registered_fields run next registrations roomy after beats passed queues queues_roomy queues_after u now q same users same_queues more added =
    let seen : queues_seen queues_after ≡ queues_seen queues ++ record { number = length registrations + 1; user = u; poll = now; next = 0; items = [] } ∷ [] =
    ap queues_seen (more ∙ ap (λ qs. qs ++ q ∷ []) same_queues) ∙ (map-append queue_of queues (q ∷ []) ∙ ap (λ p. queues_seen queues ++ p ∷ []) added) in
    let all : after ≡ registrations ++ u ∷ [] = users ∙ ap (λ us. us ++ u ∷ []) same in
    λ i. record { run = run; next = next; registrations = all i; beats = beats; sent = passed.sent; taken = passed.taken; queues = seen i }

-- whether a verdict is Live, read off the fields
pub verdict_fields : (hub seen : HubSeen) (queues given : List Queue) (beats : List Beat) (u : UserId) (now : ℕ) (b : Bool) → hub ≡ seen → hub.queues ≡ queues_seen queues → given ≡ queues → beats ≡ hub.beats → b ≡ (list_any (λ q. is_of u (queue_of q)) given && list_any (λ beat. beat.user.0 == u.0 && nat_le now (beat.at + 140)) beats) → cond b Live Idle ≡ verdict seen now u
verdict_fields hub seen queues given beats u now b same of_queues of_given of_beats e =
    let live : b ≡ (list_any (is_of u) hub.queues && list_any (λ beat. beat.user.0 == u.0 && nat_le now (beat.at + 140)) hub.beats) =
    e ∙ (λ i. (ap (list_any (λ q. is_of u (queue_of q))) of_given ∙ (sym (any-seen queue_of (is_of u) queues) ∙ ap (list_any (is_of u)) (sym of_queues))) i && list_any (λ beat. beat.user.0 == u.0 && nat_le now (beat.at + 140)) (of_beats i)) in
    ap (λ c. cond c Live Idle) live ∙ ap (λ h. verdict h now u) same

same_deal : (d k : DealNo) → d.0 ≡ k.0 → d ≡ k
same_deal d k e = ap {A = ℕ} {B = DealNo} (λ n. record { 0 = n }) e

pub dealt_fields : (run : ℕ) (next : DealNo) (registrations : List UserId) (beats : List Beat) (passed passed_after : Passed) (queues queues_after : List Queue) (deal : Deal) (now : ℕ) (given : List UserVerdict) → deal.number.0 ≡ next.0 → passed_after ≡ record { sent = passed.sent ++ Dealt deal.number given ∷ []; taken = passed.taken } → given ≡ verdicts (hub_of run next registrations beats passed queues) now deal.users → queues_seen queues_after ≡ map (received deal) (queues_seen queues) → hub_of run (record { 0 = deal.number.0 + 1 }) registrations beats passed_after queues_after ≡ dealt deal now (hub_of run next registrations beats passed queues)
dealt_fields run next registrations beats passed passed_after queues queues_after deal now given e sent verdict_of seen =
    let all_sent : passed_after ≡ record { sent = passed.sent ++ Dealt deal.number (verdicts (hub_of run next registrations beats passed queues) now deal.users) ∷ []; taken = passed.taken } =
    sent ∙ (λ i. record { sent = passed.sent ++ Dealt deal.number (verdict_of i) ∷ []; taken = passed.taken }) in
    λ i. record { run = run; next = record { 0 = e i + 1 }; registrations = registrations; beats = beats; sent = (all_sent i).sent; taken = (all_sent i).taken; queues = seen i }

-- where each queue is seen in order, its next event number is no greater than the next deal
pub next_fit : (next : DealNo) (bound : ℕ) (before now : List Queue) → next.0 < bound → queues_seen now ≡ queues_seen before → All (HoldsInOrder next) (queues_seen before) → All (λ q. q.next < bound) now
next_fit next bound before now less same h k d within =
    let there : k < length (queues_seen now) = omega (arith, length-map now queue_of) in
    let held : HoldsInOrder next (get_or (queues_seen now) k (queue_of d)) = subst (λ (qs : List QueueSeen). All (HoldsInOrder next) qs) (sym same) h k (queue_of d) there in
    let it : queue_of (get_or now k d) ≡ get_or (queues_seen now) k (queue_of d) = get_or-map queue_of now k d in
    let order : HoldsInOrder next (queue_of (get_or now k d)) = subst (HoldsInOrder next) (sym it) held in
    omega (arith, order.next)
