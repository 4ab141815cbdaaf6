-- The fields of a hub after an ack and after an end.
use Rattle.std.proofs.Common.{◌≡◌, ℕ, ◌+◌, ◌==◌, Bool, false, not, cond, List, [], ◌∷◌, Option, Some, None, length, refl, sym, ap, ◌∙◌}
use Rattle.std.specs.Prelude.{filter, map, option_map}
use Rattle.std.specs.List.{list_any}
use Rattle.std.proofs.lemmas.Bool.{cond-false, or_parts}
use Rattle.std.proofs.lemmas.List.{length-map}
use Rattle.std.proofs.lemmas.List.Elements.{filter_agree}
use Rattle.chat_model.specs.declared.ids.DealNo.{DealNo}
use Rattle.chat_model.specs.declared.ids.UserId.{UserId}
use Rattle.chat_model.specs.declared.deal.QueueId.{QueueId}
use Rattle.missed_hook.specs.Passed.{Passed}
use Rattle.missed_hook.specs.Outstanding.{outstanding}
use Rattle.presence_queues.specs.declared.beats.Beat.{Beat}
use Rattle.presence_queues.specs.declared.queue.Queue.{Queue}
use Rattle.presence_queues.specs.Fields.{hub_of, queue_of, queues_seen}
use Rattle.presence_queues.specs.Hub.{HubSeen, QueueSeen, holds, is_of, is_overdue, least, lowest_queue, overdue_user, queues_of, unheld}
use Rattle.presence_queues.specs.Steps.{acked, acked_deals, and_sent, ended, next_overdue, outcome_by, polled, sent_after_end}
use Rattle.presence_queues.proofs.Ends.{none_held, without}
use Rattle.presence_queues.proofs.Entries.{any-seen, filter-seen, map-seen}

-- ---- an ack

pub acked_fields : (run : ℕ) (next : DealNo) (registrations : List UserId) (beats : List Beat) (passed passed_after : Passed) (queues queues_after : List Queue) (u : UserId) (id : QueueId) (q : QueueSeen) (upto : Option ℕ) (now : ℕ) (gone : List DealNo) → id ≡ record { run = run; number = q.number } → gone ≡ acked_deals (hub_of run next registrations beats passed queues) u q upto → passed_after ≡ record { sent = and_sent passed.sent (outcome_by u (Some id)) gone; taken = passed.taken } → queues_seen queues_after ≡ map (λ p. cond (p.number == id.number) (polled upto now p) p) (queues_seen queues) → hub_of run next registrations beats passed_after queues_after ≡ acked u q upto now (hub_of run next registrations beats passed queues)
acked_fields run next registrations beats passed passed_after queues queues_after u id q upto now gone same e sent seen =
    let all_sent : passed_after ≡ record { sent = and_sent passed.sent (outcome_by u (Some (record { run = run; number = q.number }))) (acked_deals (hub_of run next registrations beats passed queues) u q upto); taken = passed.taken } =
    sent ∙ (λ i. record { sent = and_sent passed.sent (outcome_by u (Some (same i))) (e i); taken = passed.taken }) in
    let all_seen : queues_seen queues_after ≡ map (λ p. cond (p.number == q.number) (polled upto now p) p) (queues_seen queues) =
    seen ∙ (λ i. map (λ p. cond (p.number == (same i).number) (polled upto now p) p) (queues_seen queues)) in
    λ i. record { run = run; next = next; registrations = registrations; beats = beats; sent = (all_sent i).sent; taken = (all_sent i).taken; queues = all_seen i }

-- ---- an end

-- the queues of the user that live on, as they are kept
abbrev pub living : UserId → (QueueSeen → Bool) → List Queue → List Queue
living u ends queues = filter (λ q. is_of u (queue_of q)) (filter (λ q. not (ends (queue_of q))) queues)

living-seen : (u : UserId) (ends : QueueSeen → Bool) (queues : List Queue) → filter (is_of u) (filter (λ q. not (ends q)) (queues_seen queues)) ≡ queues_seen (living u ends queues)
living-seen u ends queues = ap (filter (is_of u)) (filter-seen queue_of (λ q. not (ends q)) queues) ∙ filter-seen queue_of (is_of u) (filter (λ q. not (ends (queue_of q))) queues)

pub lowest-seen : (hub : HubSeen) (u : UserId) (ends : QueueSeen → Bool) (queues given : List Queue) (lowest : Option ℕ) → hub.queues ≡ queues_seen queues → given ≡ queues → lowest ≡ least (map (λ q. q.number) (living u ends given)) → lowest ≡ lowest_queue (without ends hub) u
lowest-seen hub u ends queues given lowest of_queues of_given e =
    e ∙ (ap (λ qs. least (map (λ q. q.number) (living u ends qs))) of_given
    ∙ (ap least (sym (map-seen queue_of (λ q. q.number) (living u ends queues)))
    ∙ (ap (λ qs. least (map (λ q. q.number) qs)) (sym (living-seen u ends queues))
    ∙ ap (λ qs. least (map (λ q. q.number) (filter (is_of u) (filter (λ q. not (ends q)) qs)))) (sym of_queues))))

pub unheld-seen : (hub : HubSeen) (u : UserId) (ends : QueueSeen → Bool) (queues given : List Queue) (deals gone : List DealNo) → hub.queues ≡ queues_seen queues → given ≡ queues → deals ≡ outstanding hub.sent u → gone ≡ filter (λ k. not (list_any (λ q. holds k (queue_of q)) (living u ends given))) deals → gone ≡ unheld (without ends hub) u
unheld-seen hub u ends queues given deals gone of_queues of_given of_deals e =
    e ∙ ((λ i. filter (λ k. not (list_any (λ q. holds k (queue_of q)) (living u ends (of_given i)))) (of_deals i))
    ∙ (filter_agree _ _ (λ k. ap not (sym (any-seen queue_of (holds k) (living u ends queues)) ∙ ap (list_any (holds k)) (sym (living-seen u ends queues)))) (outstanding hub.sent u)
    ∙ ap (λ qs. filter (λ k. not (list_any (holds k) (filter (is_of u) (filter (λ q. not (ends q)) qs)))) (outstanding hub.sent u)) (sym of_queues)))

-- the outcome is sent by the lowest queue that lives on, or as missed
pub sent_end : (hub : HubSeen) (u : UserId) (lowest : Option ℕ) → lowest_queue hub u ≡ lowest → and_sent hub.sent (outcome_by u (option_map (λ n. record { run = hub.run; number = n }) lowest)) (unheld hub u) ≡ sent_after_end hub u lowest
sent_end hub u None e = ap (and_sent hub.sent (outcome_by u None)) (sym (none_held (queues_of hub u) e (outstanding hub.sent u)))
sent_end hub u (Some lowest) e = refl

pub ended_fields : (run : ℕ) (next : DealNo) (registrations : List UserId) (beats : List Beat) (passed passed_after : Passed) (queues queues_after : List Queue) (u : UserId) (ends : QueueSeen → Bool) (by : Option QueueId) (lowest : Option ℕ) (gone : List DealNo) → by ≡ option_map (λ n. record { run = run; number = n }) lowest → lowest ≡ lowest_queue (without ends (hub_of run next registrations beats passed queues)) u → gone ≡ unheld (without ends (hub_of run next registrations beats passed queues)) u → passed_after ≡ record { sent = and_sent passed.sent (outcome_by u by) gone; taken = passed.taken } → queues_after ≡ filter (λ q. not (ends (queue_of q))) queues → hub_of run next registrations beats passed_after queues_after ≡ ended u ends (hub_of run next registrations beats passed queues)
ended_fields run next registrations beats passed passed_after queues queues_after u ends by lowest gone of_by of_lowest of_gone sent kept =
    let all_sent : passed_after ≡ record { sent = sent_after_end (without ends (hub_of run next registrations beats passed queues)) u (lowest_queue (without ends (hub_of run next registrations beats passed queues)) u); taken = passed.taken } =
    sent ∙ ((λ i. record { sent = and_sent passed.sent (outcome_by u ((of_by ∙ ap (option_map (λ n. record { run = run; number = n })) of_lowest) i)) (of_gone i); taken = passed.taken })
    ∙ (λ i. record { sent = sent_end (without ends (hub_of run next registrations beats passed queues)) u (lowest_queue (without ends (hub_of run next registrations beats passed queues)) u) refl i; taken = passed.taken })) in
    let all_seen : queues_seen queues_after ≡ filter (λ q. not (ends q)) (queues_seen queues) = ap queues_seen kept ∙ sym (filter-seen queue_of (λ q. not (ends q)) queues) in
    λ i. record { run = run; next = next; registrations = registrations; beats = beats; sent = (all_sent i).sent; taken = (all_sent i).taken; queues = all_seen i }

-- ---- a sweep

pub overdue-seen : (hub : HubSeen) (now : ℕ) (queues given : List Queue) (o : Option ℕ) → hub.queues ≡ queues_seen queues → given ≡ queues → o ≡ least (map (λ q. q.user.0) (filter (λ q. is_overdue now (queue_of q)) given)) → overdue_user hub now ≡ o
overdue-seen hub now queues given o of_queues of_given e =
    ap (λ qs. least (map (λ q. q.user.0) (filter (is_overdue now) qs))) of_queues
    ∙ (ap (λ qs. least (map (λ q. q.user.0) qs)) (filter-seen queue_of (is_overdue now) queues)
    ∙ (ap least (map-seen queue_of (λ q. q.user.0) (filter (λ q. is_overdue now (queue_of q)) queues))
    ∙ (ap (λ qs. least (map (λ q. q.user.0) (filter (λ q. is_overdue now (queue_of q)) qs))) (sym of_given)
    ∙ sym e)))

pub next_overdue-seen : (hub : HubSeen) (queues given : List Queue) (o : Option ℕ) → hub.queues ≡ queues_seen queues → given ≡ queues → o ≡ least (map (λ q. q.poll + 601) given) → o ≡ next_overdue hub
next_overdue-seen hub queues given o of_queues of_given e =
    e ∙ (ap (λ qs. least (map (λ q. q.poll + 601) qs)) of_given
    ∙ (ap least (sym (map-seen queue_of (λ q. q.poll + 601) queues))
    ∙ ap (λ qs. least (map (λ q. q.poll + 601) qs)) (sym of_queues)))

pub count-seen : (hub : HubSeen) (ends : QueueSeen → Bool) (queues given : List Queue) (n : ℕ) → hub.queues ≡ queues_seen queues → given ≡ queues → n ≡ length (filter (λ q. ends (queue_of q)) given) → n ≡ length (filter ends hub.queues)
count-seen hub ends queues given n of_queues of_given e =
    e ∙ (ap (λ qs. length (filter (λ q. ends (queue_of q)) qs)) of_given
    ∙ (sym (length-map (filter (λ q. ends (queue_of q)) queues) queue_of)
    ∙ (ap length (sym (filter-seen queue_of ends queues))
    ∙ ap (λ qs. length (filter ends qs)) (sym of_queues))))

none_passes : {A : Type 0} (p : A → Bool) (xs : List A) → list_any p xs ≡ false → filter p xs ≡ []
none_passes p [] h = refl
none_passes p (x ∷ xs) h =
    let parts = or_parts (p x) (list_any p xs) h in
    cond-false (p x) (x ∷ filter p xs) (filter p xs) parts.0 ∙ none_passes p xs parts.1

-- where no queue is overdue, no user has one
pub none_overdue : (hub : HubSeen) (now : ℕ) → list_any (is_overdue now) hub.queues ≡ false → overdue_user hub now ≡ None
none_overdue hub now h = ap (λ qs. least (map (λ q. q.user.0) qs)) (none_passes (is_overdue now) hub.queues h)
