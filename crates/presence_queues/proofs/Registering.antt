-- A new hub, a registration and a beat keep the whole law.
use Rattle.std.proofs.Common.{◌≡◌, ℕ, zero, suc, ◌+◌, ◌-◌, ◌<◌, List, [], ◌∷◌, ◌++◌, length, Some, refl, sym, ap, ◌∙◌, arith}
use Rattle.std.specs.List.{slice_get}
use Rattle.std.proofs.lemmas.Bool.{false≢true, or_left}
use Rattle.std.proofs.lemmas.List.Elements.{All-nil, All-push, All-weaker, recursion_from_All}
use Rattle.std.proofs.lemmas.List.Folds.{list_any-append}
use Rattle.std.proofs.lemmas.Option.{slice_get_within}
use Rattle.chat_model.specs.declared.ids.DealNo.{DealNo}
use Rattle.chat_model.specs.declared.ids.UserId.{UserId}
use Rattle.chat_model.specs.declared.deal.Outcome.{Outcome}
use Rattle.missed_hook.specs.Orderly.{last_dealt}
use Rattle.missed_hook.specs.Outstanding.{has_deal}
use Rattle.missed_hook.proofs.Ascents.{ascending-push}
use Rattle.missed_hook.proofs.Waiting.{outstanding-none}
use Rattle.presence_queues.specs.Hub.{HubSeen, QueueSeen}
use Rattle.presence_queues.specs.Law.{HoldsInOrder, IsRegistered, KeepsHubLaw}
use Rattle.presence_queues.specs.Steps.{beaten, new_hub, registered}
use Rattle.presence_queues.proofs.Searches.{each_weaker}

pub new_law : (run : ℕ) (first : DealNo) (taken : List Outcome) → KeepsHubLaw (new_hub run first taken)
unfolding last_dealt
new_law run first taken = record {
  orderly = record { each = tt };
  last = tt;
  items = All-nil (HoldsInOrder first);
  numbers = refl;
  registered = All-nil (IsRegistered []);
  held = λ u k e. absurd (false≢true (ap (λ ks. has_deal ks k) (sym (outstanding-none u)) ∙ e));
}

pub beaten_law : (u : UserId) (now : ℕ) (hub : HubSeen) → KeepsHubLaw hub → KeepsHubLaw (beaten u now hub)
beaten_law u now hub h = record { orderly = h.orderly; last = h.last; items = h.items; numbers = h.numbers; registered = h.registered; held = h.held }

slice_get-append : {A : Type 0} (xs ys : List A) (i : ℕ) (x : A) → slice_get xs i ≡ Some x → slice_get (xs ++ ys) i ≡ Some x
slice_get-append [] ys i x e = cc
slice_get-append (z ∷ zs) ys zero x e = e
slice_get-append (z ∷ zs) ys (suc i) x e = slice_get-append zs ys i x e

slice_get_end : {A : Type 0} (xs : List A) (x : A) → slice_get (xs ++ x ∷ []) (length xs) ≡ Some x
slice_get_end [] x = refl
slice_get_end (z ∷ zs) x = slice_get_end zs x

number_within : (registrations : List UserId) (q : QueueSeen) → IsRegistered registrations q → q.number < length registrations + 1
number_within registrations q h = omega (arith, slice_get_within registrations (q.number - 1) q.user h.user)

pub registered_law : (u : UserId) (now : ℕ) (hub : HubSeen) → KeepsHubLaw hub → KeepsHubLaw (registered u now hub)
registered_law u now hub h = record {
  orderly = h.orderly;
  last = h.last;
  items = All-push (HoldsInOrder hub.next) hub.queues added h.items (record { events = refl; deals = refl; below = All-nil _; next = omega arith });
  numbers = ascending-push (λ (q : QueueSeen). q.number) hub.queues added h.numbers (each_weaker _ (λ (q : QueueSeen). q.number < length hub.registrations + 1) (number_within hub.registrations) hub.queues (recursion_from_All (IsRegistered hub.registrations) hub.queues h.registered));
  registered =
      All-push (IsRegistered (hub.registrations ++ u ∷ [])) hub.queues added
      (All-weaker (IsRegistered hub.registrations) (IsRegistered (hub.registrations ++ u ∷ [])) (λ q k. record { from_one = k.from_one; user = slice_get-append hub.registrations (u ∷ []) (q.number - 1) q.user k.user }) hub.queues h.registered)
      (record {
        from_one = omega arith;
        user = let place : length hub.registrations + 1 - 1 ≡ length hub.registrations = omega arith in ap (slice_get (hub.registrations ++ u ∷ [])) place ∙ slice_get_end hub.registrations u;
      });
  held = λ v k e. list_any-append _ hub.queues (added ∷ []) ∙ or_left _ _ (h.held v k e);
}
  where
    added : QueueSeen
    added = record { number = length hub.registrations + 1; user = u; poll = now; next = 0; items = [] }
