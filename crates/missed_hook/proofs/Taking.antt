-- What was taken from a list of outcomes, where the others wait behind it.
use Rattle.std.proofs.Common.{◌≡◌, ℕ, ◌+◌, ◌-◌, List, [], ◌∷◌, ◌++◌, length, take, Option, Some, None, arith, refl, sym, ap, ◌∙◌, subst, append_assoc}
use Rattle.std.proofs.lemmas.List.{length-append, append-nil}
use Rattle.std.proofs.Math.Seq.{take-append_seam}
use Rattle.std.specs.List.{slice_get}
use Rattle.std.specs.Option.{option_to_list}
use Rattle.chat_model.specs.declared.deal.Outcome.{Outcome}
use Rattle.missed_hook.specs.Passed.{Passed, TakesNext}

-- of all that was sent, what was taken, where these wait
abbrev pub front : List Outcome → List Outcome → List Outcome
front sent waiting = take (length sent - length waiting) sent

front-append : (taken waiting : List Outcome) → front (taken ++ waiting) waiting ≡ taken
front-append taken waiting =
    let n : length (taken ++ waiting) - length waiting ≡ length taken = omega (arith, length-append taken waiting) in
    rw n (take-append_seam taken waiting)

front-of : (sent taken waiting : List Outcome) → sent ≡ taken ++ waiting → front sent waiting ≡ taken
front-of sent taken waiting all = subst (λ (l : List Outcome). front l waiting ≡ taken) (sym all) (front-append taken waiting)

next-of : (taken later : List Outcome) (answer : Option Outcome) → (answer ≡ None → later ≡ []) → slice_get (taken ++ (option_to_list answer ++ later)) (length taken) ≡ answer
next-of [] later None none = rw (none refl) refl
next-of [] later (Some o) none = refl
next-of (t ∷ ts) later answer none = next-of ts later answer none

with-next : (sent waiting later : List Outcome) (answer : Option Outcome) → sent ≡ front sent waiting ++ waiting → waiting ≡ option_to_list answer ++ later
    → sent ≡ (front sent waiting ++ option_to_list answer) ++ later
with-next sent waiting later answer all first =
    all ∙ ap (λ (l : List Outcome). front sent waiting ++ l) first ∙ sym (append_assoc (front sent waiting) (option_to_list answer) later)

-- what waits behind the next still waits behind what was taken with it
pub waits-still : (sent waiting later : List Outcome) (answer : Option Outcome) → sent ≡ front sent waiting ++ waiting → waiting ≡ option_to_list answer ++ later
    → sent ≡ front sent later ++ later
waits-still sent waiting later answer all first =
    let whole = with-next sent waiting later answer all first in
    whole ∙ ap (λ (l : List Outcome). l ++ later) (sym (front-of sent (front sent waiting ++ option_to_list answer) later whole))

-- the first that waits is taken next
pub takes-next : (sent waiting later : List Outcome) (answer : Option Outcome) → sent ≡ front sent waiting ++ waiting → waiting ≡ option_to_list answer ++ later
    → (answer ≡ None → later ≡ []) → TakesNext (record { sent = sent; taken = front sent waiting }) answer (record { sent = sent; taken = front sent later })
takes-next sent waiting later answer all first none = record {
  is = sym (next-of (front sent waiting) later answer none) ∙ ap (λ (l : List Outcome). slice_get l (length (front sent waiting))) (sym (all ∙ ap (λ (l : List Outcome). front sent waiting ++ l) first));
  left = ap (λ (l : List Outcome). record { sent = sent; taken = l }) (front-of sent (front sent waiting ++ option_to_list answer) later (with-next sent waiting later answer all first));
}
