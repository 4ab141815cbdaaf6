use Rattle.std.proofs.Common.{◌≡◌, ℕ, ◌+◌, ◌++◌, List, [], ◌∷◌, ◌∙◌, sym, subst, refl}
use Rattle.chat_model.specs.declared.deal.Outcome.{Outcome}
use Rattle.chat_model.specs.declared.deal.Outcome.TheVariants.{Dealt}
use Rattle.chat_model.specs.declared.deal.UserVerdict.{UserVerdict}
use Rattle.missed_hook.specs.Orderly.{IsOrderly, last_dealt}
use Rattle.missed_hook.proofs.tests.send_two.Goals as goal

abbrev deal : ℕ → List UserVerdict → Outcome
deal n verdicts = Dealt (record { 0 = n }) verdicts

one : (n : ℕ) (sent : List Outcome) (verdicts : List UserVerdict) → sent ≡ [] → verdicts ≡ [] → IsOrderly (sent ++ deal n verdicts ∷ [])
unfolding last_dealt
one n sent verdicts before none =
    let alone : IsOrderly (deal n [] ∷ []) = record { each = (record { next = tt; ascending = refl }, tt) } in
    subst IsOrderly (λ i. sym before i ++ deal n (sym none i) ∷ []) alone

two : (n : ℕ) (sent : List Outcome) (verdicts : List UserVerdict) → sent ≡ deal n [] ∷ [] → verdicts ≡ [] → IsOrderly (sent ++ deal (n + 1) verdicts ∷ [])
unfolding last_dealt
two n sent verdicts before none =
    let both : IsOrderly (deal n [] ∷ deal (n + 1) [] ∷ []) = record { each = (record { next = tt; ascending = refl }, (record { next = refl; ascending = refl }, tt)) } in
    subst IsOrderly (λ i. sym before i ++ deal (n + 1) (sym none i) ∷ []) both

pub post-requires : goal.post-requires
post-requires g c = record { orderly = one 7 _ _ c.requires c.new.ensures }

pub post-requires-2 : goal.post-requires-2
post-requires-2 g c = record { orderly = two 7 _ _ (c.in_ok-post.ensures.ok ∙ (λ i. c.requires i ++ deal 7 (c.new.ensures i) ∷ [])) c.new-2.ensures }
