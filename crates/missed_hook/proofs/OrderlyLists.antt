-- Orderly lists: their fronts, one more outcome, and what holds after each outcome.
use Rattle.std.proofs.Common.{List, [], ◌∷◌, ◌++◌, sym, subst, append_assoc}
use Rattle.std.proofs.lemmas.List.{append-nil}
use Rattle.chat_model.specs.declared.deal.Outcome.{Outcome}
use Rattle.missed_hook.specs.Orderly.{FollowOn, IsOrderly, MayFollow}

FollowOn-front : (past front rest : List Outcome) → FollowOn past (front ++ rest) → FollowOn past front
FollowOn-front past [] rest h = tt
FollowOn-front past (o ∷ os) rest h = (h.0, FollowOn-front (past ++ o ∷ []) os rest h.1)

pub front_orderly : (front rest : List Outcome) → IsOrderly (front ++ rest) → IsOrderly front
front_orderly front rest h = record { each = FollowOn-front [] front rest h.each }

FollowOn-push : (past os : List Outcome) (o : Outcome) → FollowOn past os → MayFollow (past ++ os) o → FollowOn past (os ++ o ∷ [])
FollowOn-push past [] o h next = (subst (λ (l : List Outcome). MayFollow l o) (append-nil past) next, tt)
FollowOn-push past (p ∷ os) o h next = (h.0, FollowOn-push (past ++ p ∷ []) os o h.1 (subst (λ (l : List Outcome). MayFollow l o) (sym (append_assoc past (p ∷ []) os)) next))

pub IsOrderly-push : (os : List Outcome) (o : Outcome) → IsOrderly os → MayFollow os o → IsOrderly (os ++ o ∷ [])
IsOrderly-push os o h next = record { each = FollowOn-push [] os o h.each next }

walk : (P : List Outcome → Type 0) → ((past : List Outcome) (o : Outcome) → MayFollow past o → P past → P (past ++ o ∷ [])) → (past os : List Outcome) → FollowOn past os → P past → P (past ++ os)
walk P step past [] h p = subst P (sym (append-nil past)) p
walk P step past (o ∷ os) h p = subst P (append_assoc past (o ∷ []) os) (walk P step (past ++ o ∷ []) os h.1 (step past o h.0 p))

-- what holds of no outcome, and of one more where it held before, holds of every orderly list
pub by_outcomes : (P : List Outcome → Type 0) → P [] → ((past : List Outcome) (o : Outcome) → MayFollow past o → P past → P (past ++ o ∷ [])) → (os : List Outcome) → IsOrderly os → P os
by_outcomes P none step os h = walk P step [] os h.each none
