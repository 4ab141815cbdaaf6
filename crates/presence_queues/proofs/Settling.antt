-- What an outcome that clears or misses leaves outstanding, if one is sent.
use Rattle.std.proofs.Common.{◌≡◌, ◌≢◌, Bool, true, false, not, cond, List, [], ◌∷◌, ◌++◌, None, refl, sym, ap, subst}
use Rattle.std.specs.Prelude.{filter}
use Rattle.chat_model.specs.declared.ids.DealNo.{DealNo}
use Rattle.chat_model.specs.declared.ids.UserId.{UserId}
use Rattle.chat_model.specs.declared.deal.Outcome.{Outcome}
use Rattle.missed_hook.specs.Orderly.{IsOrderly, MayFollow, deal_dealt, last_dealt}
use Rattle.missed_hook.specs.Outstanding.{outstanding}
use Rattle.missed_hook.proofs.OrderlyLists.{IsOrderly-push}
use Rattle.missed_hook.proofs.Waiting.{Settles, last_dealt-stays, outstanding-settled, outstanding-settled_other}
use Rattle.presence_queues.specs.Steps.{and_sent}

-- of what was outstanding for the user, the deals that the test has are so no more, and all else is as before
pub record Settled (u : UserId) (test : DealNo → Bool) (sent after : List Outcome) : Type 0 where
  pub orderly : IsOrderly after
  pub last : last_dealt after ≡ last_dealt sent
  pub same : outstanding after u ≡ filter (λ k. not (test k)) (outstanding sent u)
  pub other : (v : UserId) → u.0 ≢ v.0 → outstanding after v ≡ outstanding sent v

none_kept : {A : Type 0} (test : A → Bool) (xs : List A) → filter test xs ≡ [] → xs ≡ filter (λ x. not (test x)) xs
none_kept test [] e = refl
none_kept test (x ∷ xs) e = by (test x) e (none_kept test xs)
  where
    by : (b : Bool) → cond b (x ∷ filter test xs) (filter test xs) ≡ [] → (filter test xs ≡ [] → xs ≡ filter (λ y. not (test y)) xs) → x ∷ xs ≡ cond (not b) (x ∷ filter (λ y. not (test y)) xs) (filter (λ y. not (test y)) xs)
    by true f ih = cc
    by false f ih = ap (λ ys. x ∷ ys) (ih f)

-- an outcome that names these deals for the user, if there are any
pub settled : (sent : List Outcome) (u : UserId) (test : DealNo → Bool) (outcome : List DealNo → Outcome) (deals : List DealNo) → deals ≡ filter test (outstanding sent u) → IsOrderly sent → ((ks : List DealNo) → Settles (outcome ks) u ks) → ((ks : List DealNo) → deal_dealt (outcome ks) ≡ None) → (deals ≢ [] → MayFollow sent (outcome deals)) → Settled u test sent (and_sent sent outcome deals)
settled sent u test outcome [] e h settles dealt may = record { orderly = h; last = refl; same = none_kept test (outstanding sent u) (sym e); other = λ v ne. refl }
settled sent u test outcome (k ∷ ks) e h settles dealt may = record {
  orderly = next;
  last = last_dealt-stays sent (outcome (k ∷ ks)) (dealt (k ∷ ks));
  same = outstanding-settled sent (outcome (k ∷ ks)) u test (subst (λ (ds : List DealNo). Settles (outcome (k ∷ ks)) u ds) e (settles (k ∷ ks))) h next;
  other = λ v ne. outstanding-settled_other sent (outcome (k ∷ ks)) u v (k ∷ ks) (settles (k ∷ ks)) ne h next;
}
  where
    next : IsOrderly (sent ++ outcome (k ∷ ks) ∷ [])
    next = IsOrderly-push sent (outcome (k ∷ ks)) h (may (λ f. cc))
