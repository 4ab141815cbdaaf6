-- What waits after an outcome was sent is what is outstanding.
use Rattle.std.proofs.Common.{◌≡◌, ◌≢◌, ℕ, Bool, true, false, not, ◌&&◌, ◌==◌, cond, List, [], ◌∷◌, ◌++◌, Option, Some, None, length, Result, Ok, Err, refl, sym, ap, ◌∙◌, subst, inl, inr}
use Rattle.std.specs.Prelude.{OnOk, filter, is_err, map}
use Rattle.std.specs.Option.{option_to_list}
use Rattle.std.proofs.lemmas.Bool.{cases_eq, eq-eqb, false≢true}
use Rattle.std.proofs.lemmas.List.{append-nil}
use Rattle.std.proofs.lemmas.List.Elements.{filter_agree}
use Rattle.chat_model.specs.declared.ids.DealNo.{DealNo}
use Rattle.chat_model.specs.declared.ids.UserId.{UserId}
use Rattle.chat_model.specs.declared.deal.Outcome.{Outcome}
use Rattle.chat_model.specs.declared.deal.Outcome.TheVariants.{Dealt}
use Rattle.chat_model.specs.declared.deal.QueueId.{QueueId}
use Rattle.chat_model.specs.declared.deal.UserVerdict.{UserVerdict}
use Rattle.missed_hook.specs.Orderly.{IsOrderly}
use Rattle.missed_hook.specs.Outstanding.{gives_live, has_deal, outstanding}
use Rattle.missed_hook.proofs.Waiting.{Settles, Settles-cleared, Settles-missed, outstanding-dealt, outstanding-none, outstanding-push, outstanding-settled_other, unnamed}
use Rattle.presence_queues.specs.Fields.{IsWaiting, WaitingSeen, deals_of, forgotten, has_entry, with_live}
use Rattle.presence_queues.specs.Steps.{and_sent, outcome_by}
use Rattle.presence_queues.proofs.Entries.{deals_of-forgotten, deals_of-forgotten_other, deals_of-with_live}

pub nothing_waits : (sent : List Outcome) (ws : List WaitingSeen) → sent ≡ [] → ws ≡ [] → IsWaiting sent ws
nothing_waits sent ws none no_entry = record {
  orderly = subst IsOrderly (sym none) (record { each = tt });
  waits = λ u. ap (deals_of u) no_entry ∙ sym (ap (λ l. outstanding l u) none ∙ outstanding-none u);
}

pub waits_dealt : (sent after : List Outcome) (ws : List WaitingSeen) (k : DealNo) (verdicts : List UserVerdict) → IsWaiting sent ws → ((u : UserId) → gives_live verdicts u ≡ true → has_entry u ws ≡ true) → IsOrderly (sent ++ Dealt k verdicts ∷ []) → after ≡ sent ++ Dealt k verdicts ∷ [] → IsWaiting after (map (with_live verdicts k) ws)
waits_dealt sent after ws k verdicts h entered next e = subst (λ (l : List Outcome). IsWaiting l (map (with_live verdicts k) ws)) (sym e) (record {
  orderly = next;
  waits = λ u.
      deals_of-with_live u verdicts k ws (entered u)
      ∙ (ap (λ ks. ks ++ cond (gives_live verdicts u) (k ∷ []) []) (h.waits u)
      ∙ sym (outstanding-dealt sent k verdicts u h.orderly next));
})

settles_by : (u : UserId) (by : Option QueueId) (deals : List DealNo) → Settles (outcome_by u by deals) u deals
settles_by u None deals = Settles-missed u deals
settles_by u (Some queue) deals = Settles-cleared u deals queue

-- what an outcome that names deals of a user leaves
outstanding-named : (sent : List Outcome) (o : Outcome) (u : UserId) (deals : List DealNo) → Settles o u deals → IsOrderly sent → IsOrderly (sent ++ o ∷ []) → outstanding (sent ++ o ∷ []) u ≡ filter (λ k. not (has_deal deals k)) (outstanding sent u)
outstanding-named sent o u deals s h next =
    outstanding-push sent o u h next
    ∙ (ap (λ d. unnamed u o (outstanding sent u) ++ d) (ap option_to_list (s.dealt u))
    ∙ (append-nil (unnamed u o (outstanding sent u))
    ∙ filter_agree _ (λ k. not (has_deal deals k)) (λ k. ap not (s.named u k ∙ ap (λ b. b && has_deal deals k) (eq-eqb u.0 u.0 refl))) (outstanding sent u)))

pub waits_settled : (sent after : List Outcome) (ws : List WaitingSeen) (u : UserId) (by : Option QueueId) (deals : List DealNo) → deals ≢ [] → IsWaiting sent ws → IsOrderly (and_sent sent (outcome_by u by) deals) → after ≡ sent ++ outcome_by u by deals ∷ [] → IsWaiting after (map (forgotten u deals) ws)
waits_settled sent after ws u by [] some h next e = absurd (some refl)
waits_settled sent after ws u by (k ∷ ks) some h next e = subst (λ (l : List Outcome). IsWaiting l (map (forgotten u (k ∷ ks)) ws)) (sym e) (record {
  orderly = next;
  waits = λ v. elim (cases_eq u.0 v.0) [ inl same ↦ of_user v same | inr other ↦ of_another v other ];
})
  where
    of_user : (v : UserId) → u.0 ≡ v.0 → deals_of v (map (forgotten u (k ∷ ks)) ws) ≡ outstanding (sent ++ outcome_by u by (k ∷ ks) ∷ []) v
    of_user v same =
        let of_u : u ≡ v = ap {A = ℕ} {B = UserId} (λ n. record { 0 = n }) same in
        subst (λ (w : UserId). deals_of w (map (forgotten u (k ∷ ks)) ws) ≡ outstanding (sent ++ outcome_by u by (k ∷ ks) ∷ []) w) of_u
        (deals_of-forgotten u (k ∷ ks) ws
        ∙ (ap (filter (λ d. not (has_deal (k ∷ ks) d))) (h.waits u)
        ∙ sym (outstanding-named sent (outcome_by u by (k ∷ ks)) u (k ∷ ks) (settles_by u by (k ∷ ks)) h.orderly next)))

    of_another : (v : UserId) → u.0 ≢ v.0 → deals_of v (map (forgotten u (k ∷ ks)) ws) ≡ outstanding (sent ++ outcome_by u by (k ∷ ks) ∷ []) v
    of_another v other =
        deals_of-forgotten_other u v (k ∷ ks) ws other
        ∙ (h.waits v ∙ sym (outstanding-settled_other sent (outcome_by u by (k ∷ ks)) u v (k ∷ ks) (settles_by u by (k ∷ ks)) other h.orderly next))

-- other entries in which the same deals wait
pub waits_alike : (sent : List Outcome) (before after : List WaitingSeen) → IsWaiting sent before → ((u : UserId) → deals_of u after ≡ deals_of u before) → IsWaiting sent after
waits_alike sent before after h same = record { orderly = h.orderly; waits = λ u. same u ∙ h.waits u }

-- where a call didn't fail, what it ensures on success
pub when_ok : {A E : Type 0} (r : Result A E) (b : Bool) (P : Type 0) → b ≡ is_err r → b ≡ false → OnOk r P → P
when_ok (Ok x) b P e f h = h
when_ok (Err x) b P e f h = absurd (false≢true (sym f ∙ e))

-- deals that aren't none are sent
pub some_sent : (sent : List Outcome) (outcome : List DealNo → Outcome) (deals : List DealNo) → deals ≢ [] → and_sent sent outcome deals ≡ sent ++ outcome deals ∷ []
some_sent sent outcome [] some = absurd (some refl)
some_sent sent outcome (k ∷ ks) some = refl

-- a list whose length isn't 0 is not empty
pub some_of : {A : Type 0} (xs : List A) (b : Bool) → b ≡ (length xs == 0) → b ≡ false → xs ≢ []
some_of xs b e f none = false≢true (sym f ∙ (e ∙ ap (λ ys. length ys == 0) none))
