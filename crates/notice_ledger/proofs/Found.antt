-- The notice of a user, a message and a way, where there is one.
use Rattle.std.proofs.Common.{◌≡◌, ℕ, ◌+◌, Bool, true, false, ◌&&◌, ◌==◌, cond, List, [], ◌∷◌, refl, sym, ap, ◌∙◌}
use Rattle.std.specs.Prelude.{Some, find, filter, sum_by}
use Rattle.std.specs.Option.{option_map_or}
use Rattle.std.proofs.lemmas.List.Sums.{sum_by-cons}
use Rattle.std.proofs.lemmas.Bool.{and_parts}
use Rattle.chat_model.specs.declared.ids.UserId.{UserId}
use Rattle.chat_model.specs.declared.ids.MessageId.{MessageId}
use Rattle.chat_model.specs.declared.trigger.Way.{Way}
use Rattle.notice_ledger.specs.Past.Owed.{Notice, is_of, same_way}
use Rattle.notice_ledger.proofs.Apart.{Pairwise, Differ}
pub use Rattle.notice_ledger.proofs.Behind.{find-passes}
use Rattle.notice_ledger.proofs.Same.{same_user, same_message, same_ways}
use Rattle.notice_ledger.proofs.Sums.{sum_by_none_where, plus_none, none_plus}

-- what is found among all is found among those that a filter keeps, where it is one of these
pub find-kept : {X : Type 0} (p q : X → Bool) (xs : List X) (x : X) → find p xs ≡ Some x → q x ≡ true → find p (filter q xs) ≡ Some x
find-kept p q [] x e kept = absurd (cc)
find-kept {X} p q (y ∷ ys) x e kept = by (p y) (q y) refl refl e (λ found. find-kept p q ys x found kept)
  where
    by : (b d : Bool) → p y ≡ b → q y ≡ d → cond b (Some y) (find p ys) ≡ Some x → (find p ys ≡ Some x → find p (filter q ys) ≡ Some x) → find p (cond d (y ∷ filter q ys) (filter q ys)) ≡ Some x
    by true true h k found later = ap (λ c. cond c (Some y) (find p (filter q ys))) h ∙ found
    by true false h k found later = let same : y ≡ x = cc in let other : q y ≡ true = ap q same ∙ kept in absurd (cc)
    by false true h k found later = ap (λ c. cond c (Some y) (find p (filter q ys))) h ∙ later found
    by false false h k found later = later found

-- the notice is to this user, of this message, by this way
pub record IsOf (u : UserId) (m : MessageId) (w : Way) (n : Notice) : Type 0 where
  pub user : n.user ≡ u
  pub number : n.number ≡ m
  pub way : n.way ≡ w

module _ (u : UserId) (m : MessageId) (w : Way) where
  pub of_parts : (n : Notice) → is_of u m w n ≡ true → IsOf u m w n
  of_parts n h =
      let parts = and_parts (n.user.0 == u.0 && n.number.0 == m.0) (same_way n.way w) h in
      let numbers = and_parts (n.user.0 == u.0) (n.number.0 == m.0) parts.0 in
      record { user = same_user n.user u numbers.0; number = same_message n.number m numbers.1; way = same_ways n.way w parts.1 }

  -- another notice is not of the user, message and way of this one
  pub other_notice : (n b : Notice) → is_of u m w n ≡ true → Differ n b → is_of u m w b ≡ false
  other_notice n b h d =
      let same = of_parts n h in
      sym (ap (λ (x : UserId). is_of x n.number n.way b) same.user ∙ (ap (λ (x : MessageId). is_of u x n.way b) same.number ∙ ap (λ (x : Way). is_of u m x b) same.way))
      ∙ d

  -- of notices that differ at most one counts
  pub only_found : (g : Notice → ℕ) (ns : List Notice) → Pairwise Differ ns → sum_by (λ n. cond (is_of u m w n) (g n) 0) ns ≡ option_map_or g (find (is_of u m w) ns) 0
  only_found g [] p = refl
  only_found g (n ∷ ns) p =
      sum_by-cons (λ n. cond (is_of u m w n) (g n) 0) n ns
      ∙ elim (is_of u m w n) as (λ b. is_of u m w n ≡ b → cond b (g n) 0 + sum_by (λ n. cond (is_of u m w n) (g n) 0) ns ≡ option_map_or g (cond b (Some n) (find (is_of u m w) ns)) 0) [
        | true ↦ λ h.
            ap (λ r. g n + r) (sum_by_none_where (Differ n) (λ n. cond (is_of u m w n) (g n) 0) (λ b d. ap (λ t. cond t (g b) 0) (other_notice n b h d)) ns p.0)
            ∙ sym (plus_none (g n))
        | false ↦ λ h. sym (none_plus (sum_by (λ n. cond (is_of u m w n) (g n) 0) ns)) ∙ only_found g ns p.1
      ] refl
