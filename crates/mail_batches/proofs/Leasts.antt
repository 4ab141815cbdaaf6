-- The least of users with their due moments.
use Rattle.std.proofs.Common.{◌≡◌, ℕ, Bool, true, false, not, ◌&&◌, ◌||◌, ◌==◌, cond, List, [], ◌∷◌, ◌++◌, Option, Some, None, ◌+◌, ◌<◌, length, take, get_or, refl, sym, ap, ◌∙◌, subst, arith}
use Rattle.std.specs.List.{list_all, list_any, zip}
use Rattle.std.proofs.lemmas.List.{take_more}
use Rattle.std.proofs.lemmas.Slice.Zip.{get_or-zip, length-zip}
use Rattle.std.specs.Option.{option_map_or, MatchOption}
use Rattle.std.proofs.lemmas.Bool.{and_from, and_parts, or_left, eq-eqb}
use Rattle.std.proofs.lemmas.Bool.Decides.{nat_tests}
use Rattle.std.proofs.lemmas.List.Folds.{list_all-append, list_any-append}
use Rattle.chat_model.specs.declared.ids.UserId.{UserId}
use Rattle.mail_batches.specs.declared.batches.DueUser.{DueUser}
use Rattle.mail_batches.specs.Batches.{is_due_before, due_user, IsLeast}

abbrev pub Least : List (UserId × ℕ) → Option DueUser → Type 0
Least es o = MatchOption o (es ≡ []) (IsLeast es)

abbrev the_sooner : DueUser → DueUser → DueUser
the_sooner f next = cond (is_due_before next f) next f

not_itself : (a : DueUser) → not (is_due_before a a) ≡ true
not_itself a = grind (arith, nat_tests)

-- who is not before one is not before another who comes before
not_farther : (x f next : DueUser) → is_due_before next f ≡ true → not (is_due_before x f) ≡ true → not (is_due_before x next) ≡ true
not_farther x f next h k = grind (arith, nat_tests)

all_weaker : {A : Type 0} (p q : A → Bool) → ((x : A) → p x ≡ true → q x ≡ true) → (xs : List A) → list_all p xs ≡ true → list_all q xs ≡ true
all_weaker p q gives [] h = refl
all_weaker p q gives (x ∷ xs) h = let parts = and_parts (p x) (list_all p xs) h in and_from (q x) (list_all q xs) (gives x parts.0) (all_weaker p q gives xs parts.1)

is_there : (e : UserId × ℕ) → (e.0.0 == e.0.0 && e.1 == e.1) ≡ true
is_there e = and_from (e.0.0 == e.0.0) (e.1 == e.1) (eq-eqb e.0.0 e.0.0 refl) (eq-eqb e.1 e.1 refl)

alone : (e : UserId × ℕ) → IsLeast (e ∷ []) (due_user e)
alone e = record {
  found = or_left (e.0.0 == e.0.0 && e.1 == e.1) false (is_there e);
  least = and_from (not (is_due_before (due_user e) (due_user e))) true (not_itself (due_user e)) refl;
}

one_more : (es : List (UserId × ℕ)) (f : DueUser) (e : UserId × ℕ) → IsLeast es f → (b : Bool) → is_due_before (due_user e) f ≡ b → IsLeast (es ++ e ∷ []) (cond b (due_user e) f)
one_more es f e h true before = record {
  found = list_any-append (λ x. x.0.0 == e.0.0 && x.1 == e.1) es (e ∷ []) ∙ or_right (list_any (λ x. x.0.0 == e.0.0 && x.1 == e.1) es) (or_left (e.0.0 == e.0.0 && e.1 == e.1) false (is_there e));
  least =
      list_all-append (λ x. not (is_due_before (due_user x) (due_user e))) es (e ∷ [])
      ∙ and_from (list_all (λ x. not (is_due_before (due_user x) (due_user e))) es) (not (is_due_before (due_user e) (due_user e)) && true)
      (all_weaker (λ x. not (is_due_before (due_user x) f)) (λ x. not (is_due_before (due_user x) (due_user e))) (λ x k. not_farther (due_user x) f (due_user e) before k) es h.least)
      (and_from (not (is_due_before (due_user e) (due_user e))) true (not_itself (due_user e)) refl);
}
  where
    or_right : {b : Bool} (a : Bool) → b ≡ true → (a || b) ≡ true
    or_right true k = refl
    or_right false k = k
one_more es f e h false before = record {
  found = list_any-append (λ x. x.0.0 == f.user.0 && x.1 == f.due) es (e ∷ []) ∙ or_left (list_any (λ x. x.0.0 == f.user.0 && x.1 == f.due) es) (list_any (λ x. x.0.0 == f.user.0 && x.1 == f.due) (e ∷ [])) h.found;
  least =
      list_all-append (λ x. not (is_due_before (due_user x) f)) es (e ∷ [])
      ∙ and_from (list_all (λ x. not (is_due_before (due_user x) f)) es) (not (is_due_before (due_user e) f) && true) h.least
      (and_from (not (is_due_before (due_user e) f)) true (ap not before) refl);
}

pub least-more : (es : List (UserId × ℕ)) (o : Option DueUser) (e : UserId × ℕ) → Least es o → IsLeast (es ++ e ∷ []) (option_map_or (λ f. cond (is_due_before (due_user e) f) (due_user e) f) o (due_user e))
least-more es None e h = subst (λ (xs : List (UserId × ℕ)). IsLeast (xs ++ e ∷ []) (due_user e)) (sym h) (alone e)
least-more es (Some f) e h = one_more es f e h (is_due_before (due_user e) f) refl

-- one more user with its due moment
pub zip-more : (us : List UserId) (xs : List ℕ) (i : ℕ) (u : UserId) (x : ℕ) → i < length us → i < length xs → u ≡ get_or us i u → x ≡ get_or xs i x → take (i + 1) (zip us xs) ≡ take i (zip us xs) ++ (u, x) ∷ []
zip-more us xs i u x in_us in_xs iu ix =
    take_more (zip us xs) i (u, x) (omega (arith, length-zip us xs))
    ∙ ap (λ e. take i (zip us xs) ++ e ∷ []) (get_or-zip us xs i (u, x) in_us in_xs ∙ (ap (λ v. (v, get_or xs i x)) (sym iu) ∙ ap (λ y. (u, y)) (sym ix)))
