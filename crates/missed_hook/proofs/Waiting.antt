-- What is outstanding after one more outcome.
use Rattle.std.proofs.Common.{◌≡◌, ◌≢◌, ℕ, ◌+◌, ◌≤◌, Bool, true, false, not, ◌&&◌, ◌||◌, ◌==◌, cond, List, [], ◌∷◌, ◌++◌, Option, Some, None, refl, sym, ap, ◌∙◌, subst, append_assoc, arith}
use Rattle.std.specs.Prelude.{filter, IfSome}
use Rattle.std.specs.List.{AllByRecursion, filter_map, last_or, list_all, list_any}
use Rattle.std.specs.Option.{option_to_list}
use Rattle.std.proofs.lemmas.Bool.{and_from, eq-eqb, eqb-true, ne_eqb, or_left, or_right}
use Rattle.std.proofs.lemmas.List.{append-nil}
use Rattle.std.proofs.lemmas.List.Elements.{filter-append, filter_agree, filter_map-append}
use Rattle.std.proofs.lemmas.List.Folds.{list_any-append}
use Rattle.chat_model.specs.declared.ids.DealNo.{DealNo}
use Rattle.chat_model.specs.declared.ids.UserId.{UserId}
use Rattle.chat_model.specs.declared.deal.Outcome.{Outcome}
use Rattle.chat_model.specs.declared.deal.Outcome.TheVariants.{Dealt, Cleared, Missed}
use Rattle.chat_model.specs.declared.deal.QueueId.{QueueId}
use Rattle.chat_model.specs.declared.deal.UserVerdict.{UserVerdict}
use Rattle.chat_model.specs.Ascending.{is_ascending_by}
use Rattle.chat_model.proofs.OnceEach.{ascending_once-ascending}
use Rattle.missed_hook.specs.Orderly.{deal_dealt, last_dealt, ClearsPart, DealsNext, IsOrderly, MayFollow}
use Rattle.missed_hook.specs.Outstanding.{dealt_live, gives_live, has_deal, left_waiting, names, outstanding}
use Rattle.missed_hook.proofs.Ascents.{AllBelow, ascending-filter, ascending-push, ascending_once-same, kept-filter}
use Rattle.missed_hook.proofs.OrderlyLists.{by_outcomes}

-- ---- filters

pub filter_all : {A : Type 0} (p : A → Bool) (xs : List A) → AllByRecursion (λ x. p x ≡ true) xs → filter p xs ≡ xs
filter_all p [] h = refl
filter_all p (x ∷ xs) h = ap (λ b. cond b (x ∷ filter p xs) (filter p xs)) h.0 ∙ ap (λ ys. x ∷ ys) (filter_all p xs h.1)

pub filter_true : {A : Type 0} (xs : List A) → filter (λ x. true) xs ≡ xs
filter_true [] = refl
filter_true (x ∷ xs) = ap (λ ys. x ∷ ys) (filter_true xs)

filter-filter : {A : Type 0} (p q : A → Bool) (xs : List A) → filter q (filter p xs) ≡ filter (λ x. p x && q x) xs
filter-filter p q [] = refl
filter-filter p q (x ∷ xs) = by (p x) (filter-filter p q xs)
  where
    by : (b : Bool) → filter q (filter p xs) ≡ filter (λ y. p y && q y) xs → filter q (cond b (x ∷ filter p xs) (filter p xs)) ≡ cond (b && q x) (x ∷ filter (λ y. p y && q y) xs) (filter (λ y. p y && q y) xs)
    by true ih = ap (λ ys. cond (q x) (x ∷ ys) ys) ih
    by false ih = ih

pub filter_same : {A : Type 0} (p q : A → Bool) (xs : List A) → AllByRecursion (λ x. p x ≡ q x) xs → filter p xs ≡ filter q xs
filter_same p q [] h = refl
filter_same p q (x ∷ xs) h = (λ i. cond (h.0 i) (x ∷ filter_same p q xs h.1 i) (filter_same p q xs h.1 i))

-- ---- one more outcome

-- what an outcome leaves of deals that waited before it
abbrev pub unnamed : UserId → Outcome → List DealNo → List DealNo
unnamed u o ks = filter (λ k. not (names u k o)) ks

left_waiting-one : (d : Option DealNo) → filter (λ (k : DealNo). not false) (option_to_list d) ++ [] ≡ option_to_list d
left_waiting-one None = refl
left_waiting-one (Some k) = refl

unnamed_later : (a b : Bool) → not (a || (b || false)) ≡ (not a && not b)
unnamed_later true b = refl
unnamed_later false true = refl
unnamed_later false false = refl

left_waiting-push : (l : List Outcome) (o : Outcome) (u : UserId) → left_waiting (l ++ o ∷ []) u ≡ unnamed u o (left_waiting l u) ++ option_to_list (dealt_live u o)
left_waiting-push [] o u = left_waiting-one (dealt_live u o)
left_waiting-push (p ∷ ps) o u =
    (λ i. named i ++ left_waiting-push ps o u i)
    ∙ sym (append_assoc (unnamed u o (filter (λ k. not (list_any (names u k) ps)) dealt)) (unnamed u o (left_waiting ps u)) (option_to_list (dealt_live u o)))
    ∙ ap (λ ks. ks ++ option_to_list (dealt_live u o)) (sym (filter-append (λ k. not (names u k o)) (filter (λ k. not (list_any (names u k) ps)) dealt) (left_waiting ps u)))
  where
    dealt : List DealNo
    dealt = option_to_list (dealt_live u p)

    named : filter (λ k. not (list_any (names u k) (ps ++ o ∷ []))) (option_to_list (dealt_live u p)) ≡ unnamed u o (filter (λ k. not (list_any (names u k) ps)) (option_to_list (dealt_live u p)))
    named =
        filter_agree _ _ (λ k. ap not (list_any-append (names u k) ps (o ∷ [])) ∙ unnamed_later (list_any (names u k) ps) (names u k o)) (option_to_list (dealt_live u p))
        ∙ sym (filter-filter (λ k. not (list_any (names u k) ps)) (λ k. not (names u k o)) (option_to_list (dealt_live u p)))

-- ---- the last deal

last_or-push : {A : Type 0} (o : Option A) (xs : List A) (x : A) → last_or o (xs ++ x ∷ []) ≡ Some x
last_or-push o [] x = refl
last_or-push o (y ∷ ys) x = last_or-push (Some y) ys x

pub last_dealt-push : (l : List Outcome) (k : DealNo) (verdicts : List UserVerdict) → last_dealt (l ++ Dealt k verdicts ∷ []) ≡ Some k
unfolding last_dealt
last_dealt-push l k verdicts = ap (last_or None) (filter_map-append deal_dealt l (Dealt k verdicts ∷ [])) ∙ last_or-push None (filter_map deal_dealt l) k

pub last_dealt-stays : (l : List Outcome) (o : Outcome) → deal_dealt o ≡ None → last_dealt (l ++ o ∷ []) ≡ last_dealt l
unfolding last_dealt
last_dealt-stays l (Dealt k verdicts) h = cc
last_dealt-stays l (Cleared u deals queue) h = ap (last_or None) (filter_map-append deal_dealt l (Cleared u deals queue ∷ []) ∙ append-nil (filter_map deal_dealt l))
last_dealt-stays l (Missed u deals) h = ap (last_or None) (filter_map-append deal_dealt l (Missed u deals ∷ []) ∙ append-nil (filter_map deal_dealt l))

-- ---- in an orderly list, what waits ascends up to the last deal

-- a deal up to the last one
abbrev pub IsUpTo : Option DealNo → DealNo → Type 0
IsUpTo None k = ⊥
IsUpTo (Some last) k = k.0 ≤ last.0

record Ordered (u : UserId) (l : List Outcome) : Type 0 where
  pub ascending : is_ascending_by (λ k. k.0) (left_waiting l u) ≡ true
  pub upto : AllByRecursion (IsUpTo (last_dealt l)) (left_waiting l u)

below_next : (last : Option DealNo) (k : DealNo) → IfSome last (λ before. k.0 ≡ before.0 + 1) → (ks : List DealNo) → AllByRecursion (IsUpTo last) ks → AllBelow (λ d. d.0) k.0 ks
below_next last k next [] h = tt
below_next None k next (d ∷ ds) h = absurd h.0
below_next (Some before) k next (d ∷ ds) h = (omega (arith, h.0), below_next (Some before) k next ds h.1)

upto_next : (k : DealNo) (ks : List DealNo) → AllBelow (λ d. d.0) k.0 ks → AllByRecursion (IsUpTo (Some k)) ks
upto_next k [] h = tt
upto_next k (d ∷ ds) h = (omega (arith, h.0), upto_next k ds h.1)

upto_push : (k : DealNo) (ks : List DealNo) → AllByRecursion (IsUpTo (Some k)) ks → AllByRecursion (IsUpTo (Some k)) (ks ++ k ∷ [])
upto_push k [] h = (omega arith, tt)
upto_push k (d ∷ ds) h = (h.0, upto_push k ds h.1)

unnamed_dealt : (u : UserId) (k : DealNo) (verdicts : List UserVerdict) (ks : List DealNo) → unnamed u (Dealt k verdicts) ks ≡ ks
unnamed_dealt u k verdicts ks = filter_true ks

ordered_dealt : (u : UserId) (l : List Outcome) (k : DealNo) (verdicts : List UserVerdict) → DealsNext l k verdicts → Ordered u l → Ordered u (l ++ Dealt k verdicts ∷ [])
ordered_dealt u l k verdicts next h = record {
  ascending = subst (λ (ks : List DealNo). is_ascending_by (λ d. d.0) ks ≡ true) (sym after) (asc (gives_live verdicts u));
  upto =
      let at_last : AllByRecursion (IsUpTo (Some k)) (left_waiting (l ++ Dealt k verdicts ∷ []) u) = subst (λ (ks : List DealNo). AllByRecursion (IsUpTo (Some k)) ks) (sym after) (upto (gives_live verdicts u)) in
      subst (λ (last : Option DealNo). AllByRecursion (IsUpTo last) (left_waiting (l ++ Dealt k verdicts ∷ []) u)) (sym (last_dealt-push l k verdicts)) at_last;
}
  where
    after : left_waiting (l ++ Dealt k verdicts ∷ []) u ≡ left_waiting l u ++ option_to_list (cond (gives_live verdicts u) (Some k) None)
    after = left_waiting-push l (Dealt k verdicts) u ∙ ap (λ ks. ks ++ option_to_list (cond (gives_live verdicts u) (Some k) None)) (unnamed_dealt u k verdicts (left_waiting l u))

    below : AllBelow (λ (d : DealNo). d.0) k.0 (left_waiting l u)
    below = below_next (last_dealt l) k next.next (left_waiting l u) h.upto

    asc : (b : Bool) → is_ascending_by (λ d. d.0) (left_waiting l u ++ option_to_list (cond b (Some k) None)) ≡ true
    asc true = ascending-push (λ (d : DealNo). d.0) (left_waiting l u) k h.ascending below
    asc false = ap (is_ascending_by (λ (d : DealNo). d.0)) (append-nil (left_waiting l u)) ∙ h.ascending

    upto : (b : Bool) → AllByRecursion (IsUpTo (Some k)) (left_waiting l u ++ option_to_list (cond b (Some k) None))
    upto true = upto_push k (left_waiting l u) (upto_next k (left_waiting l u) below)
    upto false = subst (λ (ks : List DealNo). AllByRecursion (IsUpTo (Some k)) ks) (sym (append-nil (left_waiting l u))) (upto_next k (left_waiting l u) below)

ordered_named : (u : UserId) (l : List Outcome) (o : Outcome) → dealt_live u o ≡ None → deal_dealt o ≡ None → Ordered u l → Ordered u (l ++ o ∷ [])
ordered_named u l o live dealt h = record {
  ascending = subst (λ (ks : List DealNo). is_ascending_by (λ d. d.0) ks ≡ true) (sym after) (ascending-filter (λ (d : DealNo). d.0) (λ k. not (names u k o)) (left_waiting l u) h.ascending);
  upto =
      let kept : AllByRecursion (IsUpTo (last_dealt l)) (left_waiting (l ++ o ∷ []) u) = subst (λ (ks : List DealNo). AllByRecursion (IsUpTo (last_dealt l)) ks) (sym after) (kept-filter (IsUpTo (last_dealt l)) (λ k. not (names u k o)) (left_waiting l u) h.upto) in
      subst (λ (last : Option DealNo). AllByRecursion (IsUpTo last) (left_waiting (l ++ o ∷ []) u)) (sym (last_dealt-stays l o dealt)) kept;
}
  where
    after : left_waiting (l ++ o ∷ []) u ≡ unnamed u o (left_waiting l u)
    after = left_waiting-push l o u ∙ (ap (λ d. unnamed u o (left_waiting l u) ++ option_to_list d) live ∙ append-nil (unnamed u o (left_waiting l u)))

ordered_step : (u : UserId) (l : List Outcome) (o : Outcome) → MayFollow l o → Ordered u l → Ordered u (l ++ o ∷ [])
ordered_step u l (Dealt k verdicts) next h = ordered_dealt u l k verdicts next h
ordered_step u l (Cleared v deals queue) next h = ordered_named u l (Cleared v deals queue) refl refl h
ordered_step u l (Missed v deals) next h = ordered_named u l (Missed v deals) refl refl h

ordered : (u : UserId) (l : List Outcome) → IsOrderly l → Ordered u l
ordered u l h = by_outcomes (Ordered u) (record { ascending = refl; upto = tt }) (ordered_step u) l h

-- ---- what is outstanding

outstanding-same : (u : UserId) (l : List Outcome) → IsOrderly l → outstanding l u ≡ left_waiting l u
unfolding outstanding
outstanding-same u l h = ascending_once-same (λ (k : DealNo). k.0) (left_waiting l u) (ordered u l h).ascending

pub outstanding-none : (u : UserId) → outstanding [] u ≡ []
unfolding outstanding
outstanding-none u = refl

pub outstanding-ascending : (l : List Outcome) (u : UserId) → is_ascending_by (λ k. k.0) (outstanding l u) ≡ true
unfolding outstanding
outstanding-ascending l u = ascending_once-ascending (λ (k : DealNo). k.0) (left_waiting l u)

pub outstanding-upto : (l : List Outcome) (u : UserId) → IsOrderly l → AllByRecursion (IsUpTo (last_dealt l)) (outstanding l u)
outstanding-upto l u h = subst (λ (ks : List DealNo). AllByRecursion (IsUpTo (last_dealt l)) ks) (sym (outstanding-same u l h)) (ordered u l h).upto

-- after one more outcome of an orderly list
pub outstanding-push : (l : List Outcome) (o : Outcome) (u : UserId) → IsOrderly l → IsOrderly (l ++ o ∷ []) → outstanding (l ++ o ∷ []) u ≡ unnamed u o (outstanding l u) ++ option_to_list (dealt_live u o)
outstanding-push l o u h next =
    outstanding-same u (l ++ o ∷ []) next
    ∙ (left_waiting-push l o u ∙ ap (λ ks. unnamed u o ks ++ option_to_list (dealt_live u o)) (sym (outstanding-same u l h)))

-- a deal adds itself where it is given Live
pub outstanding-dealt : (l : List Outcome) (k : DealNo) (verdicts : List UserVerdict) (u : UserId) → IsOrderly l → IsOrderly (l ++ Dealt k verdicts ∷ []) → outstanding (l ++ Dealt k verdicts ∷ []) u ≡ outstanding l u ++ cond (gives_live verdicts u) (k ∷ []) []
outstanding-dealt l k verdicts u h next =
    outstanding-push l (Dealt k verdicts) u h next
    ∙ ap (λ ks. ks ++ option_to_list (cond (gives_live verdicts u) (Some k) None)) (unnamed_dealt u k verdicts (outstanding l u))
    ∙ by (gives_live verdicts u)
  where
    by : (b : Bool) → outstanding l u ++ option_to_list (cond b (Some k) None) ≡ outstanding l u ++ cond b (k ∷ []) []
    by true = refl
    by false = refl

-- an outcome that names these deals for the user and deals none
pub record Settles (o : Outcome) (u : UserId) (deals : List DealNo) : Type 0 where
  pub named : (v : UserId) (k : DealNo) → names v k o ≡ (u.0 == v.0 && has_deal deals k)
  pub dealt : (v : UserId) → dealt_live v o ≡ None

pub Settles-cleared : (u : UserId) (deals : List DealNo) (queue : QueueId) → Settles (Cleared u deals queue) u deals
Settles-cleared u deals queue = record { named = λ v k. refl; dealt = λ v. refl }

pub Settles-missed : (u : UserId) (deals : List DealNo) → Settles (Missed u deals) u deals
Settles-missed u deals = record { named = λ v k. refl; dealt = λ v. refl }

same_deal : (d k : DealNo) → (d.0 == k.0) ≡ true → d ≡ k
same_deal d k h = ap {A = ℕ} {B = DealNo} (λ n. record { 0 = n }) (eqb-true d.0 k.0 h)

-- a filter of deals has what it keeps
pub has_deal-filter : (g : DealNo → Bool) (ks : List DealNo) (k : DealNo) → has_deal (filter g ks) k ≡ (g k && has_deal ks k)
has_deal-filter g [] k = by (g k)
  where
    by : (b : Bool) → false ≡ (b && false)
    by true = refl
    by false = refl
has_deal-filter g (d ∷ ds) k = cases (d.0 == k.0) refl (has_deal-filter g ds k)
  where
    front : (b : Bool) → has_deal (cond b (d ∷ filter g ds) (filter g ds)) k ≡ (cond b (d.0 == k.0) false || has_deal (filter g ds) k)
    front true = refl
    front false = refl

    at_it : (b h : Bool) → (cond b true false || (b && h)) ≡ (b && true)
    at_it true h = refl
    at_it false h = refl

    not_it : (b h : Bool) → (cond b false false || h) ≡ h
    not_it true h = refl
    not_it false h = refl

    cases : (b : Bool) → (d.0 == k.0) ≡ b → has_deal (filter g ds) k ≡ (g k && has_deal ds k) → has_deal (cond (g d) (d ∷ filter g ds) (filter g ds)) k ≡ (g k && (d.0 == k.0 || has_deal ds k))
    cases true e ih =
        front (g d)
        ∙ (λ i. cond (g (same_deal d k e i)) (e i) false || ih i)
        ∙ at_it (g k) (has_deal ds k)
        ∙ ap (λ b. g k && (b || has_deal ds k)) (sym e)
    cases false e ih =
        front (g d)
        ∙ (λ i. cond (g d) (e i) false || ih i)
        ∙ not_it (g d) (g k && has_deal ds k)
        ∙ ap (λ b. g k && (b || has_deal ds k)) (sym e)

has_deal-more : (d : DealNo) (ds ks : List DealNo) → AllByRecursion (λ k. has_deal ds k ≡ true) ks → AllByRecursion (λ k. has_deal (d ∷ ds) k ≡ true) ks
has_deal-more d ds [] h = tt
has_deal-more d ds (k ∷ ks) h = (or_right (d.0 == k.0) (has_deal ds k) h.0, has_deal-more d ds ks h.1)

-- a list has each of its deals
pub has_each : (ks : List DealNo) → AllByRecursion (λ k. has_deal ks k ≡ true) ks
has_each [] = tt
has_each (k ∷ ks) = (or_left (k.0 == k.0) (has_deal ks k) (eq-eqb k.0 k.0 refl), has_deal-more k ks ks (has_each ks))

list_all_from : {A : Type 0} (p : A → Bool) (xs : List A) → AllByRecursion (λ x. p x ≡ true) xs → list_all p xs ≡ true
list_all_from p [] h = refl
list_all_from p (x ∷ xs) h = and_from (p x) (list_all p xs) h.0 (list_all_from p xs h.1)

left_of : (g : DealNo → Bool) (all ks : List DealNo) → AllByRecursion (λ k. has_deal all k ≡ true) ks → AllByRecursion (λ k. not (true && has_deal (filter g all) k) ≡ not (g k)) ks
left_of g all [] h = tt
left_of g all (k ∷ ks) h = (ap not (has_deal-filter g all k ∙ (ap (λ b. g k && b) h.0 ∙ and_true (g k))), left_of g all ks h.1)
  where
    and_true : (b : Bool) → (b && true) ≡ b
    and_true true = refl
    and_true false = refl

-- deals that are named wait no more, and the others wait on
pub outstanding-settled : (l : List Outcome) (o : Outcome) (u : UserId) (g : DealNo → Bool) → Settles o u (filter g (outstanding l u)) → IsOrderly l → IsOrderly (l ++ o ∷ []) → outstanding (l ++ o ∷ []) u ≡ filter (λ k. not (g k)) (outstanding l u)
outstanding-settled l o u g s h next =
    outstanding-push l o u h next
    ∙ ap (λ d. unnamed u o (outstanding l u) ++ option_to_list d) (s.dealt u)
    ∙ append-nil (unnamed u o (outstanding l u))
    ∙ filter_agree (λ k. not (names u k o)) (λ k. not (true && has_deal (filter g (outstanding l u)) k)) (λ k. ap not (s.named u k ∙ ap (λ b. b && has_deal (filter g (outstanding l u)) k) (eq-eqb u.0 u.0 refl))) (outstanding l u)
    ∙ filter_same _ (λ k. not (g k)) (outstanding l u) (left_of g (outstanding l u) (outstanding l u) (has_each (outstanding l u)))

-- and for other users nothing changes
pub outstanding-settled_other : (l : List Outcome) (o : Outcome) (u v : UserId) (deals : List DealNo) → Settles o u deals → u.0 ≢ v.0 → IsOrderly l → IsOrderly (l ++ o ∷ []) → outstanding (l ++ o ∷ []) v ≡ outstanding l v
outstanding-settled_other l o u v deals s other h next =
    outstanding-push l o v h next
    ∙ ap (λ d. unnamed v o (outstanding l v) ++ option_to_list d) (s.dealt v)
    ∙ append-nil (unnamed v o (outstanding l v))
    ∙ filter_agree (λ k. not (names v k o)) (λ k. true) (λ k. ap not (s.named v k ∙ ap (λ b. b && has_deal deals k) (ne_eqb u.0 v.0 other))) (outstanding l v)
    ∙ filter_true (outstanding l v)

-- a part of what is outstanding may be cleared
pub may_clear : (l : List Outcome) (u : UserId) (g : DealNo → Bool) → filter g (outstanding l u) ≢ [] → ClearsPart l u (filter g (outstanding l u))
may_clear l u g some = record {
  some = some;
  ascending = ascending-filter (λ (k : DealNo). k.0) g (outstanding l u) (outstanding-ascending l u);
  waited = list_all_from (has_deal (outstanding l u)) (filter g (outstanding l u)) (kept-filter (λ k. has_deal (outstanding l u) k ≡ true) g (outstanding l u) (has_each (outstanding l u)));
}
