-- What happened in the last run of the office, event by event.
use Rattle.std.proofs.Common.{◌≡◌, Bool, true, false, ◌&&◌, ◌||◌, not, cond, List, [], ◌∷◌, ◌++◌, refl, ap, ◌∙◌}
use Rattle.std.specs.Prelude.{Option, Some, None, option_to_list, is_some, if◌then◌else◌}
use Rattle.std.specs.List.{filter_map, list_any, cons_option}
use Rattle.std.proofs.lemmas.List.Elements.{filter_map-append}
use Rattle.chat_model.specs.declared.event.Stamped.{Stamped}
use Rattle.notice_ledger.specs.Past.Journal.{outcome_of}
use Rattle.notice_ledger.specs.Past.Values.{makes_deal}
use Rattle.notice_ledger.specs.Past.Runs.{is_restart, since_start, absorbed_since_start, is_fresh}

any-append : {X : Type 0} (p : X → Bool) (xs : List X) (x : X) → list_any p (xs ++ x ∷ []) ≡ (list_any p xs || p x)
any-append p [] x = or_false (p x)
  where
    or_false : (b : Bool) → (b || false) ≡ b
    or_false true = refl
    or_false false = refl
any-append p (y ∷ ys) x = ap (λ b. p y || b) (any-append p ys x) ∙ assoc (p y) (list_any p ys) (p x)
  where
    assoc : (a b c : Bool) → (a || (b || c)) ≡ ((a || b) || c)
    assoc true b c = refl
    assoc false b c = refl

-- a start leaves no event behind it, and another event joins those behind the last start
pub since_start-append : (j : List Stamped) (s : Stamped) → since_start (j ++ s ∷ []) ≡ cond (is_restart s.event) [] (since_start j ++ s ∷ [])
since_start-append [] s = by (is_restart s.event)
  where
    by : (b : Bool) → (if b || false then [] else s ∷ []) ≡ cond b [] (s ∷ [])
    by true = refl
    by false = refl
since_start-append (t ∷ ts) s =
    ap (λ b. if b then since_start (ts ++ s ∷ []) else t ∷ (ts ++ s ∷ [])) (any-append (λ (t : Stamped). is_restart t.event) (t ∷ ts) s)
    ∙ (ap (λ k. if list_any (λ (t : Stamped). is_restart t.event) (t ∷ ts) || is_restart s.event then k else t ∷ (ts ++ s ∷ [])) (since_start-append ts s)
    ∙ by (list_any (λ (t : Stamped). is_restart t.event) (t ∷ ts)) (is_restart s.event))
  where
    by : (a b : Bool) → (if a || b then cond b [] (since_start ts ++ s ∷ []) else t ∷ (ts ++ s ∷ [])) ≡ cond b [] ((if a then since_start ts else t ∷ ts) ++ s ∷ [])
    by true true = refl
    by true false = refl
    by false true = refl
    by false false = refl

single : {X Y : Type 0} (h : X → Option Y) (x : X) → filter_map h (x ∷ []) ≡ option_to_list (h x)
single h x = elim (h x) as (λ o. cons_option o [] ≡ option_to_list o) [ None ↦ refl | Some y ↦ refl ]

pub absorbed_since_start-nil : absorbed_since_start [] ≡ []
unfolding absorbed_since_start
absorbed_since_start-nil = refl

pub absorbed_since_start-append : (j : List Stamped) (s : Stamped) → absorbed_since_start (j ++ s ∷ []) ≡ cond (is_restart s.event) [] (absorbed_since_start j ++ option_to_list (outcome_of s.event))
unfolding absorbed_since_start
absorbed_since_start-append j s = ap (filter_map (λ (t : Stamped). outcome_of t.event)) (since_start-append j s) ∙ by (is_restart s.event)
  where
    by : (b : Bool) → filter_map (λ (t : Stamped). outcome_of t.event) (cond b [] (since_start j ++ s ∷ [])) ≡ cond b [] (filter_map (λ (t : Stamped). outcome_of t.event) (since_start j) ++ option_to_list (outcome_of s.event))
    by true = refl
    by false =
        filter_map-append (λ (t : Stamped). outcome_of t.event) (since_start j) (s ∷ [])
        ∙ ap (λ os. filter_map (λ (t : Stamped). outcome_of t.event) (since_start j) ++ os) (single (λ (t : Stamped). outcome_of t.event) s)

pub is_fresh-nil : is_fresh [] ≡ true
unfolding is_fresh
is_fresh-nil = refl

-- a start makes the journal fresh, and a deal or an absorbed outcome ends that
pub is_fresh-append : (j : List Stamped) (s : Stamped) → is_fresh (j ++ s ∷ []) ≡ cond (is_restart s.event) true (is_fresh j && not (makes_deal s.event || is_some (outcome_of s.event)))
unfolding is_fresh
is_fresh-append j s = ap (λ k. not (list_any ends k)) (since_start-append j s) ∙ by (is_restart s.event)
  where
    ends : Stamped → Bool
    ends t = makes_deal t.event || is_some (outcome_of t.event)

    not_or : (a b : Bool) → not (a || b) ≡ (not a && not b)
    not_or true b = refl
    not_or false b = refl

    by : (b : Bool) → not (list_any ends (cond b [] (since_start j ++ s ∷ []))) ≡ cond b true (not (list_any ends (since_start j)) && not (ends s))
    by true = refl
    by false = ap not (any-append ends (since_start j) s) ∙ not_or (list_any ends (since_start j)) (ends s)
