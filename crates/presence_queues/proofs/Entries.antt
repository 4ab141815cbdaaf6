-- What waits, user by user, after a change of the entries.
use Rattle.std.proofs.Common.{◌≡◌, ◌≢◌, ℕ, Bool, true, false, not, ◌||◌, ◌==◌, cond, List, [], ◌∷◌, ◌++◌, Option, Some, None, refl, sym, ap, ◌∙◌}
use Rattle.std.specs.Prelude.{filter, find, map, option_map}
use Rattle.std.specs.List.{list_any}
use Rattle.std.specs.Option.{option_map_or}
use Rattle.std.proofs.lemmas.Bool.{eqb-true, false≢true}
use Rattle.std.proofs.lemmas.List.{append-nil}
use Rattle.chat_model.specs.declared.ids.DealNo.{DealNo}
use Rattle.chat_model.specs.declared.ids.UserId.{UserId}
use Rattle.chat_model.specs.declared.deal.UserVerdict.{UserVerdict}
use Rattle.missed_hook.specs.Outstanding.{gives_live, has_deal}
use Rattle.presence_queues.specs.declared.waiting.Waiting.{Waiting}
use Rattle.presence_queues.specs.Fields.{WaitingSeen, deals_of, forgotten, has_entry, waiting_of, waiting_seen, with_live}

-- ---- searches among items as they are seen

pub any-seen : {X Y : Type 0} (view : X → Y) (p : Y → Bool) (xs : List X) → list_any p (map view xs) ≡ list_any (λ x. p (view x)) xs
any-seen view p [] = refl
any-seen view p (x ∷ xs) = ap (λ b. p (view x) || b) (any-seen view p xs)

pub find-seen : {X Y : Type 0} (view : X → Y) (p : Y → Bool) (xs : List X) → find p (map view xs) ≡ option_map view (find (λ x. p (view x)) xs)
find-seen view p [] = refl
find-seen view p (x ∷ xs) = by (p (view x)) (find-seen view p xs)
  where
    by : (b : Bool) → find p (map view xs) ≡ option_map view (find (λ y. p (view y)) xs) → cond b (Some (view x)) (find p (map view xs)) ≡ option_map view (cond b (Some x) (find (λ y. p (view y)) xs))
    by true ih = refl
    by false ih = ih

pub filter-seen : {X Y : Type 0} (view : X → Y) (p : Y → Bool) (xs : List X) → filter p (map view xs) ≡ map view (filter (λ x. p (view x)) xs)
filter-seen view p [] = refl
filter-seen view p (x ∷ xs) = by (p (view x)) (filter-seen view p xs)
  where
    by : (b : Bool) → filter p (map view xs) ≡ map view (filter (λ y. p (view y)) xs) → cond b (view x ∷ filter p (map view xs)) (filter p (map view xs)) ≡ map view (cond b (x ∷ filter (λ y. p (view y)) xs) (filter (λ y. p (view y)) xs))
    by true ih = ap (λ ys. view x ∷ ys) ih
    by false ih = ih

pub map-seen : {X Y Z : Type 0} (view : X → Y) (f : Y → Z) (xs : List X) → map f (map view xs) ≡ map (λ x. f (view x)) xs
map-seen view f [] = refl
map-seen view f (x ∷ xs) = ap (λ ys. f (view x) ∷ ys) (map-seen view f xs)

-- ---- the deals of a user

-- the deals of an entry that is found or not
abbrev deals_in : Option WaitingSeen → List DealNo
deals_in o = option_map_or (λ w. w.deals) o []

pub deals_of-read : (u : UserId) (ws : List Waiting) → option_map_or (λ w. w.deals.items) (find (λ w. w.user.0 == u.0) ws) [] ≡ deals_of u (waiting_seen ws)
deals_of-read u [] = refl
deals_of-read u (w ∷ ws) = by (w.user.0 == u.0) (deals_of-read u ws)
  where
    by : (b : Bool) → option_map_or (λ w'. w'.deals.items) (find (λ w'. w'.user.0 == u.0) ws) [] ≡ deals_of u (waiting_seen ws) → option_map_or (λ w'. w'.deals.items) (cond b (Some w) (find (λ w'. w'.user.0 == u.0) ws)) [] ≡ deals_in (cond b (Some (waiting_of w)) (find (λ w'. w'.user.0 == u.0) (waiting_seen ws)))
    by true ih = refl
    by false ih = ih

-- a further entry without deals
pub deals_of-push : (u : UserId) (ws : List WaitingSeen) (w : WaitingSeen) → w.deals ≡ [] → deals_of u (ws ++ w ∷ []) ≡ deals_of u ws
deals_of-push u [] w none = by (w.user.0 == u.0)
  where
    by : (b : Bool) → deals_in (cond b (Some w) None) ≡ []
    by true = none
    by false = refl
deals_of-push u (v ∷ ws) w none = by (v.user.0 == u.0) (deals_of-push u ws w none)
  where
    by : (b : Bool) → deals_of u (ws ++ w ∷ []) ≡ deals_of u ws → deals_in (cond b (Some v) (find (λ x. x.user.0 == u.0) (ws ++ w ∷ []))) ≡ deals_in (cond b (Some v) (find (λ x. x.user.0 == u.0) ws))
    by true ih = refl
    by false ih = ih

-- what is forgotten for a user
pub deals_of-forgotten : (u : UserId) (gone : List DealNo) (ws : List WaitingSeen) → deals_of u (map (forgotten u gone) ws) ≡ filter (λ k. not (has_deal gone k)) (deals_of u ws)
deals_of-forgotten u gone [] = refl
deals_of-forgotten u gone (w ∷ ws) = by (w.user.0 == u.0) refl (deals_of-forgotten u gone ws)
  where
    by : (b : Bool) → (w.user.0 == u.0) ≡ b → deals_of u (map (forgotten u gone) ws) ≡ filter (λ k. not (has_deal gone k)) (deals_of u ws)
        → deals_in (cond ((cond b (record w { deals = filter (λ k. not (has_deal gone k)) w.deals }) w).user.0 == u.0) (Some (cond b (record w { deals = filter (λ k. not (has_deal gone k)) w.deals }) w)) (find (λ x. x.user.0 == u.0) (map (forgotten u gone) ws)))
        ≡ filter (λ k. not (has_deal gone k)) (deals_in (cond b (Some w) (find (λ x. x.user.0 == u.0) ws)))
    by true e ih = ap (λ b. deals_in (cond b (Some (record w { deals = filter (λ k. not (has_deal gone k)) w.deals })) (find (λ x. x.user.0 == u.0) (map (forgotten u gone) ws)))) e
    by false e ih = ap (λ b. deals_in (cond b (Some w) (find (λ x. x.user.0 == u.0) (map (forgotten u gone) ws)))) e ∙ ih

-- leaves what waits for others
pub deals_of-forgotten_other : (u v : UserId) (gone : List DealNo) (ws : List WaitingSeen) → u.0 ≢ v.0 → deals_of v (map (forgotten u gone) ws) ≡ deals_of v ws
deals_of-forgotten_other u v gone [] other = refl
deals_of-forgotten_other u v gone (w ∷ ws) other = by (w.user.0 == u.0) refl (w.user.0 == v.0) refl (deals_of-forgotten_other u v gone ws other)
  where
    by : (b : Bool) → (w.user.0 == u.0) ≡ b → (c : Bool) → (w.user.0 == v.0) ≡ c → deals_of v (map (forgotten u gone) ws) ≡ deals_of v ws
        → deals_in (cond ((cond b (record w { deals = filter (λ k. not (has_deal gone k)) w.deals }) w).user.0 == v.0) (Some (cond b (record w { deals = filter (λ k. not (has_deal gone k)) w.deals }) w)) (find (λ x. x.user.0 == v.0) (map (forgotten u gone) ws)))
        ≡ deals_in (cond c (Some w) (find (λ x. x.user.0 == v.0) ws))
    by true e true f ih = absurd (other (sym (eqb-true w.user.0 u.0 e) ∙ eqb-true w.user.0 v.0 f))
    by true e false f ih = ap (λ b. deals_in (cond b (Some (record w { deals = filter (λ k. not (has_deal gone k)) w.deals })) (find (λ x. x.user.0 == v.0) (map (forgotten u gone) ws)))) f ∙ ih
    by false e true f ih = ap (λ b. deals_in (cond b (Some w) (find (λ x. x.user.0 == v.0) (map (forgotten u gone) ws)))) f
    by false e false f ih = ap (λ b. deals_in (cond b (Some w) (find (λ x. x.user.0 == v.0) (map (forgotten u gone) ws)))) f ∙ ih

same_user : (u v : UserId) → (u.0 == v.0) ≡ true → u ≡ v
same_user u v h = ap {A = ℕ} {B = UserId} (λ n. record { 0 = n }) (eqb-true u.0 v.0 h)

-- a further deal of the users for whom a verdict is Live
pub deals_of-with_live : (u : UserId) (verdicts : List UserVerdict) (k : DealNo) (ws : List WaitingSeen) → (gives_live verdicts u ≡ true → has_entry u ws ≡ true) → deals_of u (map (with_live verdicts k) ws) ≡ deals_of u ws ++ cond (gives_live verdicts u) (k ∷ []) []
deals_of-with_live u verdicts k [] entered = by (gives_live verdicts u) refl
  where
    by : (b : Bool) → gives_live verdicts u ≡ b → [] ≡ [] ++ cond b (k ∷ []) []
    by true e = absurd (false≢true (entered e))
    by false e = refl
deals_of-with_live u verdicts k (w ∷ ws) entered = by (w.user.0 == u.0) refl entered (deals_of-with_live u verdicts k ws) (λ e. ap (gives_live verdicts) (same_user w.user u e))
  where
    here : (c : Bool) → (w.user.0 == u.0) ≡ true → deals_in (cond ((cond c (record w { deals = w.deals ++ k ∷ [] }) w).user.0 == u.0) (Some (cond c (record w { deals = w.deals ++ k ∷ [] }) w)) (find (λ x. x.user.0 == u.0) (map (with_live verdicts k) ws))) ≡ w.deals ++ cond c (k ∷ []) []
    here true e = ap (λ b. deals_in (cond b (Some (record w { deals = w.deals ++ k ∷ [] })) (find (λ x. x.user.0 == u.0) (map (with_live verdicts k) ws)))) e
    here false e = ap (λ b. deals_in (cond b (Some w) (find (λ x. x.user.0 == u.0) (map (with_live verdicts k) ws)))) e ∙ sym (append-nil w.deals)

    there : (c : Bool) → (w.user.0 == u.0) ≡ false → deals_in (cond ((cond c (record w { deals = w.deals ++ k ∷ [] }) w).user.0 == u.0) (Some (cond c (record w { deals = w.deals ++ k ∷ [] }) w)) (find (λ x. x.user.0 == u.0) (map (with_live verdicts k) ws))) ≡ deals_of u (map (with_live verdicts k) ws)
    there true e = ap (λ b. deals_in (cond b (Some (record w { deals = w.deals ++ k ∷ [] })) (find (λ x. x.user.0 == u.0) (map (with_live verdicts k) ws)))) e
    there false e = ap (λ b. deals_in (cond b (Some w) (find (λ x. x.user.0 == u.0) (map (with_live verdicts k) ws)))) e

    by : (b : Bool) → (w.user.0 == u.0) ≡ b → (gives_live verdicts u ≡ true → (b || has_entry u ws) ≡ true) → ((gives_live verdicts u ≡ true → has_entry u ws ≡ true) → deals_of u (map (with_live verdicts k) ws) ≡ deals_of u ws ++ cond (gives_live verdicts u) (k ∷ []) [])
        → ((w.user.0 == u.0) ≡ true → gives_live verdicts w.user ≡ gives_live verdicts u)
        → deals_of u (map (with_live verdicts k) (w ∷ ws)) ≡ deals_in (cond b (Some w) (find (λ x. x.user.0 == u.0) ws)) ++ cond (gives_live verdicts u) (k ∷ []) []
    by true e have ih same = here (gives_live verdicts w.user) e ∙ ap (λ d. w.deals ++ cond d (k ∷ []) []) (same e)
    by false e have ih same = there (gives_live verdicts w.user) e ∙ ih have
