-- What the slow computation finds of batch rows and due moments.
use Rattle.std.proofs.Common.{◌≡◌, ℕ, ◌+◌, Bool, true, false, ◌&&◌, cond, List, [], ◌∷◌, ◌++◌, map, refl, sym, ap, ◌∙◌}
use Rattle.std.specs.Prelude.{Option, Some, None, option_map, option_and_then, filter, is_none, is_some, nat_lt, if◌then◌else◌}
use Rattle.std.specs.Option.{option_map_or}
use Rattle.std.specs.List.{filter_map, reduce, cons_option}
use Rattle.std.proofs.lemmas.List.{append-nil}
use Rattle.std.proofs.lemmas.List.Sums.{fold-append}
use Rattle.std.proofs.lemmas.List.Elements.{filter_map-append}
use Rattle.chat_model.specs.declared.event.Stamped.{Stamped}
use Rattle.chat_model.specs.declared.ids.UserId.{UserId}
use Rattle.chat_model.specs.declared.mentions.UserName.{UserName}
use Rattle.notice_ledger.specs.declared.owed.Owed.{Owed}
use Rattle.notice_ledger.specs.declared.due.DueUser.{DueUser as FoundDue}
use Rattle.notice_ledger.specs.declared.readiness.Spot.{Spot}
use Rattle.notice_ledger.specs.Past.Journal.{Occurrence, first_behind}
use Rattle.notice_ledger.specs.Past.Values.{settings, user_names}
use Rattle.notice_ledger.proofs.OwedLemmas.{ids-user_names}
use Rattle.notice_ledger.specs.Past.Owed.{Notice, notices, ready, is_unbarred, is_turn_of, turn}
use Rattle.notice_ledger.specs.Past.Due.{DueUser, is_batch_row, batch_rows, due, due_user, earlier, first_due, sooner}
use Rattle.notice_ledger.specs.Plain.{owed_kept, ready_kept, turn_kept, turn_found, is_unbarred_kept, is_batch_kept, found_due, spot_of, earlier_spot}
use Rattle.notice_ledger.proofs.Batches.{is_mail_of, filter_same}

-- ---- batch rows

pub filter-map : {A B : Type 0} (p : B → Bool) (f : A → B) (xs : List A) → filter p (map f xs) ≡ map f (filter (λ x. p (f x)) xs)
filter-map p f [] = refl
filter-map p f (x ∷ xs) =
    elim (p (f x)) as (λ b. cond b (f x ∷ filter p (map f xs)) (filter p (map f xs)) ≡ map f (cond b (x ∷ filter (λ x. p (f x)) xs) (filter (λ x. p (f x)) xs))) [
      | true ↦ ap (λ ys. f x ∷ ys) (filter-map p f xs)
      | false ↦ filter-map p f xs
    ]

pub batch_rows-kept : (j : List Stamped) (u : UserId) → filter (is_batch_kept j u) (map owed_kept (notices j)) ≡ map owed_kept (batch_rows j u)
batch_rows-kept j u =
    filter-map (is_batch_kept j u) owed_kept (notices j)
    ∙ ap (map owed_kept) (filter_same (λ n. is_batch_kept j u (owed_kept n)) (is_batch_row j u) (λ n. ap (λ b. is_mail_of u n && (b && is_none (turn j n))) (sym (unbarred n (ready j n)))) (notices j))
  where
    by : (o : Occurrence) (b : Bool) → b ≡ is_some (if b then Some o else None)
    by o true = refl
    by o false = refl

    unbarred : (n : Notice) (r : Option Occurrence) → option_map_or (is_unbarred n) r false ≡ is_some (option_and_then (λ r. if is_unbarred_kept (owed_kept n) r then Some r else None) r)
    unbarred n None = refl
    unbarred n (Some o) = by o (is_unbarred n o)

-- ---- turns

-- the turn is the first one behind the ready event
pub turn-ready : (j : List Stamped) (n : Owed) (spot : Spot) → Some spot ≡ option_map spot_of (ready_kept j n) → option_map (turn_found n) (first_behind spot.place (λ o. is_turn_of n.user n.message n.way o.event) j) ≡ option_map (turn_found n) (turn_kept j n)
turn-ready j n spot found = by (ready_kept j n) found
  where
    by : (r : Option Occurrence) → Some spot ≡ option_map spot_of r → option_map (turn_found n) (first_behind spot.place (λ o. is_turn_of n.user n.message n.way o.event) j) ≡ option_map (turn_found n) (option_and_then (λ r. first_behind r.place (λ o. is_turn_of n.user n.message n.way o.event) j) r)
    by None e = absurd (cc)
    by (Some o) e = let same : spot ≡ spot_of o = cc in ap (λ (t : Spot). option_map (turn_found n) (first_behind t.place (λ o. is_turn_of n.user n.message n.way o.event) j)) same

-- ---- the first ready event

reduce-push : {A : Type 0} (f : A → A → A) (xs : List A) (x : A) → reduce f (xs ++ x ∷ []) ≡ Some (option_map_or (λ a. f a x) (reduce f xs) x)
reduce-push f [] x = refl
reduce-push f (y ∷ ys) x = ap Some (fold-append f y ys (x ∷ []))

filter_map-push : {X Y : Type 0} (h : X → Option Y) (xs : List X) (x : X) → filter_map h (xs ++ x ∷ []) ≡ filter_map h xs ++ cons_option (h x) []
filter_map-push h xs x = filter_map-append h xs (x ∷ [])

or_mapped : {A B C : Type 0} (f : B → C) (g : A → B) (o : Option A) (d : C) → option_map_or (λ a. f (g a)) o d ≡ option_map_or f (option_map g o) d
or_mapped f g None d = refl
or_mapped f g (Some x) d = refl

earlier-spot : (a b : Occurrence) → spot_of (earlier a b) ≡ earlier_spot (spot_of a) (spot_of b)
earlier-spot a b =
    elim (nat_lt b.place a.place) as (λ t. spot_of (if t then b else a) ≡ (if t then spot_of b else spot_of a)) [
      | true ↦ refl
      | false ↦ refl
    ]

-- the first of the ready events of these notices
abbrev pub first_ready : List Stamped → List Owed → Option Spot
first_ready j rows = option_map spot_of (reduce earlier (filter_map (ready_kept j) rows))

pub one_more_ready : (j : List Stamped) (rows : List Owed) (row : Owed) (before : Option Spot) (spot next : Spot) → Some spot ≡ option_map spot_of (ready_kept j row)
    → before ≡ first_ready j rows → next ≡ option_map_or (λ a. earlier_spot a spot) before spot → Some next ≡ first_ready j (rows ++ row ∷ [])
one_more_ready j rows row before spot next found so_far is =
    by (ready_kept j row) found
    ∙ ap (λ os. option_map spot_of (reduce earlier os)) (sym (filter_map-push (ready_kept j) rows row))
  where
    seen : (o : Occurrence) (b : Option Occurrence) → option_map_or (λ a. earlier_spot a (spot_of o)) (option_map spot_of b) (spot_of o) ≡ spot_of (option_map_or (λ a. earlier a o) b o)
    seen o None = refl
    seen o (Some a) = sym (earlier-spot a o)

    by : (r : Option Occurrence) → Some spot ≡ option_map spot_of r → Some next ≡ option_map spot_of (reduce earlier (filter_map (ready_kept j) rows ++ cons_option r []))
    by None e = absurd (cc)
    by (Some o) e =
        let same : spot ≡ spot_of o = cc in
        ap Some (is ∙ (ap (λ b. option_map_or (λ a. earlier_spot a spot) b spot) so_far ∙ (ap (λ (t : Spot). option_map_or (λ a. earlier_spot a t) (first_ready j rows) t) same ∙ seen o (reduce earlier (filter_map (ready_kept j) rows)))))
        ∙ ap (option_map spot_of) (sym (reduce-push earlier (filter_map (ready_kept j) rows) o))

pub one_more_not_ready : (j : List Stamped) (rows : List Owed) (row : Owed) → None ≡ option_map spot_of (ready_kept j row) → first_ready j (rows ++ row ∷ []) ≡ first_ready j rows
one_more_not_ready j rows row none =
    ap (λ os. option_map spot_of (reduce earlier os)) (filter_map-push (ready_kept j) rows row ∙ (ap (λ o. filter_map (ready_kept j) rows ++ cons_option o []) (by (ready_kept j row) none) ∙ append-nil (filter_map (ready_kept j) rows)))
  where
    by : (r : Option Occurrence) → None ≡ option_map spot_of r → r ≡ None
    by None e = refl
    by (Some o) e = absurd (cc)

map-twice : {A B C : Type 0} (f : B → C) (g : A → B) (o : Option A) → option_map f (option_map g o) ≡ option_map (λ x. f (g x)) o
map-twice f g None = refl
map-twice f g (Some x) = refl

filter_map-map : {A B C : Type 0} (h : B → Option C) (f : A → B) (xs : List A) → filter_map h (map f xs) ≡ filter_map (λ x. h (f x)) xs
filter_map-map h f [] = refl
filter_map-map h f (x ∷ xs) = ap (cons_option (h (f x))) (filter_map-map h f xs)

-- a user's due moment is that of the first ready event of the batch rows
pub due-first : (j : List Stamped) (u : UserId) (rows : List Owed) → rows ≡ map owed_kept (batch_rows j u) → option_map (λ (s : Spot). s.at + (settings j u).period) (first_ready j rows) ≡ due j u
due-first j u rows are =
    ap (λ ns. option_map (λ (s : Spot). s.at + (settings j u).period) (first_ready j ns)) are
    ∙ (map-twice (λ (s : Spot). s.at + (settings j u).period) spot_of (reduce earlier (filter_map (ready_kept j) (map owed_kept (batch_rows j u))))
    ∙ ap (λ os. option_map (λ (o : Occurrence). o.at + (settings j u).period) (reduce earlier os)) (filter_map-map (ready_kept j) owed_kept (batch_rows j u)))

-- ---- the least due moment

-- the users with their due moments
abbrev pub due_named : List Stamped → UserName → Option DueUser
due_named j name = due_user j name.id

pub one_more_due : (j : List Stamped) (names : List UserName) (name : UserName) (d : ℕ) (before : Option FoundDue) (next : FoundDue) → Some d ≡ due j name.id
    → option_map found_due before ≡ reduce sooner (filter_map (due_named j) names)
    → found_due next ≡ option_map_or (λ a. sooner (found_due a) (record { due = d; user = name.id })) before (record { due = d; user = name.id })
    → Some (found_due next) ≡ reduce sooner (filter_map (due_named j) (names ++ name ∷ []))
one_more_due j names name d before next is_due so_far is_next =
    let this : DueUser = record { due = d; user = name.id } in
    ap Some (is_next ∙ (or_mapped (λ a. sooner a this) found_due before this ∙ ap (λ o. option_map_or (λ a. sooner a this) o this) so_far))
    ∙ (sym (reduce-push sooner (filter_map (due_named j) names) this)
    ∙ ap (reduce sooner) (ap (λ (o : Option ℕ). filter_map (due_named j) names ++ cons_option (option_map (λ e. let u : DueUser = record { due = e; user = name.id } in u) o) []) is_due
    ∙ sym (filter_map-push (due_named j) names name)))

pub one_more_not_due : (j : List Stamped) (names : List UserName) (name : UserName) → None ≡ due j name.id → filter_map (due_named j) (names ++ name ∷ []) ≡ filter_map (due_named j) names
one_more_not_due j names name not_due =
    filter_map-push (due_named j) names name
    ∙ (ap (λ (o : Option ℕ). filter_map (due_named j) names ++ cons_option (option_map (λ e. let u : DueUser = record { due = e; user = name.id } in u) o) []) (sym not_due)
    ∙ append-nil (filter_map (due_named j) names))

pub first_due-named : (j : List Stamped) (names : List UserName) → names ≡ user_names j → reduce sooner (filter_map (due_named j) names) ≡ first_due j
unfolding first_due
first_due-named j names are =
    ap (λ ns. reduce sooner (filter_map (due_named j) ns)) are
    ∙ ap (reduce sooner) (sym (filter_map-map (due_user j) (λ (n : UserName). n.id) (user_names j)) ∙ ap (filter_map (due_user j)) (ids-user_names j))

pub none_from : (o : Option ℕ) → ((n : ℕ) → o ≡ Some n → ⊥) → o ≡ None
none_from None h = refl
none_from (Some n) h = absurd (h n refl)
