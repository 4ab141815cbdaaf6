-- What an event makes of the active pushes: a turn adds one, or takes those that it removes, and a bar revokes some.
use Rattle.std.proofs.Common.{◌≡◌, ℕ, ◌<◌, Bool, true, false, ◌&&◌, ◌||◌, ◌==◌, cond, not, List, [], ◌∷◌, ◌++◌, map, refl, sym, ap, ◌∙◌}
use Rattle.std.specs.Prelude.{Option, Some, None, is_some, filter, option_and_then, if◌then◌else◌}
use Rattle.std.specs.Option.{option_or}
use Rattle.std.specs.List.{AllByRecursion, list_any}
use Rattle.chat_model.specs.declared.event.Stamped.{Stamped}
use Rattle.chat_model.specs.declared.event.Event.TheVariants.{PushTurn}
use Rattle.chat_model.specs.declared.ids.MessageId.{MessageId}
use Rattle.chat_model.specs.declared.ids.UserId.{UserId}
use Rattle.chat_model.specs.declared.push_item.PushItem.TheVariants.{Remove}
use Rattle.chat_model.specs.declared.row.Cause.{Cause}
use Rattle.chat_model.specs.declared.row.Stage.TheVariants.{Ready}
use Rattle.chat_model.specs.declared.trigger.Way.{Way}
use Rattle.chat_model.specs.declared.trigger.Way.TheVariants.{Mail, Push}
use Rattle.notice_ledger.specs.Past.Journal.{Occurrence}
use Rattle.notice_ledger.specs.Past.Lawful.{may_stand}
use Rattle.notice_ledger.specs.Past.Owed.{Notice, notices, same_way, ready, was_dealt, cause_of_bar}
use Rattle.notice_ledger.specs.Past.Pushes.{is_push_turn, handed_at, removes, is_active}
use Rattle.notice_ledger.proofs.ActiveAfter.{IsOwed, notices-owed, owed-placed, active-same, active-removed}
use Rattle.notice_ledger.proofs.Lists.{filter-passed, AllByRecursion-filter}
use Rattle.notice_ledger.proofs.PushesWait.{PushesWait}
use Rattle.notice_ledger.proofs.Revoked.{handed_at-push}
use Rattle.notice_ledger.proofs.Standing.{is_barring, barring, barring-none, cause_of_bar-append}
use Rattle.book_tables.specs.declared.pushes.PushKey.{PushKey}
use Rattle.book_tables.specs.declared.tables.Waiting.{Waiting}
use Rattle.book_tables.specs.Bars.{is_pushed_pair, is_removed, revoked_where}
use Rattle.book_tables.specs.Notices.{rank, barred_by}
use Rattle.book_tables.specs.Pushes.{has_push}
use Rattle.book_tables.specs.Tables.{stage_by, notice_at, notice_kept}
use Rattle.book_tables.proofs.ClearedAfter.{filter-mapped, map-where}
use Rattle.book_tables.proofs.Moves.{swapped}

-- the active pushes, as the tables keep them
abbrev pub all_active : List Stamped → List Waiting
all_active j = map (notice_kept j) (filter (is_active j) (notices j))

-- each is ready, for it had its turn
abbrev pub active_kept : List Stamped → Notice → Waiting
active_kept j n = notice_at Ready (cause_of_bar j n) n

pub handed-ready : (j : List Stamped) (n : Notice) → is_some (handed_at j n) ≡ true → is_some (ready j n) ≡ true
handed-ready j n h = by _ _ (same_way n.way Push) (ready j n) h
  where
    by : {X : Type 0} (f g : X → Option X) (b : Bool) (o : Option X) → is_some (if b then option_and_then f (option_and_then g o) else None) ≡ true → is_some o ≡ true
    by f g b (Some x) e = refl
    by f g true None e = absurd (cc)
    by f g false None e = absurd (cc)

first_part : (a b : Bool) → (a && b) ≡ true → a ≡ true
first_part true b h = refl
first_part false b h = absurd (cc)

pub active-ready : (j : List Stamped) (n : Notice) → is_active j n ≡ true → notice_kept j n ≡ active_kept j n
active-ready j n h =
    ap (λ b. notice_at (stage_by (was_dealt j n) b) (cause_of_bar j n) n) (handed-ready j n (first_part (is_some (handed_at j n)) _ h)) ∙ either (was_dealt j n)
  where
    either : (d : Bool) → notice_at (stage_by d true) (cause_of_bar j n) n ≡ active_kept j n
    either true = refl
    either false = refl

pub all-active : (j : List Stamped) → all_active j ≡ map (active_kept j) (filter (is_active j) (notices j))
all-active j = map-where (λ n. is_active j n ≡ true) (notice_kept j) (active_kept j) (active-ready j) (filter (is_active j) (notices j)) (filter-passed (is_active j) (notices j))

-- an active push is a push
active-push : (j : List Stamped) (n : Notice) → is_active j n ≡ true → (rank n.way == 1) ≡ true
active-push j n h = by n.way (handed_at-push j n (first_part (is_some (handed_at j n)) _ h))
  where
    by : (w : Way) → same_way w Push ≡ true → (rank w == 1) ≡ true
    by Push e = refl
    by Mail e = absurd (cc)

or-none : (o : Option Cause) → option_or o None ≡ o
or-none None = refl
or-none (Some c) = refl

-- an event that bars nothing leaves the cause
pub same_cause_kept : (j : List Stamped) (s : Stamped) → ((n : Notice) → is_barring s n ≡ false) → (n : Notice) → IsOwed j n → active_kept (j ++ s ∷ []) n ≡ active_kept j n
same_cause_kept j s not_barred n owed =
    ap (λ c. notice_at Ready c n) (cause_of_bar-append j s n (owed-placed j n owed) ∙ (ap (option_or (cause_of_bar j n)) (barring-none j s n (not_barred n)) ∙ or-none (cause_of_bar j n)))

-- an event that bars nothing and is no push turn leaves them
pub active-left : (j : List Stamped) (s : Stamped) → PushesWait j → may_stand j s.at s.event ≡ true → is_push_turn s.event ≡ false → ((n : Notice) → is_barring s n ≡ false) → all_active (j ++ s ∷ []) ≡ all_active j
active-left j s waits may other not_barred =
    all-active (j ++ s ∷ [])
    ∙ (ap (map (active_kept (j ++ s ∷ []))) (active-same j s waits may other)
    ∙ (map-where (IsOwed j) (active_kept (j ++ s ∷ [])) (active_kept j) (same_cause_kept j s not_barred) (filter (is_active j) (notices j)) (AllByRecursion-filter (IsOwed j) (is_active j) (notices j) (notices-owed j))
    ∙ sym (all-active j)))

-- the turn of a removal takes those that it removes
pub active-taken : (j : List Stamped) (at : ℕ) (u : UserId) (ms : List MessageId) → PushesWait j → may_stand j at (PushTurn (Remove u ms)) ≡ true
    → all_active (j ++ record { at = at; event = PushTurn (Remove u ms) } ∷ []) ≡ filter (λ w. not (is_removed u ms w)) (all_active j)
active-taken j at u ms waits may =
    let s : Stamped = record { at = at; event = PushTurn (Remove u ms) } in
    let left : Notice → Bool = λ n. not (removes n.user n.number (Remove u ms)) in
    let those = filter (is_active j) (notices j) in
    all-active (j ++ s ∷ [])
    ∙ (ap (map (active_kept (j ++ s ∷ []))) (active-removed j at u ms waits may)
    ∙ (map-where (IsOwed j) (active_kept (j ++ s ∷ [])) (active_kept j) (same_cause_kept j s (λ n. refl)) (filter left those) (AllByRecursion-filter (IsOwed j) left those (AllByRecursion-filter (IsOwed j) (is_active j) (notices j) (notices-owed j)))
    ∙ (sym (filter-mapped (active_kept j) (λ w. not (is_removed u ms w)) left those (each those (filter-passed (is_active j) (notices j))))
    ∙ ap (filter (λ w. not (is_removed u ms w))) (sym (all-active j)))))
  where
    one : (n : Notice) → is_active j n ≡ true → not (is_removed u ms (active_kept j n)) ≡ not (removes n.user n.number (Remove u ms))
    one n h = (λ i. not (swapped n.user.0 u.0 i && (active-push j n h i && list_any (λ m. m.0 == n.number.0) ms)))

    each : (ns : List Notice) → AllByRecursion (λ n. is_active j n ≡ true) ns → AllByRecursion (λ n. not (is_removed u ms (active_kept j n)) ≡ not (removes n.user n.number (Remove u ms))) ns
    each [] all = tt
    each (n ∷ ns) all = (one n all.0, each ns all.1)

-- a read or a deletion revokes those that it bars
pub active-revoked : (j : List Stamped) (s : Stamped) → PushesWait j → may_stand j s.at s.event ≡ true → is_push_turn s.event ≡ false → (c : Cause) → ((n : Notice) → barring j s n ≡ cond (is_some (barring j s n)) (Some c) None)
    → (pairs : List PushKey) → AllByRecursion (λ n. has_push pairs n.user n.number ≡ is_some (barring j s n)) (notices j) → all_active (j ++ s ∷ []) ≡ revoked_where (is_pushed_pair pairs) c (all_active j)
active-revoked j s waits may other c of_cause pairs fits =
    all-active (j ++ s ∷ [])
    ∙ (ap (map (active_kept (j ++ s ∷ []))) (active-same j s waits may other)
    ∙ (each (notices j) (notices-owed j) fits
    ∙ ap (revoked_where (is_pushed_pair pairs) c) (sym (all-active j))))
  where
    revoke : Waiting → Waiting
    revoke w = if is_pushed_pair pairs w then barred_by c w else w

    by : (n : Notice) (o : Option Cause) (b : Bool) → notice_at Ready (option_or o (cond b (Some c) None)) n ≡ (if b && true then barred_by c (notice_at Ready o n) else notice_at Ready o n)
    by n o true = refl
    by n None false = refl
    by n (Some d) false = refl

    one : (n : Notice) → IsOwed j n → is_active j n ≡ true → has_push pairs n.user n.number ≡ is_some (barring j s n) → active_kept (j ++ s ∷ []) n ≡ revoke (active_kept j n)
    one n owed h fit =
        ap (λ o. notice_at Ready o n) (cause_of_bar-append j s n (owed-placed j n owed) ∙ ap (option_or (cause_of_bar j n)) (of_cause n))
        ∙ (by n (cause_of_bar j n) (is_some (barring j s n))
        ∙ sym (λ i. if fit i && active-push j n h i then barred_by c (active_kept j n) else active_kept j n))

    each : (ns : List Notice) → AllByRecursion (IsOwed j) ns → AllByRecursion (λ n. has_push pairs n.user n.number ≡ is_some (barring j s n)) ns
        → map (active_kept (j ++ s ∷ [])) (filter (is_active j) ns) ≡ map revoke (map (active_kept j) (filter (is_active j) ns))
    each [] owed fit = refl
    each (n ∷ ns) owed fit = first (is_active j n) refl (each ns owed.1 fit.1)
      where
        first : (b : Bool) → is_active j n ≡ b → map (active_kept (j ++ s ∷ [])) (filter (is_active j) ns) ≡ map revoke (map (active_kept j) (filter (is_active j) ns))
            → map (active_kept (j ++ s ∷ [])) (filter (is_active j) (n ∷ ns)) ≡ map revoke (map (active_kept j) (filter (is_active j) (n ∷ ns)))
        first true h rest =
            ap (λ b. map (active_kept (j ++ s ∷ [])) (cond b (n ∷ filter (is_active j) ns) (filter (is_active j) ns))) h
            ∙ ((λ i. one n owed.0 h fit.0 i ∷ rest i)
            ∙ sym (ap (λ b. map revoke (map (active_kept j) (cond b (n ∷ filter (is_active j) ns) (filter (is_active j) ns)))) h))
        first false h rest =
            ap (λ b. map (active_kept (j ++ s ∷ [])) (cond b (n ∷ filter (is_active j) ns) (filter (is_active j) ns))) h
            ∙ (rest
            ∙ sym (ap (λ b. map revoke (map (active_kept j) (cond b (n ∷ filter (is_active j) ns) (filter (is_active j) ns)))) h))
