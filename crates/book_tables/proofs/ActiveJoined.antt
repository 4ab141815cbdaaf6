-- The turn of a push adds it to the active pushes, in its place, where it is handed over.
use Rattle.std.proofs.Common.{◌≡◌, ℕ, Bool, true, false, ◌&&◌, ◌||◌, ◌==◌, cond, not, List, [], ◌∷◌, ◌++◌, map, refl, sym, ap, ◌∙◌, subst}
use Rattle.std.specs.Prelude.{Option, Some, None, is_some, is_none, filter, option_and_then, if◌then◌else◌}
use Rattle.std.specs.Option.{option_map_or}
use Rattle.std.specs.List.{AllByRecursion}
use Rattle.chat_model.specs.declared.entry.Entry.{Entry}
use Rattle.chat_model.specs.declared.event.Stamped.{Stamped}
use Rattle.chat_model.specs.declared.event.Event.TheVariants.{PushTurn}
use Rattle.chat_model.specs.declared.ids.MessageId.{MessageId}
use Rattle.chat_model.specs.declared.ids.UserId.{UserId}
use Rattle.chat_model.specs.declared.push_item.PushItem.TheVariants.{Notify}
use Rattle.chat_model.specs.declared.row.Stage.TheVariants.{Ready}
use Rattle.chat_model.specs.declared.trigger.Way.{Way}
use Rattle.chat_model.specs.declared.trigger.Way.TheVariants.{Mail, Push}
use Rattle.notice_ledger.specs.Past.Lawful.{may_stand}
use Rattle.notice_ledger.specs.Past.Owed.{Notice, notices, same_way, is_of, ready, is_unbarred, turn, was_dealt, cause_of_bar, switch_on, account_of, is_pending, notice_to}
use Rattle.notice_ledger.specs.Past.Pushes.{handed_at, is_active}
use Rattle.notice_ledger.proofs.ActiveAfter.{IsOwed, notices-owed, active-pushed}
use Rattle.notice_ledger.proofs.Lists.{filter_all, filter_same, filter_same_where, filter-filter, filter-passed, AllByRecursion-filter}
use Rattle.notice_ledger.proofs.Found.{of_parts}
use Rattle.notice_ledger.proofs.PushNotices.{IsQueuedPush}
use Rattle.notice_ledger.proofs.PushesWait.{PushesWait}
use Rattle.notice_ledger.proofs.Queued.{is_queued, is_kept, kept, queued-ready}
use Rattle.book_tables.specs.declared.prepared.Effect.TheVariants as effect
use Rattle.book_tables.specs.Applied.{active_after}
use Rattle.book_tables.specs.Notices.{IsInOrder, put_all_in_order, rank, is_ready, is_ready_of}
use Rattle.book_tables.specs.Tables.{stage_by, notice_at, notice_kept, push_turn}
use Rattle.book_tables.proofs.ActivesAfter.{all_active, active_kept, all-active, same_cause_kept}
use Rattle.book_tables.proofs.ClearedAfter.{filter-mapped, each-same, map-where}
use Rattle.book_tables.proofs.Kept.{all_kept, ready-kept}
use Rattle.book_tables.proofs.Ordered.{some-ordered}
use Rattle.book_tables.proofs.Placing.{put-alone, put-apart}

push_way : (way : Way) → (rank way == 1) ≡ same_way way Push
push_way Mail = refl
push_way Push = refl

-- what is queued had no turn, so that it isn't active
queued-inactive : (j : List Stamped) (b : Notice) → is_queued j b ≡ true → is_active j b ≡ false
queued-inactive j b h = by _ _ (same_way b.way Push) (turn j b) (option_map_or (is_unbarred b) (ready j b) false) h
  where
    by : {X : Type 0} (f : X → Option X) (w : Bool) (way : Bool) (t : Option X) (c : Bool) → (c && is_none t) ≡ true → (is_some (if way then option_and_then f t else None) && w) ≡ false
    by f w true None c e = refl
    by f w false None c e = refl
    by f w way (Some x) true e = absurd (cc)
    by f w way (Some x) false e = absurd (cc)

module _ (j : List Stamped) (at : ℕ) (u : UserId) (m : MessageId) (n : Notice) (waits : PushesWait j) (may : may_stand j at (PushTurn (Notify u m)) ≡ true) (queued : IsQueuedPush j u m n) where
  abbrev is_it : Notice → Bool
  is_it b = is_of u m Push b

  it-queued : (b : Notice) → IsOwed j b → is_it b ≡ true → is_queued j b ≡ true
  it-queued b owed e =
      let is = of_parts u m Push b e in
      let same : b ≡ n = only b n (sym owed ∙ ((λ i. notice_to j (is.user i) (is.number i) (is.way i)) ∙ queued.notice)) in
      ap (is_queued j) same ∙ queued.queued
    where
      only : (x y : Notice) → Some x ≡ Some y → x ≡ y
      only x y e = cc

  apart : (b : Notice) → IsOwed j b → (not (is_active j b) && is_it b) ≡ is_it b
  apart b owed = by (is_it b) refl
    where
      never : (a : Bool) → (a && false) ≡ false
      never true = refl
      never false = refl

      by : (x : Bool) → is_it b ≡ x → (not (is_active j b) && is_it b) ≡ is_it b
      by true e = (λ i. not (queued-inactive j b (it-queued b owed e) i) && is_it b)
      by false e = ap (λ x. not (is_active j b) && x) e ∙ (never (not (is_active j b)) ∙ sym e)

  is_taken : Notice → Bool
  is_taken b = is_kept j b && is_ready_of u m Push (notice_kept j b)

  taken-one : (b : Notice) → IsOwed j b → is_taken b ≡ is_it b
  unfolding is_taken
  taken-one b owed = ap (λ w. is_kept j b && (((b.user.0 == u.0 && w) && is_ready (notice_kept j b)) && b.number.0 == m.0)) (push_way b.way) ∙ by (is_it b) refl
    where
      either : (p q : Bool) → q ≡ true → (p || q) ≡ true
      either true q e = refl
      either false q e = e

      passes : (x y z : Bool) → ((x && y) && z) ≡ true → (true && (((x && z) && true) && y)) ≡ true
      passes true true true e = refl
      passes true true false e = absurd (cc)
      passes true false z e = absurd (cc)
      passes false y z e = absurd (cc)

      fails : (k r x y z : Bool) → ((x && y) && z) ≡ false → (k && (((x && z) && r) && y)) ≡ false
      fails false r x y z e = refl
      fails true r false y z e = refl
      fails true r true y false e = refl
      fails true false true y true e = refl
      fails true true true false true e = refl
      fails true true true true true e = absurd (cc)

      by : (x : Bool) → is_it b ≡ x → (is_kept j b && (((b.user.0 == u.0 && same_way b.way Push) && is_ready (notice_kept j b)) && b.number.0 == m.0)) ≡ is_it b
      by true e =
          let q = it-queued b owed e in let k : is_kept j b ≡ true = either (is_pending (account_of j b)) (is_queued j b) q in
          (λ i. k i && (((b.user.0 == u.0 && same_way b.way Push) && (ready-kept j b k ∙ q) i) && b.number.0 == m.0))
          ∙ (passes (b.user.0 == u.0) (b.number.0 == m.0) (same_way b.way Push) e ∙ sym e)
      by false e = fails (is_kept j b) (is_ready (notice_kept j b)) (b.user.0 == u.0) (b.number.0 == m.0) (same_way b.way Push) e ∙ sym e

  taken : filter (is_ready_of u m Push) (all_kept j) ≡ map (active_kept j) (filter is_it (notices j))
  unfolding kept is_taken
  taken =
      filter-mapped (notice_kept j) (is_ready_of u m Push) (λ b. is_ready_of u m Push (notice_kept j b)) (kept j) (each-same (notice_kept j) (is_ready_of u m Push) (kept j))
      ∙ (ap (map (notice_kept j)) (filter-filter (λ b. is_ready_of u m Push (notice_kept j b)) (is_kept j) (notices j) ∙ filter_same_where (IsOwed j) is_taken is_it taken-one (notices j) (notices-owed j))
      ∙ ready-ones (notices j) (notices-owed j))
    where
      one : (b : Notice) → is_queued j b ≡ true → notice_kept j b ≡ active_kept j b
      one b q = ap (λ o. notice_at (stage_by (was_dealt j b) (is_some o)) (cause_of_bar j b) b) (queued-ready j b q).1 ∙ either (was_dealt j b)
        where
          either : (d : Bool) → notice_at (stage_by d true) (cause_of_bar j b) b ≡ active_kept j b
          either true = refl
          either false = refl

      ready-ones : (ns : List Notice) → AllByRecursion (IsOwed j) ns → map (notice_kept j) (filter is_it ns) ≡ map (active_kept j) (filter is_it ns)
      ready-ones [] owed = refl
      ready-ones (b ∷ ns) owed = first (is_it b) refl (ready-ones ns owed.1)
        where
          first : (x : Bool) → is_it b ≡ x → map (notice_kept j) (filter is_it ns) ≡ map (active_kept j) (filter is_it ns) → map (notice_kept j) (filter is_it (b ∷ ns)) ≡ map (active_kept j) (filter is_it (b ∷ ns))
          first true h rest =
              ap (λ x. map (notice_kept j) (cond x (b ∷ filter is_it ns) (filter is_it ns))) h
              ∙ ((λ i. one b (it-queued b owed.0 h) i ∷ rest i) ∙ sym (ap (λ x. map (active_kept j) (cond x (b ∷ filter is_it ns) (filter is_it ns))) h))
          first false h rest =
              ap (λ x. map (notice_kept j) (cond x (b ∷ filter is_it ns) (filter is_it ns))) h
              ∙ (rest ∙ sym (ap (λ x. map (active_kept j) (cond x (b ∷ filter is_it ns) (filter is_it ns))) h))

  in_order : (test : Notice → Bool) → IsInOrder (map (active_kept j) (filter test (notices j)))
  in_order test = some-ordered (λ b. Ready) (cause_of_bar j) test j

  all_in_order : IsInOrder (map (active_kept j) (notices j))
  all_in_order = subst (λ ns. IsInOrder (map (active_kept j) ns)) (filter_all (λ b. true) (λ b. refl) (notices j)) (in_order (λ b. true))

  abbrev passes_now : Notice → Bool
  passes_now b = is_active j b || (is_it b && (is_none (cause_of_bar j n) && switch_on j u Push))

  more : all_active (j ++ push_turn at u m ∷ []) ≡ map (active_kept j) (filter passes_now (notices j))
  more =
      all-active (j ++ push_turn at u m ∷ [])
      ∙ (ap (map (active_kept (j ++ push_turn at u m ∷ []))) (active-pushed j at u m n waits may queued)
      ∙ map-where (IsOwed j) (active_kept (j ++ push_turn at u m ∷ [])) (active_kept j) (same_cause_kept j (push_turn at u m) (λ b. refl)) (filter passes_now (notices j)) (AllByRecursion-filter (IsOwed j) passes_now (notices j) (notices-owed j)))

  -- it joins them where the turn makes an entry
  pub active-joined : (entry : Option Entry) (off : ℕ) → is_some entry ≡ (is_none (cause_of_bar j n) && switch_on j u Push)
      → all_active (j ++ push_turn at u m ∷ []) ≡ active_after (effect.Pushed u m entry off) (all_kept j) (all_active j)
  active-joined (Some e) off on =
      more
      ∙ (ap (map (active_kept j)) (filter_same passes_now (λ b. is_active j b || is_it b) (λ b. ap (λ x. is_active j b || (is_it b && x)) (sym on) ∙ alone (is_active j b) (is_it b)) (notices j))
      ∙ (sym (put-alone (map (active_kept j) (filter (λ b. is_active j b || is_it b) (notices j))) (in_order (λ b. is_active j b || is_it b)))
      ∙ (sym (put-apart (active_kept j) (is_active j) is_it (notices j) all_in_order (in_order (is_active j)))
      ∙ (λ i. put_all_in_order ((ap (map (active_kept j)) (filter_same_where (IsOwed j) (λ b. not (is_active j b) && is_it b) is_it apart (notices j) (notices-owed j)) ∙ sym taken) i) (sym (all-active j) i)))))
    where
      alone : (a b : Bool) → (a || (b && true)) ≡ (a || b)
      alone true b = refl
      alone false true = refl
      alone false false = refl
  active-joined None off on =
      more
      ∙ (ap (map (active_kept j)) (filter_same passes_now (is_active j) (λ b. ap (λ x. is_active j b || (is_it b && x)) (sym on) ∙ alone (is_active j b) (is_it b)) (notices j)) ∙ sym (all-active j))
    where
      alone : (a b : Bool) → (a || (b && false)) ≡ a
      alone true b = refl
      alone false true = refl
      alone false false = refl
