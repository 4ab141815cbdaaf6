-- The pushes that an event makes ready, as the tables keep them, are the items that it makes.
use Rattle.std.proofs.Common.{◌≡◌, ℕ, Bool, true, false, ◌&&◌, ◌||◌, ◌==◌, not, cond, List, [], ◌∷◌, ◌++◌, map, refl, sym, ap, ◌∙◌}
use Rattle.std.specs.Prelude.{filter}
use Rattle.std.specs.List.{AllByRecursion, flat_map, list_any}
use Rattle.std.proofs.Math.Bool.{and-true, and-false}
use Rattle.notice_ledger.proofs.Lists.{filter_same}
use Rattle.chat_model.specs.declared.event.Stamped.{Stamped}
use Rattle.chat_model.specs.declared.event.Event.TheVariants.{Restart, Absorbed}
use Rattle.chat_model.specs.declared.deal.Outcome.TheVariants.{Dealt, Missed}
use Rattle.chat_model.specs.declared.deal.UserVerdict.{UserVerdict}
use Rattle.chat_model.specs.declared.ids.DealNo.{DealNo}
use Rattle.chat_model.specs.declared.ids.MessageId.{MessageId}
use Rattle.chat_model.specs.declared.ids.UserId.{UserId}
use Rattle.chat_model.specs.declared.trigger.Way.{Way}
use Rattle.chat_model.specs.declared.trigger.Way.TheVariants.{Mail, Push}
use Rattle.chat_model.specs.Outcomes.{has_deal, gives_idle, gives_live}
use Rattle.notice_ledger.specs.Past.Owed.{Notice, notices, same_way, readies, account_of, is_pending}
use Rattle.notice_ledger.proofs.Queued.{is_queued, is_kept, kept, kept-each}
use Rattle.notice_ledger.specs.Past.Pushes.{notify, by_user}
use Rattle.notice_ledger.specs.Past.Values.{is_one_of}
use Rattle.notice_ledger.proofs.Apart.{Pairwise, Pairwise-filter, Differ, notices-apart}
use Rattle.notice_ledger.proofs.PushItems.{is_push_readied, sort_by, by_user-map, items_by-readied}
use Rattle.notice_ledger.proofs.Standing.{is_readying, is_barring}
use Rattle.book_tables.specs.declared.pushes.PushKey.{PushKey}
use Rattle.book_tables.specs.declared.tables.Tables.{Tables}
use Rattle.book_tables.specs.declared.tables.Waiting.{Waiting}
use Rattle.book_tables.specs.Notices.{rank, is_undecided, is_undecided_push, is_undecided_at, is_named, of_deal, goes_ready}
use Rattle.book_tables.specs.Prepared.{items_made}
use Rattle.book_tables.specs.Pushes.{push_of, item_of, has_push, is_readied_push, IsOnceEach}
use Rattle.book_tables.specs.Tables.{Holds, notice_kept}
use Rattle.book_tables.proofs.ActivePushes.{key_of_push}
use Rattle.book_tables.proofs.Kept.{all_kept, holds-kept, ready-kept, kept_unqueued, filter-kept}
use Rattle.book_tables.proofs.Moves.{swapped, readies-dealt, readies-missed}
use Rattle.book_tables.proofs.PushOrder.{push_before, AreApart, sorted_same}

-- an undecided push that the event makes ready
abbrev pub is_readied : Stamped → Waiting → Bool
is_readied s w = is_undecided_push w && readies w.user w.deal w.online s.event

pub push_way : (way : Way) → (rank way == 1) ≡ same_way way Push
push_way Mail = refl
push_way Push = refl

-- ---- what the definitions make ready

module _ (j : List Stamped) (s : Stamped) where
  readied-kept : (n : Notice) → is_kept j n ≡ true → is_readied s (notice_kept j n) ≡ is_push_readied j s n
  readied-kept n h =
      (λ i. (push_way n.way i && not (ready-kept j n h i)) && is_readying s n)
      ∙ grouped (same_way n.way Push) (is_queued j n) (is_pending (account_of j n)) (is_readying s n) (kept_unqueued j n h)
    where
      grouped : (a q p r : Bool) → (q ≡ false → p ≡ true) → ((a && not q) && r) ≡ (a && (p && (not q && r)))
      grouped true true p r pending = sym (and-false p)
      grouped true false p r pending = ap (λ b. b && r) (sym (pending refl))
      grouped false q p r pending = refl

  -- the pushes of the notices that the event makes ready
  abbrev readied_keys : List PushKey
  readied_keys = map key_of_push (filter (is_push_readied j s) (kept j))

  kept_keys : map push_of (filter (is_readied s) (all_kept j)) ≡ readied_keys
  kept_keys = ap (map push_of) (filter-kept (is_readied s) (is_push_readied j s) j readied-kept (kept j) (kept-each j)) ∙ each (filter (is_push_readied j s) (kept j))
    where
      each : (ns : List Notice) → map push_of (map (notice_kept j) ns) ≡ map key_of_push ns
      each [] = refl
      each (n ∷ ns) = ap (λ ps. key_of_push n ∷ ps) (each ns)

  -- two pushes that differ are of another user or message
  other_push : (a b : Notice) → Differ a b → is_push_readied j s a ≡ true → is_push_readied j s b ≡ true → (b.user.0 == a.user.0 && b.number.0 == a.number.0) ≡ false
  other_push a b d readied_a readied_b = by a.way b.way d (first (same_way a.way Push) (is_pending (account_of j a) && (not (is_queued j a) && is_readying s a)) readied_a) (first (same_way b.way Push) (is_pending (account_of j b) && (not (is_queued j b) && is_readying s b)) readied_b)
    where
      first : (x y : Bool) → (x && y) ≡ true → x ≡ true
      first true y h = refl
      first false y h = absurd (cc)

      by : (v w : Way) → (b.user.0 == a.user.0 && b.number.0 == a.number.0 && same_way w v) ≡ false → same_way v Push ≡ true → same_way w Push ≡ true → (b.user.0 == a.user.0 && b.number.0 == a.number.0) ≡ false
      by Push Push d x y = sym (and-true (b.user.0 == a.user.0 && b.number.0 == a.number.0)) ∙ d
      by Mail w d x y = absurd (cc)
      by Push Mail d x y = absurd (cc)

  keys-apart : (ns : List Notice) → Pairwise Differ ns → AreApart (map key_of_push (filter (is_push_readied j s) ns))
  keys-apart [] p = tt
  keys-apart (n ∷ ns) p = by (is_push_readied j s n) refl (keys-apart ns p.1)
    where
      none : is_push_readied j s n ≡ true → (ms : List Notice) → AllByRecursion (Differ n) ms → has_push (map key_of_push (filter (is_push_readied j s) ms)) n.user n.number ≡ false
      none e [] all = refl
      none e (m ∷ ms) all = one (is_push_readied j s m) refl (none e ms all.1)
        where
          one : (b : Bool) → is_push_readied j s m ≡ b → has_push (map key_of_push (filter (is_push_readied j s) ms)) n.user n.number ≡ false
              → has_push (map key_of_push (cond b (m ∷ filter (is_push_readied j s) ms) (filter (is_push_readied j s) ms))) n.user n.number ≡ false
          one true f rest = (λ i. other_push n m all.0 e f i || rest i)
          one false f rest = rest

      by : (b : Bool) → is_push_readied j s n ≡ b → AreApart (map key_of_push (filter (is_push_readied j s) ns)) → AreApart (map key_of_push (cond b (n ∷ filter (is_push_readied j s) ns) (filter (is_push_readied j s) ns)))
      by true e rest = (none e ns p.0, rest)
      by false e rest = rest

  -- the items of an event that bars nothing are those of these pushes, sorted
  items-sorted : ((n : Notice) → is_barring s n ≡ false) → items_made j s ≡ map item_of (sort_by push_before readied_keys)
  items-sorted never =
      items_by-readied j s never
      ∙ (each (by_user (filter (is_push_readied j s) (kept j))) ∙ ap (map item_of) (by_user-map key_of_push push_before (λ a b. refl) (filter (is_push_readied j s) (kept j))))
    where
      each : (ns : List Notice) → map notify ns ≡ map item_of (map key_of_push ns)
      each [] = refl
      each (n ∷ ns) = ap (λ is. notify n ∷ is) (each ns)

-- what is kept is of different users, messages or ways
kept-apart : (j : List Stamped) → Pairwise Differ (kept j)
unfolding kept
kept-apart j = Pairwise-filter Differ (is_kept j) (notices j) (notices-apart j)

-- ---- what the tables make ready

module _ (t : Tables) (past : List Stamped) (holds : Holds t past) where
  -- pushes by user, then message, once each, where they have what the event makes ready
  pub items-made : (s : Stamped) → ((n : Notice) → is_barring s n ≡ false) → (gathered ps : List PushKey) → IsOnceEach gathered ps → ((u : UserId) (m : MessageId) → has_push gathered u m ≡ has_push (map push_of (filter (is_readied s) t.waiting.items)) u m) → map item_of ps ≡ items_made past s
  items-made s never gathered ps once same =
      ap (map item_of) (sorted_same (readied_keys past s) ps once.order (keys-apart past s (kept past) (kept-apart past))
      (λ u m. once.same u m ∙ (same u m ∙ ap (λ (qs : List PushKey). has_push qs u m) (ap (λ (ws : List Waiting). map push_of (filter (is_readied s) ws)) (holds-kept t past holds) ∙ kept_keys past s))))
      ∙ sym (items-sorted past s never)

  pub items-start : (at : ℕ) (gathered ps : List PushKey) → IsOnceEach gathered ps → gathered ≡ map push_of (filter is_undecided_push t.waiting.items) → map item_of ps ≡ items_made past (record { at = at; event = Restart })
  items-start at gathered ps once are =
      items-made (record { at = at; event = Restart }) (λ n. refl) gathered ps once
      (λ u m. ap (λ (qs : List PushKey). has_push qs u m) (are ∙ ap (map push_of) (filter_same is_undecided_push (is_readied (record { at = at; event = Restart })) (λ w. sym (and-true (is_undecided_push w))) t.waiting.items)))

  pub items-dealt : (at : ℕ) (k : DealNo) (verdicts : List UserVerdict) (idle live : List UserId) → ((u : UserId) → is_one_of idle u ≡ gives_idle verdicts u) → ((u : UserId) → is_one_of live u ≡ gives_live verdicts u)
      → (gathered ps : List PushKey) → IsOnceEach gathered ps → gathered ≡ map push_of (filter (λ w. of_deal k w && is_readied_push idle live w) t.waiting.items) → map item_of ps ≡ items_made past (record { at = at; event = Absorbed (Dealt k verdicts) })
  items-dealt at k verdicts idle live are_idle are_live gathered ps once are =
      let s : Stamped = record { at = at; event = Absorbed (Dealt k verdicts) } in
      items-made s (λ n. refl) gathered ps once
      (λ u m. ap (λ (qs : List PushKey). has_push qs u m) (are ∙ ap (map push_of) (filter_same (λ w. of_deal k w && is_readied_push idle live w) (is_readied s)
      (λ w. turned (of_deal k w) (is_undecided_push w) (goes_ready idle live w) ∙ ap (λ b. is_undecided_push w && b) (sym (readies-dealt k verdicts idle live are_idle are_live w))) t.waiting.items)))
    where
      turned : (a b c : Bool) → (a && (b && c)) ≡ (b && (a && c))
      turned true true c = refl
      turned true false c = refl
      turned false true c = refl
      turned false false c = refl

-- ---- what is missed

module _ (u : UserId) (m : MessageId) where
  -- the notice is of this user and message
  abbrev is_this : Waiting → Bool
  is_this w = w.user.0 == u.0 && w.message.0 == m.0

  has-filter : (p : Waiting → Bool) (ws : List Waiting) → has_push (map push_of (filter p ws)) u m ≡ list_any (λ w. p w && is_this w) ws
  has-filter p [] = refl
  has-filter p (w ∷ ws) = by (p w) (has-filter p ws)
    where
      by : (b : Bool) → has_push (map push_of (filter p ws)) u m ≡ list_any (λ w. p w && is_this w) ws → has_push (map push_of (cond b (w ∷ filter p ws) (filter p ws))) u m ≡ ((b && is_this w) || list_any (λ w. p w && is_this w) ws)
      by true e = ap (λ b. is_this w || b) e
      by false e = e

  has-append : (ps qs : List PushKey) → has_push (ps ++ qs) u m ≡ (has_push ps u m || has_push qs u m)
  has-append [] qs = refl
  has-append (p ∷ ps) qs = ap (λ b. (p.user.0 == u.0 && p.message.0 == m.0) || b) (has-append ps qs) ∙ grouped (p.user.0 == u.0 && p.message.0 == m.0) (has_push ps u m) (has_push qs u m)
    where
      grouped : (a b c : Bool) → (a || (b || c)) ≡ ((a || b) || c)
      grouped true b c = refl
      grouped false b c = refl

  any-either : (p q r : Waiting → Bool) → ((w : Waiting) → (p w || q w) ≡ r w) → (ws : List Waiting) → (list_any p ws || list_any q ws) ≡ list_any r ws
  any-either p q r same [] = refl
  any-either p q r same (w ∷ ws) = mixed (p w) (q w) (list_any p ws) (list_any q ws) ∙ (λ i. same w i || any-either p q r same ws i)
    where
      mixed : (a b c d : Bool) → ((a || c) || (b || d)) ≡ ((a || b) || (c || d))
      mixed true b c d = refl
      mixed false true true d = refl
      mixed false true false d = refl
      mixed false false c d = refl

  -- an undecided push to a user of one of these deals
  abbrev is_missed : UserId → List DealNo → Waiting → Bool
  is_missed v deals w = is_undecided_push w && is_named v deals w

  nothing-missed : (v : UserId) (ws : List Waiting) → list_any (λ w. is_missed v [] w && is_this w) ws ≡ false
  nothing-missed v [] = refl
  nothing-missed v (w ∷ ws) = (λ i. (ap (λ b. b && is_this w) (ap (λ b. is_undecided_push w && b) (and-false (w.user.0 == v.0)) ∙ and-false (is_undecided_push w))) i || nothing-missed v ws i)

  pub has-missed : (v : UserId) (deals : List DealNo) (ws : List Waiting) → has_push (flat_map (λ k. map push_of (filter (is_undecided_at k v Push) ws)) deals) u m ≡ has_push (map push_of (filter (is_missed v deals) ws)) u m
  has-missed v [] ws = sym (has-filter (is_missed v []) ws ∙ nothing-missed v ws)
  has-missed v (k ∷ deals) ws =
      let here = map push_of (filter (is_undecided_at k v Push) ws) in let later = flat_map (λ k. map push_of (filter (is_undecided_at k v Push) ws)) deals in
      has-append here later
      ∙ ((λ i. has-filter (is_undecided_at k v Push) ws i || (has-missed v deals ws ∙ has-filter (is_missed v deals) ws) i)
      ∙ (any-either (λ w. is_undecided_at k v Push w && is_this w) (λ w. is_missed v deals w && is_this w) (λ w. is_missed v (k ∷ deals) w && is_this w)
      (λ w. by (w.deal.0 == k.0) (w.user.0 == v.0) (rank w.way == 1) (is_undecided w) (has_deal deals w.deal) (is_this w)
      ∙ ap (λ b. ((rank w.way == 1 && is_undecided w) && (w.user.0 == v.0 && (b || has_deal deals w.deal))) && is_this w) (swapped w.deal.0 k.0)) ws
      ∙ sym (has-filter (is_missed v (k ∷ deals)) ws)))
    where
      by : (q a r d more this : Bool) → ((((q && (a && r)) && d) && this) || (((r && d) && (a && more)) && this)) ≡ (((r && d) && (a && (q || more))) && this)
      by true true true true more true = refl
      by true true true true true false = refl
      by true true true true false false = refl
      by true true true false more this = refl
      by true true false d more this = refl
      by true false true true more this = refl
      by true false true false more this = refl
      by true false false d more this = refl
      by false a r d more this = refl

module _ (t : Tables) (past : List Stamped) (holds : Holds t past) where
  pub items-missed : (at : ℕ) (v : UserId) (deals : List DealNo) (gathered ps : List PushKey) → IsOnceEach gathered ps
      → gathered ≡ flat_map (λ k. map push_of (filter (is_undecided_at k v Push) t.waiting.items)) deals → map item_of ps ≡ items_made past (record { at = at; event = Absorbed (Missed v deals) })
  items-missed at v deals gathered ps once are =
      let s : Stamped = record { at = at; event = Absorbed (Missed v deals) } in
      items-made t past holds s (λ n. refl) gathered ps once
      (λ u m. ap (λ (qs : List PushKey). has_push qs u m) are
      ∙ (has-missed u m v deals t.waiting.items
      ∙ ap (λ (qs : List PushKey). has_push qs u m) (ap (map push_of) (filter_same (λ w. is_undecided_push w && is_named v deals w) (is_readied s) (λ w. ap (λ b. is_undecided_push w && b) (sym (readies-missed v deals w))) t.waiting.items))))
