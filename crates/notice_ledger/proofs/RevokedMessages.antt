-- What a read and a deletion revoke: the messages of a user whose push is active and has no bar.
use Rattle.std.proofs.Common.{◌≡◌, ℕ, zero, suc, ◌+◌, ◌<◌, ◌≤◌, Bool, true, false, ◌&&◌, ◌==◌, not, cond, List, [], ◌∷◌, ◌++◌, length, map, refl, sym, ap, ◌∙◌, arith, ⊎_elim}
use Rattle.std.specs.Prelude.{Option, Some, None, filter, is_none, is_some, if◌then◌else◌}
use Rattle.std.specs.Option.{option_map_or}
use Rattle.std.specs.List.{AllByRecursion, flat_map, list_any, range_with_len}
use Rattle.std.proofs.Math.Bool.{and-true, and-false, or-false}
use Rattle.std.proofs.lemmas.Bool.{and_parts, eq-eqb, ne_eqb, cases_eq, cases_lt}
use Rattle.std.proofs.lemmas.List.{append-nil}
use Rattle.chat_model.specs.Ascending.{is_ascending_by, ascending_once_by}
use Rattle.chat_model.specs.declared.event.Stamped.{Stamped}
use Rattle.chat_model.specs.declared.event.Event.TheVariants.{Asked}
use Rattle.chat_model.specs.declared.ids.UserId.{UserId}
use Rattle.chat_model.specs.declared.ids.MessageId.{MessageId}
use Rattle.chat_model.specs.declared.push_item.PushItem.{PushItem}
use Rattle.chat_model.specs.declared.request.Request.TheVariants.{Delete, Read}
use Rattle.chat_model.specs.declared.trigger.Way.TheVariants.{Push}
use Rattle.revocation.specs.Removals.{removals_of}
use Rattle.notice_ledger.specs.Past.Journal.{Occurrence}
use Rattle.notice_ledger.specs.Past.Values.{people, users}
use Rattle.notice_ledger.specs.Past.Owed.{Notice, is_of, notices, notice_to, bar}
use Rattle.notice_ledger.specs.Past.Pushes.{handed_at, is_revoked, is_active, removes, waiting_items}
use Rattle.notice_ledger.proofs.Apart.{AllByRecursion-map, notices-apart}
use Rattle.notice_ledger.proofs.FirstDue.{IsWithin, notices-within}
use Rattle.notice_ledger.proofs.Found.{find-passes, of_parts}
use Rattle.notice_ledger.proofs.Lists.{AllByRecursion-weaker, filter-passed, filter_none, filter_same_where}
use Rattle.notice_ledger.proofs.Parts.{ascending_once-among, each-named}
use Rattle.notice_ledger.proofs.PushesWait.{one-counted}
use Rattle.notice_ledger.proofs.Revoked.{flat_map_same, is_revoked_now, messages_revoked, one_push, removals_added, revoked-barred, revokes_now}
use Rattle.notice_ledger.proofs.Same.{eqb-turned, same_message, same_user}
use Rattle.notice_ledger.proofs.Standing.{barring-is, is_barring}

-- the push of the user's message is active and has no bar
abbrev pub is_push_unrevoked : List Stamped → UserId → MessageId → Bool
is_push_unrevoked j u m = option_map_or (λ n. is_active j n && is_none (bar j n)) (notice_to j u m Push) false

-- with no bar it is active where it was handed over
pub active-unbarred : (j : List Stamped) (n : Notice) → (is_active j n && is_none (bar j n)) ≡ (is_some (handed_at j n) && is_none (bar j n))
active-unbarred j n = by (is_some (handed_at j n)) (bar j n) (is_revoked j n) (list_any (removes n.user n.number) (waiting_items j)) (revoked-barred j n)
  where
    by : (h : Bool) (b : Option Occurrence) (r w : Bool) → r ≡ (h && is_some b) → ((h && not (r && not w)) && is_none b) ≡ (h && is_none b)
    by false b r w e = refl
    by true (Some x) r w e = and-false (not (r && not w))
    by true None r w e = ap (λ t. not (t && not w) && true) e

-- an event revokes the pushes that are active, have no bar and that it bars
pub revokes-active : (j : List Stamped) (s : Stamped) (n : Notice) → revokes_now j s n ≡ ((is_active j n && is_none (bar j n)) && is_barring s n)
revokes-active j s n = ap (λ b. is_some (handed_at j n) && (is_none (bar j n) && b)) (barring-is j s n) ∙ (grouped (is_some (handed_at j n)) (is_none (bar j n)) (is_barring s n) ∙ ap (λ b. b && is_barring s n) (sym (active-unbarred j n)))
  where
    grouped : (a b c : Bool) → (a && (b && c)) ≡ ((a && b) && c)
    grouped true b c = refl
    grouped false b c = refl

-- ---- the messages that an event revokes for a user, where these are among some that ascend and that the event bars for the user

module _ (j : List Stamped) (s : Stamped) (u : UserId) (ms : List MessageId) (ascends : is_ascending_by (λ m. m.0) ms ≡ true)
    (all : (n : Notice) → n.user ≡ u → is_barring s n ≡ list_any (λ k. k.0 == n.number.0) ms) where
  revoked-among : AllByRecursion (λ m. list_any (λ k. k.0 == m.0) ms ≡ true) (map (λ n. n.number) (filter (is_revoked_now j s u) (notices j)))
  revoked-among =
      AllByRecursion-map (λ m. list_any (λ k. k.0 == m.0) ms ≡ true) (λ n. n.number) (filter (is_revoked_now j s u) (notices j))
      (AllByRecursion-weaker (λ n. is_revoked_now j s u n ≡ true) (λ n. list_any (λ k. k.0 == n.number.0) ms ≡ true) (λ n now.
      let parts = and_parts (n.user.0 == u.0) (revokes_now j s n) now in
      sym (all n (same_user n.user u parts.0)) ∙ (and_parts (is_active j n && is_none (bar j n)) (is_barring s n) (sym (revokes-active j s n) ∙ parts.1)).1)
      (filter (is_revoked_now j s u) (notices j)) (filter-passed (is_revoked_now j s u) (notices j)))

  one_message : (m : MessageId) → list_any (λ k. k.0 == m.0) ms ≡ true → list_any (λ k. k.0 == m.0) (map (λ n. n.number) (filter (is_revoked_now j s u) (notices j))) ≡ is_push_unrevoked j u m
  one_message m there =
      same_count (list_any (λ k. k.0 == m.0) (map (λ n. n.number) (filter (is_revoked_now j s u) (notices j)))) (option_map_or (is_revoked_now j s u) (notice_to j u m Push) false)
      (one_push j s u m (notices j) (notices-apart j) ∙ one-counted j (is_revoked_now j s u) u m)
      ∙ by (notice_to j u m Push) refl
    where
      same_count : (a b : Bool) → ◌≡◌ {A = ℕ} (cond a 1 0) (cond b 1 0) → a ≡ b
      same_count true true e = refl
      same_count false false e = refl
      same_count true false e = absurd (omega (arith, e))
      same_count false true e = absurd (omega (arith, e))

      by : (o : Option Notice) → notice_to j u m Push ≡ o → option_map_or (is_revoked_now j s u) o false ≡ option_map_or (λ n. is_active j n && is_none (bar j n)) o false
      by None e = refl
      by (Some n) e =
          let is = of_parts u m Push n (find-passes (is_of u m Push) (notices j) n e) in
          let barred : is_barring s n ≡ true = all n is.user ∙ (ap (λ (x : MessageId). list_any (λ k. k.0 == x.0) ms) is.number ∙ there) in
          (λ i. eq-eqb n.user.0 u.0 (ap (λ (x : UserId). x.0) is.user) i && revokes-active j s n i)
          ∙ (ap (λ b. (is_active j n && is_none (bar j n)) && b) barred ∙ and-true (is_active j n && is_none (bar j n)))

  pub messages_revoked-among : messages_revoked j s u ≡ filter (is_push_unrevoked j u) ms
  messages_revoked-among =
      ascending_once-among (λ m. m.0) (λ m n same. same_message m n (eq-eqb m.0 n.0 same)) (map (λ n. n.number) (filter (is_revoked_now j s u) (notices j))) ms ascends revoked-among
      ∙ filter_same_where (λ m. list_any (λ k. k.0 == m.0) ms ≡ true) (λ m. list_any (λ k. k.0 == m.0) (map (λ n. n.number) (filter (is_revoked_now j s u) (notices j)))) (is_push_unrevoked j u) one_message ms (each-named ms)

-- ---- a deletion

-- it revokes the message for each user whose push of it is active and has no bar
pub messages_deleted : (j : List Stamped) (at : ℕ) (v : UserId) (m : MessageId) (u : UserId) → messages_revoked j (record { at = at; event = Asked (Delete v m) }) u ≡ filter (is_push_unrevoked j u) (m ∷ [])
messages_deleted j at v m u = messages_revoked-among j (record { at = at; event = Asked (Delete v m) }) u (m ∷ []) refl (λ n _. sym (or-false (m.0 == n.number.0)))

pub removals_deleted : (j : List Stamped) (at : ℕ) (v : UserId) (m : MessageId) → removals_added j (record { at = at; event = Asked (Delete v m) }) ≡ flat_map (λ u. removals_of u (filter (is_push_unrevoked j u) (m ∷ []))) (users j)
removals_deleted j at v m =
    flat_map_same (λ u. removals_of u (messages_revoked j (record { at = at; event = Asked (Delete v m) }) u)) (λ u. removals_of u (filter (is_push_unrevoked j u) (m ∷ []))) (λ u. ap (removals_of u) (messages_deleted j at v m u)) (users j)

-- ---- a read

module _ (j : List Stamped) (at : ℕ) (u : UserId) (ms : List MessageId) where
  abbrev pub reading : Stamped
  reading = record { at = at; event = Asked (Read u ms) }

  -- it revokes those of its messages whose push to the user is active and has no bar
  pub messages_read : is_ascending_by (λ m. m.0) ms ≡ true → messages_revoked j reading u ≡ filter (is_push_unrevoked j u) ms
  messages_read ascends =
      messages_revoked-among j (record { at = at; event = Asked (Read u ms) }) u ms ascends (λ n is.
      or-false (u.0 == n.user.0 && list_any (λ k. k.0 == n.number.0) ms) ∙ ap (λ b. b && list_any (λ k. k.0 == n.number.0) ms) (eq-eqb u.0 n.user.0 (ap (λ (x : UserId). x.0) (sym is))))

  -- and nothing of another user
  messages_unread : (v : UserId) → (v.0 == u.0) ≡ false → messages_revoked j reading v ≡ []
  messages_unread v other =
      messages_revoked-among j (record { at = at; event = Asked (Read u ms) }) v [] refl (λ n is.
      or-false (u.0 == n.user.0 && list_any (λ k. k.0 == n.number.0) ms)
      ∙ ap (λ b. b && list_any (λ k. k.0 == n.number.0) ms) (ap (λ (x : UserId). u.0 == x.0) is ∙ (eqb-turned u.0 v.0 ∙ other)))

  -- a user who isn't there has none
  nobody : ((n : Notice) → IsWithin (length (people j)) n.user → (n.user.0 == u.0) ≡ false) → messages_revoked j reading u ≡ []
  nobody other =
      ap (λ ns. ascending_once_by (λ m. m.0) (map (λ n. n.number) ns))
      (filter_same_where (λ n. IsWithin (length (people j)) n.user) (is_revoked_now j (record { at = at; event = Asked (Read u ms) }) u) (λ n. false)
      (λ n within. ap (λ b. b && revokes_now j (record { at = at; event = Asked (Read u ms) }) n) (other n within)) (notices j) (notices-within j)
      ∙ filter_none (λ n. false) (λ n. refl) (notices j))

  its : List PushItem
  its = removals_of u (messages_revoked j reading u)

  one_user : (v : UserId) (b : Bool) → (v.0 == u.0) ≡ b → removals_of v (messages_revoked j reading v) ≡ (if b then its else [])
  unfolding its
  one_user v true e = ap (λ (x : UserId). removals_of x (messages_revoked j reading x)) (same_user v u e)
  one_user v false e = ap (removals_of v) (messages_unread v e)

  -- of a stretch of numbers one is the user's
  before : (is : List PushItem) (start len : ℕ) → u.0 < start → flat_map (λ (v : UserId). if v.0 == u.0 then is else []) (map (λ n. let v : UserId = record { 0 = n } in v) (range_with_len start len)) ≡ []
  before is start zero low = refl
  before is start (suc len) low = (λ i. (if ne_eqb start u.0 (λ e. omega (arith, e, low)) i then is else []) ++ before is (start + 1) len (omega (arith, low)) i)

  among : (is : List PushItem) (start len : ℕ) → start ≤ u.0 → u.0 < start + len → flat_map (λ (v : UserId). if v.0 == u.0 then is else []) (map (λ n. let v : UserId = record { 0 = n } in v) (range_with_len start len)) ≡ is
  among is start zero low high = absurd (omega (arith, low, high))
  among is start (suc len) low high =
      ⊎_elim (λ same. (λ i. (if eq-eqb start u.0 same i then is else []) ++ before is (start + 1) len (omega (arith, same)) i) ∙ append-nil is)
      (λ other. (λ i. (if ne_eqb start u.0 other i then is else []) ++ among is (start + 1) len (omega (arith, low, other)) (omega (arith, high)) i))
      (cases_eq start u.0)

  nothing : (us : List UserId) → flat_map (λ (v : UserId). if v.0 == u.0 then (let none : List PushItem = [] in none) else []) us ≡ []
  nothing [] = refl
  nothing (v ∷ us) = (λ i. empty (v.0 == u.0) i ++ nothing us i)
    where
      empty : (b : Bool) → (if b then (let none : List PushItem = [] in none) else []) ≡ []
      empty true = refl
      empty false = refl

  absent : ((n : Notice) → IsWithin (length (people j)) n.user → (n.user.0 == u.0) ≡ false) → flat_map (λ (v : UserId). if v.0 == u.0 then its else []) (users j) ≡ its
  unfolding its
  absent other =
      let none : removals_of u (messages_revoked j reading u) ≡ [] = ap (removals_of u) (nobody other) in
      ap (λ (is : List PushItem). flat_map (λ (v : UserId). if v.0 == u.0 then is else []) (users j)) none ∙ (nothing (users j) ∙ sym none)

  of_user : flat_map (λ (v : UserId). if v.0 == u.0 then its else []) (users j) ≡ its
  of_user =
      ⊎_elim (λ low. absent (λ n within. ne_eqb n.user.0 u.0 (λ e. omega (arith, within.0, e, low))))
      (λ from. ⊎_elim (λ high. among its 1 (length (people j)) from (omega (arith, high))) (λ high. absent (λ n within. ne_eqb n.user.0 u.0 (λ e. omega (arith, within.1, e, high)))) (cases_lt u.0 (length (people j) + 1)))
      (cases_lt u.0 1)

  pub removals_read : is_ascending_by (λ m. m.0) ms ≡ true → removals_added j (record { at = at; event = Asked (Read u ms) }) ≡ removals_of u (filter (is_push_unrevoked j u) ms)
  unfolding its
  removals_read ascends =
      flat_map_same (λ v. removals_of v (messages_revoked j reading v)) (λ v. if v.0 == u.0 then its else []) (λ v. one_user v (v.0 == u.0) refl) (users j)
      ∙ (of_user ∙ ap (removals_of u) (messages_read ascends))
