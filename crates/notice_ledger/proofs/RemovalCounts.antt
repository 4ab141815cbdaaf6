-- How many removals wait and how many were written, event by event.
use Rattle.std.proofs.Common.{◌≡◌, ℕ, zero, suc, ◌+◌, ◌≤◌, Bool, true, false, ◌&&◌, ◌||◌, ◌==◌, not, cond, List, [], ◌∷◌, ◌++◌, length, drop, refl, sym, ap, ◌∙◌, arith}
use Rattle.std.specs.Prelude.{Option, Some, None, filter, nat_lt, is_none, is_some, sum_by, count_by, if◌then◌else◌}
use Rattle.std.specs.Option.{option_map_or}
use Rattle.std.specs.List.{AllByRecursion, list_any}
use Rattle.std.proofs.Math.Bool.{and-false, and-true}
use Rattle.std.proofs.lemmas.Bool.{eq-eqb, lt-ltb}
use Rattle.std.proofs.lemmas.List.Sums.{sum_by-append, sum_by-cons}
use Rattle.chat_model.specs.declared.event.Stamped.{Stamped}
use Rattle.chat_model.specs.declared.event.Event.{Event}
use Rattle.chat_model.specs.declared.event.Event.TheVariants.{PushTurn}
use Rattle.chat_model.specs.declared.ids.UserId.{UserId}
use Rattle.chat_model.specs.declared.ids.MessageId.{MessageId}
use Rattle.chat_model.specs.declared.push_item.PushItem.TheVariants.{Remove}
use Rattle.chat_model.specs.declared.trigger.Way.{Way}
use Rattle.chat_model.specs.declared.trigger.Way.TheVariants.{Mail, Push}
use Rattle.notice_ledger.specs.Past.Journal.{occurrence}
use Rattle.notice_ledger.specs.Past.Owed.{Notice, is_of, same_way, notices, notice_to, owed_by, bar}
use Rattle.notice_ledger.specs.Past.Audit.{removals_waiting, removals_written}
use Rattle.notice_ledger.specs.Past.Lawful.{may_stand}
use Rattle.notice_ledger.specs.Past.Outbox.{outbox}
use Rattle.notice_ledger.specs.Past.Pushes.{handed_at, is_active, is_revoked, is_removal_waiting, is_removal_written, waiting_items, removes}
use Rattle.notice_ledger.specs.Conserved.{removals_in_item, removals_in_entry}
use Rattle.notice_ledger.proofs.ActiveAfter.{IsOwed, owed-placed, notices-owed, is_removal_of, left_removes, left-removed, removes-after, IsStanding, standing, unpushed-unhanded}
use Rattle.notice_ledger.proofs.Apart.{AllByRecursion-from_all}
use Rattle.notice_ledger.proofs.Appended.{notices-append}
use Rattle.notice_ledger.proofs.Parts.{any-counted, each-named}
use Rattle.notice_ledger.proofs.PushesWait.{PushesWait, first_item, is_push_revoked, one-counted, removal-counted, removal-revoked, turned_first}
use Rattle.notice_ledger.proofs.Revoked.{is_handed_now, is_revoked-append, is_revoked-new, revoked-barred, revokes_now}
use Rattle.notice_ledger.proofs.Same.{eqb-turned}
use Rattle.notice_ledger.proofs.Standing.{barring}
use Rattle.notice_ledger.proofs.Sums.{sum_by-filter, sum_by_same, sum_by_same_where, sum_by_none_where, sum_by_both_where, plus_none}
use Rattle.notice_ledger.proofs.Waiting.{IsOwedBy, owed_by-each}

-- the revoked pushes have a removal that waits or one that was written
pub removals-handed : (j : List Stamped) → removals_waiting j + removals_written j ≡ count_by (is_revoked j) (notices j)
unfolding removals_waiting removals_written
removals-handed j = sym (parted (notices j))
  where
    both : (r w : Bool) → ◌≡◌ {A = ℕ} (cond r 1 0) (cond (r && w) 1 0 + cond (r && not w) 1 0)
    both true true = refl
    both true false = refl
    both false w = refl

    four : (a b c d e f : ℕ) → a ≡ b + c → d ≡ e + f → a + d ≡ (b + e) + (c + f)
    four a b c d e f p q = omega arith

    parted : (ns : List Notice) → count_by (is_revoked j) ns ≡ count_by (is_removal_waiting j) ns + count_by (is_removal_written j) ns
    parted [] = refl
    parted (n ∷ ns) =
        sum_by-cons (λ n. cond (is_revoked j n) 1 0) n ns
        ∙ (four (cond (is_revoked j n) 1 0) (cond (is_removal_waiting j n) 1 0) (cond (is_removal_written j n) 1 0) (count_by (is_revoked j) ns) (count_by (is_removal_waiting j) ns) (count_by (is_removal_written j) ns)
        (both (is_revoked j n) (list_any (removes n.user n.number) (waiting_items j))) (parted ns)
        ∙ (λ i. sym (sum_by-cons (λ n. cond (is_removal_waiting j n) 1 0) n ns) i + sym (sum_by-cons (λ n. cond (is_removal_written j n) 1 0) n ns) i))

-- the removals that wait are those of the active pushes with a bar
pub removals_waiting-active : (j : List Stamped) → removals_waiting j ≡ count_by (λ n. is_some (bar j n)) (filter (is_active j) (notices j))
unfolding removals_waiting
removals_waiting-active j =
    sum_by_same (λ n. cond (is_removal_waiting j n) 1 0) (λ n. cond (is_active j n) (cond (is_some (bar j n)) 1 0) 0)
    (λ n. by (is_some (handed_at j n)) (is_some (bar j n)) (list_any (removes n.user n.number) (waiting_items j)) (is_revoked j n) (revoked-barred j n)) (notices j)
    ∙ sym (sum_by-filter (λ n. cond (is_some (bar j n)) 1 0) (is_active j) (notices j))
  where
    by : (h b w r : Bool) → r ≡ (h && b) → ◌≡◌ {A = ℕ} (cond (r && w) 1 0) (cond (h && not (r && not w)) (cond b 1 0) 0)
    by false b w r e = ap (λ t. cond (t && w) 1 0) e
    by true true true r e = (λ i. cond (e i && true) 1 0) ∙ (λ i. cond (not (sym e i && not true)) 1 0)
    by true true false r e = (λ i. cond (e i && false) 1 0) ∙ (λ i. cond (not (sym e i && not false)) 1 0)
    by true false w r e = (λ i. cond (e i && w) 1 0) ∙ (λ i. cond (not (sym e i && not w)) (cond false 1 0) 0)

-- ---- one more event

-- the event is the turn of an item that removes the push
abbrev pub is_removed_by : Event → Notice → Bool
is_removed_by e n = same_way n.way Push && is_removal_of n.user n.number e

module _ (j : List Stamped) (s : Stamped) (h : PushesWait j) (may : may_stand j s.at s.event ≡ true) where
  -- a notice that is no push was never handed over so
  unrevoked : (k : List Stamped) (n : Notice) → n.way ≡ Mail → is_revoked k n ≡ false
  unrevoked k n mail = revoked-barred k n ∙ ap (λ o. is_some o && is_some (bar k n)) (unpushed-unhanded k n mail)

  -- what an event owes counts for nothing
  old : (test : Notice → Bool) → ((n : Notice) → IsOwedBy (occurrence j s) n → test n ≡ false) → count_by test (notices (j ++ s ∷ [])) ≡ count_by test (notices j)
  old test none =
      ap (count_by test) (notices-append j s)
      ∙ (sum_by-append (λ n. cond (test n) 1 0) (notices j) (owed_by (occurrence j s))
      ∙ (ap (λ k. count_by test (notices j) + k) (sum_by_none_where (IsOwedBy (occurrence j s)) (λ n. cond (test n) 1 0) (λ n owed. ap (λ b. cond b 1 0) (none n owed)) (owed_by (occurrence j s)) (owed_by-each (occurrence j s)))
      ∙ sym (plus_none (count_by test (notices j)))))

  waits-parts : (handed r now revokes first left : Bool) → IsStanding handed r now revokes first left → ◌≡◌ {A = ℕ} (cond ((r || revokes) && (left || revokes)) 1 0 + cond first 1 0) (cond (r && (first || left)) 1 0 + cond revokes 1 0)
  waits-parts handed true now true first left is = let no : true ≡ false = is.once refl in absurd (cc)
  waits-parts handed true now false true true is = let no : true ≡ false = is.first_alone refl in absurd (cc)
  waits-parts handed true now false true false is = refl
  waits-parts handed true now false false true is = refl
  waits-parts handed true now false false false is = refl
  waits-parts handed false now revokes true left is = let no : false ≡ true = is.first_revoked refl in absurd (cc)
  waits-parts handed false now true false true is = refl
  waits-parts handed false now true false false is = refl
  waits-parts handed false now false false left is = refl

  written-parts : (handed r now revokes first left : Bool) → IsStanding handed r now revokes first left → ◌≡◌ {A = ℕ} (cond ((r || revokes) && not (left || revokes)) 1 0) (cond (r && not (first || left)) 1 0 + cond first 1 0)
  written-parts handed true now true first left is = let no : true ≡ false = is.once refl in absurd (cc)
  written-parts handed true now false true true is = let no : true ≡ false = is.first_alone refl in absurd (cc)
  written-parts handed true now false true false is = refl
  written-parts handed true now false false true is = refl
  written-parts handed true now false false false is = refl
  written-parts handed false now revokes true left is = let no : false ≡ true = is.first_revoked refl in absurd (cc)
  written-parts handed false now true false true is = refl
  written-parts handed false now true false false is = refl
  written-parts handed false now false false left is = refl

  -- a removal waits on unless the event is its turn, and joins those that wait where the event revokes the push
  waits-on : (n : Notice) → IsOwed j n → cond (is_removal_waiting (j ++ s ∷ []) n) 1 0 + cond (is_removed_by s.event n) 1 0 ≡ cond (is_removal_waiting j n) 1 0 + cond (revokes_now j s n) 1 0
  waits-on n owed = by n.way refl
    where
      by : (w : Way) → n.way ≡ w → cond (is_removal_waiting (j ++ s ∷ []) n) 1 0 + cond (is_removed_by s.event n) 1 0 ≡ cond (is_removal_waiting j n) 1 0 + cond (revokes_now j s n) 1 0
      by Mail e =
          (λ i. cond (unrevoked (j ++ s ∷ []) n e i && list_any (removes n.user n.number) (waiting_items (j ++ s ∷ []))) 1 0 + cond (same_way (e i) Push && is_removal_of n.user n.number s.event) 1 0)
          ∙ (λ i. cond (sym (unrevoked j n e) i && list_any (removes n.user n.number) (waiting_items j)) 1 0 + cond (is_some (sym (unpushed-unhanded j n e) i) && (is_none (bar j n) && is_some (barring j s n))) 1 0)
      by Push e =
          (λ i. cond (is_revoked-append j s n (owed-placed j n owed) i && removes-after j s n h may owed e i) 1 0 + cond (same_way (e i) Push && is_removal_of n.user n.number s.event) 1 0)
          ∙ (waits-parts (is_some (handed_at j n)) (is_revoked j n) (is_handed_now j s n) (revokes_now j s n) (is_removal_of n.user n.number s.event) (left_removes j s.event n.user n.number) (standing j s n h may owed e)
          ∙ ap (λ b. cond (is_revoked j n && b) 1 0 + cond (revokes_now j s n) 1 0) (sym (left-removed j s.at s.event n.user n.number may)))

  -- and it is written by its turn
  written-on : (n : Notice) → IsOwed j n → cond (is_removal_written (j ++ s ∷ []) n) 1 0 ≡ cond (is_removal_written j n) 1 0 + cond (is_removed_by s.event n) 1 0
  written-on n owed = by n.way refl
    where
      by : (w : Way) → n.way ≡ w → cond (is_removal_written (j ++ s ∷ []) n) 1 0 ≡ cond (is_removal_written j n) 1 0 + cond (is_removed_by s.event n) 1 0
      by Mail e =
          (λ i. cond (unrevoked (j ++ s ∷ []) n e i && not (list_any (removes n.user n.number) (waiting_items (j ++ s ∷ [])))) 1 0)
          ∙ (λ i. cond (sym (unrevoked j n e) i && not (list_any (removes n.user n.number) (waiting_items j))) 1 0 + cond (same_way (sym e i) Push && is_removal_of n.user n.number s.event) 1 0)
      by Push e =
          (λ i. cond (is_revoked-append j s n (owed-placed j n owed) i && not (removes-after j s n h may owed e i)) 1 0)
          ∙ (written-parts (is_some (handed_at j n)) (is_revoked j n) (is_handed_now j s n) (revokes_now j s n) (is_removal_of n.user n.number s.event) (left_removes j s.event n.user n.number) (standing j s n h may owed e)
          ∙ (λ i. cond (is_revoked j n && not (sym (left-removed j s.at s.event n.user n.number may) i)) 1 0 + cond (same_way (sym e i) Push && is_removal_of n.user n.number s.event) 1 0))

  four : (a b c d e f g k : ℕ) → a + b ≡ c + d → e + f ≡ g + k → (a + e) + (b + f) ≡ (c + g) + (d + k)
  four a b c d e f g k p q = omega arith

  -- the removals that wait after an event, with those whose turn it is, are those that waited and those of the pushes that it revokes
  pub removals_waiting-append : removals_waiting (j ++ s ∷ []) + count_by (is_removed_by s.event) (notices j) ≡ removals_waiting j + count_by (revokes_now j s) (notices j)
  unfolding removals_waiting
  removals_waiting-append =
      ap (λ k. k + count_by (is_removed_by s.event) (notices j)) (old (is_removal_waiting (j ++ s ∷ [])) (λ n owed. ap (λ r. r && list_any (removes n.user n.number) (waiting_items (j ++ s ∷ []))) (is_revoked-new j s n owed)))
      ∙ each (notices j) (notices-owed j)
    where
      each : (ns : List Notice) → AllByRecursion (IsOwed j) ns → count_by (is_removal_waiting (j ++ s ∷ [])) ns + count_by (is_removed_by s.event) ns ≡ count_by (is_removal_waiting j) ns + count_by (revokes_now j s) ns
      each [] owed = refl
      each (n ∷ ns) owed =
          (λ i. sum_by-cons (λ n. cond (is_removal_waiting (j ++ s ∷ []) n) 1 0) n ns i + sum_by-cons (λ n. cond (is_removed_by s.event n) 1 0) n ns i)
          ∙ (four (cond (is_removal_waiting (j ++ s ∷ []) n) 1 0) (cond (is_removed_by s.event n) 1 0) (cond (is_removal_waiting j n) 1 0) (cond (revokes_now j s n) 1 0)
          (count_by (is_removal_waiting (j ++ s ∷ [])) ns) (count_by (is_removed_by s.event) ns) (count_by (is_removal_waiting j) ns) (count_by (revokes_now j s) ns) (waits-on n owed.0) (each ns owed.1)
          ∙ (λ i. sym (sum_by-cons (λ n. cond (is_removal_waiting j n) 1 0) n ns) i + sym (sum_by-cons (λ n. cond (revokes_now j s n) 1 0) n ns) i))

  -- the removals that were written are those before the event and those whose turn it is
  pub removals_written-append : removals_written (j ++ s ∷ []) ≡ removals_written j + count_by (is_removed_by s.event) (notices j)
  unfolding removals_written
  removals_written-append =
      old (is_removal_written (j ++ s ∷ [])) (λ n owed. ap (λ r. r && not (list_any (removes n.user n.number) (waiting_items (j ++ s ∷ [])))) (is_revoked-new j s n owed))
      ∙ sum_by_both_where (IsOwed j) (λ n. cond (is_removal_written (j ++ s ∷ []) n) 1 0) (λ n. cond (is_removal_written j n) 1 0) (λ n. cond (is_removed_by s.event n) 1 0) written-on (notices j) (notices-owed j)

-- ---- the turn of a removal

sum-swapped : {X Y : Type 0} (f : X → Y → ℕ) (xs : List X) (ys : List Y) → sum_by (λ x. sum_by (f x) ys) xs ≡ sum_by (λ y. sum_by (λ x. f x y) xs) ys
sum-swapped f [] ys = sym (sum_by_none_where (λ _. Unit {0}) (λ y. 0) (λ y _. refl) ys (AllByRecursion-from_all (λ _. Unit {0}) (λ _. tt) ys))
sum-swapped f (x ∷ xs) ys =
    sum_by-cons (λ x. sum_by (f x) ys) x xs
    ∙ (ap (λ k. sum_by (f x) ys + k) (sum-swapped f xs ys)
    ∙ sym (sum_by_both_where (λ _. Unit {0}) (λ y. sum_by (λ x. f x y) (x ∷ xs)) (f x) (λ y. sum_by (λ x. f x y) xs) (λ y _. sum_by-cons (λ x. f x y) x xs) ys (AllByRecursion-from_all (λ _. Unit {0}) (λ _. tt) ys)))

-- each message of a removal stands once in it
module _ (j : List Stamped) (at : ℕ) (u : UserId) (ms : List MessageId) (h : PushesWait j) (may : may_stand j at (PushTurn (Remove u ms)) ≡ true) where
  first : waiting_items j ≡ Remove u ms ∷ drop 1 (waiting_items j)
  first = first_item (waiting_items j) (Remove u ms) (turned_first j at (Remove u ms) may)

  named-once : (m : MessageId) → count_by (λ k. k.0 == m.0) ms ≤ 1
  named-once m = by (is_push_revoked j u m) (removal-counted j u m h)
    where
      named : removals_in_item u m (Remove u ms) ≡ count_by (λ k. k.0 == m.0) ms
      named = ap (λ b. if b then count_by (λ k. k.0 == m.0) ms else 0) (eq-eqb u.0 u.0 refl)

      all : sum_by (removals_in_item u m) (waiting_items j) ≡ removals_in_item u m (Remove u ms) + sum_by (removals_in_item u m) (drop 1 (waiting_items j))
      all = ap (sum_by (removals_in_item u m)) first ∙ sum_by-cons (removals_in_item u m) (Remove u ms) (drop 1 (waiting_items j))

      by : (b : Bool) → sum_by (removals_in_item u m) (waiting_items j) + sum_by (removals_in_entry u m) (outbox j) ≡ cond b 1 0 → count_by (λ k. k.0 == m.0) ms ≤ 1
      by true e = omega (arith, e, all, named)
      by false e = omega (arith, e, all, named)

  removed-counted : (n : Notice) → cond (is_removed_by (PushTurn (Remove u ms)) n) 1 0 ≡ sum_by (λ k. cond (is_of u k Push n) 1 0) ms
  removed-counted n = by (same_way n.way Push) (u.0 == n.user.0) refl ∙ sum_by_same (λ k. cond ((u.0 == n.user.0 && k.0 == n.number.0) && same_way n.way Push) 1 0) (λ k. cond (is_of u k Push n) 1 0) (λ k i. cond ((eqb-turned u.0 n.user.0 i && eqb-turned k.0 n.number.0 i) && same_way n.way Push) 1 0) ms
    where
      none : (ks : List MessageId) (p : MessageId → Bool) → ((k : MessageId) → p k ≡ false) → 0 ≡ count_by p ks
      none ks p never = sym (sum_by_none_where (λ _. Unit {0}) (λ k. cond (p k) 1 0) (λ k _. ap (λ b. cond b 1 0) (never k)) ks (AllByRecursion-from_all (λ _. Unit {0}) (λ _. tt) ks))

      once : (c : ℕ) → c ≤ 1 → ◌≡◌ {A = ℕ} (cond (nat_lt 0 c) 1 0) c
      once zero e = refl
      once (suc c) e = ap (λ b. cond b 1 0) (lt-ltb 0 (suc c) (omega arith)) ∙ omega (arith, e)

      by : (push user : Bool) → (u.0 == n.user.0) ≡ user → ◌≡◌ {A = ℕ} (cond (push && (user && list_any (λ k. k.0 == n.number.0) ms)) 1 0) (sum_by (λ k. cond ((user && k.0 == n.number.0) && push) 1 0) ms)
      by false user e = none ms (λ k. (user && k.0 == n.number.0) && false) (λ k. and-false (user && k.0 == n.number.0))
      by true false e = none ms (λ k. false) (λ k. refl)
      by true true e =
          ap (λ b. cond b 1 0) (any-counted (λ k. k.0 == n.number.0) ms)
          ∙ (once (count_by (λ k. k.0 == n.number.0) ms) (named-once n.number)
          ∙ sum_by_same (λ k. cond (k.0 == n.number.0) 1 0) (λ k. cond ((true && k.0 == n.number.0) && true) 1 0) (λ k. ap (λ b. cond b 1 0) (sym (and-true (k.0 == n.number.0)))) ms)

  -- each of them is of one push
  one-each : (ks : List MessageId) → AllByRecursion (λ k. list_any (λ l. l.0 == k.0) ms ≡ true) ks → sum_by (λ k. count_by (is_of u k Push) (notices j)) ks ≡ length ks
  one-each [] there = refl
  one-each (k ∷ ks) there =
      sum_by-cons (λ k. count_by (is_of u k Push) (notices j)) k ks
      ∙ next (count_by (is_of u k Push) (notices j)) (sum_by (λ k. count_by (is_of u k Push) (notices j)) ks) (length ks) (one k there.0) (one-each ks there.1)
    where
      next : (a b c : ℕ) → a ≡ 1 → b ≡ c → a + b ≡ suc c
      next a b c p q = omega arith

      one : (k : MessageId) → list_any (λ l. l.0 == k.0) ms ≡ true → count_by (is_of u k Push) (notices j) ≡ 1
      one k it =
          sum_by_same (λ n. cond (is_of u k Push n) 1 0) (λ n. cond (is_of u k Push n && true) 1 0) (λ n. ap (λ b. cond b 1 0) (sym (and-true (is_of u k Push n)))) (notices j)
          ∙ (one-counted j (λ n. true) u k ∙ ap (λ b. cond b 1 0) (there_is (notice_to j u k Push) (removal-revoked j u ms (drop 1 (waiting_items j)) h first k it)))
        where
          there_is : (o : Option Notice) → option_map_or (is_revoked j) o false ≡ true → option_map_or (λ (n : Notice). true) o false ≡ true
          there_is None e = absurd (cc)
          there_is (Some n) e = refl

  -- the turn of a removal writes as many as it has messages
  pub removed-length : count_by (is_removed_by (PushTurn (Remove u ms))) (notices j) ≡ length ms
  removed-length =
      sum_by_same (λ n. cond (is_removed_by (PushTurn (Remove u ms)) n) 1 0) (λ n. sum_by (λ k. cond (is_of u k Push n) 1 0) ms) removed-counted (notices j)
      ∙ (sum-swapped (λ n k. cond (is_of u k Push n) 1 0) (notices j) ms ∙ one-each ms (each-named ms))

-- what the turn of a removal writes is active
pub removed-active : (j : List Stamped) (s : Stamped) → PushesWait j → may_stand j s.at s.event ≡ true → count_by (is_removed_by s.event) (notices j) ≡ count_by (is_removed_by s.event) (filter (is_active j) (notices j))
removed-active j s h may =
    sum_by_same_where (IsOwed j) (λ n. cond (is_removed_by s.event n) 1 0) (λ n. cond (is_active j n) (cond (is_removed_by s.event n) 1 0) 0) one (notices j) (notices-owed j)
    ∙ sym (sum_by-filter (λ n. cond (is_removed_by s.event n) 1 0) (is_active j) (notices j))
  where
    active : (handed r now revokes first left w : Bool) → IsStanding handed r now revokes first left → w ≡ (first || left) → ◌≡◌ {A = ℕ} (cond first 1 0) (cond (handed && not (r && not w)) (cond first 1 0) 0)
    active handed r now revokes false left w is e = none (handed && not (r && not w))
      where
        none : (b : Bool) → ◌≡◌ {A = ℕ} 0 (cond b 0 0)
        none true = refl
        none false = refl
    active true r now revokes true left w is e = ap (λ b. cond b 1 0) (sym (ap (λ t. not (r && not t)) e ∙ ap not (and-false r)))
    active false true now revokes true left w is e = let no : false ≡ true = is.revoked_handed refl in absurd (cc)
    active false false now revokes true left w is e = let no : false ≡ true = is.first_revoked refl in absurd (cc)

    one : (n : Notice) → IsOwed j n → ◌≡◌ {A = ℕ} (cond (is_removed_by s.event n) 1 0) (cond (is_active j n) (cond (is_removed_by s.event n) 1 0) 0)
    one n owed = by n.way refl
      where
        none : (b : Bool) → ◌≡◌ {A = ℕ} 0 (cond b 0 0)
        none true = refl
        none false = refl

        by : (w : Way) → n.way ≡ w → ◌≡◌ {A = ℕ} (cond (is_removed_by s.event n) 1 0) (cond (is_active j n) (cond (is_removed_by s.event n) 1 0) 0)
        by Mail e =
            (λ i. cond (same_way (e i) Push && is_removal_of n.user n.number s.event) 1 0)
            ∙ (none (is_active j n) ∙ (λ i. cond (is_active j n) (cond (same_way (sym e i) Push && is_removal_of n.user n.number s.event) 1 0) 0))
        by Push e =
            (λ i. cond (same_way (e i) Push && is_removal_of n.user n.number s.event) 1 0)
            ∙ (active (is_some (handed_at j n)) (is_revoked j n) (is_handed_now j s n) (revokes_now j s n) (is_removal_of n.user n.number s.event) (left_removes j s.event n.user n.number) (list_any (removes n.user n.number) (waiting_items j))
            (standing j s n h may owed e) (left-removed j s.at s.event n.user n.number may)
            ∙ (λ i. cond (is_active j n) (cond (same_way (sym e i) Push && is_removal_of n.user n.number s.event) 1 0) 0))

-- another event writes none
pub none-removed : (j : List Stamped) (e : Event) → ((u : UserId) (m : MessageId) → is_removal_of u m e ≡ false) → count_by (is_removed_by e) (notices j) ≡ 0
none-removed j e none =
    sum_by_none_where (IsOwed j) (λ n. cond (is_removed_by e n) 1 0) (λ n _. ap (λ b. cond (same_way n.way Push && b) 1 0) (none n.user n.number) ∙ ap (λ b. cond b 1 0) (and-false (same_way n.way Push))) (notices j) (notices-owed j)
