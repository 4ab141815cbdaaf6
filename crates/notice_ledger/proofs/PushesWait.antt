-- What waits after lawful events: an item of each push notice that is queued, once, and of each revoked push a removal, which waits or
-- was written to the outbox. So a push turn of lawful events is that of a queued notice or of a removal of revoked pushes.
use Rattle.std.proofs.Common.{◌≡◌, ℕ, ◌+◌, ◌-◌, ◌<◌, ◌≤◌, Bool, true, false, ◌&&◌, ◌||◌, ◌==◌, not, cond, List, [], ◌∷◌, ◌++◌, length, map, drop, refl, sym, ap, ◌∙◌, subst, arith, length-append}
use Rattle.std.specs.Prelude.{Option, Some, None, filter, nat_le, nat_lt, slice_get, sum_by, count_by, if◌then◌else◌, ◌↔◌}
use Rattle.std.specs.Option.{option_map_or}
use Rattle.std.specs.List.{list_any}
use Rattle.std.proofs.Math.Bool.{and-false}
use Rattle.std.proofs.lemmas.Bool.{and_parts, and_from, eq-eqb, le-ltb, ltb-true}
use Rattle.std.proofs.lemmas.List.{length-drop}
use Rattle.std.proofs.lemmas.List.Sums.{sum_by-append, sum_by-cons}
use Rattle.chat_model.specs.declared.entry.Entry.TheVariants as entry
use Rattle.chat_model.specs.declared.event.Stamped.{Stamped}
use Rattle.chat_model.specs.declared.event.Event.{Event}
use Rattle.chat_model.specs.declared.event.Event.TheVariants.{MailTurn, PushTurn}
use Rattle.chat_model.specs.declared.ids.UserId.{UserId}
use Rattle.chat_model.specs.declared.ids.MessageId.{MessageId}
use Rattle.chat_model.specs.declared.push_item.PushItem.{PushItem}
use Rattle.chat_model.specs.declared.push_item.PushItem.TheVariants.{Notify, Remove}
use Rattle.chat_model.specs.declared.trigger.Way.{Way}
use Rattle.chat_model.specs.declared.trigger.Way.TheVariants.{Mail, Push}
use Rattle.mail_batches.specs.Entries.{entries_of}
use Rattle.mail_batches.proofs.EntrySums.{entries-sum}
use Rattle.revocation.specs.Removals.{in_parts, most_messages, removals_of}
use Rattle.notice_ledger.specs.Past.Journal.{occurrence, last_stamp}
use Rattle.notice_ledger.specs.Past.Values.{user_name, users}
use Rattle.notice_ledger.specs.Past.Owed.{Notice, is_of, same_way, is_turn_of, is_push_turn_of, owed_by, notices, notice_to, switch_on, account_of, is_pending}
use Rattle.notice_ledger.specs.Past.Lawful.{may_stand, is_lawful_after}
use Rattle.notice_ledger.specs.Past.Outbox.{ready_item, mailed, mail_entries, is_pushed, push_entry, push_entries, entries_by, outbox}
use Rattle.notice_ledger.specs.Past.Pushes.{by_user, notify, push_items, is_push_turn, push_turn_count, waiting_items, oldest_item, same_messages, same_item, removes, is_revoked, is_removal_waiting}
use Rattle.notice_ledger.specs.Conserved.{named_once, removals_in_item, removals_in_entry}
use Rattle.notice_ledger.specs.Lawful.{lawful, IsLawful}
use Rattle.notice_ledger.proofs.Apart.{AllByRecursion-from_all, notices-apart}
use Rattle.notice_ledger.proofs.Appended.{notices-nil, notices-append, outbox-nil, outbox-append}
use Rattle.notice_ledger.proofs.Batches.{mailed-once}
use Rattle.notice_ledger.proofs.Found.{find-passes, of_parts, only_found}
use Rattle.notice_ledger.proofs.LawfulLemmas.{lawful-by_steps}
use Rattle.notice_ledger.proofs.Parts.{removes-named, any_removes-named, sum_by-flat_map}
use Rattle.notice_ledger.proofs.PushItems.{by_user-sum, is_push_readied, items_added, push_items-append, push_turn_count-nil, push_turn_count-append, waiting_items-nil, waiting_items-append}
use Rattle.notice_ledger.proofs.PushNotices.{push_turn-at}
use Rattle.notice_ledger.proofs.Queued.{is_queued, is_kept, kept, is_queued-append, is_queued-new}
use Rattle.notice_ledger.proofs.Revoked.{revokes_now, is_revoked-append, revoked-once, is_revoked-new, messages_revoked, removals_added, is_revoked_push, removals_added-named}
use Rattle.notice_ledger.proofs.Same.{same_user, same_message}
use Rattle.notice_ledger.proofs.Standing.{is_turn, is_readying}
use Rattle.notice_ledger.proofs.Sums.{sum_by_same, sum_by_none_where, sum_by_both_where, sum_by-filter, sum_by-map, none_plus, plus_none}
use Rattle.notice_ledger.proofs.Turned.{is_push_queued, IsTurnReady}
use Rattle.notice_ledger.proofs.Waiting.{IsOwedBy, owed_by-each, notices-placed}

-- ---- items

-- the item is that of the user's notice of the message
abbrev pub is_item : UserId → MessageId → PushItem → Bool
is_item u m (Notify v k) = v.0 == u.0 && k.0 == m.0
is_item u m (Remove v ks) = false

same_messages-equal : (ms ns : List MessageId) → same_messages ms ns ≡ true → ms ≡ ns
same_messages-equal [] [] h = refl
same_messages-equal [] (n ∷ ns) h = absurd (cc)
same_messages-equal (m ∷ ms) [] h = absurd (cc)
same_messages-equal (m ∷ ms) (n ∷ ns) h =
    let parts = and_parts (m.0 == n.0) (same_messages ms ns) h in
    let first = same_message m n parts.0 in
    let rest = same_messages-equal ms ns parts.1 in
    (λ i. first i ∷ rest i)

same_messages-itself : (ms : List MessageId) → same_messages ms ms ≡ true
same_messages-itself [] = refl
same_messages-itself (m ∷ ms) = and_from (m.0 == m.0) (same_messages ms ms) (eq-eqb m.0 m.0 refl) (same_messages-itself ms)

same_item-equal : (a b : PushItem) → same_item a b ≡ true → a ≡ b
same_item-equal (Notify u m) (Notify v n) h =
    let parts = and_parts (u.0 == v.0) (m.0 == n.0) h in
    let user = same_user u v parts.0 in
    let message = same_message m n parts.1 in
    (λ i. Notify (user i) (message i))
same_item-equal (Remove u ms) (Remove v ns) h =
    let parts = and_parts (u.0 == v.0) (same_messages ms ns) h in
    let user = same_user u v parts.0 in
    let messages = same_messages-equal ms ns parts.1 in
    (λ i. Remove (user i) (messages i))
same_item-equal (Notify u m) (Remove v ns) h = absurd (cc)
same_item-equal (Remove u ms) (Notify v n) h = absurd (cc)

same_item-itself : (a : PushItem) → same_item a a ≡ true
same_item-itself (Notify u m) = and_from (u.0 == u.0) (m.0 == m.0) (eq-eqb u.0 u.0 refl) (eq-eqb m.0 m.0 refl)
same_item-itself (Remove u ms) = and_from (u.0 == u.0) (same_messages ms ms) (eq-eqb u.0 u.0 refl) (same_messages-itself ms)

-- items are the same exactly where they are equal
pub same_item-exact : (a b : PushItem) → (same_item a b ≡ true) ↔ (a ≡ b)
same_item-exact a b = (same_item-equal a b, λ e. ap (same_item a) (sym e) ∙ same_item-itself a)

-- ---- what waits

-- a push notice of the user and the message that is queued
abbrev pub is_queued_push : List Stamped → UserId → MessageId → Notice → Bool
is_queued_push j u m n = is_of u m Push n && is_queued j n

-- a push of the user's message that is revoked
abbrev pub is_of_revoked : List Stamped → UserId → MessageId → Notice → Bool
is_of_revoked j u m n = is_of u m Push n && is_revoked j n

-- the turns took no more than there was; of each push notice that is queued an item waits, once, and of no other; and each push that
-- is revoked is named once by the removals that wait and those in the outbox, and no other push is
pub record PushesWait (j : List Stamped) : Type 0 where
  pub taken : push_turn_count j ≤ length (push_items j)
  pub counted : (u : UserId) (m : MessageId) → count_by (is_item u m) (waiting_items j) ≡ count_by (is_queued_push j u m) (notices j)
  pub removed : (u : UserId) (m : MessageId) → sum_by (removals_in_item u m) (waiting_items j) + sum_by (removals_in_entry u m) (outbox j) ≡ count_by (is_of_revoked j u m) (notices j)

-- what waits first, where the turn is that of an item
pub turned_first : (j : List Stamped) (at : ℕ) (i : PushItem) → may_stand j at (PushTurn i) ≡ true → slice_get (waiting_items j) 0 ≡ Some i
turned_first j at i may = by (slice_get (waiting_items j) 0) may
  where
    by : (o : Option PushItem) → option_map_or (same_item i) o false ≡ true → o ≡ Some i
    by None h = absurd (cc)
    by (Some k) h = ap Some (sym (same_item-equal i k h))

pub first_item : (is : List PushItem) (i : PushItem) → slice_get is 0 ≡ Some i → is ≡ i ∷ drop 1 is
first_item [] i e = absurd (cc)
first_item (k ∷ is) i e = let same : k ≡ i = cc in ap (λ (l : PushItem). l ∷ is) same

-- ---- counts

counted-append : {X : Type 0} (p : X → Bool) (xs ys : List X) → count_by p (xs ++ ys) ≡ count_by p xs + count_by p ys
counted-append p xs ys = sum_by-append (λ x. cond (p x) 1 0) xs ys

counted-first : {X : Type 0} (p : X → Bool) (x : X) (xs : List X) → count_by p (x ∷ xs) ≡ cond (p x) 1 0 + count_by p xs
counted-first p x xs = sum_by-cons (λ x. cond (p x) 1 0) x xs

nested : (a b : Bool) → ◌≡◌ {A = ℕ} (cond (a && b) 1 0) (cond a (cond b 1 0) 0)
nested true b = refl
nested false b = refl

-- one at most of the push notices of a user and a message counts
pub one-counted : (j : List Stamped) (test : Notice → Bool) (u : UserId) (m : MessageId) → count_by (λ n. is_of u m Push n && test n) (notices j) ≡ cond (option_map_or test (notice_to j u m Push) false) 1 0
one-counted j test u m =
    sum_by_same (λ n. cond (is_of u m Push n && test n) 1 0) (λ n. cond (is_of u m Push n) (cond (test n) 1 0) 0) (λ n. nested (is_of u m Push n) (test n)) (notices j)
    ∙ (only_found u m Push (λ n. cond (test n) 1 0) (notices j) (notices-apart j) ∙ found (notice_to j u m Push))
  where
    found : (o : Option Notice) → ◌≡◌ {A = ℕ} (option_map_or (λ n. cond (test n) 1 0) o 0) (cond (option_map_or test o false) 1 0)
    found None = refl
    found (Some n) = refl

queued-counted : (j : List Stamped) (u : UserId) (m : MessageId) → count_by (is_queued_push j u m) (notices j) ≡ cond (is_push_queued j u m) 1 0
queued-counted j u m = one-counted j (is_queued j) u m

-- ---- what an event adds

-- the items that an event adds are those of the push notices that it makes ready
abbrev is_readied_push : List Stamped → Stamped → UserId → MessageId → Notice → Bool
is_readied_push j s u m n = is_of u m Push n && (is_pending (account_of j n) && (not (is_queued j n) && is_readying s n))

added-counted : (j : List Stamped) (s : Stamped) (u : UserId) (m : MessageId) → count_by (is_item u m) (items_added j s) ≡ count_by (is_readied_push j s u m) (notices j)
unfolding kept
added-counted j s u m =
    let readied = filter (is_push_readied j s) (filter (is_kept j) (notices j)) in
    let of_it : Notice → ℕ = λ n. cond (n.user.0 == u.0 && n.number.0 == m.0) 1 0 in
    sum_by-map (λ i. cond (is_item u m i) 1 0) notify (by_user readied)
    ∙ (by_user-sum of_it readied
    ∙ (sum_by-filter of_it (is_push_readied j s) (filter (is_kept j) (notices j))
    ∙ (sum_by-filter (λ n. cond (is_push_readied j s n) (of_it n) 0) (is_kept j) (notices j)
    ∙ sum_by_same (λ n. cond (is_kept j n) (cond (is_push_readied j s n) (of_it n) 0) 0) (λ n. cond (is_readied_push j s u m n) 1 0)
    (λ n. parts (same_way n.way Push) (is_pending (account_of j n)) (is_queued j n) (is_readying s n) (n.user.0 == u.0 && n.number.0 == m.0)) (notices j))))
  where
    none : (b : Bool) → ◌≡◌ {A = ℕ} (cond b 0 0) 0
    none true = refl
    none false = refl

    parts : (push pending queued readies it : Bool) → ◌≡◌ {A = ℕ} (cond (pending || queued) (cond (push && (pending && (not queued && readies))) (cond it 1 0) 0) 0) (cond ((it && push) && (pending && (not queued && readies))) 1 0)
    parts true true true readies it = sym (ap (λ b. cond b 1 0) (and-false (it && true)))
    parts true true false true true = refl
    parts true true false true false = refl
    parts true true false false it = sym (ap (λ b. cond b 1 0) (and-false (it && true)))
    parts true false queued readies it = none queued ∙ sym (ap (λ b. cond b 1 0) (and-false (it && true)))
    parts false pending queued readies it = none (pending || queued) ∙ sym (ap (λ b. cond (b && (pending && (not queued && readies))) 1 0) (and-false it))

-- no removal is an item of a notice
removals-uncounted : (j : List Stamped) (s : Stamped) (u : UserId) (m : MessageId) → count_by (is_item u m) (removals_added j s) ≡ 0
removals-uncounted j s u m =
    sum_by-flat_map (λ i. cond (is_item u m i) 1 0) (λ v. removals_of v (messages_revoked j s v)) (users j)
    ∙ sum_by_none_where (λ _. Unit {0}) (λ v. count_by (is_item u m) (removals_of v (messages_revoked j s v))) (λ v _. none v (in_parts most_messages (messages_revoked j s v))) (users j) (AllByRecursion-from_all (λ _. Unit {0}) (λ _. tt) (users j))
  where
    none : (v : UserId) (ps : List (List MessageId)) → count_by (is_item u m) (map (Remove v) ps) ≡ 0
    none v [] = refl
    none v (p ∷ ps) = counted-first (is_item u m) (Remove v p) (map (Remove v) ps) ∙ (sym (none_plus (count_by (is_item u m) (map (Remove v) ps))) ∙ none v ps)

-- and an item of a notice is no removal
pub added-unremoved : (j : List Stamped) (s : Stamped) (u : UserId) (m : MessageId) → sum_by (removals_in_item u m) (items_added j s) ≡ 0
added-unremoved j s u m = none (by_user (filter (is_push_readied j s) (kept j)))
  where
    none : (ns : List Notice) → sum_by (removals_in_item u m) (map notify ns) ≡ 0
    none [] = refl
    none (n ∷ ns) = sum_by-cons (removals_in_item u m) (notify n) (map notify ns) ∙ (sym (none_plus (sum_by (removals_in_item u m) (map notify ns))) ∙ none ns)

-- the queued push notices after an event: those of before it that had no turn, and those that it makes ready
queued-moved : (j : List Stamped) (s : Stamped) (u : UserId) (m : MessageId)
    → count_by (is_queued_push (j ++ s ∷ []) u m) (notices (j ++ s ∷ []))
    ≡ count_by (λ n. is_of u m Push n && (is_queued j n && not (is_turn s n))) (notices j) + count_by (is_readied_push j s u m) (notices j)
queued-moved j s u m =
    let k = j ++ s ∷ [] in
    let later : Notice → ℕ = λ n. cond (is_queued_push k u m n) 1 0 in
    let owed = owed_by (occurrence j s) in
    let new : sum_by later owed ≡ 0 =
    sum_by_none_where (IsOwedBy (occurrence j s)) later
    (λ n is. ap (λ b. cond (is_of u m Push n && b) 1 0) (is_queued-new j s n is) ∙ ap (λ b. cond b 1 0) (and-false (is_of u m Push n))) owed (owed_by-each (occurrence j s)) in
    let all : sum_by later (notices k) ≡ sum_by later (notices j) + sum_by later owed = ap (sum_by later) (notices-append j s) ∙ sum_by-append later (notices j) owed in
    let parted : sum_by later (notices j) ≡ count_by (λ n. is_of u m Push n && (is_queued j n && not (is_turn s n))) (notices j) + count_by (is_readied_push j s u m) (notices j) =
    sum_by_both_where (λ n. n.owing.place < length j) later (λ n. cond (is_of u m Push n && (is_queued j n && not (is_turn s n))) 1 0) (λ n. cond (is_readied_push j s u m n) 1 0)
    (λ n placed. ap (λ b. cond (is_of u m Push n && b) 1 0) (is_queued-append j s n placed) ∙ parts (is_of u m Push n) (is_queued j n) (is_turn s n) (is_pending (account_of j n)) (is_readying s n))
    (notices j) (notices-placed j) in
    omega arith
  where
    parts : (it q tn p rd : Bool) → ◌≡◌ {A = ℕ} (cond (it && (if q then not tn else (p && rd))) 1 0) (cond (it && (q && not tn)) 1 0 + cond (it && (p && (not q && rd))) 1 0)
    parts false q tn p rd = refl
    parts true true true true rd = refl
    parts true true true false rd = refl
    parts true true false true rd = refl
    parts true true false false rd = refl
    parts true false tn p rd = none_plus (cond (p && rd) 1 0)

-- the revoked pushes after an event: those of before it, and those that it revokes
revoked-moved : (j : List Stamped) (s : Stamped) (u : UserId) (m : MessageId)
    → count_by (is_of_revoked (j ++ s ∷ []) u m) (notices (j ++ s ∷ [])) ≡ count_by (is_of_revoked j u m) (notices j) + count_by (is_revoked_push j s u m) (notices j)
revoked-moved j s u m =
    let k = j ++ s ∷ [] in
    let later : Notice → ℕ = λ n. cond (is_of_revoked k u m n) 1 0 in
    let owed = owed_by (occurrence j s) in
    let new : sum_by later owed ≡ 0 =
    sum_by_none_where (IsOwedBy (occurrence j s)) later
    (λ n is. ap (λ b. cond (is_of u m Push n && b) 1 0) (is_revoked-new j s n is) ∙ ap (λ b. cond b 1 0) (and-false (is_of u m Push n))) owed (owed_by-each (occurrence j s)) in
    let all : sum_by later (notices k) ≡ sum_by later (notices j) + sum_by later owed = ap (sum_by later) (notices-append j s) ∙ sum_by-append later (notices j) owed in
    let parted : sum_by later (notices j) ≡ count_by (is_of_revoked j u m) (notices j) + count_by (is_revoked_push j s u m) (notices j) =
    sum_by_both_where (λ n. n.owing.place < length j) later (λ n. cond (is_of_revoked j u m n) 1 0) (λ n. cond (is_revoked_push j s u m n) 1 0)
    (λ n placed. ap (λ b. cond (is_of u m Push n && b) 1 0) (is_revoked-append j s n placed) ∙ parts (n.user.0 == u.0) (n.number.0 == m.0) (same_way n.way Push) (is_revoked j n) (revokes_now j s n) (revoked-once j s n))
    (notices j) (notices-placed j) in
    omega arith
  where
    parts : (user number push r now : Bool) → (r ≡ true → now ≡ false)
        → ◌≡◌ {A = ℕ} (cond ((user && number && push) && (r || now)) 1 0) (cond ((user && number && push) && r) 1 0 + cond ((user && number && push) && (user && now)) 1 0)
    parts false number push r now e = refl
    parts true false push r now e = refl
    parts true true false r now e = refl
    parts true true true true now e = ap (λ b. 1 + cond b 1 0) (sym (e refl))
    parts true true true false now e = none_plus (cond now 1 0)

-- ---- the removals in what an event adds to the outbox

no_removals : {X : Type 0} (xs : List X) → 0 ≡ sum_by (λ (x : X). 0) xs
no_removals [] = refl
no_removals (x ∷ xs) = no_removals xs ∙ (none_plus (sum_by (λ x. 0) xs) ∙ sym (sum_by-cons (λ x. 0) x xs))

-- a mail turn writes none
mail-unremoved : (j : List Stamped) (at : ℕ) (v u : UserId) (m : MessageId) → sum_by (removals_in_entry u m) (mail_entries j at v) ≡ 0
mail-unremoved j at v u m = by (switch_on j v Mail)
  where
    by : (on : Bool) → sum_by (removals_in_entry u m) (if on then entries_of v (user_name j v) at (map (ready_item j) (mailed j v)) else []) ≡ 0
    by true =
        entries-sum (λ i. 0) (removals_in_entry u m) v (λ name at c items. no_removals items) (user_name j v) at (map (ready_item j) (mailed j v)) (mailed-once j v)
        ∙ sym (no_removals (map (ready_item j) (mailed j v)))
    by false = refl

-- nor does the turn of a notice
push-unremoved : (j : List Stamped) (at : ℕ) (v : UserId) (k : MessageId) (u : UserId) (m : MessageId) → sum_by (removals_in_entry u m) (push_entries j at (Notify v k)) ≡ 0
push-unremoved j at v k u m = by (notice_to j v k Push)
  where
    one : (n : Notice) (b : Bool) → sum_by (removals_in_entry u m) (if b then push_entry j at n ∷ [] else []) ≡ 0
    one n true = refl
    one n false = refl

    by : (o : Option Notice) → sum_by (removals_in_entry u m) (option_map_or (λ n. if is_pushed j n then push_entry j at n ∷ [] else []) o []) ≡ 0
    by None = refl
    by (Some n) = one n (is_pushed j n)

-- nor an event that is no push turn
other-unremoved : (j : List Stamped) (at : ℕ) (e : Event) (u : UserId) (m : MessageId) → is_push_turn e ≡ false → sum_by (removals_in_entry u m) (entries_by j at e) ≡ 0
other-unremoved j at (MailTurn v) u m other = mail-unremoved j at v u m
other-unremoved j at (PushTurn i) u m other = absurd (cc)
other-unremoved j at e u m other = refl

-- ---- one more event

-- an event that is no push turn takes the turn of no push notice
pub unturned : (s : Stamped) (u : UserId) (m : MessageId) (n : Notice) → is_push_turn s.event ≡ false → is_of u m Push n ≡ true → is_turn s n ≡ false
unturned s u m n no_push it = ap (λ (w : Way). is_turn_of n.user n.number w s.event) (of_parts u m Push n it).way ∙ by n.user n.number s.event no_push
  where
    by : (v : UserId) (k : MessageId) (e : Event) → is_push_turn e ≡ false → is_push_turn_of v k e ≡ false
    by v k (PushTurn i) h = absurd (cc)
    by v k e h = refl

-- nor does the turn of a removal
pub unturned-removal : (at : ℕ) (v : UserId) (ms : List MessageId) (n : Notice) → is_turn (record { at = at; event = PushTurn (Remove v ms) }) n ≡ false
unturned-removal at v ms n = by n.user n.number n.way
  where
    by : (u : UserId) (m : MessageId) (w : Way) → is_turn_of u m w (PushTurn (Remove v ms)) ≡ false
    by u m Mail = refl
    by u m Push = refl

kept-queued : (j : List Stamped) (s : Stamped) (u : UserId) (m : MessageId) → ((n : Notice) → is_of u m Push n ≡ true → is_turn s n ≡ false)
    → count_by (λ n. is_of u m Push n && (is_queued j n && not (is_turn s n))) (notices j) ≡ count_by (is_queued_push j u m) (notices j)
kept-queued j s u m no_turn =
    sum_by_same (λ n. cond (is_of u m Push n && (is_queued j n && not (is_turn s n))) 1 0) (λ n. cond (is_queued_push j u m n) 1 0) (λ n. by n (is_of u m Push n) refl) (notices j)
  where
    whole : (b : Bool) → ◌≡◌ {A = ℕ} (cond (b && not false) 1 0) (cond b 1 0)
    whole true = refl
    whole false = refl

    by : (n : Notice) (b : Bool) → is_of u m Push n ≡ b → ◌≡◌ {A = ℕ} (cond (b && (is_queued j n && not (is_turn s n))) 1 0) (cond (b && is_queued j n) 1 0)
    by n true it = ap (λ t. cond (is_queued j n && not t) 1 0) (no_turn n it) ∙ whole (is_queued j n)
    by n false it = refl

-- the push turn of a notice takes this one, and no other
taken-queued : (j : List Stamped) (at : ℕ) (u : UserId) (m : MessageId) → count_by (is_queued_push j u m) (notices j) ≡ 1 → (v : UserId) (k : MessageId)
    → cond (is_item v k (Notify u m)) 1 0 + count_by (λ n. is_of v k Push n && (is_queued j n && not (is_turn (record { at = at; event = PushTurn (Notify u m) }) n))) (notices j)
    ≡ count_by (is_queued_push j v k) (notices j)
taken-queued j at u m one v k = by (u.0 == v.0 && m.0 == k.0) refl
  where
    none_left : (it : Bool) (r t : Bool) → (it ≡ true → t ≡ true) → ◌≡◌ {A = ℕ} (cond (it && (r && not t)) 1 0) 0
    none_left true r t h = ap (λ t. cond (r && not t) 1 0) (h refl) ∙ never r
      where
        never : (r : Bool) → ◌≡◌ {A = ℕ} (cond (r && not true) 1 0) 0
        never true = refl
        never false = refl
    none_left false r t h = refl

    all_left : (it : Bool) (r t : Bool) → (it ≡ true → t ≡ false) → ◌≡◌ {A = ℕ} (cond (it && (r && not t)) 1 0) (cond (it && r) 1 0)
    all_left true r t h = ap (λ t. cond (r && not t) 1 0) (h refl) ∙ whole r
      where
        whole : (r : Bool) → ◌≡◌ {A = ℕ} (cond (r && not false) 1 0) (cond r 1 0)
        whole true = refl
        whole false = refl
    all_left false r t h = refl

    by : (b : Bool) → (u.0 == v.0 && m.0 == k.0) ≡ b
        → cond (is_item v k (Notify u m)) 1 0 + count_by (λ n. is_of v k Push n && (is_queued j n && not (is_turn (record { at = at; event = PushTurn (Notify u m) }) n))) (notices j)
        ≡ count_by (is_queued_push j v k) (notices j)
    by true e =
        let parts = and_parts (u.0 == v.0) (m.0 == k.0) e in
        let user = same_user u v parts.0 in
        let message = same_message m k parts.1 in
        let here : count_by (is_queued_push j v k) (notices j) ≡ 1 = ap (λ (x : UserId). count_by (is_queued_push j x k) (notices j)) (sym user) ∙ (ap (λ (x : MessageId). count_by (is_queued_push j u x) (notices j)) (sym message) ∙ one) in
        let left : count_by (λ n. is_of v k Push n && (is_queued j n && not (is_turn (record { at = at; event = PushTurn (Notify u m) }) n))) (notices j) ≡ 0 =
        sum_by_none_where (λ n. n.owing.place < length j) (λ n. cond (is_of v k Push n && (is_queued j n && not (is_turn (record { at = at; event = PushTurn (Notify u m) }) n))) 1 0)
        (λ n _. none_left (is_of v k Push n) (is_queued j n) (is_turn (record { at = at; event = PushTurn (Notify u m) }) n) (λ it. push_turn-at at u m v k n it ∙ e)) (notices j) (notices-placed j) in
        (λ i. cond (e i) 1 0 + left i) ∙ sym here
    by false e =
        (λ i. cond (e i) 1 0 + sum_by_same (λ n. cond (is_of v k Push n && (is_queued j n && not (is_turn (record { at = at; event = PushTurn (Notify u m) }) n))) 1 0) (λ n. cond (is_queued_push j v k n) 1 0)
        (λ n. all_left (is_of v k Push n) (is_queued j n) (is_turn (record { at = at; event = PushTurn (Notify u m) }) n) (λ it. push_turn-at at u m v k n it ∙ e)) (notices j) i)
        ∙ sym (none_plus (count_by (is_queued_push j v k) (notices j)))

-- what waits after an event whose turn takes so many items: those of the notices that had their turn, and the removals that it
-- writes to the outbox
waits-append : (j : List Stamped) (s : Stamped) → PushesWait j → push_turn_count j + cond (is_push_turn s.event) 1 0 ≤ length (push_items j)
    → ((u : UserId) (m : MessageId) → count_by (is_item u m) (drop (cond (is_push_turn s.event) 1 0) (waiting_items j)) ≡ count_by (λ n. is_of u m Push n && (is_queued j n && not (is_turn s n))) (notices j))
    → ((u : UserId) (m : MessageId) → sum_by (removals_in_item u m) (drop (cond (is_push_turn s.event) 1 0) (waiting_items j)) + sum_by (removals_in_entry u m) (entries_by j s.at s.event) ≡ sum_by (removals_in_item u m) (waiting_items j))
    → PushesWait (j ++ s ∷ [])
waits-append j s h enough left written =
    let rest = drop (cond (is_push_turn s.event) 1 0) (waiting_items j) in
    let added = items_added j s in
    let removals = removals_added j s in
    let now : waiting_items (j ++ s ∷ []) ≡ rest ++ (added ++ removals) = waiting_items-append j s enough in
    let longer : length (push_items (j ++ s ∷ [])) ≡ length (push_items j) + length (added ++ removals) = ap length (push_items-append j s) ∙ length-append (push_items j) (added ++ removals) in
    record {
      taken = omega (arith, push_turn_count-append j s, longer, enough);
      counted = λ u m.
          let all : count_by (is_item u m) (waiting_items (j ++ s ∷ [])) ≡ count_by (is_item u m) rest + count_by (is_item u m) (added ++ removals) = ap (count_by (is_item u m)) now ∙ counted-append (is_item u m) rest (added ++ removals) in
          let more : count_by (is_item u m) (added ++ removals) ≡ count_by (is_item u m) added + count_by (is_item u m) removals = counted-append (is_item u m) added removals in
          let none = removals-uncounted j s u m in
          let made = added-counted j s u m in
          let stays = left u m in
          let moved = queued-moved j s u m in
          omega arith;
      removed = λ u m.
          let named = removals_in_item u m in
          let entries = removals_in_entry u m in
          let all : sum_by named (waiting_items (j ++ s ∷ [])) ≡ sum_by named rest + sum_by named (added ++ removals) = ap (sum_by named) now ∙ sum_by-append named rest (added ++ removals) in
          let more : sum_by named (added ++ removals) ≡ sum_by named added + sum_by named removals = sum_by-append named added removals in
          let none = added-unremoved j s u m in
          let made = removals_added-named j s u m in
          let out : sum_by entries (outbox (j ++ s ∷ [])) ≡ sum_by entries (outbox j) + sum_by entries (entries_by j s.at s.event) = ap (sum_by entries) (outbox-append j s) ∙ sum_by-append entries (outbox j) (entries_by j s.at s.event) in
          let kept = written u m in
          let before = h.removed u m in
          let moved = revoked-moved j s u m in
          omega arith;
    }

length-waiting : (j : List Stamped) → length (waiting_items j) ≡ length (push_items j) - push_turn_count j
unfolding waiting_items
length-waiting j = length-drop (push_turn_count j) (push_items j)

-- an event that is no push turn
other-append : (j : List Stamped) (s : Stamped) → PushesWait j → is_push_turn s.event ≡ false → PushesWait (j ++ s ∷ [])
other-append j s h other =
    let none : cond (is_push_turn s.event) 1 0 ≡ 0 = ap (λ b. cond b 1 0) other in
    let same : drop (cond (is_push_turn s.event) 1 0) (waiting_items j) ≡ waiting_items j = ap (λ k. drop k (waiting_items j)) none in
    waits-append j s h (omega (arith, none, h.taken))
    (λ u m. ap (count_by (is_item u m)) same ∙ (h.counted u m ∙ sym (kept-queued j s u m (λ n. unturned s u m n other))))
    (λ u m. (λ i. sum_by (removals_in_item u m) (same i) + other-unremoved j s.at s.event u m other i) ∙ sym (plus_none (sum_by (removals_in_item u m) (waiting_items j))))

-- a push notice with the first item that waits is queued, once
first-queued : (j : List Stamped) (u : UserId) (m : MessageId) → PushesWait j → slice_get (waiting_items j) 0 ≡ Some (Notify u m) → count_by (is_queued_push j u m) (notices j) ≡ 1
first-queued j u m h first =
    let it : is_item u m (Notify u m) ≡ true = and_from (u.0 == u.0) (m.0 == m.0) (eq-eqb u.0 u.0 refl) (eq-eqb m.0 m.0 refl) in
    let counted : count_by (is_item u m) (waiting_items j) ≡ 1 + count_by (is_item u m) (drop 1 (waiting_items j)) =
    ap (count_by (is_item u m)) (first_item (waiting_items j) (Notify u m) first)
    ∙ (counted-first (is_item u m) (Notify u m) (drop 1 (waiting_items j)) ∙ ap (λ b. cond b 1 0 + count_by (is_item u m) (drop 1 (waiting_items j))) it) in
    by (is_push_queued j u m) (queued-counted j u m) (h.counted u m) counted
  where
    by : (b : Bool) → count_by (is_queued_push j u m) (notices j) ≡ cond b 1 0 → count_by (is_item u m) (waiting_items j) ≡ count_by (is_queued_push j u m) (notices j)
        → count_by (is_item u m) (waiting_items j) ≡ 1 + count_by (is_item u m) (drop 1 (waiting_items j)) → count_by (is_queued_push j u m) (notices j) ≡ 1
    by true e f g = e
    by false e f g = absurd (omega (arith, e, f, g))

-- a push turn takes the first item
module _ (j : List Stamped) (at : ℕ) (i : PushItem) (h : PushesWait j) (may : may_stand j at (PushTurn i) ≡ true) where
  are : waiting_items j ≡ i ∷ drop 1 (waiting_items j)
  are = first_item (waiting_items j) i (turned_first j at i may)

  enough : push_turn_count j + 1 ≤ length (push_items j)
  enough = omega (arith, ap length are, length-waiting j)

  first-counted : (u : UserId) (m : MessageId) → count_by (is_item u m) (waiting_items j) ≡ cond (is_item u m i) 1 0 + count_by (is_item u m) (drop 1 (waiting_items j))
  first-counted u m = ap (count_by (is_item u m)) are ∙ counted-first (is_item u m) i (drop 1 (waiting_items j))

  first-removed : (u : UserId) (m : MessageId) → sum_by (removals_in_item u m) (waiting_items j) ≡ removals_in_item u m i + sum_by (removals_in_item u m) (drop 1 (waiting_items j))
  first-removed u m = ap (sum_by (removals_in_item u m)) are ∙ sum_by-cons (removals_in_item u m) i (drop 1 (waiting_items j))

-- the push turn of a notice
turn-append : (j : List Stamped) (at : ℕ) (u : UserId) (m : MessageId) → PushesWait j → may_stand j at (PushTurn (Notify u m)) ≡ true → PushesWait (j ++ record { at = at; event = PushTurn (Notify u m) } ∷ [])
turn-append j at u m h may =
    let i : PushItem = Notify u m in
    waits-append j (record { at = at; event = PushTurn (Notify u m) }) h (enough j at i h may)
    (λ v k.
    let counted = first-counted j at i h may v k in
    let taken = taken-queued j at u m (first-queued j u m h (turned_first j at i may)) v k in
    let all = h.counted v k in
    omega arith)
    (λ v k.
    let removed = first-removed j at i h may v k in
    let none = push-unremoved j at u m v k in
    omega arith)

-- the push turn of a removal writes it to the outbox
removal-append : (j : List Stamped) (at : ℕ) (u : UserId) (ms : List MessageId) → PushesWait j → may_stand j at (PushTurn (Remove u ms)) ≡ true → PushesWait (j ++ record { at = at; event = PushTurn (Remove u ms) } ∷ [])
removal-append j at u ms h may =
    let i : PushItem = Remove u ms in
    let s : Stamped = record { at = at; event = PushTurn (Remove u ms) } in
    waits-append j s h (enough j at i h may)
    (λ v k.
    let counted = first-counted j at i h may v k in
    let taken = kept-queued j s v k (λ n it. unturned-removal at u ms n) in
    let all = h.counted v k in
    omega arith)
    (λ v k.
    let removed = first-removed j at i h may v k in
    let written : sum_by (removals_in_entry v k) (push_entries j at (Remove u ms)) ≡ named_once v k u ms + 0 = sum_by-cons (removals_in_entry v k) (entry.Remove u (user_name j u) at ms) [] in
    omega arith)

-- lawful events keep it
pub waits-next : (j : List Stamped) (s : Stamped) → PushesWait j → may_stand j s.at s.event ≡ true → PushesWait (j ++ s ∷ [])
waits-next j s h may = by s.at s.event may
  where
    by : (at : ℕ) (e : Event) → may_stand j at e ≡ true → PushesWait (j ++ record { at = at; event = e } ∷ [])
    by at (PushTurn (Notify u m)) may = turn-append j at u m h may
    by at (PushTurn (Remove u ms)) may = removal-append j at u ms h may
    by at e may = other-append j (record { at = at; event = e }) h refl

pub lawful-pushes : (j : List Stamped) → PushesWait (lawful j)
lawful-pushes =
    lawful-by_steps PushesWait
    (record {
      taken = omega (arith, push_turn_count-nil);
      counted = λ u m. (λ i. count_by (is_item u m) (waiting_items-nil i)) ∙ sym (λ i. count_by (is_queued_push [] u m) (notices-nil i));
      removed = λ u m. (λ i. sum_by (removals_in_item u m) (waiting_items-nil i) + sum_by (removals_in_entry u m) (outbox-nil i)) ∙ sym (λ i. count_by (is_of_revoked [] u m) (notices-nil i));
    })
    (λ j s h next. waits-next j s h (and_parts (nat_le (last_stamp j) s.at) (may_stand j s.at s.event) next).1)

-- ---- what follows

-- what waits after a lawful event: a push turn takes the first, and the items that the event adds wait last
pub waiting_items-next : (j : List Stamped) (s : Stamped) → PushesWait j → may_stand j s.at s.event ≡ true → waiting_items (j ++ s ∷ []) ≡ drop (cond (is_push_turn s.event) 1 0) (waiting_items j) ++ (items_added j s ++ removals_added j s)
waiting_items-next j s h may = waiting_items-append j s (by s.at s.event may)
  where
    by : (at : ℕ) (e : Event) → may_stand j at e ≡ true → push_turn_count j + cond (is_push_turn e) 1 0 ≤ length (push_items j)
    by at (PushTurn i) may = enough j at i h may
    by at e may = omega (arith, h.taken)

-- an event that is no push turn takes nothing
pub waiting_items-other : (j : List Stamped) (s : Stamped) → PushesWait j → is_push_turn s.event ≡ false → waiting_items (j ++ s ∷ []) ≡ waiting_items j ++ (items_added j s ++ removals_added j s)
waiting_items-other j s h other =
    let none : cond (is_push_turn s.event) 1 0 ≡ 0 = ap (λ b. cond b 1 0) other in
    waiting_items-append j s (omega (arith, none, h.taken)) ∙ ap (λ k. drop k (waiting_items j) ++ (items_added j s ++ removals_added j s)) none

-- of a push notice that is queued an item waits, once, and of no other
pub item-waits : (j : List Stamped) (u : UserId) (m : MessageId) → PushesWait j → count_by (is_item u m) (waiting_items j) ≡ cond (is_push_queued j u m) 1 0
item-waits j u m h = h.counted u m ∙ queued-counted j u m

-- the item that waits longest, where it is of a notice, is of a push notice that is queued
pub oldest-queued : (j : List Stamped) (u : UserId) (m : MessageId) → PushesWait j → oldest_item j ≡ Some (Notify u m) → is_push_queued j u m ≡ true
oldest-queued j u m h first = by (is_push_queued j u m) (sym (queued-counted j u m) ∙ first-queued j u m h first)
  where
    by : (b : Bool) → ◌≡◌ {A = ℕ} (cond b 1 0) 1 → b ≡ true
    by true e = refl
    by false e = absurd (omega (arith, e))

pub turned-queued : (j : List Stamped) (at : ℕ) (u : UserId) (m : MessageId) → PushesWait j → may_stand j at (PushTurn (Notify u m)) ≡ true → is_push_queued j u m ≡ true
turned-queued j at u m h may = oldest-queued j u m h (turned_first j at (Notify u m) may)

-- so each push turn of lawful events that is of a notice is of one that is queued
pub waits-turn : (j : List Stamped) (s : Stamped) → PushesWait j → may_stand j s.at s.event ≡ true → IsTurnReady j s.event
waits-turn j s h may = by s.at s.event may
  where
    by : (at : ℕ) (e : Event) → may_stand j at e ≡ true → IsTurnReady j e
    by at (PushTurn (Notify u m)) may = turned-queued j at u m h may
    by at (PushTurn (Remove u ms)) may = tt
    by at e may = tt

pub turn-ready : (j : List Stamped) (s : Stamped) → IsLawful j → is_lawful_after j s ≡ true → IsTurnReady j s.event
turn-ready j s lawful_j next =
    waits-turn j s (subst PushesWait lawful_j (lawful-pushes j)) (and_parts (nat_le (last_stamp j) s.at) (may_stand j s.at s.event) next).1

-- ---- removals

-- the push of a user's message is revoked
abbrev pub is_push_revoked : List Stamped → UserId → MessageId → Bool
is_push_revoked j u m = option_map_or (is_revoked j) (notice_to j u m Push) false

-- a push that is revoked has one removal, which waits or was written, and another has none
pub removal-counted : (j : List Stamped) (u : UserId) (m : MessageId) → PushesWait j → sum_by (removals_in_item u m) (waiting_items j) + sum_by (removals_in_entry u m) (outbox j) ≡ cond (is_push_revoked j u m) 1 0
removal-counted j u m h = h.removed u m ∙ one-counted j (is_revoked j) u m

-- an item that removes a user's messages, first of those that wait
module _ (j : List Stamped) (u : UserId) (ms : List MessageId) (rest : List PushItem) (h : PushesWait j) (first : waiting_items j ≡ Remove u ms ∷ rest) (m : MessageId) (there : list_any (λ k. k.0 == m.0) ms ≡ true) where
  removes-it : removes u m (Remove u ms) ≡ true
  removes-it = and_from (u.0 == u.0) (list_any (λ k. k.0 == m.0) ms) (eq-eqb u.0 u.0 refl) there

  names-it : 0 < removals_in_item u m (Remove u ms)
  names-it = ltb-true 0 (removals_in_item u m (Remove u ms)) (sym (removes-named u m (Remove u ms)) ∙ removes-it)

  all-named : sum_by (removals_in_item u m) (waiting_items j) ≡ removals_in_item u m (Remove u ms) + sum_by (removals_in_item u m) rest
  all-named = ap (sum_by (removals_in_item u m)) first ∙ sum_by-cons (removals_in_item u m) (Remove u ms) rest

  -- no item behind it names one of them
  pub removal-alone : list_any (removes u m) rest ≡ false
  removal-alone = any_removes-named u m rest ∙ by (is_push_revoked j u m) (removal-counted j u m h)
    where
      by : (b : Bool) → sum_by (removals_in_item u m) (waiting_items j) + sum_by (removals_in_entry u m) (outbox j) ≡ cond b 1 0 → nat_lt 0 (sum_by (removals_in_item u m) rest) ≡ false
      by true e = le-ltb 0 (sum_by (removals_in_item u m) rest) (omega (arith, e, all-named, names-it))
      by false e = le-ltb 0 (sum_by (removals_in_item u m) rest) (omega (arith, e, all-named, names-it))

  -- and each of them is revoked
  pub removal-revoked : is_push_revoked j u m ≡ true
  removal-revoked = by (is_push_revoked j u m) (removal-counted j u m h)
    where
      by : (b : Bool) → sum_by (removals_in_item u m) (waiting_items j) + sum_by (removals_in_entry u m) (outbox j) ≡ cond b 1 0 → b ≡ true
      by true e = refl
      by false e = absurd (omega (arith, e, all-named, names-it))

-- each message of the removal that waits longest is of a push whose removal waits
pub removal-waits : (j : List Stamped) (u : UserId) (ms : List MessageId) → PushesWait j → oldest_item j ≡ Some (Remove u ms) → (m : MessageId) → list_any (λ k. k.0 == m.0) ms ≡ true
    → (n : Notice) × ((notice_to j u m Push ≡ Some n) × (is_removal_waiting j n ≡ true))
removal-waits j u ms h oldest m there =
    by (notice_to j u m Push) refl (removal-revoked j u ms (drop 1 (waiting_items j)) h first m there)
  where
    first : waiting_items j ≡ Remove u ms ∷ drop 1 (waiting_items j)
    first = first_item (waiting_items j) (Remove u ms) oldest

    by : (o : Option Notice) → notice_to j u m Push ≡ o → option_map_or (is_revoked j) o false ≡ true → (n : Notice) × ((o ≡ Some n) × (is_removal_waiting j n ≡ true))
    by None e revoked = absurd (cc)
    by (Some n) e revoked =
        let is = of_parts u m Push n (find-passes (is_of u m Push) (notices j) n e) in
        let its : list_any (removes n.user n.number) (waiting_items j) ≡ true =
        (λ i. list_any (removes (is.user i) (is.number i)) (first i)) ∙ ap (λ b. b || list_any (removes u m) (drop 1 (waiting_items j))) (removes-it j u ms (drop 1 (waiting_items j)) h first m there) in
        (n, (refl, and_from (is_revoked j n) (list_any (removes n.user n.number) (waiting_items j)) revoked its))
