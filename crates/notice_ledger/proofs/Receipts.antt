-- Reads and deletions of lawful events: each is of a message that is there, and so nothing bars a message before it is sent.
use Rattle.std.proofs.Common.{◌≡◌, ℕ, ◌+◌, ◌<◌, ◌≤◌, Bool, true, false, ◌||◌, ◌==◌, not, cond, List, [], ◌∷◌, ◌++◌, length, refl, sym, ap, ◌∙◌, subst, arith, length-append}
use Rattle.std.specs.Prelude.{Option, Some, None, is_some, is_none, option_to_list, nat_lt, nat_le, if◌then◌else◌}
use Rattle.std.specs.Option.{option_map_or, option_or}
use Rattle.std.specs.List.{AllByRecursion, list_any, list_all}
use Rattle.std.proofs.lemmas.Bool.{and_parts}
use Rattle.std.proofs.lemmas.Bool.Decides.{nat_tests}
use Rattle.chat_model.specs.declared.event.Event.{Event}
use Rattle.chat_model.specs.declared.event.Event.TheVariants.{Asked}
use Rattle.chat_model.specs.declared.event.Stamped.{Stamped}
use Rattle.chat_model.specs.declared.ids.UserId.{UserId}
use Rattle.chat_model.specs.declared.ids.MessageId.{MessageId}
use Rattle.chat_model.specs.declared.request.Refusal.{Refusal}
use Rattle.chat_model.specs.declared.request.Refusal.TheVariants.{NoUser, NoMessage, NotSender, TooMany}
use Rattle.chat_model.specs.declared.request.Request.{Request}
use Rattle.chat_model.specs.declared.request.Request.TheVariants.{Delete, Read}
use Rattle.chat_model.specs.declared.row.Cause.TheVariants as cause
use Rattle.chat_model.specs.declared.trigger.Way.{Way}
use Rattle.notice_ledger.specs.InOrder.{is_in_order}
use Rattle.notice_ledger.specs.Lawful.{lawful, IsLawful}
use Rattle.notice_ledger.specs.Limits.{most_items}
use Rattle.notice_ledger.specs.Past.Journal.{Occurrence, occurrence, last_stamp}
use Rattle.notice_ledger.specs.Past.Lawful.{may_stand, is_lawful_after}
use Rattle.notice_ledger.specs.Past.Owed.{Notice, notices, owed_by, bar_cause, bar}
use Rattle.notice_ledger.specs.Past.Refusals.{Rule, rule, first_broken, is_sender, refusal, may_read}
use Rattle.notice_ledger.specs.Past.Triggers.{is_recipient}
use Rattle.notice_ledger.specs.Past.Values.{message_of, is_user, messages, message, is_message, deletes, is_deleted, reads}
use Rattle.notice_ledger.proofs.Appended.{messages-append, is_deleted-nil, is_deleted-append, was_read, was_read-append, notices-nil, notices-append}
use Rattle.notice_ledger.proofs.LawfulLemmas.{lawful-by_steps, lawful-by_lawful_steps}
use Rattle.notice_ledger.proofs.Lists.{AllByRecursion-append, AllByRecursion-weaker}
use Rattle.notice_ledger.proofs.Same.{same_message, same_user}
use Rattle.notice_ledger.proofs.Standing.{barring, barring-is, bar-append, bar-last}
use Rattle.notice_ledger.proofs.There.{numbered-some}
use Rattle.notice_ledger.proofs.Waiting.{IsOwedBy, owed_by-each, owed-last, notices-placed}

-- ---- what a lawful read or deletion says

-- of two rules of which neither is broken the second holds
second_holds : (a b : Bool) (x y : Refusal) (rules : List Rule) → is_none (first_broken (rule (not a) x ∷ rule (not b) y ∷ rules)) ≡ true → b ≡ true
second_holds true true x y rules h = refl
second_holds true false x y rules h = absurd (cc)
second_holds false b x y rules h = absurd (cc)

-- what all have one of them has
has_one : (test : MessageId → Bool) (ms : List MessageId) (m : MessageId) → list_all test ms ≡ true → list_any (λ n. n.0 == m.0) ms ≡ true → test m ≡ true
has_one test [] m all any = absurd (cc)
has_one test (n ∷ ms) m all any = by (n.0 == m.0) refl any (has_one test ms m parts.1)
  where
    parts : (test n ≡ true) × (list_all test ms ≡ true)
    parts = and_parts (test n) (list_all test ms) all

    by : (b : Bool) → n.0 == m.0 ≡ b → (b || list_any (λ n. n.0 == m.0) ms) ≡ true → (list_any (λ n. n.0 == m.0) ms ≡ true → test m ≡ true) → test m ≡ true
    by true e h later = ap test (sym (same_message n m e)) ∙ parts.0
    by false e h later = later h

read-standing : (j : List Stamped) (at : ℕ) (u : UserId) (m : MessageId) (e : Event) → may_stand j at e ≡ true → reads u m e ≡ true → may_read j u m ≡ true
unfolding refusal
read-standing j at u m (Asked (Read user ms)) may is =
    let unrefused = (and_parts (is_none (refusal j (Read user ms))) (is_in_order (Read user ms)) may).0 in
    let all = second_holds (is_user j user) (list_all (may_read j user) ms) NoUser NoMessage (rule (nat_lt most_items (length ms)) (TooMany most_items) ∷ []) unrefused in
    let named = and_parts (user.0 == u.0) (list_any (λ n. n.0 == m.0) ms) is in
    ap (λ v. may_read j v m) (sym (same_user user u named.0)) ∙ has_one (may_read j user) ms m all named.1
read-standing j at u m e may is = absurd (cc)

-- a lawful read is of a message that the user may read
pub read-there : (j : List Stamped) (s : Stamped) (u : UserId) (m : MessageId) → is_lawful_after j s ≡ true → reads u m s.event ≡ true → may_read j u m ≡ true
read-there j s u m is_lawful read = read-standing j s.at u m s.event (and_parts (nat_le (last_stamp j) s.at) (may_stand j s.at s.event) is_lawful).1 read

deletion-standing : (j : List Stamped) (at : ℕ) (m : MessageId) (e : Event) → may_stand j at e ≡ true → deletes m e ≡ true → is_message j m ≡ true
unfolding refusal
deletion-standing j at m (Asked (Delete user gone)) may is =
    let unrefused = (and_parts (is_none (refusal j (Delete user gone))) (is_in_order (Delete user gone)) may).0 in
    ap (is_message j) (sym (same_message gone m is))
    ∙ second_holds (is_user j user) (is_message j gone) NoUser NoMessage (rule (not (option_map_or (is_sender user) (message j gone) false)) NotSender ∷ []) unrefused
deletion-standing j at m e may is = absurd (cc)

-- a lawful deletion is of a message that is there
pub deleted-there : (j : List Stamped) (s : Stamped) (m : MessageId) → is_lawful_after j s ≡ true → deletes m s.event ≡ true → is_message j m ≡ true
deleted-there j s m is_lawful deleted = deletion-standing j s.at m s.event (and_parts (nat_le (last_stamp j) s.at) (may_stand j s.at s.event) is_lawful).1 deleted

-- a message that is there has been sent
sent_there : (j : List Stamped) (m : MessageId) → is_message j m ≡ true → m.0 ≤ length (messages j)
sent_there j m there =
    let some = (and_parts (is_some (message j m)) (not (is_deleted j m)) there).0 in
    let within = and_parts (nat_lt 0 m.0) (nat_le m.0 (length (messages j))) (sym (numbered-some m.0 (messages j)) ∙ some) in
    below m.0 (length (messages j)) within.1
  where
    below : (a b : ℕ) → nat_le a b ≡ true → a ≤ b
    below a b h = grind (arith, nat_tests)

-- ---- what is not sent yet

-- the event neither deletes nor is a read of a message that isn't sent before it
module _ (j : List Stamped) (s : Stamped) (m : MessageId) (is_lawful : is_lawful_after j s ≡ true) (unsent : length (messages j) < m.0) where
  not_there : is_message j m ≡ true → ⊥
  not_there there = let low = sent_there j m there in omega (arith, low, unsent)

  none : (b : Bool) → (b ≡ true → is_message j m ≡ true) → b ≡ false
  none true h = absurd (not_there (h refl))
  none false h = refl

  pub deletes-unsent : deletes m s.event ≡ false
  deletes-unsent = none (deletes m s.event) (deleted-there j s m is_lawful)

  pub reads-unsent : (u : UserId) → reads u m s.event ≡ false
  reads-unsent u =
      none (reads u m s.event) (λ read. (and_parts (is_message j m) (option_map_or (λ sent. is_sender u sent || is_recipient sent u) (message j m) false) (read-there j s u m is_lawful read)).0)

fewer : (j : List Stamped) (s : Stamped) (m : MessageId) → length (messages (j ++ s ∷ [])) < m.0 → length (messages j) < m.0
fewer j s m lt =
    let more : length (messages (j ++ s ∷ [])) ≡ length (messages j) + length (option_to_list (message_of (occurrence j s))) = ap length (messages-append j s) ∙ length-append (messages j) (option_to_list (message_of (occurrence j s))) in
    omega (arith, more, lt)

-- lawful events delete no message that isn't sent yet
pub unsent-undeleted : (j : List Stamped) (m : MessageId) → length (messages (lawful j)) < m.0 → is_deleted (lawful j) m ≡ false
unsent-undeleted = lawful-by_steps (λ k. (m : MessageId) → length (messages k) < m.0 → is_deleted k m ≡ false) (λ m unsent. is_deleted-nil m) (λ k s h next m unsent.
    let before = fewer k s m unsent in
    is_deleted-append k s m ∙ (λ i. h m before i || deletes-unsent k s m next before i))

-- and nobody reads it
pub unsent-unread : (j : List Stamped) (u : UserId) (m : MessageId) → length (messages (lawful j)) < m.0 → was_read (lawful j) u m ≡ false
unsent-unread j u = lawful-by_steps (λ k. (m : MessageId) → length (messages k) < m.0 → was_read k u m ≡ false) (λ m unsent. refl) (λ k s h next m unsent.
    let before = fewer k s m unsent in
    was_read-append k s u m ∙ (λ i. h m before i || reads-unsent k s m next before u i)) j

-- ---- bars

-- both notices of a user and a message have the same bars
pub bar_cause-way : (u : UserId) (m : MessageId) (w v : Way) (o : Occurrence) → bar_cause u m w o ≡ bar_cause u m v o
unfolding bar_cause
bar_cause-way u m w v o = refl

-- only a request bars
pub bar_cause-asked : (u : UserId) (m : MessageId) (w : Way) (o : Occurrence) → is_some (bar_cause u m w o) ≡ true → (r : Request) × (o.event ≡ Asked r)
unfolding bar_cause
bar_cause-asked u m w o barred = by o.event barred
  where
    by : (e : Event) → is_some (if reads u m e then Some cause.Read else if deletes m e then Some cause.Deleted else None) ≡ true → (r : Request) × (e ≡ Asked r)
    by (Asked r) h = (r, refl)
    by e h = absurd (cc)

abbrev IsBarredByReceipt : List Stamped → Notice → Type 0
IsBarredByReceipt j n = is_some (bar j n) ≡ (was_read j n.user n.number || is_deleted j n.number)

barred_old : (j : List Stamped) (s : Stamped) (n : Notice) → n.owing.place < length j → IsBarredByReceipt j n → IsBarredByReceipt (j ++ s ∷ []) n
barred_old j s n placed h =
    ap is_some (bar-append j s n placed)
    ∙ (some_or (bar j n) (is_some (barring j s n))
    ∙ ((λ i. h i || barring-is j s n i)
    ∙ (mixed (was_read j n.user n.number) (is_deleted j n.number) (reads n.user n.number s.event) (deletes n.number s.event)
    ∙ (λ i. sym (was_read-append j s n.user n.number) i || sym (is_deleted-append j s n.number) i))))
  where
    some_or : (o : Option Occurrence) (b : Bool) → is_some (option_or o (cond b (Some (occurrence j s)) None)) ≡ (is_some o || b)
    some_or None true = refl
    some_or None false = refl
    some_or (Some x) b = refl

    mixed : (a b c d : Bool) → ((a || b) || (c || d)) ≡ ((a || c) || (b || d))
    mixed true b c d = refl
    mixed false true true d = refl
    mixed false true false d = refl
    mixed false false true d = refl
    mixed false false false d = refl

all_old : (j : List Stamped) (s : Stamped) (ns : List Notice) → AllByRecursion (λ n. n.owing.place < length j) ns → AllByRecursion (IsBarredByReceipt j) ns → AllByRecursion (IsBarredByReceipt (j ++ s ∷ [])) ns
all_old j s [] placed h = tt
all_old j s (n ∷ ns) placed h = (barred_old j s n placed.0 h.0, all_old j s ns placed.1 h.1)

barred_new : (j : List Stamped) (s : Stamped) (n : Notice) → IsLawful j → is_lawful_after j s ≡ true → IsOwedBy (occurrence j s) n → IsBarredByReceipt (j ++ s ∷ []) n
barred_new j s n is_lawful next owed =
    let unsent : length (messages j) < n.number.0 = omega (arith, owed.number) in
    let undeleted = subst (λ k. length (messages k) < n.number.0 → is_deleted k n.number ≡ false) is_lawful (unsent-undeleted j n.number) unsent in
    let unread = subst (λ k. length (messages k) < n.number.0 → was_read k n.user n.number ≡ false) is_lawful (unsent-unread j n.user n.number) unsent in
    ap is_some (bar-last (j ++ s ∷ []) n (owed-last j s n owed))
    ∙ (λ i. sym (was_read-append j s n.user n.number ∙ (λ k. unread k || reads-unsent j s n.number next unsent n.user k)) i || sym (is_deleted-append j s n.number ∙ (λ k. undeleted k || deletes-unsent j s n.number next unsent k)) i)

-- behind lawful events a notice has a bar where its user read its message or that is deleted, whatever the places
pub bar-lawful : (j : List Stamped) → AllByRecursion (λ n. is_some (bar (lawful j) n) ≡ (was_read (lawful j) n.user n.number || is_deleted (lawful j) n.number)) (notices (lawful j))
bar-lawful = lawful-by_lawful_steps (λ k. AllByRecursion (IsBarredByReceipt k) (notices k)) (rw notices-nil tt) (λ k s is_lawful h next.
    rw (notices-append k s) (AllByRecursion-append (IsBarredByReceipt (k ++ s ∷ [])) (notices k) (owed_by (occurrence k s))
    (all_old k s (notices k) (notices-placed k) h)
    (AllByRecursion-weaker (IsOwedBy (occurrence k s)) (IsBarredByReceipt (k ++ s ∷ [])) (λ n owed. barred_new k s n is_lawful next owed) (owed_by (occurrence k s)) (owed_by-each (occurrence k s)))))
