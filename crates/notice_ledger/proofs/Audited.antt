-- The counts of a journal: the pending notices are those that wait, each handed one is an item of an entry, and turns with
-- the switch off cancel others.
use Rattle.std.proofs.Common.{◌≡◌, ℕ, ◌+◌, Bool, true, false, ◌&&◌, ◌==◌, not, cond, List, ◌∷◌, [], ◌++◌, length, map, refl, sym, ap, ◌∙◌, arith}
use Rattle.std.specs.Prelude.{Option, Some, None, is_none, filter, sum_by, count_by, if◌then◌else◌}
use Rattle.std.specs.Option.{option_map_or}
use Rattle.std.proofs.lemmas.List.{length-map}
use Rattle.std.proofs.lemmas.List.Sums.{length-filter, sum_by-cons}
use Rattle.chat_model.specs.declared.event.Stamped.{Stamped}
use Rattle.chat_model.specs.declared.event.Event.TheVariants.{MailTurn, PushTurn}
use Rattle.chat_model.specs.declared.entry.Conversation.{Conversation}
use Rattle.chat_model.specs.declared.entry.Entry.{Entry}
use Rattle.chat_model.specs.declared.entry.Entry.TheVariants as entry
use Rattle.chat_model.specs.declared.entry.Item.{Item}
use Rattle.chat_model.specs.declared.ids.UserId.{UserId}
use Rattle.chat_model.specs.declared.ids.MessageId.{MessageId}
use Rattle.chat_model.specs.declared.push_item.PushItem.TheVariants.{Notify}
use Rattle.chat_model.specs.declared.row.Cause.{Cause}
use Rattle.chat_model.specs.declared.row.Cause.TheVariants.{Read, Deleted, SwitchedOff}
use Rattle.chat_model.specs.declared.trigger.Way.TheVariants.{Mail, Push}
use Rattle.mail_batches.specs.Entries.{entries_of}
use Rattle.mail_batches.proofs.EntrySums.{entries-sum}
use Rattle.notice_ledger.specs.declared.accounts.Account.{Account}
use Rattle.notice_ledger.specs.declared.accounts.Account.TheVariants.{NotOwed, Flight, Held, Ready, Handed, Cancelled, LiveQueue}
use Rattle.notice_ledger.specs.Past.Values.{user_name}
use Rattle.notice_ledger.specs.Past.Owed.{Notice, is_of, same_way, notices, cause_of_bar, switch_on, account_of, is_handed, is_pending, waiting}
use Rattle.notice_ledger.specs.Past.Outbox.{ready_item, mailed, mail_items, mail_entries, push_entry, push_entries, entries_by, outbox}
use Rattle.notice_ledger.specs.Past.Audit.{same_cause, same_account, owed_with, removals_waiting, removals_written, in_64_bits, counts_of}
use Rattle.notice_ledger.specs.Lawful.{lawful}
use Rattle.notice_ledger.proofs.Apart.{notices-apart}
use Rattle.notice_ledger.proofs.Batches.{is_ready, is_ready_mail_of, filter_same, mailed-waiting, mailed-once}
use Rattle.notice_ledger.proofs.Counted.{barring-not_off, cleared_live, owed_with-waiting, owed_with-append}
use Rattle.notice_ledger.proofs.Found.{only_found}
use Rattle.notice_ledger.proofs.Handed.{is_handed_by, entries_by-handed, outbox-handed}
use Rattle.notice_ledger.proofs.PushNotices.{IsQueuedPush, push_turn-of, push_entries-queued}
use Rattle.notice_ledger.proofs.Queued.{is_queued, ready-is}
use Rattle.notice_ledger.proofs.Same.{eqb-turned}
use Rattle.notice_ledger.proofs.Standing.{is_turn, is_readying, is_clearing, is_dealing, barring, barred_or, moved, moved_by}
use Rattle.notice_ledger.proofs.Sums.{sum_by_same, sum_by_both_where, sum_by-filter}
use Rattle.notice_ledger.proofs.Turned.{is_push_queued, IsTurnReady, turn-user}
use Rattle.notice_ledger.proofs.Waiting.{waiting-pending}

-- how many notices were switched off at their turns
abbrev pub switched_off : List Stamped → ℕ
switched_off j = owed_with j (Cancelled SwitchedOff)

pub ones : {X : Type 0} (xs : List X) → length xs ≡ sum_by (λ x. 1) xs
ones [] = refl
ones (x ∷ xs) = let e = ones xs in let more = sum_by-cons (λ x. 1) x xs in omega arith

-- how many items an entry has
abbrev pub item_count : Entry → ℕ
item_count (entry.Mail user name at conversation items) = length items
item_count (entry.Push user name at conversation item) = 1
item_count (entry.Remove user name at messages) = 0

-- how many notices were handed over
abbrev pub handed_over : List Stamped → ℕ
handed_over j = owed_with j Handed

count_items : (u : UserId) (name : List ℕ) (at : ℕ) (c : Conversation) (items : List Item) → item_count (entry.Mail u name at c items) ≡ sum_by (λ i. 1) items
count_items u name at c items = ones items

same_handed : (j : List Stamped) → count_by (λ n. same_account (account_of j n) Handed) (notices j) ≡ sum_by (λ n. cond (is_handed (account_of j n)) 1 0) (notices j)
same_handed j = sum_by_same (λ n. cond (same_account (account_of j n) Handed) 1 0) (λ n. cond (is_handed (account_of j n)) 1 0) (λ n. by (account_of j n)) (notices j)
  where
    by : (a : Account) → ◌≡◌ {A = ℕ} (cond (same_account a Handed) 1 0) (cond (is_handed a) 1 0)
    by Handed = refl
    by a = refl

-- each handed notice of lawful events is an item of an entry
pub handed_over-outbox : (j : List Stamped) → handed_over (lawful j) ≡ sum_by item_count (outbox (lawful j))
unfolding owed_with
handed_over-outbox j = same_handed (lawful j) ∙ sym (outbox-handed item_count (λ u i. 1) (λ u i. 1) (λ n. 1) count_items (λ u name at c i. refl) (λ u name at ms. refl) (λ j n way. refl) (λ j n way. refl) j)

-- ---- one more event

-- the items of the entries that an event makes are the notices that it hands over
entry_items : (j : List Stamped) (s : Stamped) → IsTurnReady j s.event → sum_by item_count (entries_by j s.at s.event) ≡ count_by (is_handed_by j s) (waiting j)
entry_items j s ready = entries_by-handed item_count (λ u i. 1) (λ u i. 1) (λ n. 1) count_items (λ u name at c i. refl) (λ u name at ms. refl) (λ j n way. refl) (λ j n way. refl) j s ready

-- an event hands over as many as its entries have
pub handed_over-append : (j : List Stamped) (s : Stamped) → IsTurnReady j s.event → handed_over (j ++ s ∷ []) ≡ handed_over j + sum_by item_count (entries_by j s.at s.event)
handed_over-append j s ready =
    owed_with-append j s Handed refl (λ n. barred (barring j s n))
    ∙ ap (λ n. handed_over j + n)
    (sum_by_same (λ n. cond (same_account (moved j s n (account_of j n)) Handed) 1 0) (λ n. cond (is_handed_by j s n) 1 0) (λ n. by (moved j s n (account_of j n))) (waiting j) ∙ sym (entry_items j s ready))
  where
    barred : (c : Option Cause) → same_account (barred_or c LiveQueue) Handed ≡ same_account LiveQueue Handed
    barred None = refl
    barred (Some cause) = refl

    by : (a : Account) → ◌≡◌ {A = ℕ} (cond (same_account a Handed) 1 0) (cond (is_handed a) 1 0)
    by Handed = refl
    by a = refl

-- no bar switches a notice off
not_off : (c : Cause) → same_cause SwitchedOff c ≡ false → same_cause c SwitchedOff ≡ false
not_off Read h = refl
not_off Deleted h = refl
not_off SwitchedOff h = absurd (cc)

-- the event is the turn of a ready notice
abbrev pub is_turned : List Stamped → Stamped → Notice → Bool
is_turned j s n = is_ready j n && is_turn s n

-- a notice whose turn it is becomes an item or is switched off
pub switched_off-append : (j : List Stamped) (s : Stamped) → IsTurnReady j s.event → switched_off (j ++ s ∷ []) + sum_by item_count (entries_by j s.at s.event) ≡ switched_off j + length (filter (is_turned j s) (waiting j))
switched_off-append j s ready =
    let off : Notice → ℕ = λ n. cond (same_account (moved j s n (account_of j n)) (Cancelled SwitchedOff)) 1 0 in
    let over : Notice → ℕ = λ n. cond (is_handed_by j s n) 1 0 in
    let turned : Notice → ℕ = λ n. cond (is_turned j s n) 1 0 in
    let more : switched_off (j ++ s ∷ []) ≡ switched_off j + sum_by off (waiting j) = owed_with-append j s (Cancelled SwitchedOff) refl (λ n. barred (barring j s n) (barring-not_off j s n)) in
    let made : sum_by item_count (entries_by j s.at s.event) ≡ sum_by over (waiting j) = entry_items j s ready in
    let both : sum_by turned (waiting j) ≡ sum_by off (waiting j) + sum_by over (waiting j) =
    sum_by_both_where (λ n. is_pending (account_of j n) ≡ true) turned off over
    (λ n pending. one_of_two n (is_turn s n) (is_readying s n) (is_clearing s n) (is_dealing s n) (switch_on j n.user n.way) (barring j s n) (barring-not_off j s n) (account_of j n) pending) (waiting j) (waiting-pending j) in
    let counted : length (filter (is_turned j s) (waiting j)) ≡ sum_by turned (waiting j) = length-filter (is_turned j s) (waiting j) in
    whole (switched_off (j ++ s ∷ [])) (switched_off j) (sum_by off (waiting j)) (sum_by item_count (entries_by j s.at s.event)) (sum_by over (waiting j)) (sum_by turned (waiting j)) (length (filter (is_turned j s) (waiting j))) more made both counted
  where
    whole : (after before off made over turned counted : ℕ) → after ≡ before + off → made ≡ over → turned ≡ off + over → counted ≡ turned → after + made ≡ before + counted
    whole after before off made over turned counted h1 h2 h3 h4 = omega arith

    barred : (c : Option Cause) → option_map_or (same_cause SwitchedOff) c false ≡ false → same_account (barred_or c LiveQueue) (Cancelled SwitchedOff) ≡ same_account LiveQueue (Cancelled SwitchedOff)
    barred None h = refl
    barred (Some cause) h = not_off cause h

    off_none : (c : Cause) → same_cause SwitchedOff c ≡ false → 0 ≡ cond (same_cause c SwitchedOff) 1 0 + 0
    off_none c h = ap (λ b. cond b 1 0 + 0) (sym (not_off c h))

    one_of_two : (n : Notice) (tn rd cl dl on : Bool) (c : Option Cause) → option_map_or (same_cause SwitchedOff) c false ≡ false → (a : Account) → is_pending a ≡ true
        → ◌≡◌ {A = ℕ} (cond (same_account a Ready && tn) 1 0)
        (cond (same_account (moved_by tn rd cl dl c (if on then Handed else Cancelled SwitchedOff) a) (Cancelled SwitchedOff)) 1 0 + cond (is_handed (moved_by tn rd cl dl c (if on then Handed else Cancelled SwitchedOff) a)) 1 0)
    one_of_two n true rd cl dl true c b Ready h = refl
    one_of_two n true rd cl dl false c b Ready h = refl
    one_of_two n false rd cl dl on None b Ready h = refl
    one_of_two n false rd cl dl on (Some cause) b Ready h = off_none cause b
    one_of_two n tn rd cl dl on (Some cause) b Held h = off_none cause b
    one_of_two n tn true cl dl on None b Held h = refl
    one_of_two n tn false true dl on None b Held h = refl
    one_of_two n tn false false dl on None b Held h = refl
    one_of_two n tn rd cl dl on (Some cause) b Flight h = off_none cause b
    one_of_two n tn true cl dl on None b Flight h = refl
    one_of_two n tn false true dl on None b Flight h = refl
    one_of_two n tn false false true on None b Flight h = refl
    one_of_two n tn false false false on None b Flight h = refl
    one_of_two n tn rd cl dl on c b NotOwed h = absurd (cc)
    one_of_two n tn rd cl dl on c b Handed h = absurd (cc)
    one_of_two n tn rd cl dl on c b (Cancelled cause) h = absurd (cc)
    one_of_two n tn rd cl dl on c b LiveQueue h = absurd (cc)

-- ---- a mail turn

-- its entries have its items
pub mail_entries-items : (j : List Stamped) (at : ℕ) (u : UserId) → sum_by item_count (mail_entries j at u) ≡ length (mail_items j u)
mail_entries-items j at u = by (switch_on j u Mail)
  where
    by : (on : Bool) → sum_by item_count (if on then entries_of u (user_name j u) at (map (ready_item j) (mailed j u)) else []) ≡ length (if on then map (ready_item j) (mailed j u) else [])
    by true = entries-sum (λ i. 1) item_count u (count_items u) (user_name j u) at (map (ready_item j) (mailed j u)) (mailed-once j u) ∙ sym (ones (map (ready_item j) (mailed j u)))
    by false = refl

-- these are handed over
pub handed_over-mailed : (j : List Stamped) (at : ℕ) (u : UserId) → handed_over (j ++ record { at = at; event = MailTurn u } ∷ []) ≡ handed_over j + length (mail_items j u)
handed_over-mailed j at u = handed_over-append j (record { at = at; event = MailTurn u }) tt ∙ ap (λ n. handed_over j + n) (mail_entries-items j at u)

mail_turned : (j : List Stamped) (at : ℕ) (u : UserId) → length (filter (is_turned j (record { at = at; event = MailTurn u })) (waiting j)) ≡ length (mailed j u)
mail_turned j at u =
    ap length (sym (mailed-waiting j u
    ∙ filter_same (is_ready_mail_of j u) (is_turned j (record { at = at; event = MailTurn u }))
    (λ n. moved_round (n.user.0 == u.0) (same_way n.way Mail) (is_ready j n)
    ∙ ap (λ b. is_ready j n && b) (ap (λ b. same_way n.way Mail && b) (eqb-turned n.user.0 u.0) ∙ sym (turn-user n.user n.number n.way (MailTurn u) refl))) (waiting j)))
  where
    moved_round : (a w r : Bool) → ((a && w) && r) ≡ (r && (w && a))
    moved_round true true true = refl
    moved_round true true false = refl
    moved_round true false true = refl
    moved_round true false false = refl
    moved_round false true true = refl
    moved_round false true false = refl
    moved_round false false true = refl
    moved_round false false false = refl

-- and they are switched off where the mail switch is off
pub switched_off-mailed : (j : List Stamped) (at : ℕ) (u : UserId) → switched_off (j ++ record { at = at; event = MailTurn u } ∷ []) ≡ switched_off j + (if switch_on j u Mail then 0 else length (mailed j u))
switched_off-mailed j at u =
    by (switch_on j u Mail) (switched_off-append j (record { at = at; event = MailTurn u }) tt ∙ ap (λ n. switched_off j + n) (mail_turned j at u)) (mail_entries-items j at u)
  where
    by : (on : Bool) → switched_off (j ++ record { at = at; event = MailTurn u } ∷ []) + sum_by item_count (mail_entries j at u) ≡ switched_off j + length (mailed j u)
        → sum_by item_count (mail_entries j at u) ≡ length (if on then map (ready_item j) (mailed j u) else []) → switched_off (j ++ record { at = at; event = MailTurn u } ∷ []) ≡ switched_off j + (if on then 0 else length (mailed j u))
    by true h made = omega (arith, h, made, length-map (mailed j u) (ready_item j))
    by false h made = omega (arith, h, made)

-- ---- a push turn

module _ (j : List Stamped) (at : ℕ) (u : UserId) (m : MessageId) (n : Notice) (is : IsQueuedPush j u m n) where
  -- its one entry has one item, where the notice has no bar and the switch is on
  push_entries-items : sum_by item_count (push_entries j at (Notify u m)) ≡ cond (is_none (cause_of_bar j n) && switch_on j u Push) 1 0
  push_entries-items = ap (sum_by item_count) (push_entries-queued j at u m n is.notice) ∙ by (is_none (cause_of_bar j n) && switch_on j u Push)
    where
      by : (on : Bool) → sum_by item_count (if on then push_entry j at n ∷ [] else []) ≡ cond on 1 0
      by true = sum_by-cons item_count (push_entry j at n) []
      by false = refl

  is_turn_ready : is_push_queued j u m ≡ true
  is_turn_ready = ap (λ o. option_map_or (is_queued j) o false) is.notice ∙ is.queued

  -- the notice is handed over then
  pub handed_over-pushed : handed_over (j ++ record { at = at; event = PushTurn (Notify u m) } ∷ []) ≡ handed_over j + cond (is_none (cause_of_bar j n) && switch_on j u Push) 1 0
  handed_over-pushed = handed_over-append j (record { at = at; event = PushTurn (Notify u m) }) is_turn_ready ∙ ap (λ k. handed_over j + k) push_entries-items

  -- it is ready where it has no bar
  push_turned : length (filter (is_turned j (record { at = at; event = PushTurn (Notify u m) })) (waiting j)) ≡ cond (is_none (cause_of_bar j n)) 1 0
  unfolding waiting
  push_turned =
      let s : Stamped = record { at = at; event = PushTurn (Notify u m) } in
      let ready : Notice → ℕ = λ b. cond (is_ready j b) 1 0 in
      length-filter (is_turned j s) (filter (λ b. is_pending (account_of j b)) (notices j))
      ∙ (sum_by-filter (λ b. cond (is_turned j s b) 1 0) (λ b. is_pending (account_of j b)) (notices j)
      ∙ (sum_by_same (λ b. cond (is_pending (account_of j b)) (cond (is_turned j s b) 1 0) 0) (λ b. cond (is_of u m Push b) (ready b) 0)
      (λ b. ap (λ t. cond (is_pending (account_of j b)) (cond (is_ready j b && t) 1 0) 0) (push_turn-of at u m b) ∙ nested (account_of j b) (is_of u m Push b)) (notices j)
      ∙ (only_found u m Push ready (notices j) (notices-apart j)
      ∙ (ap (λ o. option_map_or ready o 0) is.notice ∙ ap (λ b. cond b 1 0) (ready-is j n ∙ ap (λ b. b && is_none (cause_of_bar j n)) is.queued)))))
    where
      nested : (a : Account) (b : Bool) → ◌≡◌ {A = ℕ} (cond (is_pending a) (cond (same_account a Ready && b) 1 0) 0) (cond b (cond (same_account a Ready) 1 0) 0)
      nested Ready true = refl
      nested Ready false = refl
      nested Flight true = refl
      nested Flight false = refl
      nested Held true = refl
      nested Held false = refl
      nested NotOwed true = refl
      nested NotOwed false = refl
      nested Handed true = refl
      nested Handed false = refl
      nested (Cancelled cause) true = refl
      nested (Cancelled cause) false = refl
      nested LiveQueue true = refl
      nested LiveQueue false = refl

  -- and switched off where it has no bar and the switch is off
  pub switched_off-pushed : switched_off (j ++ record { at = at; event = PushTurn (Notify u m) } ∷ []) ≡ switched_off j + cond (is_none (cause_of_bar j n) && not (switch_on j u Push)) 1 0
  switched_off-pushed =
      let s : Stamped = record { at = at; event = PushTurn (Notify u m) } in
      whole (switched_off (j ++ s ∷ [])) (switched_off j) (sum_by item_count (push_entries j at (Notify u m))) (length (filter (is_turned j s) (waiting j))) (is_none (cause_of_bar j n)) (switch_on j u Push)
      (switched_off-append j s is_turn_ready) push_entries-items push_turned
    where
      whole : (after before made turned : ℕ) (free on : Bool) → after + made ≡ before + turned → made ≡ cond (free && on) 1 0 → turned ≡ cond free 1 0 → after ≡ before + cond (free && not on) 1 0
      whole after before made turned true true h k l = omega (arith, h, k, l)
      whole after before made turned true false h k l = omega (arith, h, k, l)
      whole after before made turned false on h k l = omega (arith, h, k, l)

-- ---- all counts

-- how many of the waiting notices have an account
abbrev pub waiting_with : List Stamped → Account → ℕ
waiting_with j account = count_by (λ n. same_account (account_of j n) account) (waiting j)

-- the counts by what waits, what was handed over, what is in the outbox, what was cancelled and what was revoked
pub counts_of-waiting : (j : List Stamped) → counts_of j ≡ record {
  flight = in_64_bits (waiting_with j Flight);
  held = in_64_bits (waiting_with j Held);
  ready = in_64_bits (waiting_with j Ready);
  handed = in_64_bits (handed_over j);
  read = in_64_bits (owed_with j (Cancelled Read));
  deleted = in_64_bits (owed_with j (Cancelled Deleted));
  off = in_64_bits (switched_off j);
  live = in_64_bits (cleared_live j);
  entries = in_64_bits (length (outbox j));
  waiting = in_64_bits (removals_waiting j);
  written = in_64_bits (removals_written j);
}
counts_of-waiting j =
    rw (owed_with-waiting j Flight refl, owed_with-waiting j Held refl, owed_with-waiting j Ready refl)
