-- Where the notice of one user, message and way stands: among those that wait, in the outbox, or cancelled.
use Rattle.std.proofs.Common.{◌≡◌, ◌≢◌, ℕ, ◌+◌, Bool, true, false, ◌&&◌, ◌==◌, cond, List, refl, sym, ap, ◌∙◌}
use Rattle.std.specs.Prelude.{Option, Some, None, find, sum_by, count_by, if◌then◌else◌}
use Rattle.std.specs.Option.{option_map_or}
use Rattle.chat_model.specs.declared.event.Stamped.{Stamped}
use Rattle.chat_model.specs.declared.entry.Conversation.{Conversation}
use Rattle.chat_model.specs.declared.entry.Entry.TheVariants as entry
use Rattle.chat_model.specs.declared.entry.Item.{Item}
use Rattle.chat_model.specs.declared.ids.UserId.{UserId}
use Rattle.chat_model.specs.declared.ids.MessageId.{MessageId}
use Rattle.chat_model.specs.declared.trigger.Way.{Way}
use Rattle.chat_model.specs.declared.trigger.Way.TheVariants.{Mail, Push}
use Rattle.notice_ledger.specs.declared.accounts.Account.{Account}
use Rattle.notice_ledger.specs.declared.accounts.Account.TheVariants.{NotOwed, Flight, Held, Ready, Handed, Cancelled, LiveQueue}
use Rattle.notice_ledger.specs.Past.Owed.{Notice, is_of, same_way, notices, account_of, account, is_handed, is_cancelled, is_pending, waiting}
use Rattle.notice_ledger.specs.Past.Outbox.{item, pushed_item, outbox}
use Rattle.notice_ledger.specs.Conserved.{items_of}
use Rattle.notice_ledger.specs.Lawful.{lawful}
use Rattle.notice_ledger.proofs.Apart.{AllByRecursion-from_all, notices-apart}
use Rattle.notice_ledger.proofs.Found.{only_found}
use Rattle.notice_ledger.proofs.Handed.{outbox-handed}
use Rattle.notice_ledger.proofs.Standing.{account_of-owed}
use Rattle.notice_ledger.proofs.Sums.{sum_by_same, sum_by_none_where, sum_by_both_where, sum_by-filter}

-- 1 where the notice is still to be handed over, or was
abbrev pub placed : Account → ℕ
placed account = cond (is_pending account) 1 0 + cond (is_handed account) 1 0

module _ (u : UserId) (m : MessageId) (w : Way) where
  -- 1 where an item for a user by a way is of it
  of_it : Way → UserId → Item → ℕ
  of_it x v i = cond (v.0 == u.0 && i.message.0 == m.0 && same_way x w) 1 0

  -- an entry has as many of it as its items
  entry_items : (v : UserId) (name : List ℕ) (at : ℕ) (c : Conversation) (items : List Item) → items_of u m w (entry.Mail v name at c items) ≡ sum_by (of_it Mail v) items
  unfolding of_it
  entry_items v name at c items = by w
    where
      none : (b : Bool) (is : List Item) → 0 ≡ sum_by (λ (i : Item). cond (b && i.message.0 == m.0 && false) 1 0) is
      none b is = sym (sum_by_none_where (λ _. Unit {0}) (λ (i : Item). cond (b && i.message.0 == m.0 && false) 1 0) (λ i _. ends (b && i.message.0 == m.0)) is (AllByRecursion-from_all (λ _. Unit {0}) (λ _. tt) is))
        where
          ends : (d : Bool) → ◌≡◌ {A = ℕ} (cond (d && false) 1 0) 0
          ends true = refl
          ends false = refl

      some : (is : List Item) → count_by (λ (i : Item). i.message.0 == m.0) is ≡ sum_by (λ (i : Item). cond (true && i.message.0 == m.0 && true) 1 0) is
      some is = sum_by_same (λ (i : Item). cond (i.message.0 == m.0) 1 0) (λ (i : Item). cond (true && i.message.0 == m.0 && true) 1 0) (λ i. whole (i.message.0 == m.0)) is
        where
          whole : (d : Bool) → ◌≡◌ {A = ℕ} (cond d 1 0) (cond (true && d && true) 1 0)
          whole true = refl
          whole false = refl

      off : (is : List Item) → 0 ≡ sum_by (λ (i : Item). cond (false && i.message.0 == m.0 && true) 1 0) is
      off is = sym (sum_by_none_where (λ _. Unit {0}) (λ (i : Item). cond (false && i.message.0 == m.0 && true) 1 0) (λ i _. refl) is (AllByRecursion-from_all (λ _. Unit {0}) (λ _. tt) is))

      by : (x : Way) → items_of u m x (entry.Mail v name at c items) ≡ sum_by (λ (i : Item). cond (v.0 == u.0 && i.message.0 == m.0 && same_way Mail x) 1 0) items
      by Mail =
          elim (v.0 == u.0) as (λ d. (if d then count_by (λ (i : Item). i.message.0 == m.0) items else 0) ≡ sum_by (λ (i : Item). cond (d && i.message.0 == m.0 && true) 1 0) items) [
            | true ↦ some items
            | false ↦ off items
          ]
      by Push = none (v.0 == u.0) items

  -- a push entry has one item
  push_items : (v : UserId) (name : List ℕ) (at : ℕ) (c : Conversation) (i : Item) → items_of u m w (entry.Push v name at c i) ≡ of_it Push v i
  unfolding of_it
  push_items v name at c i = by w
    where
      whole : (d : Bool) → ◌≡◌ {A = ℕ} (if d then 1 else 0) (cond (d && true) 1 0)
      whole true = refl
      whole false = refl

      none : (d : Bool) → ◌≡◌ {A = ℕ} 0 (cond (d && false) 1 0)
      none true = refl
      none false = refl

      by : (x : Way) → items_of u m x (entry.Push v name at c i) ≡ cond (v.0 == u.0 && i.message.0 == m.0 && same_way Push x) 1 0
      by Mail = none (v.0 == u.0 && i.message.0 == m.0)
      by Push = whole (v.0 == u.0 && i.message.0 == m.0)

  -- a removal has none
  no_removal : (v : UserId) (name : List ℕ) (at : ℕ) (ms : List MessageId) → items_of u m w (entry.Remove v name at ms) ≡ 0
  no_removal v name at ms = by w
    where
      by : (x : Way) → items_of u m x (entry.Remove v name at ms) ≡ 0
      by Mail = refl
      by Push = refl

  -- the item of a notice is one of it
  mail_item : (j : List Stamped) (n : Notice) → n.way ≡ Mail → of_it Mail n.user (item j n) ≡ cond (is_of u m w n) 1 0
  unfolding of_it
  mail_item j n e = ap (λ (x : Way). cond (n.user.0 == u.0 && n.number.0 == m.0 && same_way x w) 1 0) (sym e)

  push_item : (j : List Stamped) (n : Notice) → n.way ≡ Push → of_it Push n.user (pushed_item j n) ≡ cond (is_of u m w n) 1 0
  unfolding of_it
  push_item j n e = ap (λ (x : Way). cond (n.user.0 == u.0 && n.number.0 == m.0 && same_way x w) 1 0) (sym e)

  pub waiting_sum : (j : List Stamped) → count_by (is_of u m w) (waiting j) ≡ sum_by (λ n. cond (is_pending (account_of j n)) (cond (is_of u m w n) 1 0) 0) (notices j)
  unfolding waiting
  waiting_sum j = sum_by-filter (λ n. cond (is_of u m w n) 1 0) (λ n. is_pending (account_of j n)) (notices j)

  placed_parts : (b : Bool) (a : Account) → cond b (placed a) 0 ≡ cond (is_pending a) (cond b 1 0) 0 + cond (is_handed a) (cond b 1 0) 0
  placed_parts true a = refl
  placed_parts false a = none_both (is_pending a) (is_handed a)
    where
      none_both : (p q : Bool) → ◌≡◌ {A = ℕ} 0 (cond p 0 0 + cond q 0 0)
      none_both true true = refl
      none_both true false = refl
      none_both false true = refl
      none_both false false = refl

  -- the notices that wait and the items in the outbox
  waiting-outbox : (j : List Stamped) → count_by (is_of u m w) (waiting (lawful j)) + sum_by (items_of u m w) (outbox (lawful j)) ≡ sum_by (λ n. cond (is_of u m w n) (placed (account_of (lawful j) n)) 0) (notices (lawful j))
  waiting-outbox j =
      let k = lawful j in
      let it : Notice → ℕ = λ n. cond (is_of u m w n) 1 0 in
      ap (λ a. a + sum_by (items_of u m w) (outbox k)) (waiting_sum k)
      ∙ (ap (λ b. sum_by (λ n. cond (is_pending (account_of k n)) (it n) 0) (notices k) + b) (outbox-handed (items_of u m w) (of_it Mail) (of_it Push) it entry_items push_items no_removal mail_item push_item j)
      ∙ sym (sum_by_both_where (λ _. Unit {0}) (λ n. cond (is_of u m w n) (placed (account_of k n)) 0)
      (λ n. cond (is_pending (account_of k n)) (it n) 0) (λ n. cond (is_handed (account_of k n)) (it n) 0)
      (λ n _. placed_parts (is_of u m w n) (account_of k n)) (notices k) (AllByRecursion-from_all (λ _. Unit {0}) (λ _. tt) (notices k))))

  -- the notice waits or is one item of the outbox, where it isn't cancelled
  pub places : (j : List Stamped) → count_by (is_of u m w) (waiting (lawful j)) + sum_by (items_of u m w) (outbox (lawful j)) ≡ option_map_or (λ n. placed (account_of (lawful j) n)) (find (is_of u m w) (notices (lawful j))) 0
  places j = waiting-outbox j ∙ only_found u m w (λ n. placed (account_of (lawful j) n)) (notices (lawful j)) (notices-apart (lawful j))

  -- an owed notice has one place
  one_place : (a : Account) → a ≢ NotOwed → placed a + (if is_cancelled a then 1 else 0) ≡ 1
  one_place NotOwed h = absurd (h refl)
  one_place Flight h = refl
  one_place Held h = refl
  one_place Ready h = refl
  one_place Handed h = refl
  one_place (Cancelled cause) h = refl
  one_place LiveQueue h = refl

  owed_place : (j : List Stamped) (o : Option Notice) → option_map_or (account_of j) o NotOwed ≢ NotOwed → option_map_or (λ n. placed (account_of j n)) o 0 + (if is_cancelled (option_map_or (account_of j) o NotOwed) then 1 else 0) ≡ 1
  owed_place j None h = absurd (h refl)
  owed_place j (Some n) h = one_place (account_of j n) h

  no_place : (j : List Stamped) (o : Option Notice) → option_map_or (account_of j) o NotOwed ≡ NotOwed → option_map_or (λ n. placed (account_of j n)) o 0 ≡ 0
  no_place j None h = refl
  no_place j (Some n) h = absurd (account_of-owed j n h)

  -- a notice that lawful events owe waits, or is one item of the outbox, or is cancelled
  pub places-owed : (j : List Stamped) → account (lawful j) u m w ≢ NotOwed → (count_by (is_of u m w) (waiting (lawful j)) + sum_by (items_of u m w) (outbox (lawful j))) + (if is_cancelled (account (lawful j) u m w) then 1 else 0) ≡ 1
  places-owed j h =
      ap (λ k. k + (if is_cancelled (account (lawful j) u m w) then 1 else 0)) (places j) ∙ owed_place (lawful j) (find (is_of u m w) (notices (lawful j))) h

  -- a notice that is not owed neither waits nor stands in the outbox
  pub places-not_owed : (j : List Stamped) → account (lawful j) u m w ≡ NotOwed → count_by (is_of u m w) (waiting (lawful j)) + sum_by (items_of u m w) (outbox (lawful j)) ≡ 0
  places-not_owed j h = places j ∙ no_place (lawful j) (find (is_of u m w) (notices (lawful j))) h

  -- a notice that lawful events owe is one item of the outbox where it was handed over, and else none
  pub outbox-counted : (j : List Stamped) → sum_by (items_of u m w) (outbox (lawful j)) ≡ cond (is_handed (account (lawful j) u m w)) 1 0
  outbox-counted j =
      let k = lawful j in
      let it : Notice → ℕ = λ n. cond (is_of u m w n) 1 0 in
      let handed : Notice → ℕ = λ n. cond (is_handed (account_of k n)) 1 0 in
      outbox-handed (items_of u m w) (of_it Mail) (of_it Push) it entry_items push_items no_removal mail_item push_item j
      ∙ (sum_by_same (λ n. cond (is_handed (account_of k n)) (it n) 0) (λ n. cond (is_of u m w n) (handed n) 0) (λ n. turned (is_handed (account_of k n)) (is_of u m w n)) (notices k)
      ∙ (only_found u m w handed (notices k) (notices-apart k) ∙ found k (find (is_of u m w) (notices k))))
    where
      turned : (a b : Bool) → ◌≡◌ {A = ℕ} (cond a (cond b 1 0) 0) (cond b (cond a 1 0) 0)
      turned true true = refl
      turned true false = refl
      turned false true = refl
      turned false false = refl

      found : (k : List Stamped) (o : Option Notice) → ◌≡◌ {A = ℕ} (option_map_or (λ n. cond (is_handed (account_of k n)) 1 0) o 0) (cond (is_handed (option_map_or (account_of k) o NotOwed)) 1 0)
      found k None = refl
      found k (Some n) = refl
