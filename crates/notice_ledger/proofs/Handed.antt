-- What turns hand over: the items of the outbox are the notices that stand as handed.
use Rattle.std.proofs.Common.{◌≡◌, ℕ, ◌+◌, ◌<◌, Bool, true, false, ◌&&◌, ◌==◌, cond, List, [], ◌∷◌, ◌++◌, length, map, refl, sym, ap, ◌∙◌, arith}
use Rattle.std.specs.Prelude.{Option, Some, None, is_none, sum_by, if◌then◌else◌}
use Rattle.std.specs.List.{AllByRecursion}
use Rattle.std.specs.Option.{option_map_or}
use Rattle.std.proofs.lemmas.List.Sums.{sum_by-append, sum_by-cons}
use Rattle.chat_model.specs.declared.event.Stamped.{Stamped}
use Rattle.chat_model.specs.declared.event.Event.{Event}
use Rattle.chat_model.specs.declared.event.Event.TheVariants.{MailTurn, PushTurn}
use Rattle.chat_model.specs.declared.entry.Conversation.{Conversation}
use Rattle.chat_model.specs.declared.entry.Entry.{Entry}
use Rattle.chat_model.specs.declared.entry.Entry.TheVariants as entry
use Rattle.chat_model.specs.declared.entry.Item.{Item}
use Rattle.chat_model.specs.declared.ids.UserId.{UserId}
use Rattle.chat_model.specs.declared.ids.MessageId.{MessageId}
use Rattle.chat_model.specs.declared.push_item.PushItem.TheVariants.{Notify, Remove}
use Rattle.chat_model.specs.declared.row.Cause.{Cause}
use Rattle.chat_model.specs.declared.row.Cause.TheVariants.{SwitchedOff}
use Rattle.chat_model.specs.declared.trigger.Way.{Way}
use Rattle.chat_model.specs.declared.trigger.Way.TheVariants.{Mail, Push}
use Rattle.mail_batches.specs.declared.grouping.ReadyItem.{ReadyItem}
use Rattle.mail_batches.specs.Entries.{entries_of}
use Rattle.mail_batches.proofs.EntrySums.{entries-sum}
use Rattle.notice_ledger.specs.declared.accounts.Account.{Account}
use Rattle.notice_ledger.specs.declared.accounts.Account.TheVariants.{NotOwed, Flight, Held, Ready, Handed, Cancelled, LiveQueue}
use Rattle.notice_ledger.specs.Past.Journal.{occurrence}
use Rattle.notice_ledger.specs.Past.Values.{user_name}
use Rattle.notice_ledger.specs.Past.Owed.{Notice, is_of, same_way, notices, owed_by, cause_of_bar, switch_on, decided, account_of, is_handed, is_pending, waiting}
use Rattle.notice_ledger.specs.Past.Outbox.{item, conversation, ready_item, mailed, mail_entries, pushed_item, push_entry, push_entries, entries_by, outbox}
use Rattle.notice_ledger.specs.Past.Audit.{same_account}
use Rattle.notice_ledger.specs.Lawful.{lawful}
use Rattle.notice_ledger.proofs.Same.{same_user, eqb-turned}
use Rattle.notice_ledger.proofs.Apart.{notices-apart}
use Rattle.notice_ledger.proofs.Appended.{notices-nil, notices-append, outbox-nil, outbox-append}
use Rattle.notice_ledger.proofs.Found.{of_parts, only_found}
use Rattle.notice_ledger.proofs.LawfulLemmas.{lawful-by_lawful_steps}
use Rattle.notice_ledger.proofs.PushNotices.{IsQueuedPush, queued_push, push_turn-of, push_entries-queued}
use Rattle.notice_ledger.proofs.PushesWait.{turn-ready, unturned-removal}
use Rattle.notice_ledger.proofs.Queued.{queued-account}
use Rattle.notice_ledger.proofs.Standing.{is_turn, is_readying, is_clearing, is_dealing, barring, moved, moved_by, account_of-append}
use Rattle.notice_ledger.proofs.Turned.{is_push_queued, IsTurnReady, turn-user, no_turn}
use Rattle.notice_ledger.proofs.Waiting.{IsOwedBy, owed_by-each, notices-placed, account_of-new, waiting-pending}
use Rattle.notice_ledger.proofs.Batches.{is_ready_mail_of, mailed-waiting, mailed-once}
use Rattle.notice_ledger.proofs.Sums.{sum_by_same, sum_by_same_where, sum_by_none_where, sum_by_both_where, sum_by-map, sum_by-filter, plus_none, none_plus}

-- ---- what an event hands over

-- the event hands the notice over
abbrev pub is_handed_by : List Stamped → Stamped → Notice → Bool
is_handed_by j s n = is_handed (moved j s n (account_of j n))

-- no event other than its turn hands a pending notice over
not_handed : (rd cl dl : Bool) (c : Option Cause) (decision a : Account) → is_pending a ≡ true → is_handed (moved_by false rd cl dl c decision a) ≡ false
not_handed rd cl dl None decision Ready h = refl
not_handed rd cl dl (Some cause) decision Ready h = refl
not_handed rd cl dl (Some cause) decision Held h = refl
not_handed true cl dl None decision Held h = refl
not_handed false true dl None decision Held h = refl
not_handed false false dl None decision Held h = refl
not_handed rd cl dl (Some cause) decision Flight h = refl
not_handed true cl dl None decision Flight h = refl
not_handed false true dl None decision Flight h = refl
not_handed false false true None decision Flight h = refl
not_handed false false false None decision Flight h = refl
not_handed rd cl dl c decision NotOwed h = absurd (cc)
not_handed rd cl dl c decision Handed h = absurd (cc)
not_handed rd cl dl c decision (Cancelled cause) h = absurd (cc)
not_handed rd cl dl c decision LiveQueue h = absurd (cc)

-- its turn hands a pending notice over where it is ready, and the switch is on
handed_at_turn : (rd cl dl on : Bool) (c : Option Cause) (a : Account) → is_pending a ≡ true → is_handed (moved_by true rd cl dl c (if on then Handed else Cancelled SwitchedOff) a) ≡ (same_account a Ready && on)
handed_at_turn rd cl dl true c Ready h = refl
handed_at_turn rd cl dl false c Ready h = refl
handed_at_turn rd cl dl on (Some cause) Held h = refl
handed_at_turn true cl dl on None Held h = refl
handed_at_turn false true dl on None Held h = refl
handed_at_turn false false dl on None Held h = refl
handed_at_turn rd cl dl on (Some cause) Flight h = refl
handed_at_turn true cl dl on None Flight h = refl
handed_at_turn false true dl on None Flight h = refl
handed_at_turn false false true on None Flight h = refl
handed_at_turn false false false on None Flight h = refl
handed_at_turn rd cl dl on c NotOwed h = absurd (cc)
handed_at_turn rd cl dl on c Handed h = absurd (cc)
handed_at_turn rd cl dl on c (Cancelled cause) h = absurd (cc)
handed_at_turn rd cl dl on c LiveQueue h = absurd (cc)

-- no notice is handed over by an event that is no turn of it
nothing_handed : (j : List Stamped) (s : Stamped) (n : Notice) → is_pending (account_of j n) ≡ true → is_turn s n ≡ false → is_handed_by j s n ≡ false
nothing_handed j s n pending other =
    ap (λ t. is_handed (moved_by t (is_readying s n) (is_clearing s n) (is_dealing s n) (barring j s n) (decided n (occurrence j s)) (account_of j n))) other
    ∙ not_handed (is_readying s n) (is_clearing s n) (is_dealing s n) (barring j s n) (decided n (occurrence j s)) (account_of j n) pending

-- an entry counts for as much as its items, and an item for as much as its notice
module _ (f : Entry → ℕ) (h k : UserId → Item → ℕ) (g : Notice → ℕ)
    (of_items : (u : UserId) (name : List ℕ) (at : ℕ) (c : Conversation) (items : List Item) → f (entry.Mail u name at c items) ≡ sum_by (h u) items)
    (of_push : (u : UserId) (name : List ℕ) (at : ℕ) (c : Conversation) (i : Item) → f (entry.Push u name at c i) ≡ k u i)
    (of_removal : (u : UserId) (name : List ℕ) (at : ℕ) (ms : List MessageId) → f (entry.Remove u name at ms) ≡ 0)
    (fits : (j : List Stamped) (n : Notice) → n.way ≡ Mail → h n.user (item j n) ≡ g n)
    (fits_push : (j : List Stamped) (n : Notice) → n.way ≡ Push → k n.user (pushed_item j n) ≡ g n) where
  -- no entry is made where the event is a turn of no notice that waits
  none_handed : (j : List Stamped) (s : Stamped) → ((n : Notice) → is_turn s n ≡ false) → 0 ≡ sum_by (λ n. cond (is_handed_by j s n) (g n) 0) (waiting j)
  none_handed j s never =
      sym (sum_by_none_where (λ n. is_pending (account_of j n) ≡ true) (λ n. cond (is_handed_by j s n) (g n) 0)
      (λ n pending. ap (λ t. cond t (g n) 0) (nothing_handed j s n pending (never n))) (waiting j) (waiting-pending j))

  waiting-sum : (c : Notice → ℕ) (j : List Stamped) → sum_by c (waiting j) ≡ sum_by (λ n. cond (is_pending (account_of j n)) (c n) 0) (notices j)
  unfolding waiting
  waiting-sum c j = sum_by-filter c (λ n. is_pending (account_of j n)) (notices j)

  -- ---- a mail turn

  -- a waiting notice counts where the turn hands it over
  one_mailed : (j : List Stamped) (at : ℕ) (v : UserId) (n : Notice) → is_pending (account_of j n) ≡ true
      → cond (is_ready_mail_of j v n) (cond (switch_on j v Mail) (h v (item j n)) 0) 0 ≡ cond (is_handed_by j (record { at = at; event = MailTurn v }) n) (g n) 0
  one_mailed j at v n pending = by n.way refl (n.user.0 == v.0) refl
    where
      s : Stamped
      s = record { at = at; event = MailTurn v }

      its_turn : is_turn (record { at = at; event = MailTurn v }) n ≡ (same_way n.way Mail && v.0 == n.user.0)
      its_turn = turn-user n.user n.number n.way (MailTurn v) refl

      counted : (ready on : Bool) → h v (item j n) ≡ g n → cond (true && ready) (cond on (h v (item j n)) 0) 0 ≡ cond (ready && on) (g n) 0
      counted true true e = e
      counted true false e = refl
      counted false on e = refl

      by : (w : Way) → n.way ≡ w → (b : Bool) → n.user.0 == v.0 ≡ b → cond (is_ready_mail_of j v n) (cond (switch_on j v Mail) (h v (item j n)) 0) 0 ≡ cond (is_handed_by j (record { at = at; event = MailTurn v }) n) (g n) 0
      by Push way b user =
          (λ i. cond ((user i && same_way (way i) Mail) && same_account (account_of j n) Ready) (cond (switch_on j v Mail) (h v (item j n)) 0) 0)
          ∙ (never b
          ∙ ap (λ t. cond t (g n) 0) (sym (nothing_handed j (record { at = at; event = MailTurn v }) n pending (its_turn ∙ ap (λ (x : Way). same_way x Mail && v.0 == n.user.0) way))))
        where
          never : (b : Bool) → cond ((b && false) && same_account (account_of j n) Ready) (cond (switch_on j v Mail) (h v (item j n)) 0) 0 ≡ 0
          never true = refl
          never false = refl
      by Mail way false user =
          (λ i. cond ((user i && same_way (way i) Mail) && same_account (account_of j n) Ready) (cond (switch_on j v Mail) (h v (item j n)) 0) 0)
          ∙ ap (λ t. cond t (g n) 0) (sym (nothing_handed j (record { at = at; event = MailTurn v }) n pending (its_turn ∙ (ap (λ (x : Way). same_way x Mail && v.0 == n.user.0) way ∙ (eqb-turned v.0 n.user.0 ∙ user)))))
      by Mail way true user =
          let s : Stamped = record { at = at; event = MailTurn v } in
          let turn : is_turn s n ≡ true = its_turn ∙ (ap (λ (x : Way). same_way x Mail && v.0 == n.user.0) way ∙ (eqb-turned v.0 n.user.0 ∙ user)) in
          let on : switch_on j n.user n.way ≡ switch_on j v Mail = ap (λ (x : Way). switch_on j n.user x) way ∙ ap (λ (u : UserId). switch_on j u Mail) (same_user n.user v user) in
          (λ i. cond ((user i && same_way (way i) Mail) && same_account (account_of j n) Ready) (cond (switch_on j v Mail) (h v (item j n)) 0) 0)
          ∙ (counted (same_account (account_of j n) Ready) (switch_on j v Mail) (ap (λ (u : UserId). h u (item j n)) (sym (same_user n.user v user)) ∙ fits j n way)
          ∙ ap (λ t. cond t (g n) 0) (sym (
          (λ i. is_handed (moved_by (turn i) (is_readying s n) (is_clearing s n) (is_dealing s n) (barring j s n) (if on i then Handed else Cancelled SwitchedOff) (account_of j n)))
          ∙ handed_at_turn (is_readying s n) (is_clearing s n) (is_dealing s n) (switch_on j v Mail) (barring j s n) (account_of j n) pending)))

  entries_sum : (j : List Stamped) (at : ℕ) (v : UserId) (on : Bool) → sum_by f (if on then entries_of v (user_name j v) at (map (ready_item j) (mailed j v)) else []) ≡ sum_by (λ n. cond on (h v (item j n)) 0) (mailed j v)
  entries_sum j at v true =
      entries-sum (h v) f v (of_items v) (user_name j v) at (map (ready_item j) (mailed j v)) (mailed-once j v)
      ∙ sum_by-map (λ (k : ReadyItem). h v k.item) (ready_item j) (mailed j v)
  entries_sum j at v false = sym (none (mailed j v))
    where
      none : (ns : List Notice) → sum_by (λ (n : Notice). 0) ns ≡ 0
      none ns = sum_by_none_where (λ _. Unit {0}) (λ (n : Notice). 0) (λ n _. refl) ns (all ns)
        where
          all : (ns : List Notice) → AllByRecursion (λ _. Unit {0}) ns
          all [] = tt
          all (n ∷ ns) = (tt, all ns)

  mail_handed : (j : List Stamped) (at : ℕ) (v : UserId) → sum_by f (mail_entries j at v) ≡ sum_by (λ n. cond (is_handed_by j (record { at = at; event = MailTurn v }) n) (g n) 0) (waiting j)
  mail_handed j at v =
      entries_sum j at v (switch_on j v Mail)
      ∙ (ap (sum_by (λ n. cond (switch_on j v Mail) (h v (item j n)) 0)) (mailed-waiting j v)
      ∙ (sum_by-filter (λ n. cond (switch_on j v Mail) (h v (item j n)) 0) (is_ready_mail_of j v) (waiting j)
      ∙ sum_by_same_where (λ n. is_pending (account_of j n) ≡ true)
      (λ n. cond (is_ready_mail_of j v n) (cond (switch_on j v Mail) (h v (item j n)) 0) 0)
      (λ n. cond (is_handed_by j (record { at = at; event = MailTurn v }) n) (g n) 0) (one_mailed j at v) (waiting j) (waiting-pending j)))

  -- ---- a push turn

  -- a waiting notice counts where it is the one whose turn it is
  one_pushed : (j : List Stamped) (at : ℕ) (u : UserId) (m : MessageId) (n : Notice) → is_pending (account_of j n) ≡ true
      → cond (is_handed_by j (record { at = at; event = PushTurn (Notify u m) }) n) (g n) 0 ≡ cond (is_of u m Push n) (cond (same_account (account_of j n) Ready && switch_on j u Push) (g n) 0) 0
  one_pushed j at u m n pending = by (is_of u m Push n) refl
    where
      by : (b : Bool) → is_of u m Push n ≡ b → cond (is_handed_by j (record { at = at; event = PushTurn (Notify u m) }) n) (g n) 0 ≡ cond b (cond (same_account (account_of j n) Ready && switch_on j u Push) (g n) 0) 0
      by false other = ap (λ t. cond t (g n) 0) (nothing_handed j (record { at = at; event = PushTurn (Notify u m) }) n pending (push_turn-of at u m n ∙ other))
      by true it =
          let s : Stamped = record { at = at; event = PushTurn (Notify u m) } in
          let is = of_parts u m Push n it in
          let turn : is_turn s n ≡ true = push_turn-of at u m n ∙ it in
          let on : switch_on j n.user n.way ≡ switch_on j u Push = ap (λ (x : Way). switch_on j n.user x) is.way ∙ ap (λ (v : UserId). switch_on j v Push) is.user in
          ap (λ t. cond t (g n) 0) (
          (λ i. is_handed (moved_by (turn i) (is_readying s n) (is_clearing s n) (is_dealing s n) (barring j s n) (if on i then Handed else Cancelled SwitchedOff) (account_of j n)))
          ∙ handed_at_turn (is_readying s n) (is_clearing s n) (is_dealing s n) (switch_on j u Push) (barring j s n) (account_of j n) pending)

  push_handed : (j : List Stamped) (at : ℕ) (u : UserId) (m : MessageId) → is_push_queued j u m ≡ true
      → sum_by f (push_entries j at (Notify u m)) ≡ sum_by (λ n. cond (is_handed_by j (record { at = at; event = PushTurn (Notify u m) }) n) (g n) 0) (waiting j)
  push_handed j at u m queued =
      let found = queued_push j u m queued in
      let n = found.0 in
      ap (sum_by f) (push_entries-queued j at u m n found.1.notice)
      ∙ (one_entry n found.1 (is_none (cause_of_bar j n) && switch_on j u Push)
      ∙ (barred (g n) (cause_of_bar j n) (account_of j n) (switch_on j u Push) (queued-account j n found.1.queued)
      ∙ (ap (λ o. option_map_or pending_counts o 0) (sym found.1.notice)
      ∙ (sym (only_found u m Push pending_counts (notices j) (notices-apart j))
      ∙ (sum_by_same (λ n. cond (is_of u m Push n) (pending_counts n) 0) (λ n. cond (is_pending (account_of j n)) (cond (is_of u m Push n) (counts n) 0) 0) (λ n. turned (is_of u m Push n) (is_pending (account_of j n)) (counts n)) (notices j)
      ∙ (sym (waiting-sum (λ n. cond (is_of u m Push n) (counts n) 0) j)
      ∙ sym (sum_by_same_where (λ n. is_pending (account_of j n) ≡ true)
      (λ n. cond (is_handed_by j (record { at = at; event = PushTurn (Notify u m) }) n) (g n) 0)
      (λ n. cond (is_of u m Push n) (counts n) 0) (one_pushed j at u m) (waiting j) (waiting-pending j))))))))
    where
      counts : Notice → ℕ
      counts b = cond (same_account (account_of j b) Ready && switch_on j u Push) (g b) 0

      pending_counts : Notice → ℕ
      pending_counts b = cond (is_pending (account_of j b)) (counts b) 0

      one_entry : (n : Notice) → IsQueuedPush j u m n → (on : Bool) → sum_by f (if on then push_entry j at n ∷ [] else []) ≡ cond on (g n) 0
      one_entry n is true =
          sum_by-cons f (push_entry j at n) []
          ∙ (ap (λ c. c + 0) (of_push n.user (user_name j n.user) at (conversation j n) (pushed_item j n) ∙ fits_push j n is.is.way) ∙ sym (plus_none (g n)))
      one_entry n is false = refl

      -- a barred one is pending no more
      barred : (k : ℕ) (c : Option Cause) (a : Account) (on : Bool) → a ≡ option_map_or Cancelled c Ready → cond (is_none c && on) k 0 ≡ cond (is_pending a) (cond (same_account a Ready && on) k 0) 0
      barred k None a on e = sym (ap (λ (x : Account). cond (is_pending x) (cond (same_account x Ready && on) k 0) 0) e)
      barred k (Some cause) a on e = sym (ap (λ (x : Account). cond (is_pending x) (cond (same_account x Ready && on) k 0) 0) e)

      turned : (b p : Bool) (k : ℕ) → cond b (cond p k 0) 0 ≡ cond p (cond b k 0) 0
      turned true p k = refl
      turned false true k = refl
      turned false false k = refl

  -- ---- every event

  handed_by : (j : List Stamped) (at : ℕ) (e : Event) → IsTurnReady j e → sum_by f (entries_by j at e) ≡ sum_by (λ n. cond (is_handed_by j (record { at = at; event = e }) n) (g n) 0) (waiting j)
  handed_by j at (MailTurn v) ready = mail_handed j at v
  handed_by j at (PushTurn (Notify u m)) ready = push_handed j at u m ready
  handed_by j at (PushTurn (Remove u ms)) ready =
      sum_by-cons f (entry.Remove u (user_name j u) at ms) []
      ∙ (ap (λ c. c + 0) (of_removal u (user_name j u) at ms)
      ∙ none_handed j (record { at = at; event = PushTurn (Remove u ms) }) (λ n. unturned-removal at u ms n))
  handed_by j at e ready = none_handed j (record { at = at; event = e }) (λ n. no_turn n.user n.number n.way e refl refl)

  -- the entries that an event makes
  pub entries_by-handed : (j : List Stamped) (s : Stamped) → IsTurnReady j s.event → sum_by f (entries_by j s.at s.event) ≡ sum_by (λ n. cond (is_handed_by j s n) (g n) 0) (waiting j)
  entries_by-handed j s ready = handed_by j s.at s.event ready

  -- a notice is handed from the event on that hands it over
  handed_later : (tn rd cl dl : Bool) (b : Option Cause) (decision a : Account) (c : ℕ) → cond (is_handed (moved_by tn rd cl dl b decision a)) c 0 ≡ cond (is_handed a) c 0 + cond (is_pending a) (cond (is_handed (moved_by tn rd cl dl b decision a)) c 0) 0
  handed_later tn rd cl dl b decision Flight c = none_plus (cond (is_handed (moved_by tn rd cl dl b decision Flight)) c 0)
  handed_later tn rd cl dl b decision Held c = none_plus (cond (is_handed (moved_by tn rd cl dl b decision Held)) c 0)
  handed_later tn rd cl dl b decision Ready c = none_plus (cond (is_handed (moved_by tn rd cl dl b decision Ready)) c 0)
  handed_later tn rd cl dl None decision LiveQueue c = plus_none 0
  handed_later tn rd cl dl (Some cause) decision LiveQueue c = plus_none 0
  handed_later tn rd cl dl b decision a c = plus_none (cond (is_handed a) c 0)

  -- the items of the outbox are the notices that were handed over
  AreItemsHanded : List Stamped → Type 0
  AreItemsHanded j = sum_by f (outbox j) ≡ sum_by (λ n. cond (is_handed (account_of j n)) (g n) 0) (notices j)

  one_more : (j : List Stamped) (s : Stamped) → IsTurnReady j s.event → AreItemsHanded j → AreItemsHanded (j ++ s ∷ [])
  unfolding AreItemsHanded
  one_more j s ready before_it =
      let later = λ (n : Notice). cond (is_handed (account_of (j ++ s ∷ []) n)) (g n) 0 in
      let before = λ (n : Notice). cond (is_handed (account_of j n)) (g n) 0 in
      let now = λ (n : Notice). cond (is_handed_by j s n) (g n) 0 in
      let old : sum_by later (notices j) ≡ sum_by before (notices j) + sum_by (λ n. cond (is_pending (account_of j n)) (now n) 0) (notices j) =
      sum_by_both_where (λ n. n.owing.place < length j) later before (λ n. cond (is_pending (account_of j n)) (now n) 0)
      (λ n placed.
      ap (λ a. cond (is_handed a) (g n) 0) (account_of-append j s n placed)
      ∙ handed_later (is_turn s n) (is_readying s n) (is_clearing s n) (is_dealing s n) (barring j s n) (decided n (occurrence j s)) (account_of j n) (g n))
      (notices j) (notices-placed j) in
      let new : sum_by later (owed_by (occurrence j s)) ≡ 0 =
      sum_by_none_where (IsOwedBy (occurrence j s)) later (λ n owed. ap (λ a. cond (is_handed a) (g n) 0) (account_of-new j s n owed)) (owed_by (occurrence j s)) (owed_by-each (occurrence j s)) in
      let all = ap (sum_by later) (notices-append j s) ∙ sum_by-append later (notices j) (owed_by (occurrence j s)) in
      let es = ap (sum_by f) (outbox-append j s) ∙ sum_by-append f (outbox j) (entries_by j s.at s.event) in
      let more = entries_by-handed j s ready ∙ waiting-sum now j in
      omega arith

  -- so it is after lawful events, since each push turn of these is that of a ready notice
  pub outbox-handed : (j : List Stamped) → sum_by f (outbox (lawful j)) ≡ sum_by (λ n. cond (is_handed (account_of (lawful j) n)) (g n) 0) (notices (lawful j))
  unfolding AreItemsHanded
  outbox-handed j =
      lawful-by_lawful_steps AreItemsHanded
      (ap (sum_by f) outbox-nil ∙ sym (ap (sum_by (λ n. cond (is_handed (account_of [] n)) (g n) 0)) notices-nil))
      (λ j s is_lawful before_it next. one_more j s (turn-ready j s is_lawful next) before_it) j
