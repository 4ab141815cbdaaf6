-- A push notice that is queued, and what its turn does.
use Rattle.std.proofs.Common.{◌≡◌, ℕ, Bool, true, false, ◌&&◌, ◌||◌, ◌==◌, eqb, List, [], ◌∷◌, refl, sym, ap, ◌∙◌}
use Rattle.std.specs.Prelude.{Option, Some, None, find, is_none, if◌then◌else◌}
use Rattle.std.specs.Option.{option_map_or}
use Rattle.std.proofs.Math.Bool.{and-true, and-false}
use Rattle.chat_model.specs.declared.event.Stamped.{Stamped}
use Rattle.chat_model.specs.declared.event.Event.TheVariants.{PushTurn}
use Rattle.chat_model.specs.declared.entry.Entry.{Entry}
use Rattle.chat_model.specs.declared.ids.UserId.{UserId}
use Rattle.chat_model.specs.declared.ids.MessageId.{MessageId}
use Rattle.chat_model.specs.declared.push_item.PushItem.TheVariants.{Notify}
use Rattle.chat_model.specs.declared.trigger.Way.{Way}
use Rattle.chat_model.specs.declared.trigger.Way.TheVariants.{Mail, Push}
use Rattle.notice_ledger.specs.Past.Owed.{Notice, is_of, same_way, is_turn_of, notices, notice_to, cause_of_bar, switch_on, account_of, is_pending}
use Rattle.notice_ledger.specs.Past.Outbox.{is_pushed, push_entry, push_entries}
use Rattle.notice_ledger.proofs.Found.{find-passes, find-kept, IsOf, of_parts}
use Rattle.notice_ledger.proofs.Same.{eqb-turned}
use Rattle.notice_ledger.proofs.Queued.{is_queued, is_kept, kept}
use Rattle.notice_ledger.proofs.Standing.{is_turn, unbarred-cause}
use Rattle.notice_ledger.proofs.Turned.{is_push_queued}

-- the push notice of a user and a message is queued
pub record IsQueuedPush (j : List Stamped) (u : UserId) (m : MessageId) (n : Notice) : Type 0 where
  pub notice : notice_to j u m Push ≡ Some n
  pub waits : find (is_of u m Push) (kept j) ≡ Some n
  pub is_of_it : is_of u m Push n ≡ true
  pub is : IsOf u m Push n
  pub queued : is_queued j n ≡ true

found-kept : (j : List Stamped) (u : UserId) (m : MessageId) (w : Way) (n : Notice) → notice_to j u m w ≡ Some n → is_kept j n ≡ true → find (is_of u m w) (kept j) ≡ Some n
unfolding kept
found-kept j u m w n found is_it = find-kept (is_of u m w) (is_kept j) (notices j) n found is_it

-- what is queued is kept
queued-kept : (j : List Stamped) (n : Notice) → is_queued j n ≡ true → is_kept j n ≡ true
queued-kept j n h = ap (λ b. is_pending (account_of j n) || b) h ∙ or_true (is_pending (account_of j n))
  where
    or_true : (b : Bool) → (b || true) ≡ true
    or_true true = refl
    or_true false = refl

-- where it is queued there is one
pub queued_push : (j : List Stamped) (u : UserId) (m : MessageId) → is_push_queued j u m ≡ true → (n : Notice) × IsQueuedPush j u m n
queued_push j u m queued = by (notice_to j u m Push) refl queued
  where
    by : (o : Option Notice) → notice_to j u m Push ≡ o → option_map_or (is_queued j) o false ≡ true → (n : Notice) × IsQueuedPush j u m n
    by None e h = absurd (cc)
    by (Some n) e h =
        let of_it : is_of u m Push n ≡ true = find-passes (is_of u m Push) (notices j) n e in (
          n,
          record {
            notice = e;
            waits = found-kept j u m Push n e (queued-kept j n h);
            is_of_it = of_it;
            is = of_parts u m Push n of_it;
            queued = h;
          },
        )

-- a push turn is that of the notice that its item names
pub push_turn-of : (at : ℕ) (u : UserId) (m : MessageId) (n : Notice) → is_turn (record { at = at; event = PushTurn (Notify u m) }) n ≡ is_of u m Push n
push_turn-of at u m n = by n.way
  where
    by : (w : Way) → is_turn_of n.user n.number w (PushTurn (Notify u m)) ≡ (n.user.0 == u.0 && n.number.0 == m.0 && same_way w Push)
    by Mail = sym (and-false (n.user.0 == u.0 && n.number.0 == m.0))
    by Push = (λ i. eqb-turned u.0 n.user.0 i && eqb-turned m.0 n.number.0 i) ∙ sym (and-true (n.user.0 == u.0 && n.number.0 == m.0))

pub push_turn-at : (at : ℕ) (u : UserId) (m : MessageId) (v : UserId) (k : MessageId) (n : Notice) → is_of v k Push n ≡ true → is_turn (record { at = at; event = PushTurn (Notify u m) }) n ≡ (u.0 == v.0 && m.0 == k.0)
push_turn-at at u m v k n it =
    let is = of_parts v k Push n it in
    push_turn-of at u m n
    ∙ ((λ i. eqb (is.user i).0 u.0 && eqb (is.number i).0 m.0 && same_way (is.way i) Push)
    ∙ ((λ i. eqb-turned v.0 u.0 i && eqb-turned k.0 m.0 i && true) ∙ and-true (u.0 == v.0 && m.0 == k.0)))

-- the push turn of a notice makes an entry where it has no bar and the switch is on
pub push_entries-queued : (j : List Stamped) (at : ℕ) (u : UserId) (m : MessageId) (n : Notice) → notice_to j u m Push ≡ Some n
    → push_entries j at (Notify u m) ≡ (if is_none (cause_of_bar j n) && switch_on j u Push then push_entry j at n ∷ [] else [])
push_entries-queued j at u m n found =
    let entry_if : Bool → List Entry = λ b. if b then push_entry j at n ∷ [] else [] in
    let is = of_parts u m Push n (find-passes (is_of u m Push) (notices j) n found) in
    ap (λ o. option_map_or (λ n. if is_pushed j n then push_entry j at n ∷ [] else []) o []) found
    ∙ (ap (λ b. entry_if (b && switch_on j n.user Push)) (unbarred-cause j n)
    ∙ ap (λ (v : UserId). entry_if (is_none (cause_of_bar j n) && switch_on j v Push)) is.user)
