-- The push whose item waits longest: its notice, as the tables keep it, and what its turn does of it.
use Rattle.std.proofs.Common.{◌≡◌, ℕ, Bool, true, false, ◌&&◌, ◌||◌, ◌==◌, not, cond, List, [], ◌∷◌, Option, Some, None, map, refl, sym, ap, ◌∙◌, subst, inl, inr}
use Rattle.std.specs.Prelude.{find, filter, is_none, option_map, slice_get, if◌then◌else◌}
use Rattle.std.specs.List.{AllByRecursion, list_any}
use Rattle.std.specs.Option.{option_map_or}
use Rattle.std.proofs.lemmas.Bool.{eq-eqb}
use Rattle.chat_model.specs.declared.event.Stamped.{Stamped}
use Rattle.chat_model.specs.declared.ids.MessageId.{MessageId}
use Rattle.chat_model.specs.declared.ids.UserId.{UserId}
use Rattle.chat_model.specs.declared.push_item.PushItem.{PushItem}
use Rattle.chat_model.specs.declared.push_item.PushItem.TheVariants.{Notify}
use Rattle.chat_model.specs.declared.row.Cause.{Cause}
use Rattle.chat_model.specs.declared.row.Cause.TheVariants.{SwitchedOff}
use Rattle.chat_model.specs.declared.settings.Settings.{Settings}
use Rattle.chat_model.specs.Settings.{push_switch}
use Rattle.push_state.specs.Judged.{judged}
use Rattle.push_state.specs.declared.judging.Judged.TheVariants as outcome
use Rattle.chat_model.specs.declared.trigger.Way.TheVariants.{Push}
use Rattle.notice_ledger.specs.Lawful.{lawful}
use Rattle.notice_ledger.specs.declared.accounts.Account.{Account}
use Rattle.notice_ledger.specs.declared.accounts.Account.TheVariants.{Handed, Cancelled}
use Rattle.notice_ledger.specs.Pushes.{oldest_item}
use Rattle.notice_ledger.specs.Past.Values.{numbered, messages, settings}
use Rattle.notice_ledger.specs.Past.Owed.{Notice, notices, is_of, switch_on, cause_of_bar, account_of, is_pending}
use Rattle.notice_ledger.specs.Past.Outbox.{push_entry, push_entries}
use Rattle.notice_ledger.proofs.PushNotices.{IsQueuedPush, queued_push, push_entries-queued}
use Rattle.notice_ledger.proofs.PushesWait.{lawful-pushes, oldest-queued}
use Rattle.notice_ledger.proofs.Queued.{kept, is_kept, is_queued}
use Rattle.notice_ledger.proofs.Turned.{is_push_queued}
use Rattle.notice_ledger.proofs.Sent.{IsOfMessage, notices-messages}
use Rattle.book_tables.specs.declared.tables.Tables.{Tables}
use Rattle.book_tables.specs.declared.tables.Waiting.{Waiting}
use Rattle.book_tables.specs.Notices.{rank, is_ready, is_ready_of}
use Rattle.book_tables.specs.Tables.{Holds, StandsFor, WaitsLongest, message_kept, notice_kept}
use Rattle.book_tables.specs.Tables as tables
use Rattle.book_tables.proofs.Kept.{all_kept, ready-kept, holds-kept}
use Rattle.book_tables.proofs.Numbered.{numbered-map}
use Rattle.book_tables.proofs.Permuted.{Has, has-map}

find-has : {X : Type 0} (p : X → Bool) (xs : List X) (x : X) → find p xs ≡ Some x → Has x xs
unfolding Has
find-has p [] x e = absurd (cc)
find-has {X} p (y ∷ ys) x e = by (p y) e (find-has p ys x)
  where
    by : (b : Bool) → cond b (Some y) (find p ys) ≡ Some x → (find p ys ≡ Some x → Has x ys) → Has x (y ∷ ys)
    by true found rest = inl (same y x found)
      where
        same : (a b : X) → Some a ≡ Some b → a ≡ b
        same a b h = cc
    by false found rest = inr (rest found)

pub any-has : {X : Type 0} (p : X → Bool) (xs : List X) (x : X) → Has x xs → p x ≡ true → list_any p xs ≡ true
unfolding Has
any-has p [] x has passes = absurd has
any-has p (y ∷ ys) x (inl same) passes = ap (λ b. b || list_any p ys) (ap p same ∙ passes)
any-has p (y ∷ ys) x (inr later) passes = ap (λ b. p y || b) (any-has p ys x later passes) ∙ or-true (p y)
  where
    or-true : (b : Bool) → (b || true) ≡ true
    or-true true = refl
    or-true false = refl

-- what is queued is kept
queued-kept : (j : List Stamped) (n : Notice) → is_queued j n ≡ true → is_kept j n ≡ true
queued-kept j n h = by (is_pending (account_of j n)) (is_queued j n) h
  where
    by : (a b : Bool) → b ≡ true → (a || b) ≡ true
    by true b e = refl
    by false b e = e

-- ---- the notice of the turn

module _ (j : List Stamped) (u : UserId) (m : MessageId) (n : Notice) (is : IsQueuedPush j u m n) where
  pub push-has : Has (notice_kept j n) (all_kept j)
  push-has = has-map (notice_kept j) n (kept j) (find-has (is_of u m Push) (kept j) n is.waits)

  pub push-passes : is_ready_of u m Push (notice_kept j n) ≡ true
  push-passes =
      let ready : is_ready (notice_kept j n) ≡ true = ready-kept j n (queued-kept j n is.queued) ∙ is.queued in
      (λ i. ((user i && way i) && ready i) && number i)
    where
      user : (n.user.0 == u.0) ≡ true
      user = eq-eqb n.user.0 u.0 (ap (λ (v : UserId). v.0) is.is.user)

      way : (rank n.way == 1) ≡ true
      way = ap (λ w. rank w == 1) is.is.way

      number : (n.number.0 == m.0) ≡ true
      number = eq-eqb n.number.0 m.0 (ap (λ (k : MessageId). k.0) is.is.number)

-- ---- how a push is judged

-- it is handed over where nothing bars it and the switch is on
pub hands_so : (bar : Option Cause) (s : Settings) → judged bar s ≡ outcome.Hand → (is_none bar && push_switch s) ≡ true
hands_so (Some cause) s e = absurd (cc)
hands_so None s e = by (push_switch s) e
  where
    by : (b : Bool) → (if b then outcome.Hand else outcome.Drop SwitchedOff) ≡ outcome.Hand → b ≡ true
    by true e = refl
    by false e = absurd (cc)

-- and else it is dropped
pub drops_so : (bar : Option Cause) (s : Settings) (cause : Cause) → judged bar s ≡ outcome.Drop cause → (is_none bar && push_switch s) ≡ false
drops_so (Some other) s cause e = refl
drops_so None s cause e = by (push_switch s) e
  where
    by : (b : Bool) → (if b then outcome.Hand else outcome.Drop SwitchedOff) ≡ outcome.Drop cause → b ≡ false
    by true e = absurd (cc)
    by false e = refl

-- so it stands after its turn
pub handed-judged : (bar : Option Cause) (s : Settings) → judged bar s ≡ outcome.Hand → option_map_or Cancelled bar (if push_switch s then Handed else Cancelled SwitchedOff) ≡ Handed
handed-judged (Some cause) s e = absurd (cc)
handed-judged None s e = ap (λ b. if b then Handed else Cancelled SwitchedOff) (hands_so None s e)

pub dropped-judged : (bar : Option Cause) (s : Settings) (cause : Cause) → judged bar s ≡ outcome.Drop cause → option_map_or Cancelled bar (if push_switch s then Handed else Cancelled SwitchedOff) ≡ Cancelled cause
dropped-judged (Some other) s cause e = same other cause e
  where
    same : (a b : Cause) → ◌≡◌ (outcome.Drop a) (outcome.Drop b) → Cancelled a ≡ Cancelled b
    same a b e = cc
dropped-judged None s cause e = by (push_switch s) e
  where
    by : (b : Bool) → (if b then outcome.Hand else outcome.Drop SwitchedOff) ≡ outcome.Drop cause → (if b then Handed else Cancelled SwitchedOff) ≡ Cancelled cause
    by true e = absurd (cc)
    by false e = cc

-- ---- the turn that comes next

module _ (t : Tables) (u : UserId) (m : MessageId) (waits : WaitsLongest t u m) (j : List Stamped) (stands : StandsFor t j) where
  -- its item waits longest after each journal for which the tables stand
  next_item : oldest_item j ≡ Some (Notify u m)
  next_item = ap (λ (is : List PushItem). slice_get is 0) (sym stands.items ∙ waits.1.items) ∙ waits.2

  next_queued : is_push_queued (lawful j) u m ≡ true
  next_queued = oldest-queued (lawful j) u m (lawful-pushes j) next_item

  -- its notice
  pub next_notice : Notice
  next_notice = (queued_push (lawful j) u m next_queued).0

  pub next_is : IsQueuedPush (lawful j) u m next_notice
  unfolding next_notice
  next_is = (queued_push (lawful j) u m next_queued).1

  pub next_has : Has (notice_kept (lawful j) next_notice) t.waiting.items
  next_has = subst (Has (notice_kept (lawful j) next_notice)) (sym (holds-kept t (lawful j) stands)) (push-has (lawful j) u m next_notice next_is)

  pub next_passes : is_ready_of u m Push (notice_kept (lawful j) next_notice) ≡ true
  next_passes = push-passes (lawful j) u m next_notice next_is

  -- the notice as it was found
  pub found_push : (w : Waiting) → w ≡ notice_kept (lawful j) next_notice → tables.IsReadyPush (lawful j) u m w
  found_push w same = record { notice = next_notice; owed = next_is.notice; is_next = next_is.queued; kept = same }

  -- a notice that was found so is this one
  pub found_same : (w : Waiting) (found : tables.IsReadyPush (lawful j) u m w) → found.notice ≡ next_notice
  found_same w found = same found.notice next_notice (sym found.owed ∙ next_is.notice)
    where
      same : (a b : Notice) → Some a ≡ Some b → a ≡ b
      same a b e = cc

  -- so it is judged by what bars it and by the user's settings
  pub next_judged : (w : Waiting) → tables.IsReadyPush (lawful j) u m w → judged w.barred (settings (lawful j) w.user) ≡ judged (cause_of_bar (lawful j) next_notice) (settings (lawful j) u)
  next_judged w found =
      ap (λ (v : Waiting). judged v.barred (settings (lawful j) v.user)) (found.kept ∙ ap (notice_kept (lawful j)) (found_same w found))
      ∙ ap (λ (v : UserId). judged (cause_of_bar (lawful j) next_notice) (settings (lawful j) v)) next_is.is.user

  -- its message is there
  pub next_message : numbered m.0 t.messages.items ≡ Some (message_kept next_notice.message)
  next_message =
      ap (λ (k : MessageId). numbered k.0 t.messages.items) (sym next_is.is.number)
      ∙ (ap (numbered next_notice.number.0) stands.messages
      ∙ (numbered-map message_kept next_notice.number.0 (messages (lawful j)) ∙ ap (option_map message_kept) (of (notices (lawful j)) (notices-messages (lawful j)) next_is.notice)))
    where
      of : (ns : List Notice) → AllByRecursion (IsOfMessage (lawful j)) ns → find (is_of u m Push) ns ≡ Some next_notice → numbered next_notice.number.0 (messages (lawful j)) ≡ Some next_notice.message
      of [] all e = absurd (cc)
      of (n ∷ ns) all e = by (is_of u m Push n) e (of ns all.1)
        where
          by : (b : Bool) → cond b (Some n) (find (is_of u m Push) ns) ≡ Some next_notice → (find (is_of u m Push) ns ≡ Some next_notice → numbered next_notice.number.0 (messages (lawful j)) ≡ Some next_notice.message)
              → numbered next_notice.number.0 (messages (lawful j)) ≡ Some next_notice.message
          by true found rest = let same : n ≡ next_notice = cc in subst (IsOfMessage (lawful j)) same all.0
          by false found rest = rest found

  -- the entries of its turn
  pub next_entries : (at : ℕ) → push_entries (lawful j) at (Notify u m) ≡ (if is_none (cause_of_bar (lawful j) next_notice) && switch_on (lawful j) u Push then push_entry (lawful j) at next_notice ∷ [] else [])
  next_entries at = push_entries-queued (lawful j) at u m next_notice next_is.notice
