-- No notice is lost and none is doubled in the rows of a journal.
use Rattle.std.proofs.Common.{◌≡◌, ◌≢◌, ℕ, ◌+◌, Bool, true, false, cond, List, [], ◌∷◌, ◌++◌, refl, sym, ap, ◌∙◌, arith}
use Rattle.std.specs.Prelude.{Option, Some, None, option_map, is_some, sum_by, count_by, if◌then◌else◌}
use Rattle.std.specs.List.{filter_map, cons_option}
use Rattle.std.specs.Option.{option_map_or}
use Rattle.std.proofs.lemmas.Bool.{and_parts}
use Rattle.std.proofs.lemmas.List.Sums.{sum_by-append, sum_by-cons}
use Rattle.chat_model.specs.declared.event.Stamped.{Stamped}
use Rattle.chat_model.specs.declared.entry.Entry.{Entry}
use Rattle.chat_model.specs.declared.ids.UserId.{UserId}
use Rattle.chat_model.specs.declared.ids.MessageId.{MessageId}
use Rattle.chat_model.specs.declared.ids.DealNo.{DealNo}
use Rattle.chat_model.specs.declared.ids.EntryNo.{EntryNo}
use Rattle.chat_model.specs.declared.row.Stage.{Stage}
use Rattle.chat_model.specs.declared.settings.Settings.{Settings}
use Rattle.chat_model.specs.declared.trigger.Trigger.{Trigger}
use Rattle.chat_model.specs.declared.trigger.Way.{Way}
use Rattle.chat_model.specs.declared.trigger.Way.TheVariants.{Push}
use Rattle.chat_model.specs.declared.row.Row.{Row}
use Rattle.chat_model.specs.declared.row.Row.TheVariants as row
use Rattle.notice_ledger.specs.declared.accounts.Account.{Account}
use Rattle.notice_ledger.specs.declared.accounts.Account.TheVariants.{NotOwed, Flight, Held, Ready}
use Rattle.notice_ledger.specs.Past.Values.{Person, people, SentMessage, messages, is_deleted, settings}
use Rattle.notice_ledger.specs.Past.Owed.{Notice, is_of, notices, notice_to, bar, account_of, account, is_handed, is_pending, waiting}
use Rattle.notice_ledger.specs.Past.Outbox.{outbox}
use Rattle.notice_ledger.specs.Past.Pushes.{handed_at, is_active, waiting_items}
use Rattle.notice_ledger.specs.Past.Pushes as past
use Rattle.notice_ledger.specs.Past.Rows.{user_rows_from, message_rows_from, outbox_rows_from, stage_of, pending_row, active_row, rows}
use Rattle.notice_ledger.specs.Rows as any
use Rattle.notice_ledger.specs.Lawful.{lawful}
use Rattle.notice_ledger.specs.Conserved.{is_pending_row, items_of, items_in_row, pending_places, outbox_places, cancelled_places, is_revoked, removals_in_item, removals_in_entry, removals_in_row, removal_places, IsConserved}
use Rattle.notice_ledger.proofs.OneMore.{row_at_stage}
use Rattle.notice_ledger.proofs.Places.{waiting_sum, places-owed, places-not_owed, outbox-counted}
use Rattle.notice_ledger.proofs.PushesWait.{is_push_revoked, lawful-pushes, removal-counted}
use Rattle.notice_ledger.proofs.Revoked.{handed_at-handed, handed_at-push, revoked-barred}
use Rattle.notice_ledger.proofs.RowOrder.{sum_by-rows}
use Rattle.notice_ledger.proofs.Sums.{sum_by_same}

-- a sum over the rows of a journal, table by table
sum_rows : (f : Row → ℕ) (j : List Stamped) → sum_by f (rows j) ≡ sum_by f (user_rows_from j 1 (people j)) + (sum_by f (message_rows_from j 1 (messages j)) + (sum_by f (filter_map (pending_row j) (notices j)) + (sum_by f (filter_map (active_row j) (notices j)) + sum_by f (outbox_rows_from 1 (outbox j)))))
sum_rows f j =
    let us = user_rows_from j 1 (people j) in let ms = message_rows_from j 1 (messages j) in let ps = filter_map (pending_row j) (notices j) in let actives = filter_map (active_row j) (notices j) in let os = outbox_rows_from 1 (outbox j) in
    sum_by-rows f j
    ∙ (sum_by-append f us (ms ++ (ps ++ (actives ++ os))) ∙ omega (arith, sum_by-append f ms (ps ++ (actives ++ os)), sum_by-append f ps (actives ++ os), sum_by-append f actives os))

sum_by-filter_map : {X Y : Type 0} (f : Y → ℕ) (h : X → Option Y) (xs : List X) → sum_by f (filter_map h xs) ≡ sum_by (λ x. option_map_or f (h x) 0) xs
sum_by-filter_map f h [] = refl
sum_by-filter_map {X} {Y} f h (x ∷ xs) = by (h x) (sum_by-filter_map f h xs) ∙ sym (sum_by-cons (λ x. option_map_or f (h x) 0) x xs)
  where
    none : (k : ℕ) → k ≡ 0 + k
    none k = omega arith

    by : (o : Option Y) → sum_by f (filter_map h xs) ≡ sum_by (λ x. option_map_or f (h x) 0) xs → sum_by f (cons_option o (filter_map h xs)) ≡ option_map_or f o 0 + sum_by (λ x. option_map_or f (h x) 0) xs
    by None e = e ∙ none (sum_by (λ x. option_map_or f (h x) 0) xs)
    by (Some y) e = sum_by-cons f y (filter_map h xs) ∙ ap (λ k. f y + k) e

-- ---- the outbox rows

-- what is counted of a row is what is counted of its entry, and of a row of another table nothing
record IsOfEntries (f : Row → ℕ) (g : Entry → ℕ) : Type 0 where
  user : (v : UserId) (name : List ℕ) (bot : Bool) (set : Settings) → f (row.User v name bot set) ≡ 0
  message : (k : MessageId) (sender : UserId) (text : List ℕ) (deleted : Bool) → f (row.Message k sender text deleted) ≡ 0
  pending : (v : UserId) (k : MessageId) (w : Way) (t : Trigger) (d : DealNo) (s : Stage) → f (row.Pending v k w t d s) ≡ 0
  active : (v : UserId) (k : MessageId) → f (row.Active v k) ≡ 0
  outbox : (n : EntryNo) (e : Entry) (spooled : Bool) → f (row.Outbox n e spooled) ≡ g e

module _ (f : Row → ℕ) (g : Entry → ℕ) (is : IsOfEntries f g) where
  plus : (a b : ℕ) → a ≡ 0 → b ≡ 0 → a + b ≡ 0
  plus a b p q = omega arith

  of_users : (j : List Stamped) (n : ℕ) (ps : List Person) → sum_by f (user_rows_from j n ps) ≡ 0
  of_users j n [] = refl
  of_users j n (p ∷ ps) =
      let first : Row = row.User (record { 0 = n }) p.name p.bot (settings j (record { 0 = n })) in
      sum_by-cons f first (user_rows_from j (n + 1) ps) ∙ plus (f first) (sum_by f (user_rows_from j (n + 1) ps)) (is.user (record { 0 = n }) p.name p.bot (settings j (record { 0 = n }))) (of_users j (n + 1) ps)

  of_messages : (j : List Stamped) (n : ℕ) (ms : List SentMessage) → sum_by f (message_rows_from j n ms) ≡ 0
  of_messages j n [] = refl
  of_messages j n (m ∷ ms) =
      let first : Row = row.Message (record { 0 = n }) m.sender m.text (is_deleted j (record { 0 = n })) in
      sum_by-cons f first (message_rows_from j (n + 1) ms) ∙ plus (f first) (sum_by f (message_rows_from j (n + 1) ms)) (is.message (record { 0 = n }) m.sender m.text (is_deleted j (record { 0 = n }))) (of_messages j (n + 1) ms)

  of_pending : (j : List Stamped) (ns : List Notice) → sum_by f (filter_map (pending_row j) ns) ≡ 0
  of_pending j [] = refl
  of_pending j (n ∷ ns) = by (stage_of (account_of j n)) (of_pending j ns)
    where
      by : (o : Option Stage) → sum_by f (filter_map (pending_row j) ns) ≡ 0 → sum_by f (cons_option (option_map (row_at_stage n) o) (filter_map (pending_row j) ns)) ≡ 0
      by None e = e
      by (Some s) e = sum_by-cons f (row_at_stage n s) (filter_map (pending_row j) ns) ∙ plus (f (row_at_stage n s)) (sum_by f (filter_map (pending_row j) ns)) (is.pending n.user n.number n.way n.trigger n.deal s) e

  of_active : (j : List Stamped) (ns : List Notice) → sum_by f (filter_map (active_row j) ns) ≡ 0
  of_active j [] = refl
  of_active j (n ∷ ns) = by (is_active j n) (of_active j ns)
    where
      by : (b : Bool) → sum_by f (filter_map (active_row j) ns) ≡ 0 → sum_by f (cons_option (if b then Some (row.Active n.user n.number) else None) (filter_map (active_row j) ns)) ≡ 0
      by true e = sum_by-cons f (row.Active n.user n.number) (filter_map (active_row j) ns) ∙ plus (f (row.Active n.user n.number)) (sum_by f (filter_map (active_row j) ns)) (is.active n.user n.number) e
      by false e = e

  of_entries : (n : ℕ) (es : List Entry) → sum_by f (outbox_rows_from n es) ≡ sum_by g es
  of_entries n [] = refl
  of_entries n (e ∷ es) =
      sum_by-cons f (row.Outbox (record { 0 = n }) e false) (outbox_rows_from (n + 1) es)
      ∙ ((λ i. is.outbox (record { 0 = n }) e false i + of_entries (n + 1) es i) ∙ sym (sum_by-cons g e es))

  -- the sum over the rows is the one over the entries
  outbox_rows-sum : (j : List Stamped) → sum_by f (rows j) ≡ sum_by g (outbox j)
  outbox_rows-sum j =
      sum_rows f j
      ∙ omega (arith, of_users j 1 (people j), of_messages j 1 (messages j), of_pending j (notices j), of_active j (notices j), of_entries 1 (outbox j))

-- ---- the rows of one notice

module _ (u : UserId) (m : MessageId) (w : Way) where
  abbrev pub pending_in : Row → ℕ
  pending_in r = cond (is_pending_row u m w r) 1 0

  no_user_pending : (j : List Stamped) (n : ℕ) (ps : List Person) → sum_by pending_in (user_rows_from j n ps) ≡ 0
  no_user_pending j n [] = refl
  no_user_pending j n (p ∷ ps) = no_user_pending j (n + 1) ps

  no_message_pending : (j : List Stamped) (n : ℕ) (ms : List SentMessage) → sum_by pending_in (message_rows_from j n ms) ≡ 0
  no_message_pending j n [] = refl
  no_message_pending j n (x ∷ ms) = no_message_pending j (n + 1) ms

  no_active_pending : (j : List Stamped) (ns : List Notice) → sum_by pending_in (filter_map (active_row j) ns) ≡ 0
  no_active_pending j [] = refl
  no_active_pending j (n ∷ ns) = by (is_active j n) (no_active_pending j ns)
    where
      by : (b : Bool) → sum_by pending_in (filter_map (active_row j) ns) ≡ 0 → sum_by pending_in (cons_option (if b then Some (row.Active n.user n.number) else None) (filter_map (active_row j) ns)) ≡ 0
      by true e = e
      by false e = e

  no_entry_pending : (n : ℕ) (es : List Entry) → sum_by pending_in (outbox_rows_from n es) ≡ 0
  no_entry_pending n [] = refl
  no_entry_pending n (e ∷ es) = no_entry_pending (n + 1) es

  -- the pending rows of a notice are those of the notices that wait
  notice_rows : (j : List Stamped) → sum_by pending_in (filter_map (pending_row j) (notices j)) ≡ count_by (is_of u m w) (waiting j)
  notice_rows j =
      sum_by-filter_map pending_in (pending_row j) (notices j)
      ∙ (sum_by_same (λ n. option_map_or pending_in (pending_row j n) 0) (λ n. cond (is_pending (account_of j n)) (cond (is_of u m w n) 1 0) 0) (λ n. by n (account_of j n)) (notices j)
      ∙ sym (waiting_sum u m w j))
    where
      by : (n : Notice) (a : Account) → option_map_or pending_in (option_map (row_at_stage n) (stage_of a)) 0 ≡ cond (is_pending a) (cond (is_of u m w n) 1 0) 0
      by n Flight = refl
      by n Held = refl
      by n Ready = refl
      by n a = refl

  pending_rows : (j : List Stamped) → count_by (is_pending_row u m w) (rows j) ≡ count_by (is_of u m w) (waiting j)
  pending_rows j =
      sum_rows pending_in j
      ∙ omega (arith, no_user_pending j 1 (people j), no_message_pending j 1 (messages j), no_active_pending j (notices j), no_entry_pending 1 (outbox j), notice_rows j)

  -- the items of the outbox rows are those of the outbox
  outbox_items : (j : List Stamped) → sum_by (items_in_row u m w) (rows j) ≡ sum_by (items_of u m w) (outbox j)
  outbox_items j =
      outbox_rows-sum (items_in_row u m w) (items_of u m w) (record {
        user = λ v name bot set. refl;
        message = λ k sender text deleted. refl;
        pending = λ v k x t d s. refl;
        active = λ v k. refl;
        outbox = λ n e spooled. refl;
      }) j

  -- the places of a notice in the rows of events that all count
  placed_rows : (j : List Stamped) → pending_places u m w (rows j) + outbox_places u m w (rows j) ≡ count_by (is_of u m w) (waiting j) + sum_by (items_of u m w) (outbox j)
  placed_rows j =
      ap (λ n. n + outbox_places u m w (rows j)) (pending_rows j) ∙ ap (λ n. count_by (is_of u m w) (waiting j) + n) (outbox_items j)

  owed_rows : (j : List Stamped) → account (lawful j) u m w ≢ NotOwed → pending_places u m w (rows (lawful j)) + outbox_places u m w (rows (lawful j)) + cancelled_places (account (lawful j) u m w) ≡ 1
  owed_rows j h = ap (λ n. n + cancelled_places (account (lawful j) u m w)) (placed_rows (lawful j)) ∙ places-owed u m w j h

  not_owed_rows : (j : List Stamped) → account (lawful j) u m w ≡ NotOwed → pending_places u m w (rows (lawful j)) + outbox_places u m w (rows (lawful j)) + cancelled_places (account (lawful j) u m w) ≡ 0
  not_owed_rows j h =
      let none : cancelled_places (account (lawful j) u m w) ≡ 0 = ap cancelled_places h in
      omega (arith, placed_rows (lawful j) ∙ places-not_owed u m w j h)

-- ---- removals

-- the removals of the outbox rows are those of the outbox
outbox_removals : (u : UserId) (m : MessageId) (j : List Stamped) → sum_by (removals_in_row u m) (rows j) ≡ sum_by (removals_in_entry u m) (outbox j)
outbox_removals u m j =
    outbox_rows-sum (removals_in_row u m) (removals_in_entry u m) (record {
      user = λ v name bot set. refl;
      message = λ k sender text deleted. refl;
      pending = λ v k x t d s. refl;
      active = λ v k. refl;
      outbox = λ n e spooled. refl;
    }) j

-- the places of a removal in the rows of events that all count
removal_rows : (u : UserId) (m : MessageId) (j : List Stamped) → removal_places j (rows (lawful j)) u m ≡ cond (is_revoked j u m) 1 0
removal_rows u m j =
    ap (λ k. sum_by (removals_in_item u m) (waiting_items (lawful j)) + k) (outbox_removals u m (lawful j)) ∙ removal-counted (lawful j) u m (lawful-pushes j)

-- a push that is revoked was handed over
revoked-handed : (u : UserId) (m : MessageId) (j : List Stamped) → is_push_revoked j u m ≡ true → is_handed (account j u m Push) ≡ true
revoked-handed u m j revoked = by (notice_to j u m Push) revoked
  where
    by : (o : Option Notice) → option_map_or (past.is_revoked j) o false ≡ true → is_handed (option_map_or (account_of j) o NotOwed) ≡ true
    by None h = absurd (cc)
    by (Some n) h =
        let handed = (and_parts (is_some (handed_at j n)) (is_some (bar j n)) (sym (revoked-barred j n) ∙ h)).0 in
        sym (handed_at-handed j n (handed_at-push j n handed)) ∙ handed

pushed_rows : (u : UserId) (m : MessageId) (j : List Stamped) → is_revoked j u m ≡ true → outbox_places u m Push (rows (lawful j)) ≡ 1
pushed_rows u m j revoked =
    outbox_items u m Push (lawful j) ∙ (outbox-counted u m Push j ∙ ap (λ b. cond b 1 0) (revoked-handed u m (lawful j) revoked))

-- the rows of any list of events conserve its notices
pub rows-conserved : (j : List Stamped) → IsConserved j (any.rows j)
rows-conserved j = record {
  owed = λ u m w. owed_rows u m w j;
  not_owed = λ u m w. not_owed_rows u m w j;
  revoked = λ u m h. removal_rows u m j ∙ ap (λ b. cond b 1 0) h;
  not_revoked = λ u m h. removal_rows u m j ∙ ap (λ b. cond b 1 0) h;
  pushed = λ u m h. pushed_rows u m j h;
}
