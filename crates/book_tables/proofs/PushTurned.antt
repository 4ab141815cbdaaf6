-- The rows after the turn of a push, and after that of a removal.
use Rattle.std.proofs.Common.{◌≡◌, ℕ, ◌+◌, Bool, true, false, ◌&&◌, ◌||◌, ◌==◌, not, cond, List, [], ◌∷◌, ◌++◌, Option, Some, None, length, map, refl, sym, ap, ◌∙◌}
use Rattle.std.specs.Prelude.{is_none, option_to_list, if◌then◌else◌}
use Rattle.std.specs.Ordering.{is_eq}
use Rattle.std.specs.List.{list_any}
use Rattle.std.proofs.lemmas.Bool.{and_parts, eqb-true}
use Rattle.chat_model.specs.declared.event.Event.TheVariants.{PushTurn}
use Rattle.chat_model.specs.declared.event.Stamped.{Stamped}
use Rattle.chat_model.specs.declared.entry.Entry.{Entry}
use Rattle.chat_model.specs.declared.ids.MessageId.{MessageId}
use Rattle.chat_model.specs.declared.ids.UserId.{UserId}
use Rattle.chat_model.specs.declared.push_item.PushItem.TheVariants.{Notify, Remove as Removal}
use Rattle.chat_model.specs.declared.row.Row.{Row}
use Rattle.chat_model.specs.declared.row.Row.TheVariants as row
use Rattle.chat_model.specs.declared.row.RowKey.TheVariants as key
use Rattle.chat_model.specs.declared.row.RowChange.TheVariants.{Put, Remove}
use Rattle.chat_model.specs.declared.trigger.Way.TheVariants.{Push}
use Rattle.chat_model.specs.Rows.{key_cmp, changed_all}
use Rattle.chat_model.proofs.Rows.{row_after_all}
use Rattle.notice_ledger.specs.Past.Lawful.{may_stand}
use Rattle.notice_ledger.specs.Past.Owed.{Notice, cause_of_bar, switch_on}
use Rattle.notice_ledger.specs.Past.Outbox.{outbox, push_entry, push_entries}
use Rattle.notice_ledger.specs.Past.Pushes.{removes}
use Rattle.notice_ledger.specs.Past.Rows.{outbox_rows_from, rows}
use Rattle.notice_ledger.proofs.ActiveAfter.{is_push_active, push_active-pushed, push_active-removed}
use Rattle.notice_ledger.proofs.PushNotices.{IsQueuedPush, queued_push, push_entries-queued}
use Rattle.notice_ledger.proofs.PushesWait.{PushesWait, turned-queued}
use Rattle.book_tables.specs.declared.tables.Tables.{Tables}
use Rattle.book_tables.specs.Notices.{is_ready_of}
use Rattle.book_tables.specs.Prepared.{IsNext, removed_push, turn_rows}
use Rattle.book_tables.specs.Tables.{Holds, notice_kept, push_turn, removal_turn}
use Rattle.book_tables.proofs.ActivePushes.{active_places, active_puts}
use Rattle.book_tables.proofs.Following.{made_with, next_waits}
use Rattle.book_tables.proofs.Kept.{all_kept}
use Rattle.book_tables.proofs.Moves.{bars_none}
use Rattle.book_tables.proofs.NextPush.{any-has, push-has, push-passes}
use Rattle.book_tables.proofs.RowsAfter.{AreOf, MakesActive}
use Rattle.book_tables.proofs.RowSteps.{makes_left, makes_push}

-- ---- the turn of a push

-- an entry that is there where the push is handed over
abbrev IsHanded : Bool → Option Entry → Type 0
IsHanded on (Some e) = on ≡ true
IsHanded on None = on ≡ false

handed_so : (on : Bool) (x : Entry) (entry : Option Entry) → option_to_list entry ≡ (if on then x ∷ [] else []) → IsHanded on entry
handed_so true x None e = absurd (cc)
handed_so false x None e = refl
handed_so true x (Some y) e = refl
handed_so false x (Some y) e = absurd (cc)

module _ (j : List Stamped) (at : ℕ) (u : UserId) (m : MessageId) (waits : PushesWait j) (may : may_stand j at (PushTurn (Notify u m)) ≡ true) (n : Notice) (is : IsQueuedPush j u m n) where
  -- the push is handed over
  abbrev is_handed_over : Bool
  is_handed_over = is_none (cause_of_bar j n) && switch_on j u Push

  -- the row of the push joins where it is handed over
  active-made : (v : UserId) (k : MessageId) (on : Bool) → is_handed_over ≡ on
      → cond (is_push_active (j ++ push_turn at u m ∷ []) v k) (Some (row.Active v k)) None ≡ cond (is_push_active j v k || ((u.0 == v.0 && m.0 == k.0) && on)) (Some (row.Active v k)) None
  active-made v k on e = ap (λ b. cond b (Some (row.Active v k)) None) (push_active-pushed j at u m n v k waits may is ∙ ap (λ b. is_push_active j v k || ((u.0 == v.0 && m.0 == k.0) && b)) e)

  makes-active : is_handed_over ≡ true → MakesActive j (push_turn at u m) (Put (row.Active u m) ∷ [])
  makes-active on = record {
    are = (refl, tt);
    makes = λ v k.
        ap (λ x. cond (is_eq (key_cmp (key.Active u m) (key.Active v k))) (Some (row.Active u m)) x) (active_puts j v k)
        ∙ (ap (λ b. cond b (Some (row.Active u m)) (cond (is_push_active j v k) (Some (row.Active v k)) None)) (active_places u m v k)
        ∙ (by v k (u.0 == v.0 && m.0 == k.0) refl (is_push_active j v k) ∙ (sym (active-made v k true on) ∙ sym (active_puts (j ++ push_turn at u m ∷ []) v k))));
  }
    where
      by : (v : UserId) (k : MessageId) (b : Bool) → (u.0 == v.0 && m.0 == k.0) ≡ b → (c : Bool) → cond b (Some (row.Active u m)) (cond c (Some (row.Active v k)) None) ≡ cond (c || (b && true)) (Some (row.Active v k)) None
      by v k true e c =
          let parts = and_parts (u.0 == v.0) (m.0 == k.0) e in
          (λ i. Some (row.Active (record { 0 = eqb-true u.0 v.0 parts.0 i }) (record { 0 = eqb-true m.0 k.0 parts.1 i }))) ∙ either c
        where
          either : (c : Bool) → Some (row.Active v k) ≡ cond (c || true) (Some (row.Active v k)) None
          either true = refl
          either false = refl
      by v k false e true = refl
      by v k false e false = refl

  makes-inactive : is_handed_over ≡ false → MakesActive j (push_turn at u m) []
  makes-inactive off = record {
    are = tt;
    makes = λ v k. active_puts j v k ∙ (by v k (u.0 == v.0 && m.0 == k.0) (is_push_active j v k) ∙ (sym (active-made v k false off) ∙ sym (active_puts (j ++ push_turn at u m ∷ []) v k)));
  }
    where
      by : (v : UserId) (k : MessageId) (b c : Bool) → cond c (Some (row.Active v k)) None ≡ cond (c || (b && false)) (Some (row.Active v k)) None
      by v k true true = refl
      by v k true false = refl
      by v k false true = refl
      by v k false false = refl

-- the changes of the rows at the turn make the rows with it
pub changes-push : (t : Tables) (past : List Stamped) → Holds t past → (at : ℕ) (u : UserId) (m : MessageId) → (n : ℕ) (entry : Option Entry) → n ≡ length t.outbox.items → option_to_list entry ≡ push_entries past at (Notify u m) → IsNext past (push_turn at u m)
    → changed_all (Remove (key.Pending u m Push) ∷ turn_rows (record { user = u; message = m }) n entry) (rows past) ≡ rows (past ++ push_turn at u m ∷ [])
changes-push t past holds at u m n entry many are next =
    let waits = next_waits past (push_turn at u m) next in let may = next.1 refl in
    let found = queued_push past u m (turned-queued past at u m waits may) in let notice = found.0 in let is : IsQueuedPush past u m notice = found.1 in
    let there : list_any (is_ready_of u m Push) (all_kept past) ≡ true = any-has (is_ready_of u m Push) (all_kept past) (notice_kept past notice) (push-has past u m notice is) (push-passes past u m notice is) in
    by waits may notice is entry (handed_so (is_none (cause_of_bar past notice) && switch_on past u Push) (push_entry past at notice) entry (are ∙ push_entries-queued past at u m notice is.notice)) are there
  where
    by : PushesWait past → may_stand past at (PushTurn (Notify u m)) ≡ true → (notice : Notice) → IsQueuedPush past u m notice → (o : Option Entry) → IsHanded (is_none (cause_of_bar past notice) && switch_on past u Push) o → option_to_list o ≡ push_entries past at (Notify u m) → list_any (is_ready_of u m Push) (all_kept past) ≡ true
        → changed_all (Remove (key.Pending u m Push) ∷ turn_rows (record { user = u; message = m }) n o) (rows past) ≡ rows (past ++ push_turn at u m ∷ [])
    by waits may notice is None off es there =
        made_with t past holds (push_turn at u m) next (Remove (key.Pending u m Push) ∷ []) [] (makes_push u m past at there) (makes-inactive past at u m waits may notice is off) (Remove (key.Pending u m Push) ∷ [])
        (ap (λ (es : List Entry). Remove (key.Pending u m Push) ∷ map Put (outbox_rows_from (length (outbox past) + 1) es)) es)
    by waits may notice is (Some e) on es there =
        made_with t past holds (push_turn at u m) next (Remove (key.Pending u m Push) ∷ []) (Put (row.Active u m) ∷ []) (makes_push u m past at there) (makes-active past at u m waits may notice is on)
        (Remove (key.Pending u m Push) ∷ turn_rows (record { user = u; message = m }) n (Some e))
        (ap (λ k. Remove (key.Pending u m Push) ∷ turn_rows (record { user = u; message = m }) k (Some e)) (many ∙ ap length holds.outbox)
        ∙ ap (λ (es : List Entry). Remove (key.Pending u m Push) ∷ Put (row.Active u m) ∷ map Put (outbox_rows_from (length (outbox past) + 1) es)) es)

-- ---- the turn of a removal

-- the rows of its pushes go
gone_active : (u : UserId) (ms : List MessageId) (v : UserId) (k : MessageId) (x : Option Row) → row_after_all (key.Active v k) (map (removed_push u) ms) x ≡ cond (removes v k (Removal u ms)) None x
gone_active u [] v k x = ap (λ b. cond b None x) (sym (and_none (u.0 == v.0)))
  where
    and_none : (b : Bool) → (b && false) ≡ false
    and_none true = refl
    and_none false = refl
gone_active u (m ∷ ms) v k x =
    gone_active u ms v k (cond (is_eq (key_cmp (key.Active u m) (key.Active v k))) None x)
    ∙ (ap (λ b. cond (removes v k (Removal u ms)) None (cond b None x)) (active_places u m v k) ∙ by (u.0 == v.0) (m.0 == k.0) (list_any (λ n. n.0 == k.0) ms))
  where
    by : (a b c : Bool) → cond (a && c) None (cond (a && b) None x) ≡ cond (a && (b || c)) None x
    by true true true = refl
    by true true false = refl
    by true false c = refl
    by false b c = refl

makes-removed : (j : List Stamped) (at : ℕ) (u : UserId) (ms : List MessageId) → PushesWait j → may_stand j at (PushTurn (Removal u ms)) ≡ true → MakesActive j (removal_turn at u ms) (map (removed_push u) ms)
makes-removed j at u ms waits may = record {
  are = of ms;
  makes = λ v k.
      ap (row_after_all (key.Active v k) (map (removed_push u) ms)) (active_puts j v k)
      ∙ (gone_active u ms v k (cond (is_push_active j v k) (Some (row.Active v k)) None)
      ∙ (by v k (is_push_active j v k) (removes v k (Removal u ms)) ∙ (ap (λ b. cond b (Some (row.Active v k)) None) (sym (push_active-removed j at u ms v k waits may)) ∙ sym (active_puts (j ++ removal_turn at u ms ∷ []) v k))));
}
  where
    of : (ns : List MessageId) → AreOf 3 (map (removed_push u) ns)
    of [] = tt
    of (n ∷ ns) = (refl, of ns)

    by : (v : UserId) (k : MessageId) (a r : Bool) → cond r None (cond a (Some (row.Active v k)) None) ≡ cond (a && not r) (Some (row.Active v k)) None
    by v k true true = refl
    by v k true false = refl
    by v k false true = refl
    by v k false false = refl

pub changes-removal : (t : Tables) (past : List Stamped) → Holds t past → (at : ℕ) (u : UserId) (ms : List MessageId) (n : ℕ) (entry : Entry) → n ≡ length t.outbox.items → entry ∷ [] ≡ push_entries past at (Removal u ms) → IsNext past (removal_turn at u ms)
    → changed_all (map (removed_push u) ms ++ Put (row.Outbox (record { 0 = n + 1 }) entry false) ∷ []) (rows past) ≡ rows (past ++ removal_turn at u ms ∷ [])
changes-removal t past holds at u ms n entry many are next =
    let s = removal_turn at u ms in let gone = map (removed_push u) ms in
    made_with t past holds s next [] gone
    (makes_left past s (record { mail = λ v. refl; push = λ v k. refl }) (bars_none s (λ v k. refl) (λ k. refl)) (λ v k online. refl) (λ v k. refl) (λ k. refl))
    (makes-removed past at u ms (next_waits past s next) (next.1 refl))
    (gone ++ Put (row.Outbox (record { 0 = n + 1 }) entry false) ∷ [])
    (ap (λ k. gone ++ Put (row.Outbox (record { 0 = k + 1 }) entry false) ∷ []) (many ∙ ap length holds.outbox)
    ∙ ap (λ (es : List Entry). gone ++ map Put (outbox_rows_from (length (outbox past) + 1) es)) are)
