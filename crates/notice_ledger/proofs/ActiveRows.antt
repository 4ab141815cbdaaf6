-- The rows of active pushes.
use Rattle.std.proofs.Common.{◌≡◌, ℕ, Bool, true, false, ◌&&◌, ◌==◌, not, cond, List, [], ◌∷◌, refl, sym, ap, ◌∙◌}
use Rattle.std.specs.Prelude.{Some, None, find, is_some, if◌then◌else◌}
use Rattle.std.specs.Option.{option_map_or}
use Rattle.std.specs.List.{AllByRecursion, filter_map, cons_option}
use Rattle.std.specs.Ordering.{is_eq}
use Rattle.std.proofs.Math.Bool.{and-false}
use Rattle.std.proofs.lemmas.Bool.{and_parts, and_from, eq-eqb}
use Rattle.chat_model.specs.declared.event.Stamped.{Stamped}
use Rattle.chat_model.specs.declared.ids.UserId.{UserId}
use Rattle.chat_model.specs.declared.ids.MessageId.{MessageId}
use Rattle.chat_model.specs.declared.row.Row.{Row}
use Rattle.chat_model.specs.declared.row.Row.TheVariants as row
use Rattle.chat_model.specs.declared.row.RowKey.{RowKey}
use Rattle.chat_model.specs.declared.row.RowKey.TheVariants as key
use Rattle.chat_model.specs.declared.trigger.Way.TheVariants.{Push}
use Rattle.chat_model.specs.Rows.{key_cmp, row_at}
use Rattle.chat_model.proofs.Keys.{same_key, key_cmp_itself}
use Rattle.notice_ledger.specs.Past.Owed.{Notice, is_of, same_way, notices}
use Rattle.notice_ledger.specs.Past.Pushes.{handed_at, is_removal_written, is_active}
use Rattle.notice_ledger.specs.Past.Rows.{active_row}
use Rattle.notice_ledger.proofs.ActiveAfter.{is_push_active}
use Rattle.notice_ledger.proofs.Apart.{Pairwise, Differ, notices-apart}
use Rattle.notice_ledger.proofs.Found.{of_parts, other_notice}
use Rattle.notice_ledger.proofs.Revoked.{handed_at-push}
use Rattle.notice_ledger.proofs.RowKeys.{equal_from}
use Rattle.notice_ledger.proofs.Same.{same_user, same_message}

-- the rows of the pushes that are active
abbrev pub active_rows : List Stamped → List Row
active_rows j = filter_map (active_row j) (notices j)

-- ---- which rows there are

-- two keys of active pushes are one exactly where they are of one user and message
active_key : (v : UserId) (k : MessageId) (u : UserId) (m : MessageId) → is_eq (key_cmp (key.Active v k) (key.Active u m)) ≡ (v.0 == u.0 && k.0 == m.0)
active_key v k u m = by (v.0 == u.0 && k.0 == m.0) refl (is_eq (key_cmp (key.Active v k) (key.Active u m))) refl
  where
    user_of : RowKey → ℕ
    user_of (key.Active user message) = user.0
    user_of _ = 0

    message_of : RowKey → ℕ
    message_of (key.Active user message) = message.0
    message_of _ = 0

    by : (b : Bool) → (v.0 == u.0 && k.0 == m.0) ≡ b → (c : Bool) → is_eq (key_cmp (key.Active v k) (key.Active u m)) ≡ c → c ≡ b
    by true e c h =
        let parts = and_parts (v.0 == u.0) (k.0 == m.0) e in
        sym h
        ∙ ((λ i. is_eq (key_cmp (key.Active (same_user v u parts.0 i) (same_message k m parts.1 i)) (key.Active u m))) ∙ ap is_eq (key_cmp_itself (key.Active u m)))
    by false e false h = refl
    by false e true h =
        let same = same_key (key.Active v k) (key.Active u m) (equal_from (key_cmp (key.Active v k) (key.Active u m)) h) in
        sym (and_from (v.0 == u.0) (k.0 == m.0) (eq-eqb v.0 u.0 (ap user_of same)) (eq-eqb k.0 m.0 (ap message_of same))) ∙ e

whole : (b : Bool) → (b && true) ≡ b
whole true = refl
whole false = refl

module _ (j : List Stamped) (u : UserId) (m : MessageId) where
  rows_of : List Notice → List Row
  rows_of ns = filter_map (active_row j) ns

  active_push : (n : Notice) → is_active j n ≡ true → same_way n.way Push ≡ true
  active_push n h = handed_at-push j n (and_parts (is_some (handed_at j n)) (not (is_removal_written j n)) h).0

  -- the row of an active push has the key exactly where the push is of the user and the message
  key_of_push : (n : Notice) → is_active j n ≡ true → is_eq (key_cmp (key.Active n.user n.number) (key.Active u m)) ≡ is_of u m Push n
  key_of_push n h =
      active_key n.user n.number u m
      ∙ (sym (whole (n.user.0 == u.0 && n.number.0 == m.0)) ∙ ap (λ b. (n.user.0 == u.0 && n.number.0 == m.0) && b) (sym (active_push n h)))

  -- the row at the key, with a notice before the others
  next_row : (n : Notice) (ns : List Notice) → row_at (key.Active u m) (rows_of (n ∷ ns)) ≡ cond (is_active j n && is_of u m Push n) (Some (row.Active n.user n.number)) (row_at (key.Active u m) (rows_of ns))
  unfolding rows_of
  next_row n ns = by (is_active j n) refl
    where
      by : (b : Bool) → is_active j n ≡ b → row_at (key.Active u m) (cons_option (if b then Some (row.Active n.user n.number) else None) (filter_map (active_row j) ns)) ≡ cond (b && is_of u m Push n) (Some (row.Active n.user n.number)) (row_at (key.Active u m) (filter_map (active_row j) ns))
      by true e = ap (λ b. cond b (Some (row.Active n.user n.number)) (row_at (key.Active u m) (filter_map (active_row j) ns))) (key_of_push n e)
      by false e = refl

  none_other : (ns : List Notice) → AllByRecursion (λ n. is_of u m Push n ≡ false) ns → row_at (key.Active u m) (rows_of ns) ≡ None
  unfolding rows_of
  none_other [] other = refl
  none_other (n ∷ ns) other =
      next_row n ns
      ∙ (ap (λ b. cond b (Some (row.Active n.user n.number)) (row_at (key.Active u m) (rows_of ns))) (ap (λ b. is_active j n && b) other.0 ∙ and-false (is_active j n)) ∙ none_other ns other.1)

  others : (n : Notice) (ns : List Notice) → is_of u m Push n ≡ true → AllByRecursion (Differ n) ns → AllByRecursion (λ b. is_of u m Push b ≡ false) ns
  others n [] it differ = tt
  others n (b ∷ ns) it differ = (other_notice u m Push n b it differ.0, others n ns it differ.1)

  at_each : (ns : List Notice) → Pairwise Differ ns → row_at (key.Active u m) (rows_of ns) ≡ (if option_map_or (is_active j) (find (is_of u m Push) ns) false then Some (row.Active u m) else None)
  unfolding rows_of
  at_each [] apart = refl
  at_each (n ∷ ns) apart = next_row n ns ∙ by (is_of u m Push n) refl (is_active j n) refl (at_each ns apart.1)
    where
      by : (b : Bool) → is_of u m Push n ≡ b → (active : Bool) → is_active j n ≡ active → row_at (key.Active u m) (rows_of ns) ≡ (if option_map_or (is_active j) (find (is_of u m Push) ns) false then Some (row.Active u m) else None)
          → cond (active && b) (Some (row.Active n.user n.number)) (row_at (key.Active u m) (rows_of ns)) ≡ (if option_map_or (is_active j) (cond b (Some n) (find (is_of u m Push) ns)) false then Some (row.Active u m) else None)
      by true it true e later =
          let is = of_parts u m Push n it in
          (λ i. Some (row.Active (is.user i) (is.number i))) ∙ ap (λ b. if b then Some (row.Active u m) else None) (sym e)
      by true it false e later = none_other ns (others n ns it apart.0) ∙ ap (λ b. if b then Some (row.Active u m) else None) (sym e)
      by false it true e later = later
      by false it false e later = later

-- a push has its row exactly where it is active
pub active_row-at : (j : List Stamped) (u : UserId) (m : MessageId) → row_at (key.Active u m) (active_rows j) ≡ (if is_push_active j u m then Some (row.Active u m) else None)
unfolding rows_of
active_row-at j u m = at_each j u m (notices j) (notices-apart j)
