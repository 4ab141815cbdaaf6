-- The active pushes of a journal, and their rows.
use Rattle.std.proofs.Common.{◌≡◌, ℕ, Bool, true, false, ◌&&◌, ◌||◌, ◌==◌, cond, List, [], ◌∷◌, Option, Some, None, map, filter, refl, sym, ap, ◌∙◌, arith}
use Rattle.std.specs.Prelude.{is_some, if◌then◌else◌}
use Rattle.std.specs.Cmp.Lexicographic.{slice_cmp}
use Rattle.std.specs.Ordering.{is_eq, nat_cmp}
use Rattle.std.specs.List.{filter_map, cons_option}
use Rattle.std.proofs.lemmas.Bool.{and_parts, eqb-true}
use Rattle.std.proofs.lemmas.Bool.Decides.{nat_tests}
use Rattle.chat_model.specs.declared.event.Stamped.{Stamped}
use Rattle.chat_model.specs.declared.ids.MessageId.{MessageId}
use Rattle.chat_model.specs.declared.ids.UserId.{UserId}
use Rattle.chat_model.specs.declared.row.Row.{Row}
use Rattle.chat_model.specs.declared.row.Row.TheVariants as row
use Rattle.chat_model.specs.declared.row.RowKey.TheVariants as key
use Rattle.chat_model.specs.declared.row.RowChange.TheVariants.{Put}
use Rattle.chat_model.specs.Rows.{key_cmp, row_at}
use Rattle.chat_model.proofs.Rows.{row_after_all}
use Rattle.notice_ledger.specs.Past.Owed.{Notice, notices}
use Rattle.notice_ledger.specs.Past.Pushes.{is_active}
use Rattle.notice_ledger.specs.Past.Rows as ledger
use Rattle.notice_ledger.proofs.ActiveRows.{active_row-at}
use Rattle.notice_ledger.proofs.ActiveAfter.{is_push_active}
use Rattle.book_tables.specs.declared.pushes.PushKey.{PushKey}
use Rattle.book_tables.specs.Prepared.{active_row}
use Rattle.book_tables.specs.Pushes.{has_push}

-- the push of a notice
abbrev pub key_of_push : Notice → PushKey
key_of_push n = record { user = n.user; message = n.number }

-- the pushes that are active after these events, in the order of their notices
abbrev pub active_keys : List Stamped → List PushKey
active_keys j = map key_of_push (filter (is_active j) (notices j))

pub active_rows-keys : (j : List Stamped) → filter_map (ledger.active_row j) (notices j) ≡ map active_row (active_keys j)
active_rows-keys j = each (notices j)
  where
    each : (ns : List Notice) → filter_map (ledger.active_row j) ns ≡ map active_row (map key_of_push (filter (is_active j) ns))
    each [] = refl
    each (n ∷ ns) = by (is_active j n) (each ns)
      where
        by : (b : Bool) → filter_map (ledger.active_row j) ns ≡ map active_row (map key_of_push (filter (is_active j) ns))
            → cons_option (if b then Some (row.Active n.user n.number) else None) (filter_map (ledger.active_row j) ns) ≡ map active_row (map key_of_push (cond b (n ∷ filter (is_active j) ns) (filter (is_active j) ns)))
        by true e = ap (λ rs. row.Active n.user n.number ∷ rs) e
        by false e = e

-- ---- the row of a push

-- two keys are the same where their numbers are
pub active_places : (v : UserId) (n : MessageId) (u : UserId) (m : MessageId) → is_eq (key_cmp (key.Active v n) (key.Active u m)) ≡ (v.0 == u.0 && n.0 == m.0)
unfolding key_cmp
active_places v n u m = numbers v.0 n.0 u.0 m.0
  where
    numbers : (a b c d : ℕ) → is_eq (slice_cmp nat_cmp (3 ∷ a ∷ b ∷ []) (3 ∷ c ∷ d ∷ [])) ≡ (a == c && b == d)
    numbers a b c d = grind (arith, nat_tests)

module _ (u : UserId) (m : MessageId) where
  abbrev is_this : PushKey → Bool
  is_this p = p.user.0 == u.0 && p.message.0 == m.0

  key_tells : (p : PushKey) → is_eq (key_cmp (key.Active p.user p.message) (key.Active u m)) ≡ is_this p
  key_tells p = active_places p.user p.message u m

  same_row : (p : PushKey) → is_this p ≡ true → active_row p ≡ row.Active u m
  same_row p h =
      let parts = and_parts (p.user.0 == u.0) (p.message.0 == m.0) h in
      (λ i. row.Active (record { 0 = eqb-true p.user.0 u.0 parts.0 i }) (record { 0 = eqb-true p.message.0 m.0 parts.1 i }))

  -- puts of the rows of pushes put the row of one that is among them
  pub puts_have : (ps : List PushKey) (x : Option Row) → row_after_all (key.Active u m) (map Put (map active_row ps)) x ≡ cond (has_push ps u m) (Some (row.Active u m)) x
  puts_have [] x = refl
  puts_have (p ∷ ps) x =
      ap (λ b. row_after_all (key.Active u m) (map Put (map active_row ps)) (cond b (Some (active_row p)) x)) (key_tells p)
      ∙ (puts_have ps (cond (is_this p) (Some (active_row p)) x) ∙ by (is_this p) refl (has_push ps u m))
    where
      by : (b : Bool) → is_this p ≡ b → (c : Bool) → cond c (Some (row.Active u m)) (cond b (Some (active_row p)) x) ≡ cond (b || c) (Some (row.Active u m)) x
      by true e true = refl
      by true e false = ap Some (same_row p e)
      by false e c = refl

  found_row : (ps : List PushKey) → is_some (row_at (key.Active u m) (map active_row ps)) ≡ has_push ps u m
  found_row [] = refl
  found_row (p ∷ ps) = ap (λ b. is_some (cond b (Some (active_row p)) (row_at (key.Active u m) (map active_row ps)))) (key_tells p) ∙ by (is_this p) (found_row ps)
    where
      by : (b : Bool) → is_some (row_at (key.Active u m) (map active_row ps)) ≡ has_push ps u m → is_some (cond b (Some (active_row p)) (row_at (key.Active u m) (map active_row ps))) ≡ (b || has_push ps u m)
      by true e = refl
      by false e = e

  -- a push is among the active ones where its notice is active
  pub active-has : (j : List Stamped) → has_push (active_keys j) u m ≡ is_push_active j u m
  active-has j =
      sym (found_row (active_keys j))
      ∙ (ap (λ rs. is_some (row_at (key.Active u m) rs)) (sym (active_rows-keys j)) ∙ (ap is_some (active_row-at j u m) ∙ by (is_push_active j u m)))
    where
      by : (b : Bool) → is_some (if b then Some (row.Active u m) else None) ≡ b
      by true = refl
      by false = refl

-- the puts of their rows
pub active_puts : (j : List Stamped) (u : UserId) (m : MessageId) → row_after_all (key.Active u m) (map Put (map active_row (active_keys j))) None ≡ cond (is_push_active j u m) (Some (row.Active u m)) None
active_puts j u m = puts_have u m (active_keys j) None ∙ ap (λ b. cond b (Some (row.Active u m)) None) (active-has u m j)
