-- What a user has in batches after a row came, a due moment moved, or a user was settled.
use Rattle.std.proofs.Common.{◌≡◌, ℕ, ◌+◌, ◌-◌, Bool, true, false, ◌==◌, cond, [], ◌∷◌, ◌++◌, Option, Some, None, unwrap_or, refl, sym, ap, ◌∙◌}
use Rattle.std.specs.Prelude.{option_map}
use Rattle.std.specs.Option.{option_map_or}
use Rattle.std.specs.Ordering.{nat_cmp, eq_by_cmp}
use Rattle.std.specs.Cmp.{nat_cmp_total}
use Rattle.std.specs.FinMap as finite
use Rattle.std.specs.FinMap.{get-empty, get-insert, get-remove}
use Rattle.std.proofs.lemmas.Bool.{eqb-true}
use Rattle.std.proofs.lemmas.Bool.Decides.{nat_tests}
use Rattle.std.proofs.Common.{arith}
use Rattle.chat_model.specs.declared.ids.MessageId.{MessageId}
use Rattle.chat_model.specs.declared.ids.UserId.{UserId}
use Rattle.mail_batches.specs.Batches.{Batch, Waiting, batch_of, due_of, rows_of, with_row, shifted, settled}

number_ties : (a b : ℕ) → eq_by_cmp nat_cmp a b ≡ (b == a)
number_ties a b = grind (arith, nat_tests)

-- nobody has one in no batches
pub rows-none : (u : UserId) → rows_of (record { batches = finite.empty; spare = 0 }) u ≡ []
rows-none u = ap (λ (o : Option Batch). option_map_or (λ (b : Batch). b.rows) o []) (get-empty nat_cmp u.0)

pub due-none : (u : UserId) → due_of (record { batches = finite.empty; spare = 0 }) u ≡ None
due-none u = ap (option_map (λ (b : Batch). b.due)) (get-empty nat_cmp u.0)

module _ (w : Waiting) (v : UserId) where
  -- a batch that is put, and one that goes
  put : (b : Batch) (u : UserId) → finite.get (finite.insert w.batches v.0 b) u.0 ≡ cond (v.0 == u.0) (Some b) (batch_of w u)
  put b u = get-insert nat_cmp_total w.batches v.0 b u.0 ∙ ap (λ t. cond t (Some b) (batch_of w u)) (number_ties u.0 v.0)

  gone : (u : UserId) → finite.get (finite.remove w.batches v.0) u.0 ≡ cond (v.0 == u.0) None (batch_of w u)
  gone u = get-remove nat_cmp_total w.batches v.0 u.0 ∙ ap (λ t. cond t None (batch_of w u)) (number_ties u.0 v.0)

  -- ---- a row more

  abbrev grown : MessageId → ℕ → Batch
  grown m due = record { due = unwrap_or (due_of w v) due; rows = rows_of w v ++ m ∷ [] }

  pub due-with_row : (m : MessageId) (due : ℕ) (u : UserId) → due_of (with_row w v m due) u ≡ cond (v.0 == u.0) (Some (unwrap_or (due_of w v) due)) (due_of w u)
  due-with_row m due u = ap (option_map (λ (b : Batch). b.due)) (put (grown m due) u) ∙ by (v.0 == u.0)
    where
      by : (t : Bool) → option_map (λ (b : Batch). b.due) (cond t (Some (grown m due)) (batch_of w u)) ≡ cond t (Some (unwrap_or (due_of w v) due)) (due_of w u)
      by true = refl
      by false = refl

  pub rows-with_row : (m : MessageId) (due : ℕ) (u : UserId) → rows_of (with_row w v m due) u ≡ cond (v.0 == u.0) (rows_of w v ++ m ∷ []) (rows_of w u)
  rows-with_row m due u = ap (λ (o : Option Batch). option_map_or (λ (b : Batch). b.rows) o []) (put (grown m due) u) ∙ by (v.0 == u.0)
    where
      by : (t : Bool) → option_map_or (λ (b : Batch). b.rows) (cond t (Some (grown m due)) (batch_of w u)) [] ≡ cond t (rows_of w v ++ m ∷ []) (rows_of w u)
      by true = refl
      by false = refl

  -- ---- a due moment that moves

  abbrev with_due : Batch → ℕ → ℕ → Batch
  with_due b old new = record b { due = b.due - old + new }

  abbrev moved : Option Batch → ℕ → ℕ → Waiting
  moved o old new = option_map_or (λ (b : Batch). record w { batches = finite.insert w.batches v.0 (with_due b old new) }) o w

  of_user : (u : UserId) → (v.0 == u.0) ≡ true → batch_of w v ≡ batch_of w u
  of_user u same = ap (finite.get w.batches) (eqb-true v.0 u.0 same)

  batch-shifted : (old new : ℕ) (u : UserId) → batch_of (shifted w v old new) u ≡ cond (v.0 == u.0) (option_map (λ (b : Batch). with_due b old new) (batch_of w v)) (batch_of w u)
  batch-shifted old new u = by (batch_of w v) refl
    where
      none : (t : Bool) → (v.0 == u.0) ≡ t → batch_of w v ≡ None → batch_of w u ≡ cond t None (batch_of w u)
      none true same e = sym (of_user u same) ∙ e
      none false same e = refl

      by : (o : Option Batch) → batch_of w v ≡ o → batch_of (moved o old new) u ≡ cond (v.0 == u.0) (option_map (λ (b : Batch). with_due b old new) o) (batch_of w u)
      by None e = none (v.0 == u.0) refl e
      by (Some b) e = put (with_due b old new) u

  pub due-shifted : (old new : ℕ) (u : UserId) → due_of (shifted w v old new) u ≡ cond (v.0 == u.0) (option_map (λ d. d - old + new) (due_of w v)) (due_of w u)
  due-shifted old new u = ap (option_map (λ (b : Batch). b.due)) (batch-shifted old new u) ∙ by (v.0 == u.0) (batch_of w v)
    where
      by : (t : Bool) (o : Option Batch) → option_map (λ (b : Batch). b.due) (cond t (option_map (λ (b : Batch). with_due b old new) o) (batch_of w u)) ≡ cond t (option_map (λ d. d - old + new) (option_map (λ (b : Batch). b.due) o)) (due_of w u)
      by true None = refl
      by true (Some b) = refl
      by false o = refl

  pub rows-shifted : (old new : ℕ) (u : UserId) → rows_of (shifted w v old new) u ≡ rows_of w u
  rows-shifted old new u = ap (λ (o : Option Batch). option_map_or (λ (b : Batch). b.rows) o []) (batch-shifted old new u) ∙ by (v.0 == u.0) refl
    where
      kept : (o : Option Batch) → option_map_or (λ (b : Batch). b.rows) (option_map (λ (b : Batch). with_due b old new) o) [] ≡ option_map_or (λ (b : Batch). b.rows) o []
      kept None = refl
      kept (Some b) = refl

      by : (t : Bool) → (v.0 == u.0) ≡ t → option_map_or (λ (b : Batch). b.rows) (cond t (option_map (λ (b : Batch). with_due b old new) (batch_of w v)) (batch_of w u)) [] ≡ rows_of w u
      by true same = kept (batch_of w v) ∙ ap (λ (o : Option Batch). option_map_or (λ (b : Batch). b.rows) o []) (of_user u same)
      by false same = refl

  -- ---- a user who is settled

  pub due-settled : (u : UserId) → due_of (settled w v) u ≡ cond (v.0 == u.0) None (due_of w u)
  due-settled u = ap (option_map (λ (b : Batch). b.due)) (gone u) ∙ by (v.0 == u.0)
    where
      by : (t : Bool) → option_map (λ (b : Batch). b.due) (cond t None (batch_of w u)) ≡ cond t None (due_of w u)
      by true = refl
      by false = refl

  pub rows-settled : (u : UserId) → rows_of (settled w v) u ≡ cond (v.0 == u.0) [] (rows_of w u)
  rows-settled u = ap (λ (o : Option Batch). option_map_or (λ (b : Batch). b.rows) o []) (gone u) ∙ by (v.0 == u.0)
    where
      by : (t : Bool) → option_map_or (λ (b : Batch). b.rows) (cond t None (batch_of w u)) [] ≡ cond t [] (rows_of w u)
      by true = refl
      by false = refl
