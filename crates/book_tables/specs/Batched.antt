-- The mails of each user that are ready, as the notices that wait give them, and what an effect makes of the batches.
use Rattle.std.specs.Prelude.{◌≡◌, ℕ, ◌+◌, ◌≤◌, Bool, nat_lt, List, Option, Some, None, IfSome, IsPermutation, length, filter, map, if◌then◌else◌}
use Rattle.std.specs.Option.{option_or}
use Rattle.chat_model.specs.declared.ids.UserId.{UserId}
use Rattle.chat_model.specs.declared.ids.MessageId.{MessageId}
use Rattle.notice_ledger.specs.Limits.{longest_period}
use Rattle.mail_batches.specs.Batches.{Waiting as Batches, due_of, rows_of, shifted, settled}
use Rattle.book_tables.specs.declared.preferences.Preferences.{Preferences}
use Rattle.book_tables.specs.declared.prepared.Effect.{Effect}
use Rattle.book_tables.specs.declared.prepared.Effect.TheVariants as effect
use Rattle.book_tables.specs.declared.tables.Tables.{Tables}
use Rattle.book_tables.specs.declared.tables.Waiting.{Waiting}
use Rattle.book_tables.specs.Notices.{is_ready_mail_to, IsInOrder, AreNumbered}
use Rattle.book_tables.specs.Preferences.{preferred_in}

-- the messages of a user's mails that are ready
abbrev pub messages_to : UserId → List Waiting → List MessageId
messages_to u ws = map (λ w. w.message) (filter (is_ready_mail_to u) ws)

-- the rows of each user are these messages, in some order
abbrev pub HasRows : List Waiting → Batches → Type 0
HasRows ws b = (u : UserId) → IsPermutation (messages_to u ws) (rows_of b u)

-- a user's period, by what is kept of each
abbrev pub period_in : List Preferences → UserId → ℕ
period_in all u = (preferred_in all u.0).settings.period

-- the batches have the rows of the notices, and no period is above the longest
pub record KeepsBatches (t : Tables) : Type 0 where
  pub rows : HasRows t.waiting.items t.batches
  pub periods : (u : UserId) → period_in t.preferences.items u ≤ longest_period

-- what is so of the notices and the batches of tables that hold what events leave: a user is due no earlier than the period,
-- and no later than a period after the last stamp
pub record IsSound (t : Tables) : Type 0 where
  pub order : IsInOrder t.waiting.items
  pub numbered : AreNumbered t.waiting.items
  pub cleared_order : IsInOrder t.cleared.items
  pub cleared_numbered : AreNumbered t.cleared.items
  pub active_order : IsInOrder t.active.items
  pub active_numbered : AreNumbered t.active.items
  pub batches : KeepsBatches t
  pub due : (u : UserId) → IfSome (due_of t.batches u) (λ due. (period_in t.preferences.items u ≤ due) × (due ≤ t.last + period_in t.preferences.items u))

-- the tables are the same but for the notices and the batches
abbrev pub WithNotices : Tables → Tables → Type 0
WithNotices old new = new ≡ record old { waiting = new.waiting; batches = new.batches }

-- a user's due moment once the rows have grown or not: where there was none, it is a period after the stamp
abbrev pub due_grown : ℕ → Bool → Option ℕ → Option ℕ
due_grown due grown before = option_or before (if grown then Some due else None)

-- notices became ready at a stamp, where users have these periods: the batches have the rows of these notices now, and
-- whose first row came is due by the stamp and the period
pub record AreReadied (period : UserId → ℕ) (at : ℕ) (ws : List Waiting) (old new : Batches) : Type 0 where
  pub rows : HasRows ws new
  pub more : (u : UserId) → length (rows_of old u) ≤ length (rows_of new u)
  pub due : (u : UserId) → due_of new u ≡ due_grown (at + period u) (nat_lt (length (rows_of old u)) (length (rows_of new u))) (due_of old u)

-- the batches after an effect at a stamp, with the periods before and after it and the notices after it
abbrev pub BatchesAfter : (UserId → ℕ) → (UserId → ℕ) → List Waiting → ℕ → Effect → Batches → Batches → Type 0
BatchesAfter before after ws at (effect.Start pushes) old new = AreReadied before at ws old new
BatchesAfter before after ws at (effect.Dealt deal idle live pushes) old new = AreReadied before at ws old new
BatchesAfter before after ws at (effect.Missed user deals pushes) old new = AreReadied before at ws old new
BatchesAfter before after ws at (effect.Preference user change) old new = new ≡ shifted old user (before user) (after user)
BatchesAfter before after ws at (effect.Mailed user entries handed off) old new = new ≡ settled old user
BatchesAfter before after ws at _ old new = new ≡ old
