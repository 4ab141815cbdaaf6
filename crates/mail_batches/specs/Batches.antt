-- Mails that wait until they are due.
use Rattle.std.specs.Prelude.{◌≡◌, ℕ, ◌+◌, ◌-◌, Bool, true, false, not, ◌==◌, ◌&&◌, ◌||◌, nat_lt, List, [], ◌∷◌, ◌++◌, Option, Some, option_map, unwrap_or}
use Rattle.std.specs.List.{list_all, list_any}
use Rattle.std.specs.Option.{option_map_or}
use Rattle.std.specs.Ordering.{nat_cmp}
use Rattle.std.specs.FinMap as map
use Rattle.chat_model.specs.declared.ids.UserId.{UserId}
use Rattle.chat_model.specs.declared.ids.MessageId.{MessageId}
use Rattle.mail_batches.specs.declared.batches.DueUser.{DueUser}

-- the mails that wait for a user: when they are due, in seconds, and their messages in the order in which they became ready
pub record Batch : Type 0 where
  pub due : ℕ
  pub rows : List MessageId

-- the batch of each user who has one, by the user's number, and for how many more rows there is room
pub record Waiting : Type 0 where
  pub batches : map.FinMap nat_cmp Batch
  pub spare : ℕ

-- a user's batch
abbrev pub batch_of : Waiting → UserId → Option Batch
batch_of w u = map.get w.batches u.0

-- a user's due moment
abbrev pub due_of : Waiting → UserId → Option ℕ
due_of w u = option_map (λ b. b.due) (batch_of w u)

-- a user's rows, in order
abbrev pub rows_of : Waiting → UserId → List MessageId
rows_of w u = option_map_or (λ b. b.rows) (batch_of w u) []

-- one more row after the user's others, for which room was reserved; the first row sets the due moment
abbrev pub with_row : Waiting → UserId → MessageId → ℕ → Waiting
with_row w u m due = record {
  batches = map.insert w.batches u.0 (record { due = unwrap_or (due_of w u) due; rows = rows_of w u ++ m ∷ [] });
  spare = w.spare - 1;
}

-- a user's due moment moved from one period to another, where the user has one
abbrev pub shifted : Waiting → UserId → ℕ → ℕ → Waiting
shifted w u old new = option_map_or (λ b. record w { batches = map.insert w.batches u.0 (record b { due = b.due - old + new }) }) (batch_of w u) w

-- a user without rows and due moment
abbrev pub settled : Waiting → UserId → Waiting
settled w u = record w { batches = map.remove w.batches u.0 }

-- one user is due before another: at an earlier moment, or at the same with a lower number
abbrev pub is_due_before : DueUser → DueUser → Bool
is_due_before a b = nat_lt a.due b.due || (a.due == b.due && nat_lt a.user.0 b.user.0)

-- the user is due at that moment, and nobody is due before
pub record IsDueFirst (w : Waiting) (first : DueUser) : Type 0 where
  pub due : due_of w first.user ≡ Some first.due
  pub least : (u : UserId) (due : ℕ) → due_of w u ≡ Some due → is_due_before (record { due = due; user = u }) first ≡ false

-- a user with its due moment
abbrev pub due_user : UserId × ℕ → DueUser
due_user e = record { due = e.1; user = e.0 }

-- one of these users with their due moments, and none of them is due before
pub record IsLeast (es : List (UserId × ℕ)) (first : DueUser) : Type 0 where
  pub found : list_any (λ e. e.0.0 == first.user.0 && e.1 == first.due) es ≡ true
  pub least : list_all (λ e. not (is_due_before (due_user e) first)) es ≡ true
