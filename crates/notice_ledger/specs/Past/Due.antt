-- When a user's mails are due.
use Rattle.std.specs.Prelude.{ℕ, ◌+◌, Bool, false, ◌&&◌, ◌==◌, nat_lt, List, Option, is_none, filter, option_map, if◌then◌else◌}
use Rattle.std.specs.List.{filter_map, reduce}
use Rattle.std.specs.Option.{option_map_or}
use Rattle.chat_model.specs.declared.event.Stamped.{Stamped}
use Rattle.chat_model.specs.declared.ids.UserId.{UserId}
use Rattle.chat_model.specs.declared.trigger.Way.TheVariants.{Mail}
use Rattle.notice_ledger.specs.Past.Journal.{Occurrence}
use Rattle.notice_ledger.specs.Past.Values.{users, settings}
use Rattle.notice_ledger.specs.Past.Owed.{Notice, notices, ready, is_unbarred, turn, same_way}

-- a batch row of a user is a mail notice of the user with a ready event, no bar before that event, and no turn
abbrev pub is_batch_row : List Stamped → UserId → Notice → Bool
is_batch_row j u n = n.user.0 == u.0 && same_way n.way Mail && (option_map_or (is_unbarred n) (ready j n) false && is_none (turn j n))

-- a user's batch rows, in the order of the events that owe them
abbrev pub batch_rows : List Stamped → UserId → List Notice
batch_rows j u = filter (is_batch_row j u) (notices j)

-- of two events the one at the lesser place
abbrev pub earlier : Occurrence → Occurrence → Occurrence
earlier a b = if nat_lt b.place a.place then b else a

-- a user's due moment: the stamp of the least ready event of a batch row, plus the user's period
abbrev pub due : List Stamped → UserId → Option ℕ
due j u = option_map (λ o. o.at + (settings j u).period) (reduce earlier (filter_map (ready j) (batch_rows j u)))

-- a user with a due moment, in seconds
pub record DueUser : Type 0 where
  pub due : ℕ
  pub user : UserId

-- a user with its due moment, where it has one
abbrev pub due_user : List Stamped → UserId → Option DueUser
due_user j u = option_map (λ d. record { due = d; user = u }) (due j u)

-- of two users the one with the lesser due moment, and at a tie the first
abbrev pub sooner : DueUser → DueUser → DueUser
sooner a b = if nat_lt b.due a.due then b else a

-- the user with the least due moment, ties by the lower number
unfoldable pub first_due : List Stamped → Option DueUser
first_due j = reduce sooner (filter_map (due_user j) (users j))
