-- The rows of the kept tables.
use Rattle.std.specs.Prelude.{ℕ, ◌+◌, false, List, [], ◌∷◌, ◌++◌, Option, Some, None, option_map, if◌then◌else◌}
use Rattle.std.specs.List.{filter_map}
use Rattle.std.specs.Ordering.{is_lt}
use Rattle.chat_model.specs.declared.event.Stamped.{Stamped}
use Rattle.chat_model.specs.declared.entry.Entry.{Entry}
use Rattle.chat_model.specs.declared.row.Row.{Row}
use Rattle.chat_model.specs.declared.row.Row.TheVariants as row
use Rattle.chat_model.specs.declared.row.Stage.{Stage}
use Rattle.chat_model.specs.declared.row.Stage.TheVariants as stage
use Rattle.chat_model.specs.Rows.{key_cmp, key_of}
use Rattle.notice_ledger.specs.declared.accounts.Account.{Account}
use Rattle.notice_ledger.specs.declared.accounts.Account.TheVariants.{Flight, Held, Ready}
use Rattle.notice_ledger.specs.Past.Values.{Person, people, SentMessage, messages, is_deleted, settings}
use Rattle.notice_ledger.specs.Past.Owed.{Notice, notices, account_of}
use Rattle.notice_ledger.specs.Past.Pushes.{is_active}
use Rattle.notice_ledger.specs.Past.Outbox.{outbox}

-- a row for each user, with its settings at the end
abbrev pub user_rows_from : List Stamped → ℕ → List Person → List Row
user_rows_from j n [] = []
user_rows_from j n (p ∷ ps) = row.User (record { 0 = n }) p.name p.bot (settings j (record { 0 = n })) ∷ user_rows_from j (n + 1) ps

-- a row for each message, which keeps its text where it is deleted
abbrev pub message_rows_from : List Stamped → ℕ → List SentMessage → List Row
message_rows_from j n [] = []
message_rows_from j n (m ∷ ms) = row.Message (record { 0 = n }) m.sender m.text (is_deleted j (record { 0 = n })) ∷ message_rows_from j (n + 1) ms

-- how far a pending notice has come
abbrev pub stage_of : Account → Option Stage
stage_of Flight = Some stage.Flight
stage_of Held = Some stage.Held
stage_of Ready = Some stage.Ready
stage_of _ = None

-- a row for a notice with a pending account, with its trigger, deal and stage
abbrev pub pending_row : List Stamped → Notice → Option Row
pending_row j n = option_map (λ s. row.Pending n.user n.number n.way n.trigger n.deal s) (stage_of (account_of j n))

-- a row for an active push
abbrev pub active_row : List Stamped → Notice → Option Row
active_row j n = if is_active j n then Some (row.Active n.user n.number) else None

-- a row for each outbox entry, which nothing spools yet
abbrev pub outbox_rows_from : ℕ → List Entry → List Row
outbox_rows_from n [] = []
outbox_rows_from n (e ∷ es) = row.Outbox (record { 0 = n }) e false ∷ outbox_rows_from (n + 1) es

-- what has a row, table by table
abbrev pub listed_rows : List Stamped → List Row
listed_rows j = user_rows_from j 1 (people j) ++ (message_rows_from j 1 (messages j) ++ (filter_map (pending_row j) (notices j) ++ (filter_map (active_row j) (notices j) ++ outbox_rows_from 1 (outbox j))))

-- a row before the first one whose key is greater
abbrev pub put_by_key : Row → List Row → List Row
put_by_key row [] = row ∷ []
put_by_key row (other ∷ rest) = if is_lt (key_cmp (key_of row) (key_of other)) then row ∷ other ∷ rest else other ∷ put_by_key row rest

-- rows by table and key
abbrev pub by_key : List Row → List Row
by_key [] = []
by_key (row ∷ rest) = put_by_key row (by_key rest)

-- the rows of the kept tables, by table and key
unfoldable pub rows : List Stamped → List Row
rows j = by_key (listed_rows j)
