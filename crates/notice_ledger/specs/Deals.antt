-- What the hub is told of any list of events: the deal of a number, who is a user, and the number of the run; and what
-- of the hub's outcomes was absorbed in this run.
use Rattle.std.specs.Prelude.{ℕ, Bool, List, Option, slice_get}
use Rattle.chat_model.specs.declared.event.Stamped.{Stamped}
use Rattle.chat_model.specs.declared.deal.Deal.{Deal}
use Rattle.chat_model.specs.declared.deal.Outcome.{Outcome}
use Rattle.chat_model.specs.declared.ids.DealNo.{DealNo}
use Rattle.chat_model.specs.declared.ids.UserId.{UserId}
use Rattle.notice_ledger.specs.Past.Audit.{in_64_bits}
use Rattle.notice_ledger.specs.Past.Deals as past
use Rattle.notice_ledger.specs.Past.Runs as runs
use Rattle.notice_ledger.specs.Past.Values as values
use Rattle.notice_ledger.specs.Lawful.{lawful}

-- the deal of a number, from 0, of the lawful events
abbrev pub deal : List Stamped → DealNo → Option Deal
deal j k = slice_get (past.deals (lawful j)) k.0

-- the office knows the user: a lawful event adds it
abbrev pub knows : List Stamped → UserId → Bool
knows j u = values.is_user (lawful j) u

-- the number of the run: how many lawful events are starts, in 64 bits
abbrev pub run_number : List Stamped → ℕ
run_number j = in_64_bits (runs.start_count (lawful j))

-- the outcomes that lawful events absorb after the last start
abbrev pub absorbed_since_start : List Stamped → List Outcome
absorbed_since_start j = runs.absorbed_since_start (lawful j)

-- no lawful event makes a deal or absorbs an outcome after the last start
abbrev pub is_fresh : List Stamped → Bool
is_fresh j = runs.is_fresh (lawful j)
