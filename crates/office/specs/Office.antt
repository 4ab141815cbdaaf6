-- What an office is seen as, and what its calls answer.
use Rattle.std.specs.Prelude.{◌≡◌, ℕ, ◌<◌, ◌≤◌, Bool, true, ◌&&◌, ◌||◌, not, cond, List, [], ◌∷◌, ◌++◌, Option, Some, None, IfSome, is_some, option_map, length}
use Rattle.chat_model.specs.declared.deal.Outcome.{Outcome}
use Rattle.chat_model.specs.declared.event.Event.{Event}
use Rattle.notice_ledger.specs.Deals.{is_fresh}
use Rattle.notice_ledger.specs.Past.Journal.{outcome_of}
use Rattle.notice_ledger.specs.Past.Runs.{is_restart}
use Rattle.notice_ledger.specs.Past.Values.{makes_deal}
use Rattle.chat_model.specs.declared.event.Stamped.{Stamped}
use Rattle.chat_model.specs.declared.event.Event.TheVariants.{Restart, MailTurn, PushTurn}
use Rattle.chat_model.specs.declared.ids.MessageId.{MessageId}
use Rattle.chat_model.specs.declared.push_item.PushItem.{PushItem}
use Rattle.chat_model.specs.declared.push_item.PushItem.TheVariants.{Notify, Remove}
use Rattle.chat_model.specs.declared.row.Row.{Row}
use Rattle.chat_model.specs.declared.trigger.Way.TheVariants.{Push}
use Rattle.keeper.specs.declared.keeper.Kept.{Kept}
use Rattle.notice_ledger.specs.Due.{DueUser, first_due}
use Rattle.notice_ledger.specs.Outbox.{mail_entries, dropped as rows_dropped}
use Rattle.notice_ledger.specs.Rows.{rows}
use Rattle.notice_ledger.specs.Journal.{stamp}
use Rattle.notice_ledger.specs.Owed.{account, notice_to}
use Rattle.notice_ledger.specs.Pushes.{oldest_item}
use Rattle.notice_ledger.specs.declared.accounts.Account.TheVariants.{Handed, Cancelled}
use Rattle.office.specs.Difference.{IsFirstDifference}
use Rattle.office.specs.declared.answer.MailAnswer.{MailAnswer}
use Rattle.office.specs.declared.answer.MailAnswer.TheVariants.{Mailed, NotDue}
use Rattle.office.specs.declared.answer.PushAnswer.{PushAnswer}
use Rattle.office.specs.declared.answer.PushAnswer.TheVariants.{Pushed, Removed, Dropped, NothingReady}
use Rattle.book_tables.specs.declared.tables.Tables.{Tables}
use Rattle.book_tables.specs.Tables.{StandsFor}
use Rattle.book_tables.specs.declared.prepared.Prepared.{Prepared}
use Rattle.book_tables.specs.Prepared.{IsPreparedFor, changes_of}
use Rattle.book_tables.specs.Rooms.{HasRoomFor}
use Rattle.chat_model.specs.Rows.{changed_all}
pub use Rattle.book_tables.specs.Answers.{answer_of}

-- an office is seen as its journal, the outcome that was taken and isn't absorbed yet, and its keeper
pub record OfficeSeen (K : Type 0) : Type 0 where
  pub journal : List Stamped
  pub in_hand : Option Outcome
  pub keeper : K

-- what is kept stands for a list of events: the kept journal is the list, and the kept rows are the list's
abbrev pub KeptStandsFor : List Stamped → Kept → Type 0
KeptStandsFor j kept = (kept.journal ≡ j) × (kept.rows ≡ rows j)

-- the tables and what is kept, where that is told, stand for the journal
pub record IsOffice (told : Option Kept) (j : List Stamped) (t : Tables) : Type 0 where
  pub tables : StandsFor t j
  pub kept : IfSome told (KeptStandsFor j)

-- the tables and what is kept, where that is told, stand for the journal of an open office, and it is known whether the
-- journal is fresh
pub record IsOpen (told : Option Kept) (j : List Stamped) (t : Tables) (unused : Bool) : Type 0 where
  pub tables : StandsFor t j
  pub kept : IfSome told (KeptStandsFor j)
  pub unused_is : unused ≡ is_fresh j

-- it was prepared for a lawful event behind this journal: its changes make of the journal's rows those with the event, and
-- the tables have room for it
pub record IsReady (t : Tables) (j : List Stamped) (s : Stamped) (p : Prepared) : Type 0 where
  pub prepared : IsPreparedFor j s p
  pub changes : changed_all (changes_of p) (rows j) ≡ rows (j ++ s ∷ [])
  pub room : HasRoomFor t p

-- an event more makes a journal fresh where it is a start, and ends that where it makes a deal or absorbs an outcome
abbrev pub fresh_after : Bool → Event → Bool
fresh_after fresh event = cond (is_restart event) true (fresh && not (makes_deal event || is_some (outcome_of event)))

-- an office has started over a journal, which stands for what is kept where that is told, and a restart follows it
pub record HasStarted (told : Option Kept) (now : ℕ) (j : List Stamped) : Type 0 where
  pub loaded : List Stamped
  pub stands : IfSome told (KeptStandsFor loaded)
  pub journal : j ≡ loaded ++ record { at = stamp loaded now; event = Restart } ∷ []

-- what was loaded, which is what is kept where that is told, has rows that aren't those of its journal: these are the
-- first in which they differ
pub record HasDisagreed (told : Option Kept) (kept replayed : Option Row) : Type 0 where
  pub loaded : Kept
  pub is : IfSome told (λ k. loaded ≡ k)
  pub first : IsFirstDifference loaded.rows (rows loaded.journal) kept replayed

-- no due moment is at most the stamp
abbrev pub NoneIsDue : List Stamped → ℕ → Type 0
NoneIsDue j at = IfSome (first_due j) (λ d. at < d.due)

-- the least due moment
abbrev pub least_due : List Stamped → Option ℕ
least_due j = option_map (λ d. d.due) (first_due j)

-- the user has the least due moment, and it is at most the stamp
pub record IsDue (j : List Stamped) (at : ℕ) (d : DueUser) : Type 0 where
  pub first : first_due j ≡ Some d
  pub by_now : d.due ≤ at

-- what a mail turn answers, and the journal after it
abbrev pub IsMailTurn : List Stamped → ℕ → MailAnswer → List Stamped → Type 0
IsMailTurn j at (NotDue least) after = NoneIsDue j at × (least ≡ least_due j) × (after ≡ j)
IsMailTurn j at (Mailed user entries dropped) after =
    (d : DueUser) × IsDue j at d × (d.user ≡ user) × (after ≡ j ++ record { at = at; event = MailTurn user } ∷ [])
    × (entries ≡ length (mail_entries j at user)) × (dropped ≡ rows_dropped j user)

-- the push turn of an item at a stamp
abbrev pub push_turn : ℕ → PushItem → Stamped
push_turn at item = record { at = at; event = PushTurn item }

-- what a push turn answers, and the journal after it: the item that waits longest has its turn, and a notice's answer says
-- where the notice stands after it
abbrev pub IsPushTurn : List Stamped → ℕ → PushAnswer → List Stamped → Type 0
IsPushTurn j at NothingReady after = (oldest_item j ≡ None) × (after ≡ j)
IsPushTurn j at (Pushed user message trigger) after =
    (oldest_item j ≡ Some (Notify user message)) × (after ≡ j ++ push_turn at (Notify user message) ∷ [])
    × (account after user message Push ≡ Handed) × (option_map (λ n. n.trigger) (notice_to after user message Push) ≡ Some trigger)
IsPushTurn j at (Dropped user message cause) after =
    (oldest_item j ≡ Some (Notify user message)) × (after ≡ j ++ push_turn at (Notify user message) ∷ [])
    × (account after user message Push ≡ Cancelled cause)
IsPushTurn j at (Removed user count) after =
    (messages : List MessageId) × (oldest_item j ≡ Some (Remove user messages)) × (count ≡ length messages)
    × (after ≡ j ++ push_turn at (Remove user messages) ∷ [])
