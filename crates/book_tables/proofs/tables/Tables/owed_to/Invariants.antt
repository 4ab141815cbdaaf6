use Rattle.std.proofs.Common.{◌≡◌, ℕ, List, take}
use Rattle.std.specs.List.{flat_map}
use Rattle.chat_model.specs.declared.event.Stamped.{Stamped}
use Rattle.chat_model.specs.declared.ids.UserId.{UserId}
use Rattle.notice_ledger.specs.Past.Values.{is_one_of}
use Rattle.notice_ledger.specs.Past.Triggers.{goes_to}
use Rattle.book_tables.specs.Tables.{Holds}
use Rattle.book_tables.specs.Gathered.{IsGathered, owed_there}
use Rattle.book_tables.proofs.tables.Tables.owed_to.Given as goal

abbrev pub invariant-loop-user : goal.invariant-loop-user
invariant-loop-user l =
    (past : List Stamped) (at : ℕ) → Holds l.self past → IsGathered past l.message l.gathered → ((u : UserId) → is_one_of l.addressees.users.items u ≡ goes_to past l.message.to u)
    → l.owed.items ≡ flat_map (owed_there past at l.message) (take l.user-index l.user-items)
