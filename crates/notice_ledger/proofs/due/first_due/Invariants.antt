use Rattle.std.proofs.Common.{◌≡◌, take}
use Rattle.std.specs.Prelude.{option_map}
use Rattle.std.specs.List.{reduce, filter_map}
use Rattle.notice_ledger.specs.Past.Due.{sooner}
use Rattle.notice_ledger.specs.Plain.{found_due}
use Rattle.notice_ledger.proofs.TurnLemmas.{due_named}
use Rattle.notice_ledger.proofs.due.first_due.Given as goal

abbrev pub invariant-loop-name : goal.invariant-loop-name
invariant-loop-name l =
    option_map found_due l.first ≡ reduce sooner (filter_map (due_named l.journal) (take l.name-index l.name-items))
