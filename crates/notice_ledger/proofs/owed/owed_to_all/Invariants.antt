use Rattle.std.proofs.Common.{◌≡◌, take}
use Rattle.notice_ledger.specs.Plain.{owed_to_all}
use Rattle.notice_ledger.proofs.owed.owed_to_all.Given as goal

abbrev pub invariant-loop-name : goal.invariant-loop-name
invariant-loop-name l = l.owed.items ≡ owed_to_all l.past l.heard (take l.name-index l.users)
