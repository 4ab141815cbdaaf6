use Rattle.std.proofs.Common.{◌≡◌, take}
use Rattle.notice_ledger.specs.Lawful.{lawful}
use Rattle.notice_ledger.proofs.kept.lawful_events.Given as goal

abbrev pub invariant-loop-stamped : goal.invariant-loop-stamped
invariant-loop-stamped l = l.kept.items ≡ lawful (take l.stamped-index l.journal)
