use Rattle.std.proofs.Common.{◌≡◌, take, map}
use Rattle.notice_ledger.specs.Past.Values.{people}
use Rattle.notice_ledger.proofs.values.bots.Given as goal

abbrev pub invariant-loop-stamped : goal.invariant-loop-stamped
invariant-loop-stamped l = l.bots.items ≡ map (λ p. p.bot) (people (take l.stamped-index l.past))
