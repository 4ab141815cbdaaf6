use Rattle.std.proofs.Common.{◌≡◌, map, drop}
use Rattle.notice_ledger.specs.Past.Refusals.{first_broken}
use Rattle.book_tables.specs.Rules.{tested_rule}
use Rattle.book_tables.proofs.refusal.first_broken.Given as goal

abbrev pub invariant-loop-rule : goal.invariant-loop-rule
invariant-loop-rule l = first_broken (map tested_rule (drop l.rule-index l.rules)) ≡ first_broken (map tested_rule l.rules)
