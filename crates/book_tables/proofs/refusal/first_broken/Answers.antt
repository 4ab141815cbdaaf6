use Rattle.std.proofs.Common.{◌+◌, List, false, map, drop, get_or, sym, ap, ◌∙◌}
use Rattle.std.specs.Prelude.{Bool, Option, Some, if◌then◌else◌}
use Rattle.std.proofs.lemmas.List.{at_drop_more, at_drop_all}
use Rattle.chat_model.specs.declared.request.Refusal.{Refusal}
use Rattle.chat_model.specs.declared.request.Refusal.TheVariants.{NoUser}
use Rattle.notice_ledger.specs.Past.Refusals.{first_broken}
use Rattle.book_tables.specs.Rules.{tested_rule}
use Rattle.book_tables.proofs.refusal.first_broken.Goals as goal

abbrev tested : List (Bool × Refusal) → Option Refusal
tested rules = first_broken (map tested_rule rules)

pub loop-rule-preserved : goal.loop-rule-preserved
loop-rule-preserved c =
    let rules = c.args.rules.now in let i = c.loop-rule.rule-index in let d : Bool × Refusal = (false, NoUser) in
    sym (at_drop_more tested rules i d c.loop-rule-test.true ∙ ap (λ b. if b then Some (get_or rules i d).1 else tested (drop (i + 1) rules)) c.if-rule.false) ∙ c.loop-rule.invariant

pub returns-then-rule : goal.returns-then-rule
returns-then-rule c =
    let rules = c.args.rules.now in let i = c.loop-rule.rule-index in let d : Bool × Refusal = (false, NoUser) in
    sym (at_drop_more tested rules i d c.loop-rule-test.true ∙ ap (λ b. if b then Some (get_or rules i d).1 else tested (drop (i + 1) rules)) c.if-rule.true) ∙ c.loop-rule.invariant

pub returns : goal.returns
returns c = sym (at_drop_all tested c.args.rules.now c.loop-rule.rule-index c.loop-rule-test.false) ∙ c.loop-rule.invariant
