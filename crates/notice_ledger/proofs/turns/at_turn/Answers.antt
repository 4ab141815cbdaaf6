use Rattle.std.proofs.Common.{ap, ◌∙◌}
use Rattle.std.specs.Prelude.{Option, option_and_then}
use Rattle.notice_ledger.specs.declared.turns.FoundTurn.{FoundTurn}
use Rattle.notice_ledger.specs.Plain.{turn_kept}
use Rattle.notice_ledger.proofs.SlowBars.{turn-decided}
use Rattle.notice_ledger.proofs.turns.at_turn.Goals as goal

pub returns-in-Some : goal.returns-in-Some
returns-in-Some c =
    let j = c.args.journal.now in let n = c.args.notice.now in
    ap (λ (t : Option FoundTurn). option_and_then (λ f. f.decided) t) c.in-Some.ensures ∙ turn-decided n (turn_kept j n)

pub returns-in-None : goal.returns-in-None
returns-in-None c =
    let j = c.args.journal.now in let n = c.args.notice.now in
    ap (λ (t : Option FoundTurn). option_and_then (λ f. f.decided) t) c.in-None.ensures ∙ turn-decided n (turn_kept j n)
