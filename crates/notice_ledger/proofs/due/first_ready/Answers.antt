use Rattle.std.proofs.Common.{take, get_or, sym, ap, ◌∙◌}
use Rattle.std.proofs.lemmas.List.{take_more}
use Rattle.notice_ledger.proofs.SlowLemmas.{nobody}
use Rattle.notice_ledger.proofs.TurnLemmas.{first_ready, one_more_ready, one_more_not_ready}
use Rattle.notice_ledger.proofs.due.first_ready.Goals as goal
use Rattle.notice_ledger.proofs.due.first_ready.Goals.{in-Some, in_default}

pub loop-row-preserved : goal.loop-row-preserved
loop-row-preserved c =
    let j = c.args.journal.now in let xs = c.args.rows.now in let i = c.loop-row.row-index in
    let row = get_or xs i nobody in
    let next = take_more xs i nobody c.loop-row-test.true in
    elim c.match-ready.branch [
      | in-Some w ↦
          w.first-is
          ∙ (one_more_ready j (take i xs) row c.loop-row.first w.in-Some.spot w.earlier.result (sym w.in-Some.is ∙ c.ready.ensures) c.loop-row.invariant w.earlier.ensures
          ∙ ap (first_ready j) (sym next))
      | in_default w ↦
          w.first-is ∙ (c.loop-row.invariant ∙ (sym (one_more_not_ready j (take i xs) row (sym w.in_default.is ∙ c.ready.ensures)) ∙ ap (first_ready j) (sym next)))
    ]
