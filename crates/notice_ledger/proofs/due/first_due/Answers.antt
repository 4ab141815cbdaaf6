use Rattle.std.proofs.Common.{List, take, sym, ap, ◌∙◌}
use Rattle.std.specs.Prelude.{option_map}
use Rattle.std.specs.List.{reduce, filter_map}
use Rattle.std.proofs.lemmas.List.{take_all}
use Rattle.chat_model.specs.declared.mentions.UserName.{UserName}
use Rattle.notice_ledger.specs.Past.Due.{sooner}
use Rattle.notice_ledger.specs.Plain.{found_due}
use Rattle.notice_ledger.proofs.Lists.{take_next}
use Rattle.notice_ledger.proofs.TurnLemmas.{due_named, first_due-named, none_from, one_more_due, one_more_not_due}
use Rattle.notice_ledger.proofs.due.first_due.Goals as goal
use Rattle.notice_ledger.proofs.due.first_due.Goals.{in-Some, in_default}

pub loop-name-preserved : goal.loop-name-preserved
loop-name-preserved c =
    let j = c.args.journal.now in let xs = c.deref-name-items.result.now in let i = c.loop-name.name-index in
    let next = take_next xs i c.name-item.result c.loop-name-test.true c.name-item.is in
    elim c.match-moment.branch [
      | in-Some w ↦
          ap (option_map found_due) w.first-is
          ∙ (one_more_due j (take i xs) c.name-item.result w.in-Some.due c.loop-name.first w.sooner.result (sym w.in-Some.is ∙ c.in_ok-moment.ensures) c.loop-name.invariant w.sooner.ensures
          ∙ ap (λ (ys : List UserName). reduce sooner (filter_map (due_named j) ys)) (sym next))
      | in_default w ↦
          ap (option_map found_due) w.first-is
          ∙ (c.loop-name.invariant
          ∙ (ap (reduce sooner) (sym (one_more_not_due j (take i xs) c.name-item.result (sym (none_from c.in_ok-moment.moment w.in_default.not-Some) ∙ c.in_ok-moment.ensures)))
          ∙ ap (λ (ys : List UserName). reduce sooner (filter_map (due_named j) ys)) (sym next)))
    ]

pub returns : goal.returns
returns c =
    let xs = c.deref-name-items.result.now in
    c.loop-name.invariant
    ∙ (ap (λ (ns : List UserName). reduce sooner (filter_map (due_named c.args.journal.now) ns)) (take_all c.loop-name.name-index xs c.loop-name-test.false)
    ∙ first_due-named c.args.journal.now xs (c.deref-name-items.ensures.value ∙ c.in_ok-users.ensures))
