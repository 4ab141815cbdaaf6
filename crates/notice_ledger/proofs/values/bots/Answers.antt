use Rattle.std.proofs.Common.{List, map, take, sym, ap, ◌∙◌}
use Rattle.chat_model.specs.declared.event.Stamped.{Stamped}
use Rattle.notice_ledger.specs.Past.Values.{Person, people}
use Rattle.notice_ledger.proofs.Lists.{take_next}
use Rattle.notice_ledger.proofs.Appended.{people-nil}
use Rattle.notice_ledger.proofs.There.{bots-more, bots-same}
use Rattle.notice_ledger.proofs.values.bots.Goals as goal
use Rattle.notice_ledger.proofs.values.bots.Goals.{in-Some+in_ok-push, in_default}

pub loop-stamped-init : goal.loop-stamped-init
loop-stamped-init c = c.new-bots.ensures.items ∙ sym (ap (map (λ (p : Person). p.bot)) people-nil)

pub loop-stamped-preserved : goal.loop-stamped-preserved
loop-stamped-preserved c =
    let j = take c.loop-stamped.stamped-index c.args.past.now in let s = c.stamped-item.result in
    let next = take_next c.args.past.now c.loop-stamped.stamped-index s c.loop-stamped-test.true c.stamped-item.is in
    let old = c.loop-stamped.bots.items in
    elim c.match-added_bot.branch [
      | in-Some+in_ok-push w ↦
          ap (λ v. v.items) w.bots-is
          ∙ (w.in_ok-push.ensures.items
          ∙ (bots-more j s old w.in-Some.bot c.loop-stamped.invariant w.in-Some.ensures ∙ ap (λ (k : List Stamped). map (λ (p : Person). p.bot) (people k)) (sym next)))
      | in_default w ↦ ap (λ v. v.items) w.bots-is ∙ (bots-same j s old c.loop-stamped.invariant w.in_default.ensures ∙ ap (λ (k : List Stamped). map (λ (p : Person). p.bot) (people k)) (sym next))
    ]
