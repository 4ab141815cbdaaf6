use Rattle.std.proofs.Common.{take, sym, ap, ◌∙◌, arith}
use Rattle.std.proofs.lemmas.List.{take_all}
use Rattle.notice_ledger.proofs.Lists.{take_next}
use Rattle.notice_ledger.proofs.SlowEntries.{conversations_in, conversations-more, conversations-same, conversations-messages}
use Rattle.notice_ledger.proofs.outbox.conversations.Goals as goal
use Rattle.notice_ledger.proofs.outbox.conversations.Goals.{in-Some+in_ok-push, in_default}

pub loop-stamped-preserved : goal.loop-stamped-preserved
loop-stamped-preserved c =
    let j = c.args.past.now in let ss = take c.loop-stamped.stamped-index j in let s = c.stamped-item.result in
    let next = take_next j c.loop-stamped.stamped-index s c.loop-stamped-test.true c.stamped-item.is in
    let found = c.loop-stamped.found.items in
    elim c.match-made.branch [
      | in-Some+in_ok-push w ↦
          ap (λ v. v.items) w.found-is
          ∙ (w.in_ok-push.ensures.items
          ∙ (conversations-more j ss s found w.in-Some.conversation c.loop-stamped.invariant (sym w.in-Some.is ∙ c.in_ok-made.ensures)
          ∙ ap (conversations_in j) (sym next)))
      | in_default w ↦
          ap (λ v. v.items) w.found-is
          ∙ (conversations-same j ss s found c.loop-stamped.invariant (sym w.in_default.is ∙ c.in_ok-made.ensures) ∙ ap (conversations_in j) (sym next))
    ]

pub returns : goal.returns
returns c =
    let j = c.args.past.now in
    c.loop-stamped.invariant
    ∙ (ap (conversations_in j) (take_all c.loop-stamped.stamped-index j (omega (arith, c.loop-stamped-test.false))) ∙ conversations-messages j)
