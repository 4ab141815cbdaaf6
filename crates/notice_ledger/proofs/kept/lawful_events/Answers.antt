use Rattle.std.proofs.Common.{List, [], ◌∷◌, ◌++◌, take, sym, ap, ◌∙◌}
use Rattle.chat_model.specs.declared.event.Stamped.{Stamped}
use Rattle.notice_ledger.specs.Past.Lawful.{is_lawful_after}
use Rattle.notice_ledger.specs.Lawful.{lawful}
use Rattle.notice_ledger.proofs.Lists.{take_next}
use Rattle.notice_ledger.proofs.LawfulLemmas.{IsLawful-nil, kept-lawful, kept-unlawful}
use Rattle.notice_ledger.proofs.kept.lawful_events.Goals as goal
use Rattle.notice_ledger.proofs.kept.lawful_events.Goals.{then-is_lawful+in_ok-copy+in_ok-push, else-is_lawful}

pub loop-stamped-init : goal.loop-stamped-init
loop-stamped-init c = c.new-kept.ensures.items ∙ sym IsLawful-nil

pub loop-stamped-preserved : goal.loop-stamped-preserved
loop-stamped-preserved c =
    let j = take c.loop-stamped.stamped-index c.args.journal.now in let s = c.stamped-item.result in
    let next = take_next c.args.journal.now c.loop-stamped.stamped-index s c.loop-stamped-test.true c.stamped-item.is in
    let old = c.loop-stamped.kept.items in
    let tested = c.in_ok-is_lawful.ensures ∙ ap (λ (k : List Stamped). is_lawful_after k s) c.deref.ensures.value in
    elim c.if-is_lawful.branch [
      | then-is_lawful+in_ok-copy+in_ok-push w ↦
          ap (λ v. v.items) w.kept-is
          ∙ (w.in_ok-push.ensures.items
          ∙ (ap (λ (t : Stamped). old ++ t ∷ []) w.in_ok-copy.ensures
          ∙ (kept-lawful j s old c.loop-stamped.invariant (sym tested ∙ w.if-is_lawful.true) ∙ ap lawful (sym next))))
      | else-is_lawful w ↦ ap (λ v. v.items) w.kept-is ∙ (kept-unlawful j s old c.loop-stamped.invariant (sym tested ∙ w.if-is_lawful.false) ∙ ap lawful (sym next))
    ]
