use Rattle.std.proofs.Common.{◌≡◌, ◌+◌, ◌∷◌, ◌++◌, [], true, List, take, sym, ap, ◌∙◌, subst}
use Rattle.std.specs.Prelude.{if◌then◌else◌}
use Rattle.std.proofs.lemmas.List.{take_all}
use Rattle.chat_model.specs.declared.event.Stamped.{Stamped}
use Rattle.notice_ledger.specs.Lawful.{lawful, is_lawful_after}
use Rattle.notice_ledger.proofs.LawfulLemmas.{lawful-append}
use Rattle.book_tables.specs.declared.tables.Tables.{Tables}
use Rattle.book_tables.specs.Tables.{Holds, StandsFor}
use Rattle.book_tables.proofs.Steps.{take_next}
use Rattle.office.proofs.replay.replay.Goals.{then-lawful+in_ok-prepared+in_ok-reserve, else-lawful}
use Rattle.office.proofs.replay.replay.Goals as goal

pub prepare-requires : goal.prepare-requires
prepare-requires c =
    let j = take c.loop-event.event-index c.args.journal.now in
    (j, c.loop-event.invariant, sym (c.lawful.ensures j c.loop-event.invariant) ∙ c.if-lawful.true)

pub apply-requires-clause-prepared : goal.apply-requires-clause-prepared
apply-requires-clause-prepared c =
    let j = take c.loop-event.event-index c.args.journal.now in let stood = c.loop-event.invariant in
    (j, c.event-item.result, c.reserve.ensures.same j stood, sym (c.lawful.ensures j stood) ∙ c.if-lawful.true, c.in_ok-prepared.ensures.prepared j stood)

pub loop-event-preserved : goal.loop-event-preserved
loop-event-preserved c =
    let i = c.loop-event.event-index in let j = take i c.args.journal.now in let s = c.event-item.result in
    let next = take_next c.args.journal.now i s c.loop-event-test.true c.event-item.is in
    let stood = c.loop-event.invariant in
    elim c.if-lawful.branch [
      | then-lawful+in_ok-prepared+in_ok-reserve w ↦
          let is_lawful : is_lawful_after j s ≡ true = sym (c.lawful.ensures j stood) ∙ w.if-lawful.true in
          subst (λ (t : Tables). StandsFor t (take (i + 1) c.args.journal.now)) (sym w.tables-is)
          (subst (λ (k : List Stamped). StandsFor w.apply.new.self k) (sym next)
          (w.apply.ensures j s (w.reserve.ensures.same j stood) is_lawful (w.in_ok-prepared.ensures.prepared j stood)))
      | else-lawful w ↦
          let left : lawful (j ++ s ∷ []) ≡ lawful j = lawful-append j s ∙ ap (λ b. if b then lawful j ++ s ∷ [] else lawful j) (sym (c.lawful.ensures j stood) ∙ w.if-lawful.false) in
          subst (λ (t : Tables). StandsFor t (take (i + 1) c.args.journal.now)) (sym w.tables-is)
          (subst (λ (k : List Stamped). StandsFor c.loop-event.tables k) (sym next)
          (subst (λ (k : List Stamped). Holds c.loop-event.tables k) (sym left) stood))
    ]

pub returns : goal.returns
returns c =
    subst (λ (k : List Stamped). StandsFor c.loop-event.tables k) (take_all c.loop-event.event-index c.args.journal.now c.loop-event-test.false) c.loop-event.invariant
