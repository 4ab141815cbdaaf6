use Rattle.std.proofs.Common.{◌≡◌, ◌++◌, ◌∷◌, [], sym, ap, ◌∙◌, append_assoc}
use Rattle.std.specs.Vec.Iter.{into_iter_items}
use Rattle.chat_model.specs.Ascending.{is_ascending_by}
use Rattle.mail_batches.specs.Entries.{message_of}
use Rattle.mail_batches.proofs.GroupSteps.{ascends-front}
use Rattle.mail_batches.proofs.grouping.grouped.Goals as goal

pub loop-ready-preserved : goal.loop-ready-preserved
loop-ready-preserved c =
    let before = c.loop-ready.yielded in let x = c.in-Some.ready in let rest = into_iter_items c.next.new.self in
    let first : into_iter_items c.loop-ready.ready-iterator ≡ x ∷ rest = c.in-Some.ensures.steps.0 in
    let joined : (before ++ x ∷ []) ++ rest ≡ before ++ x ∷ rest = simp append_assoc in
    let whole : (before ++ x ∷ []) ++ rest ≡ c.args.items.items = joined ∙ (ap (λ xs. before ++ xs) (sym first) ∙ c.loop-ready.invariant.whole) in
    record {
      groups = c.in_ok-add.ensures before (ascends-front (before ++ x ∷ []) rest (ap (is_ascending_by message_of) whole ∙ c.requires)) c.loop-ready.invariant.groups;
      whole = whole;
    }
