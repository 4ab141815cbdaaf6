use Rattle.std.proofs.Common.{◌≡◌, ◌++◌, ◌∷◌, [], sym, ap, ◌∙◌, append_assoc}
use Rattle.std.specs.Vec.Iter.{into_iter_items}
use Rattle.std.proofs.lemmas.List.{map-append}
use Rattle.chat_model.specs.declared.entry.Entry.TheVariants.{Mail}
use Rattle.mail_batches.specs.Groups.{entry_from}
use Rattle.mail_batches.proofs.grouping.mails.Goals as goal

pub loop-group-preserved : goal.loop-group-preserved
loop-group-preserved c =
    let before = c.loop-group.yielded in let g = c.in-Some.group in let rest = into_iter_items c.next.new.self in
    let user = c.args.user in let name = c.args.name.now in let at = c.args.at in
    let first : into_iter_items c.loop-group.group-iterator ≡ g ∷ rest = c.in-Some.ensures.steps.0 in
    let joined : (before ++ g ∷ []) ++ rest ≡ before ++ g ∷ rest = simp append_assoc in
    record {
      entries =
          c.in_ok-push.ensures.ok
          ∙ (ap (λ n. c.loop-group.entries ++ Mail user n at g.conversation g.items ∷ []) c.in_ok-copy.ensures
          ∙ (ap (λ es. es ++ entry_from user name at g ∷ []) c.loop-group.invariant.entries
          ∙ sym (map-append (entry_from user name at) before (g ∷ []))));
      whole = joined ∙ (ap (λ gs. before ++ gs) (sym first) ∙ c.loop-group.invariant.whole);
    }
