use Rattle.std.proofs.Common.{◌≡◌, ◌∷◌, [], length, sym, ◌∙◌, ap, arith}
use Rattle.std.specs.Vec.Iter.{into_iter_items}
use Rattle.chat_model.specs.Rows.{changed}
use Rattle.chat_model.proofs.Rows.{changed_all-append}
use Rattle.chat_model.proofs.places.change_all.Goals as goal

pub loop-next-preserved : goal.loop-next-preserved
loop-next-preserved c = record {
  items =
      c.change.ensures.items
      ∙ ap (changed c.in-Some.next) c.loop-next.invariant.items
      ∙ sym (changed_all-append c.loop-next.yielded (c.in-Some.next ∷ []) c.args.rows.now.items);
  ascending = c.change.ensures.ascending;
  room =
      let first : into_iter_items c.loop-next.next-iterator ≡ c.in-Some.next ∷ into_iter_items c.next.new.self = c.in-Some.ensures.steps.0 in
      omega (arith, ap length first);
}
