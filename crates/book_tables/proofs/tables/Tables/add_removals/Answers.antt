use Rattle.std.proofs.Common.{◌≡◌, ◌++◌, ◌∷◌, [], length, refl, sym, ap, ◌∙◌, arith}
use Rattle.std.specs.Vec.Iter.{into_iter_items}
use Rattle.std.proofs.lemmas.List.{append-nil, append_assoc, nil_from_length}
use Rattle.book_tables.specs.declared.tables.Tables.{Tables}
use Rattle.book_tables.proofs.tables.Tables.add_removals.Goals as goal

pub loop-item-init : goal.loop-item-init
loop-item-init c =
    let all : into_iter_items c.into_iter-item-iterator.result ≡ c.args.removals.items = c.into_iter-item-iterator.ensures.into_iter_gives.0 in record {
      rest = refl;
      items = ap (λ xs. c.args.self.now.pushes.items ++ xs) all;
      room = let enough = c.requires in omega (arith, ap length all, enough);
    }

pub add-requires : goal.add-requires
add-requires c =
    let first : into_iter_items c.loop-item.item-iterator ≡ c.in-Some.item ∷ into_iter_items c.next.new.self = c.in-Some.ensures.steps.0 in
    omega (arith, ap length first, c.loop-item.invariant.room)

pub loop-item-preserved : goal.loop-item-preserved
loop-item-preserved c =
    let old = c.loop-item.self.pushes.items in let left = into_iter_items c.next.new.self in
    let first : into_iter_items c.loop-item.item-iterator ≡ c.in-Some.item ∷ left = c.in-Some.ensures.steps.0 in record {
      rest = ap (λ (t : Tables). let with_items : Tables = record t { pushes = c.add.new.self } in with_items) c.loop-item.invariant.rest;
      items = ap (λ q. q.items ++ left) c.add.ensures ∙ (append_assoc old (c.in-Some.item ∷ []) left ∙ (ap (λ xs. old ++ xs) (sym first) ∙ c.loop-item.invariant.items));
      room = let less = ap (λ q. q.item_room) c.add.ensures in omega (arith, ap length first, c.loop-item.invariant.room, less);
    }

pub returns-clause-rest : goal.returns-clause-rest
returns-clause-rest c = c.loop-item.invariant.rest

pub returns-clause-items : goal.returns-clause-items
returns-clause-items c =
    let none : into_iter_items c.loop-item.item-iterator ≡ [] = nil_from_length (into_iter_items c.loop-item.item-iterator) (omega (arith, c.loop-item.item-iterator.rest.ok.0, c.in-None.ensures.steps.0)) in
    sym (append-nil c.loop-item.self.pushes.items) ∙ (ap (λ xs. c.loop-item.self.pushes.items ++ xs) (sym none) ∙ c.loop-item.invariant.items)
