use Rattle.std.proofs.Common.{◌≡◌, ◌++◌, ◌≤◌, length}
use Rattle.std.specs.Vec.Iter.{into_iter_items}
use Rattle.book_tables.proofs.tables.Tables.add_removals.Given as goal

abbrev pub invariant-loop-item : goal.invariant-loop-item
invariant-loop-item l = record {
  rest : l.self ≡ record l.fn.self { pushes = l.self.pushes };
  items : l.self.pushes.items ++ into_iter_items l.item-iterator ≡ l.fn.self.pushes.items ++ l.fn.removals.items;
  room : length (into_iter_items l.item-iterator) ≤ l.self.pushes.item_room;
}
