use Rattle.std.proofs.Common.{◌≡◌, ◌++◌, ◌+◌, ◌≤◌, length, map, take}
use Rattle.book_tables.specs.Pushes.{item_of}
use Rattle.book_tables.proofs.tables.Tables.add_items.Given as goal

abbrev pub invariant-loop-push : goal.invariant-loop-push
invariant-loop-push l = record {
  rest : l.self ≡ record l.fn.self { pushes = l.self.pushes };
  items : l.self.pushes.items ≡ l.fn.self.pushes.items ++ map item_of (take l.push-index l.pushes);
  room : length l.pushes ≤ l.push-index + l.self.pushes.item_room;
}
