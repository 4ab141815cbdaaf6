use Rattle.std.proofs.Common.{◌≡◌, ◌+◌, ◌≤◌, length}
use Rattle.std.specs.Vec.{vec_len, vec_capacity}
use Rattle.std.specs.Vec.Iter.{into_iter_items}
use Rattle.chat_model.specs.Rows.{IsAscending, changed_all}
use Rattle.chat_model.proofs.places.change_all.Given as goal

abbrev pub invariant-loop-next : goal.invariant-loop-next
invariant-loop-next l = record {
  items : l.rows.items ≡ changed_all l.yielded l.initial.rows.items;
  ascending : IsAscending l.rows.items;
  room : vec_len l.rows + length (into_iter_items l.next-iterator) ≤ vec_capacity l.rows;
}
