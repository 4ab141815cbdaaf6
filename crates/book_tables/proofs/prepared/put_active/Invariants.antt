use Rattle.std.proofs.Common.{◌≡◌, ◌++◌, map, take}
use Rattle.chat_model.specs.declared.row.RowChange.TheVariants.{Put}
use Rattle.book_tables.specs.Prepared.{active_row}
use Rattle.book_tables.specs.Pushes.{push_of}
use Rattle.book_tables.proofs.prepared.put_active.Given as goal

abbrev pub invariant-loop-push : goal.invariant-loop-push
invariant-loop-push l = l.changes.items ≡ l.fn.changes.items ++ map (λ w. Put (active_row (push_of w))) (take l.push-index l.active)
