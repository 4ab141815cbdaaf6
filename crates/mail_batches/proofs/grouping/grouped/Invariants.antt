use Rattle.std.proofs.Common.{◌≡◌, ◌++◌}
use Rattle.std.specs.Vec.Iter.{into_iter_items}
use Rattle.mail_batches.specs.Groups.{groups_of}
use Rattle.mail_batches.proofs.grouping.grouped.Given as goal

abbrev pub invariant-loop-ready : goal.invariant-loop-ready
invariant-loop-ready l = record {
  groups : l.groups.items ≡ groups_of l.yielded;
  whole : l.yielded ++ into_iter_items l.ready-iterator ≡ l.fn.items.items;
}
