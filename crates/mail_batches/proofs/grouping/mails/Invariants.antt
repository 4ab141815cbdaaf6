use Rattle.std.proofs.Common.{◌≡◌, ◌++◌, map}
use Rattle.std.specs.Vec.Iter.{into_iter_items}
use Rattle.mail_batches.specs.Groups.{entry_from}
use Rattle.mail_batches.proofs.grouping.mails.Given as goal

abbrev pub invariant-loop-group : goal.invariant-loop-group
invariant-loop-group l = record {
  entries : l.entries ≡ map (entry_from l.user l.name l.at) l.yielded;
  whole : l.yielded ++ into_iter_items l.group-iterator ≡ l.fn.groups.items;
}
