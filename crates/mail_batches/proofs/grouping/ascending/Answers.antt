use Rattle.std.proofs.Common.{List, subst, rules}
use Rattle.std.specs.List.Sorted.{IsPermutation}
use Rattle.std.proofs.lemmas.List.Sorted.{IsNonDecreasingBy-from_sort_by_key}
use Rattle.mail_batches.specs.declared.grouping.ReadyItem.{ReadyItem}
use Rattle.mail_batches.specs.Entries.{message_of}
use Rattle.mail_batches.proofs.InOrder.{in_order}
use Rattle.mail_batches.proofs.grouping.ascending.Goals as goal

pub returns : goal.returns
returns c =
    let sorted = c.sort_unstable_by_key.new.self.items in
    let moved = subst (λ (xs : List ReadyItem). IsPermutation xs sorted) c.into_vec-items.ensures c.sort_unstable_by_key.ensures.permutation in
    let up = IsNonDecreasingBy-from_sort_by_key message_of sorted c.sort_unstable_by_key.ensures.sorted (λ a r q k. search rules) in
    record { items = in_order c.args.items sorted c.requires moved up }
