use Rattle.std.proofs.Common.{◌≡◌, map}
use Rattle.std.specs.List.{range_with_len}
use Rattle.chat_model.specs.declared.push_item.PushItem.TheVariants.{Remove}
use Rattle.revocation.specs.Removals.{part, most_messages}
use Rattle.revocation.proofs.parts.removals.Given as goal

abbrev pub invariant-loop-k : goal.invariant-loop-k
invariant-loop-k l = l.items ≡ map (Remove l.user) (map (part most_messages l.messages) (range_with_len 0 l.k))
