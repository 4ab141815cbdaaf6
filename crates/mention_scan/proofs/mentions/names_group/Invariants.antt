use Rattle.std.proofs.Common.{◌≡◌, ◌&&◌, false, take}
use Rattle.std.specs.List.{list_any}
use Rattle.mention_scan.specs.Mentions.{inner_of, is_group_named, is_group_span}
use Rattle.mention_scan.proofs.mentions.names_group.Given as goal

abbrev pub invariant-loop-span : goal.invariant-loop-span
invariant-loop-span l =
    list_any (λ s. is_group_span s && is_group_named (inner_of l.text s) l.group) (take l.span-index l.spans) ≡ false
