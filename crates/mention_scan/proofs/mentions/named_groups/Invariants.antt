use Rattle.std.proofs.Common.{◌≡◌, ◌&&◌, filter, map, take}
use Rattle.std.specs.List.{list_any}
use Rattle.mention_scan.specs.Mentions.{inner_of, is_group_named, is_group_span}
use Rattle.mention_scan.proofs.mentions.named_groups.Given as goal

abbrev pub invariant-loop-group : goal.invariant-loop-group
invariant-loop-group l =
    l.found ≡ map (λ g. g.id) (filter (λ g. list_any (λ s. is_group_span s && is_group_named (inner_of l.text s) g) l.spans) (take l.group-index l.groups))
