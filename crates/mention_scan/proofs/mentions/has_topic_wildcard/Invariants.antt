use Rattle.std.proofs.Common.{◌≡◌, ◌&&◌, false, take}
use Rattle.std.specs.List.{list_any}
use Rattle.mention_scan.specs.Mentions.{inner_of, is_user_span, is_topic_wildcard}
use Rattle.mention_scan.proofs.mentions.has_topic_wildcard.Given as goal

abbrev pub invariant-loop-span : goal.invariant-loop-span
invariant-loop-span l =
    list_any (λ s. is_user_span s && is_topic_wildcard (inner_of l.text s)) (take l.span-index l.spans) ≡ false
