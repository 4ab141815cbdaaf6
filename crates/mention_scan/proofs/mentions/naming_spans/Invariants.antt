use Rattle.std.proofs.Common.{◌≡◌, ◌&&◌, filter, take}
use Rattle.mention_scan.specs.Mentions.{inner_of, is_user_span, may_name}
use Rattle.mention_scan.proofs.mentions.naming_spans.Given as goal

abbrev pub invariant-loop-span : goal.invariant-loop-span
invariant-loop-span l =
    l.found ≡ filter (λ s. is_user_span s && may_name l.users (inner_of l.text s)) (take l.span-index l.spans)
