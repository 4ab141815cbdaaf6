use Rattle.std.proofs.Common.{◌≡◌, false, take}
use Rattle.std.specs.List.{list_any}
use Rattle.mention_scan.specs.Mentions.{inner_of, speaks_of}
use Rattle.mention_scan.proofs.mentions.names_user.Given as goal

abbrev pub invariant-loop-span : goal.invariant-loop-span
invariant-loop-span l =
    list_any (λ s. speaks_of (inner_of l.text s) l.user) (take l.span-index l.spans) ≡ false
