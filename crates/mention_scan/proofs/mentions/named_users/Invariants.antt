use Rattle.std.proofs.Common.{◌≡◌, filter, map, take}
use Rattle.std.specs.List.{list_any}
use Rattle.mention_scan.specs.Mentions.{inner_of, speaks_of}
use Rattle.mention_scan.proofs.mentions.named_users.Given as goal

abbrev pub invariant-loop-user : goal.invariant-loop-user
invariant-loop-user l =
    l.found ≡ map (λ u. u.id) (filter (λ u. list_any (λ s. speaks_of (inner_of l.text s) u) l.spans) (take l.user-index l.users))
