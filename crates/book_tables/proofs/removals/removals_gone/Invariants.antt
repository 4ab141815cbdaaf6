use Rattle.std.proofs.Common.{◌≡◌, take, ◌∷◌, []}
use Rattle.std.specs.List.{flat_map}
use Rattle.revocation.specs.Removals.{removals_of}
use Rattle.book_tables.specs.Notices.{IsInOrder, AreNumbered}
use Rattle.book_tables.specs.Bars.{revoked_in}
use Rattle.book_tables.proofs.removals.removals_gone.Given as goal

abbrev pub invariant-loop-user : goal.invariant-loop-user
invariant-loop-user l = IsInOrder l.active → AreNumbered l.active → l.items.items ≡ flat_map (λ u. removals_of u (revoked_in l.active u (l.message ∷ []))) (take l.user-index l.users)
