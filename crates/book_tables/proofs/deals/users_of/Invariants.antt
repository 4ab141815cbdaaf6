use Rattle.std.proofs.Common.{◌≡◌, map, take}
use Rattle.book_tables.proofs.deals.users_of.Given as goal

abbrev pub invariant-loop-notice : goal.invariant-loop-notice
invariant-loop-notice l = l.users ≡ map (λ w. w.user) (take l.notice-index l.owed)
