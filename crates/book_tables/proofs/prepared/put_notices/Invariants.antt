use Rattle.std.proofs.Common.{◌≡◌, ◌++◌, not, take}
use Rattle.book_tables.specs.Notices.{is_barred}
use Rattle.book_tables.specs.Prepared.{puts_where}
use Rattle.book_tables.proofs.prepared.put_notices.Given as goal

abbrev pub invariant-loop-notice : goal.invariant-loop-notice
invariant-loop-notice l = l.changes.items ≡ l.fn.changes.items ++ puts_where (λ w. not (is_barred w)) (λ w. w) (take l.notice-index l.waiting)
