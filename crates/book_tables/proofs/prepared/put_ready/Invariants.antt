use Rattle.std.proofs.Common.{◌≡◌, ◌++◌, take}
use Rattle.book_tables.specs.Notices.{is_undecided, readied}
use Rattle.book_tables.specs.Prepared.{puts_where}
use Rattle.book_tables.proofs.prepared.put_ready.Given as goal

abbrev pub invariant-loop-notice : goal.invariant-loop-notice
invariant-loop-notice l = l.changes.items ≡ l.fn.changes.items ++ puts_where is_undecided readied (take l.notice-index l.waiting)
