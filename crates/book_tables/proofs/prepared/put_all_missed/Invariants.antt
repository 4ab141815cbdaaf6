use Rattle.std.proofs.Common.{◌≡◌, ◌++◌, take}
use Rattle.std.specs.List.{flat_map}
use Rattle.book_tables.specs.Notices.{readied, named_by, IsInOrder}
use Rattle.book_tables.specs.Prepared.{puts_where}
use Rattle.book_tables.proofs.prepared.put_all_missed.Given as goal

abbrev pub invariant-loop-deal : goal.invariant-loop-deal
invariant-loop-deal l = IsInOrder l.waiting → l.changes.items ≡ l.fn.changes.items ++ flat_map (λ test. puts_where test readied l.waiting) (named_by l.user (take l.deal-index l.deals))
