use Rattle.std.proofs.Common.{◌≡◌, ◌++◌, take}
use Rattle.std.specs.List.{flat_map}
use Rattle.book_tables.specs.Notices.{IsInOrder, AreNumbered}
use Rattle.book_tables.specs.Bars.{unbarred_tests}
use Rattle.book_tables.specs.Prepared.{removes_where}
use Rattle.book_tables.proofs.bars.remove_all_barred.Given as goal

abbrev pub invariant-loop-pair : goal.invariant-loop-pair
invariant-loop-pair l = IsInOrder l.waiting → AreNumbered l.waiting → l.changes.items ≡ l.fn.changes.items ++ flat_map (λ test. removes_where test l.waiting) (unbarred_tests (take l.pair-index l.pairs))
