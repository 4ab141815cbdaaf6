use Rattle.std.proofs.Common.{◌≡◌, ◌^◌, ◌-◌, take}
use Rattle.std.specs.Prelude.{min}
use Rattle.book_tables.specs.Notices.{IsInOrder, AreNumbered}
use Rattle.book_tables.specs.Bars.{cancelled_by}
use Rattle.book_tables.proofs.bars.cancelled_by.Given as goal

abbrev pub invariant-loop-pair : goal.invariant-loop-pair
invariant-loop-pair l = IsInOrder l.waiting → AreNumbered l.waiting → IsInOrder l.cleared → AreNumbered l.cleared → l.count ≡ cancelled_by l.waiting l.cleared (take l.pair-index l.pairs)
