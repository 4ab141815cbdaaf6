use Rattle.std.proofs.Common.{◌≡◌, take}
use Rattle.book_tables.specs.Notices.{IsInOrder, AreNumbered}
use Rattle.book_tables.specs.Bars.{is_one_of_pairs, barred_where}
use Rattle.book_tables.proofs.bars.bar_all_waiting.Given as goal

abbrev pub invariant-loop-pair : goal.invariant-loop-pair
invariant-loop-pair l = IsInOrder l.fn.waiting.items → AreNumbered l.fn.waiting.items → l.waiting.items ≡ barred_where (is_one_of_pairs (take l.pair-index l.pairs)) l.cause l.fn.waiting.items
