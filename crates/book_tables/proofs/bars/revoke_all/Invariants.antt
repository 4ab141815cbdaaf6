use Rattle.std.proofs.Common.{◌≡◌, take}
use Rattle.book_tables.specs.Notices.{IsInOrder, AreNumbered}
use Rattle.book_tables.specs.Bars.{is_pushed_pair, revoked_where}
use Rattle.book_tables.proofs.bars.revoke_all.Given as goal

abbrev pub invariant-loop-pair : goal.invariant-loop-pair
invariant-loop-pair l = IsInOrder l.fn.active → AreNumbered l.fn.active → l.active ≡ revoked_where (is_pushed_pair (take l.pair-index l.pairs)) l.cause l.fn.active
