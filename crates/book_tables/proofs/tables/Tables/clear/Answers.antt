use Rattle.std.proofs.Common.{refl}
use Rattle.book_tables.proofs.Placing.{order-sorted}
use Rattle.book_tables.proofs.tables.Tables.clear.Goals as goal

pub returns : goal.returns
returns c = record {
  rest = refl;
  waiting = λ order. c.clear_named.ensures.waiting order;
  cleared = λ order cleared_order. c.clear_named.ensures.cleared order (order-sorted c.args.self.now.cleared.items cleared_order);
}
