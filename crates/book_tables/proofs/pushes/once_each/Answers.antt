use Rattle.book_tables.proofs.PushOrder.{sorted_once}
use Rattle.book_tables.proofs.pushes.once_each.Goals as goal

pub returns : goal.returns
returns c = search sorted_once
