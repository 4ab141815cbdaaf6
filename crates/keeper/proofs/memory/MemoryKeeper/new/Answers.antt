use Rattle.std.proofs.Common.{sym, subst}
use Rattle.chat_model.specs.Rows.{IsAscending}
use Rattle.chat_model.proofs.Rows.{IsAscending-nil}
use Rattle.keeper.proofs.memory.MemoryKeeper.new.Goals as goal

pub invariant_of-result : goal.invariant_of-result
invariant_of-result c = subst IsAscending (sym c.new-2.ensures.items) IsAscending-nil
