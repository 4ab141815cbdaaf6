use Rattle.std.proofs.Common.{arith}
use Rattle.presence_queues.specs.Fields.{forgotten, waiting_of}
use Rattle.presence_queues.proofs.InPlace.{Done-more}
use Rattle.presence_queues.proofs.waiting.forget.Goals as goal

pub loop-entry-preserved : goal.loop-entry-preserved
loop-entry-preserved c = Done-more waiting_of (forgotten c.args.user c.args.gone.now) _ _ _ c.entry-item.result c.forget.new.self (omega arith) (omega arith) c.loop-entry.invariant c.entry-item.is c.forget.ensures
