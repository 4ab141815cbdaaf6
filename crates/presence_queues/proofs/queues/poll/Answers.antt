use Rattle.std.proofs.Common.{◌==◌, cond, arith}
use Rattle.presence_queues.specs.Fields.{queue_of}
use Rattle.presence_queues.specs.Steps.{polled}
use Rattle.presence_queues.proofs.InPlace.{Done-more}
use Rattle.presence_queues.proofs.queues.poll.Goals as goal

pub loop-queue-preserved : goal.loop-queue-preserved
loop-queue-preserved c = Done-more queue_of (λ q. cond (q.number == c.args.number) (polled c.args.upto c.args.now q) q) _ _ _ c.queue-item.result c.poll.new.self (omega arith) (omega arith) c.loop-queue.invariant c.queue-item.is c.poll.ensures
