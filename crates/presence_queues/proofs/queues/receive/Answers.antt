use Rattle.std.proofs.Common.{◌-◌, ◌<◌, ◌^◌, arith}
use Rattle.presence_queues.specs.declared.queue.Queue.{Queue}
use Rattle.presence_queues.specs.Fields.{HasRoomFor, queue_of}
use Rattle.presence_queues.specs.Steps.{received}
use Rattle.presence_queues.proofs.InPlace.{Done-has, Done-more}
use Rattle.presence_queues.proofs.queues.receive.Goals as goal

pub receive-requires-clause-room : goal.receive-requires-clause-room
receive-requires-clause-room c = Done-has queue_of (received c.args.deal.now) _ _ _ c.queue-item.result (HasRoomFor c.args.deal.now) (omega arith) (omega arith) c.requires.room c.loop-queue.invariant c.queue-item.is

pub receive-requires-clause-fits : goal.receive-requires-clause-fits
receive-requires-clause-fits c = Done-has queue_of (received c.args.deal.now) _ _ _ c.queue-item.result (λ (q : Queue). q.next < 2 ^ 64 - 1) (omega arith) (omega arith) c.requires.fit c.loop-queue.invariant c.queue-item.is

pub loop-queue-preserved : goal.loop-queue-preserved
loop-queue-preserved c = Done-more queue_of (received c.args.deal.now) _ _ _ c.queue-item.result c.receive.new.self (omega arith) (omega arith) c.loop-queue.invariant c.queue-item.is c.receive.ensures
