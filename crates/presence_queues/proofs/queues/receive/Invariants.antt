use Rattle.presence_queues.specs.Fields.{queue_of}
use Rattle.presence_queues.specs.Steps.{received}
use Rattle.presence_queues.proofs.InPlace.{Done}
use Rattle.presence_queues.proofs.queues.receive.Given as goal

abbrev pub invariant-loop-queue : goal.invariant-loop-queue
invariant-loop-queue l = Done queue_of (received l.deal) l.initial.queues l.queues l.queue-index
