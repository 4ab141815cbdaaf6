use Rattle.std.specs.Prelude.{◌==◌, if◌then◌else◌}
use Rattle.presence_queues.specs.Fields.{queue_of}
use Rattle.presence_queues.specs.Steps.{polled}
use Rattle.presence_queues.proofs.InPlace.{Done}
use Rattle.presence_queues.proofs.queues.poll.Given as goal

abbrev pub invariant-loop-queue : goal.invariant-loop-queue
invariant-loop-queue l = Done queue_of (λ q. if q.number == l.number then polled l.upto l.now q else q) l.initial.queues l.queues l.queue-index
