use Rattle.presence_queues.specs.Fields.{forgotten, waiting_of}
use Rattle.presence_queues.proofs.InPlace.{Done}
use Rattle.presence_queues.proofs.waiting.forget.Given as goal

abbrev pub invariant-loop-entry : goal.invariant-loop-entry
invariant-loop-entry l = Done waiting_of (forgotten l.user l.gone) l.initial.waiting l.waiting l.entry-index
