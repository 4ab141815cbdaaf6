use Rattle.presence_queues.specs.Fields.{waiting_of, with_live}
use Rattle.presence_queues.proofs.InPlace.{Done}
use Rattle.presence_queues.proofs.waiting.add_live.Given as goal

abbrev pub invariant-loop-entry : goal.invariant-loop-entry
invariant-loop-entry l = Done waiting_of (with_live l.verdicts l.deal) l.initial.waiting l.waiting l.entry-index
