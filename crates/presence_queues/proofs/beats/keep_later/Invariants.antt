use Rattle.presence_queues.specs.Steps.{later_beat}
use Rattle.presence_queues.proofs.InPlace.{Done}
use Rattle.presence_queues.proofs.beats.keep_later.Given as goal

abbrev pub invariant-loop-beat : goal.invariant-loop-beat
invariant-loop-beat l = Done (λ beat. beat) (later_beat l.user l.now) l.initial.beats l.beats l.beat-index
