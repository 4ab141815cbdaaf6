use Rattle.std.proofs.Common.{arith}
use Rattle.presence_queues.specs.declared.beats.Beat.{Beat}
use Rattle.presence_queues.specs.Steps.{later_beat}
use Rattle.presence_queues.proofs.InPlace.{Done-more}
use Rattle.presence_queues.proofs.beats.keep_later.Goals as goal

pub loop-beat-preserved : goal.loop-beat-preserved
loop-beat-preserved c = Done-more (λ (beat : Beat). beat) (later_beat c.args.user c.args.now) _ _ _ c.beat-item.result c.keep_later.new.self (omega arith) (omega arith) c.loop-beat.invariant c.beat-item.is c.keep_later.ensures
