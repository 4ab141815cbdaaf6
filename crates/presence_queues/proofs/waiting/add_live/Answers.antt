use Rattle.std.proofs.Common.{arith}
use Rattle.presence_queues.specs.Fields.{HasRoomIfLive, waiting_of, with_live}
use Rattle.presence_queues.proofs.InPlace.{Done-has, Done-more}
use Rattle.presence_queues.proofs.waiting.add_live.Goals as goal

pub add_if_live-requires : goal.add_if_live-requires
add_if_live-requires c = record { room = Done-has waiting_of (with_live c.args.verdicts.now c.args.deal) _ _ _ c.entry-item.result (HasRoomIfLive c.args.verdicts.now) (omega arith) (omega arith) c.requires.room c.loop-entry.invariant c.entry-item.is }

pub loop-entry-preserved : goal.loop-entry-preserved
loop-entry-preserved c = Done-more waiting_of (with_live c.args.verdicts.now c.args.deal) _ _ _ c.entry-item.result c.add_if_live.new.self (omega arith) (omega arith) c.loop-entry.invariant c.entry-item.is c.add_if_live.ensures
