use Rattle.std.proofs.Common.{◌∙◌, arith}
use Rattle.std.proofs.lemmas.List.Elements.{AllWithin-more_set}
use Rattle.presence_queues.specs.Fields.{HasRoomFor, queue_of}
use Rattle.presence_queues.proofs.InPlace.{seen_same}
use Rattle.presence_queues.proofs.queues.reserve_for.Goals as goal

pub returns-in_err-reserve_for-clause-same : goal.returns-in_err-reserve_for-clause-same
returns-in_err-reserve_for-clause-same c = seen_same queue_of c.loop-queue.queues c.loop-queue.queue-index c.queue-item.result c.reserve_for.new.self c.reserve_for.ensures.same ∙ c.loop-queue.invariant.same

pub loop-queue-preserved : goal.loop-queue-preserved
loop-queue-preserved c = record {
  same = seen_same queue_of c.loop-queue.queues c.loop-queue.queue-index c.queue-item.result c.reserve_for.new.self c.reserve_for.ensures.same ∙ c.loop-queue.invariant.same;
  room = AllWithin-more_set c.loop-queue.queues c.loop-queue.queue-index c.reserve_for.new.self (omega arith) (HasRoomFor c.args.deal.now) c.loop-queue.invariant.room c.in_ok-reserve_for.ensures.room;
}
