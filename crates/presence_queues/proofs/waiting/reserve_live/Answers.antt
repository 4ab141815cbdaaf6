use Rattle.std.proofs.Common.{◌∙◌, arith}
use Rattle.std.proofs.lemmas.List.Elements.{AllWithin-more_set}
use Rattle.presence_queues.specs.Fields.{HasRoomIfLive, waiting_of}
use Rattle.presence_queues.proofs.InPlace.{seen_same}
use Rattle.presence_queues.proofs.waiting.reserve_live.Goals as goal

pub returns-in_err-reserve_if_live-clause-same : goal.returns-in_err-reserve_if_live-clause-same
returns-in_err-reserve_if_live-clause-same c = seen_same waiting_of c.loop-entry.waiting c.loop-entry.entry-index c.entry-item.result c.reserve_if_live.new.self c.reserve_if_live.ensures.same ∙ c.loop-entry.invariant.same

pub loop-entry-preserved : goal.loop-entry-preserved
loop-entry-preserved c = record {
  same = seen_same waiting_of c.loop-entry.waiting c.loop-entry.entry-index c.entry-item.result c.reserve_if_live.new.self c.reserve_if_live.ensures.same ∙ c.loop-entry.invariant.same;
  room = AllWithin-more_set c.loop-entry.waiting c.loop-entry.entry-index c.reserve_if_live.new.self (omega arith) (HasRoomIfLive c.args.verdicts.now) c.loop-entry.invariant.room c.in_ok-reserve_if_live.ensures.room;
}
