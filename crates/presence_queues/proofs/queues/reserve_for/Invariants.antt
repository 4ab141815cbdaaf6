use Rattle.std.specs.Prelude.{◌≡◌}
use Rattle.std.specs.List.{AllWithin}
use Rattle.presence_queues.specs.Fields.{HasRoomFor, queues_seen}
use Rattle.presence_queues.proofs.queues.reserve_for.Given as goal

abbrev pub invariant-loop-queue : goal.invariant-loop-queue
invariant-loop-queue l = record {
  same : queues_seen l.queues ≡ queues_seen l.initial.queues;
  room : AllWithin (HasRoomFor l.deal) l.queues 0 l.queue-index;
}
