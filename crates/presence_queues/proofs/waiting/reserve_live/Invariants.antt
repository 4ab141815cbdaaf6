use Rattle.std.specs.Prelude.{◌≡◌}
use Rattle.std.specs.List.{AllWithin}
use Rattle.presence_queues.specs.Fields.{HasRoomIfLive, waiting_seen}
use Rattle.presence_queues.proofs.waiting.reserve_live.Given as goal

abbrev pub invariant-loop-entry : goal.invariant-loop-entry
invariant-loop-entry l = record {
  same : waiting_seen l.waiting ≡ waiting_seen l.initial.waiting;
  room : AllWithin (HasRoomIfLive l.verdicts) l.waiting 0 l.entry-index;
}
