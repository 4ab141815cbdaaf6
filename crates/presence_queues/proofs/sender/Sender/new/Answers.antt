use Rattle.std.proofs.Common.{ap}
use Rattle.presence_queues.specs.Fields.{waiting_seen}
use Rattle.presence_queues.proofs.Sending.{nothing_waits}
use Rattle.presence_queues.proofs.sender.Sender.new.Goals as goal

pub invariant_of-result : goal.invariant_of-result
invariant_of-result g c = nothing_waits _ _ c.requires (ap waiting_seen c.new.ensures.items)
