use Rattle.std.specs.Prelude.{◌≡◌, take}
use Rattle.presence_queues.specs.Hub.{verdicts}
use Rattle.presence_queues.proofs.hub.Hub.verdicts.Given as goal

abbrev pub invariant-loop-user : goal.invariant-loop-user
invariant-loop-user g l = l.given ≡ verdicts l.self l.now (take l.user-index l.users)
