use Rattle.std.proofs.Common.{refl}
use Rattle.presence_queues.proofs.Found.{found_some, left_answer}
use Rattle.presence_queues.proofs.hub.Hub.leave.Goals as goal

pub end-requires : goal.end-requires
end-requires g c = record { mine = c.find.ensures.mine (found_some _ _ _ c.is_none.ensures c.if-is_none.false c.find.ensures.queue) }

pub returns-clause-ok : goal.returns-clause-ok
returns-clause-ok g c = left_answer c.args.self.now c.end.new.self c.args.user c.args.queue _ refl (found_some _ _ _ c.is_none.ensures c.if-is_none.false c.find.ensures.queue) c.in_ok-end.ensures.ok
