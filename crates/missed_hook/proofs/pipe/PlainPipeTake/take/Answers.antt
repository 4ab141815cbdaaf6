use Rattle.std.proofs.Common.{rules, sym, ◌≡◌, [], ◌++◌, length, arith, List, None}
use Rattle.std.proofs.lemmas.Grind.{common_steps}
use Rattle.chat_model.specs.declared.deal.Outcome.{Outcome}
use Rattle.missed_hook.proofs.Taking.{waits-still, takes-next}
use Rattle.missed_hook.proofs.pipe.PlainPipeTake.take.Goals as goal

pub invariant_of-self : goal.invariant_of-self
invariant_of-self c = waits-still c.self.inside.sent.items c.self.inside.waiting.items c.pop_front.new.self.items c.pop_front.result c.self.invariant c.pop_front.ensures.items

pub returns-clause-took : goal.returns-clause-took
returns-clause-took c = rw (sym c.self.view_is) (takes-next c.self.inside.sent.items c.self.inside.waiting.items c.pop_front.new.self.items c.pop_front.result c.self.invariant c.pop_front.ensures.items (λ h. grind (arith, common_steps)))
