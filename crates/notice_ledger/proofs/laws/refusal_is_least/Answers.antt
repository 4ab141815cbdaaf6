use Rattle.notice_ledger.specs.Lawful.{lawful}
use Rattle.notice_ledger.proofs.RuleOrder.{refusal-least}
use Rattle.notice_ledger.proofs.laws.refusal_is_least.Goals as goal

pub returns : goal.returns
returns c = λ j request. refusal-least (lawful j) request
