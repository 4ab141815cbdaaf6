use Rattle.notice_ledger.specs.Lawful.{lawful}
use Rattle.notice_ledger.proofs.RuleOrder.{rules_of-ascend}
use Rattle.notice_ledger.proofs.laws.rules_ascend.Goals as goal

pub returns : goal.returns
returns c = λ j request. rules_of-ascend (lawful j) request
