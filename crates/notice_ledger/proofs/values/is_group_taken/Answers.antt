use Rattle.std.proofs.Common.{◌∙◌}
use Rattle.notice_ledger.proofs.There.{groups_taken}
use Rattle.notice_ledger.proofs.values.is_group_taken.Goals as goal

pub returns : goal.returns
returns c = c.some_adds_group_named.ensures ∙ groups_taken c.args.past.now c.args.name.now
