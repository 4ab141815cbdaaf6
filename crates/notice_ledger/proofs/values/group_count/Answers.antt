use Rattle.std.proofs.Common.{◌∙◌}
use Rattle.notice_ledger.proofs.There.{groups_counted}
use Rattle.notice_ledger.proofs.values.group_count.Goals as goal

pub returns : goal.returns
returns c = c.group_additions.ensures ∙ groups_counted c.args.past.now
