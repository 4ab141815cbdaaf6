use Rattle.std.proofs.Common.{◌∙◌}
use Rattle.notice_ledger.proofs.There.{people_counted}
use Rattle.notice_ledger.proofs.values.user_count.Goals as goal

pub returns : goal.returns
returns c = c.user_additions.ensures ∙ people_counted c.args.past.now
