use Rattle.std.proofs.Common.{◌∙◌}
use Rattle.notice_ledger.proofs.There.{channels_counted}
use Rattle.notice_ledger.proofs.values.channel_count.Goals as goal

pub returns : goal.returns
returns c = c.channel_additions.ensures ∙ channels_counted c.args.past.now
