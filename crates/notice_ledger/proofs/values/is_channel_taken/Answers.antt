use Rattle.std.proofs.Common.{◌∙◌}
use Rattle.notice_ledger.proofs.There.{channels_taken}
use Rattle.notice_ledger.proofs.values.is_channel_taken.Goals as goal

pub returns : goal.returns
returns c = c.some_adds_channel_named.ensures ∙ channels_taken c.args.past.now c.args.name.now
