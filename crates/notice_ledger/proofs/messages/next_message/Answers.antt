use Rattle.std.proofs.Common.{◌+◌, ap, ◌∙◌}
use Rattle.notice_ledger.proofs.SlowMessages.{sends_counted}
use Rattle.notice_ledger.proofs.messages.next_message.Goals as goal

pub returns : goal.returns
returns c = ap (λ n. n + 1) (c.send_count.ensures ∙ sends_counted c.args.past.now)
