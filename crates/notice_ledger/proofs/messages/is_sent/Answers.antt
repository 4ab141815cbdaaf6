use Rattle.std.proofs.Common.{◌&&◌, sym, ap, ◌∙◌}
use Rattle.std.specs.Prelude.{nat_lt, nat_le}
use Rattle.notice_ledger.specs.Past.Values.{messages}
use Rattle.notice_ledger.proofs.There.{numbered-some}
use Rattle.notice_ledger.proofs.SlowMessages.{sends_counted}
use Rattle.notice_ledger.proofs.messages.is_sent.Goals as goal

pub returns : goal.returns
returns c =
    c.is_number.ensures
    ∙ (ap (λ n. nat_lt 0 c.args.message.0 && nat_le c.args.message.0 n) (c.send_count.ensures ∙ sends_counted c.args.past.now)
    ∙ sym (numbered-some c.args.message.0 (messages c.args.past.now)))
