use Rattle.std.proofs.Common.{◌&&◌, sym, ap, ◌∙◌}
use Rattle.std.specs.Prelude.{nat_lt, nat_le}
use Rattle.notice_ledger.specs.Past.Values.{channels}
use Rattle.notice_ledger.proofs.There.{numbered-some}
use Rattle.notice_ledger.proofs.values.is_channel.Goals as goal

pub returns : goal.returns
returns c =
    c.is_number.ensures
    ∙ (ap (λ n. nat_lt 0 c.args.channel.0 && nat_le c.args.channel.0 n) c.channel_count.ensures ∙ sym (numbered-some c.args.channel.0 (channels c.args.past.now)))
