use Rattle.std.proofs.Common.{◌&&◌, sym, ap, ◌∙◌}
use Rattle.std.specs.Prelude.{nat_lt, nat_le}
use Rattle.notice_ledger.specs.Past.Values.{groups}
use Rattle.notice_ledger.proofs.There.{numbered-some}
use Rattle.notice_ledger.proofs.values.is_group.Goals as goal

pub returns : goal.returns
returns c =
    c.is_number.ensures
    ∙ (ap (λ n. nat_lt 0 c.args.group.0 && nat_le c.args.group.0 n) c.group_count.ensures ∙ sym (numbered-some c.args.group.0 (groups c.args.past.now)))
