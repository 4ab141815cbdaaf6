use Rattle.std.proofs.Common.{◌&&◌, sym, ap, ◌∙◌}
use Rattle.std.specs.Prelude.{nat_lt, nat_le}
use Rattle.notice_ledger.specs.Past.Values.{people}
use Rattle.notice_ledger.proofs.There.{numbered-some}
use Rattle.notice_ledger.proofs.values.is_user.Goals as goal

pub returns : goal.returns
returns c =
    c.is_number.ensures
    ∙ (ap (λ n. nat_lt 0 c.args.user.0 && nat_le c.args.user.0 n) c.user_count.ensures ∙ sym (numbered-some c.args.user.0 (people c.args.past.now)))
