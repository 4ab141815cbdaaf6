use Rattle.std.proofs.Common.{ap, nat_lt}
use Rattle.std.proofs.lemmas.Iterator.{YieldsList-from_chars}
use Rattle.std.proofs.lemmas.Iterator.Consumers.{count_from_yields_List}
use Rattle.notice_ledger.specs.Texts.{is_longer_than}
use Rattle.notice_ledger.proofs.rules.is_longer_than.Goals as goal

pub returns : goal.returns
unfolding is_longer_than
returns c = ap (nat_lt c.args.most) (count_from_yields_List _ _ c.count.ensures.ran (YieldsList-from_chars c.args.text.now c.utf8.text cc))
