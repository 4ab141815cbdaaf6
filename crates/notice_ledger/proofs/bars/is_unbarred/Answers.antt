use Rattle.std.proofs.Common.{ap, ◌∙◌}
use Rattle.std.specs.Prelude.{is_none}
use Rattle.notice_ledger.proofs.SlowBars.{bar-is_found, none-told}
use Rattle.notice_ledger.proofs.bars.is_unbarred.Goals as goal

pub returns : goal.returns
returns c = none-told c.bar.result c.is_none.result c.is_none.ensures ∙ (ap is_none c.bar.ensures ∙ bar-is_found c.args.notice.now.place c.args.notice.now c.args.past.now)
