use Rattle.notice_ledger.proofs.SlowBars.{revocation-none}
use Rattle.notice_ledger.proofs.revocations.revocation.Goals as goal

pub returns-in-None-bar_behind : goal.returns-in-None-bar_behind
returns-in-None-bar_behind c = revocation-none c.args.journal.now c.args.notice.now c.in-Some.place c.in-Some.ensures c.in-None-bar_behind.ensures
