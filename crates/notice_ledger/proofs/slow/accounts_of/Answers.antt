use Rattle.std.proofs.Common.{◌∙◌}
use Rattle.notice_ledger.proofs.SlowLemmas.{accounts-next}
use Rattle.notice_ledger.proofs.slow.accounts_of.Goals as goal

pub loop-notice-preserved : goal.loop-notice-preserved
loop-notice-preserved c =
    c.in_ok-push.ensures.items
    ∙ accounts-next c.args.events.now c.args.notices.now c.loop-notice.notice-index c.loop-notice.accounts.items c.account_of.result c.loop-notice-test.true c.loop-notice.invariant c.account_of.ensures
