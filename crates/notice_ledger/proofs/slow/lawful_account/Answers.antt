use Rattle.std.proofs.Common.{◌∙◌}
use Rattle.std.specs.Prelude.{Some, None}
use Rattle.notice_ledger.proofs.SlowLemmas.{account-found}
use Rattle.notice_ledger.proofs.slow.lawful_account.Goals as goal

pub returns-in-Some : goal.returns-in-Some
returns-in-Some c =
    c.account_of.ensures
    ∙ account-found c.args.events.now c.args.user c.args.message c.args.way c.deref.result.now (Some c.in-Some.notice.now) (c.deref.ensures.value ∙ c.in_ok-notices.ensures) c.in-Some.ensures

pub returns : goal.returns
returns c =
    account-found c.args.events.now c.args.user c.args.message c.args.way c.deref.result.now None (c.deref.ensures.value ∙ c.in_ok-notices.ensures) c.in-None.ensures
