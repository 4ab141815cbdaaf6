use Rattle.std.proofs.Common.{Some, None, ◌∙◌}
use Rattle.notice_ledger.proofs.SlowEntries.{pushed-found}
use Rattle.notice_ledger.proofs.outbox.is_pushed.Goals as goal

pub returns-in-Some : goal.returns-in-Some
returns-in-Some c =
    c.is_handed_over.ensures
    ∙ pushed-found c.args.past.now c.args.user c.args.message c.deref.result.now (Some c.in-Some.notice.now) (c.deref.ensures.value ∙ c.in_ok-notices.ensures) c.in-Some.ensures

pub returns : goal.returns
returns c = pushed-found c.args.past.now c.args.user c.args.message c.deref.result.now None (c.deref.ensures.value ∙ c.in_ok-notices.ensures) c.in-None.ensures
