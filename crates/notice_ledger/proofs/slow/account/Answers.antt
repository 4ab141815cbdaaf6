use Rattle.std.proofs.Common.{◌≡◌, List, ◌∙◌, subst}
use Rattle.std.specs.Prelude.{IfOk}
use Rattle.chat_model.specs.declared.event.Stamped.{Stamped}
use Rattle.notice_ledger.specs.Past.Owed.{account}
use Rattle.notice_ledger.proofs.slow.account.Goals as goal

pub returns : goal.returns
returns c =
    subst (λ (j : List Stamped). IfOk c.lawful_account.result (λ a. a ≡ account j c.args.user c.args.message c.args.way)) (c.deref.ensures.value ∙ c.in_ok-events.ensures) c.lawful_account.ensures
