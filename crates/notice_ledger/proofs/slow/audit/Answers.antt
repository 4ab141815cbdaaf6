use Rattle.std.proofs.Common.{◌≡◌, List, ◌∙◌, subst}
use Rattle.std.specs.Prelude.{IfOk}
use Rattle.chat_model.specs.declared.event.Stamped.{Stamped}
use Rattle.notice_ledger.specs.Past.Audit.{counts_of}
use Rattle.notice_ledger.proofs.slow.audit.Goals as goal

pub returns : goal.returns
returns c = subst (λ (j : List Stamped). IfOk c.lawful_counts.result (λ counts. counts ≡ counts_of j)) (c.deref.ensures.value ∙ c.in_ok-events.ensures) c.lawful_counts.ensures
