use Rattle.std.proofs.Common.{ap, ◌∙◌}
use Rattle.std.specs.Prelude.{filter}
use Rattle.notice_ledger.specs.Plain.{is_batch_kept}
use Rattle.notice_ledger.proofs.TurnLemmas.{batch_rows-kept}
use Rattle.notice_ledger.proofs.due.batch_rows.Goals as goal

pub returns : goal.returns
returns c =
    c.in_ok-rows.ensures
    ∙ (ap (filter (is_batch_kept c.args.journal.now c.args.user)) (c.deref.ensures.value ∙ c.in_ok-notices.ensures) ∙ batch_rows-kept c.args.journal.now c.args.user)
