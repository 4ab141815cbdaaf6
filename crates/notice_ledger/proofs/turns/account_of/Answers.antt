use Rattle.std.proofs.Common.{ap, ◌∙◌}
use Rattle.std.specs.Prelude.{is_some}
use Rattle.notice_ledger.specs.Past.Owed.{account_by}
use Rattle.notice_ledger.specs.Plain.{cause_kept, ready_kept, cleared_kept, dealt_kept}
use Rattle.notice_ledger.proofs.turns.account_of.Goals as goal

pub returns-in-Some : goal.returns-in-Some
returns-in-Some c =
    let j = c.args.journal.now in let n = c.args.notice.now in
    ap (λ t. account_by t (cause_kept j n) (is_some (ready_kept j n)) (cleared_kept j n) (dealt_kept j n)) c.in-Some.ensures

pub returns-in-None : goal.returns-in-None
returns-in-None c =
    let j = c.args.journal.now in let n = c.args.notice.now in
    c.undecided.ensures
    ∙ ap (λ t. account_by t (cause_kept j n) (is_some (ready_kept j n)) (cleared_kept j n) (dealt_kept j n)) c.in-None.ensures
