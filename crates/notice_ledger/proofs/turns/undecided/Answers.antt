use Rattle.std.proofs.Common.{None, ap, ◌∙◌}
use Rattle.std.specs.Prelude.{Option, option_map, is_some}
use Rattle.notice_ledger.specs.declared.bars.FoundBar.{FoundBar}
use Rattle.notice_ledger.specs.Past.Owed.{account_by}
use Rattle.notice_ledger.specs.Plain.{bar_kept, ready_kept, cleared_kept, dealt_kept}
use Rattle.notice_ledger.proofs.SlowBars.{bar-cause}
use Rattle.notice_ledger.proofs.turns.undecided.Goals as goal

pub returns-in-Some : goal.returns-in-Some
returns-in-Some c =
    let j = c.args.journal.now in let n = c.args.notice.now in
    ap (λ cause. account_by None cause (is_some (ready_kept j n)) (cleared_kept j n) (dealt_kept j n)) (ap (λ (b : Option FoundBar). option_map (λ f. f.cause) b) c.in-Some.ensures ∙ bar-cause n (bar_kept j n))

pub returns-in-None : goal.returns-in-None
returns-in-None c =
    let j = c.args.journal.now in let n = c.args.notice.now in
    c.unbarred.ensures
    ∙ ap (λ cause. account_by None cause (is_some (ready_kept j n)) (cleared_kept j n) (dealt_kept j n)) (ap (λ (b : Option FoundBar). option_map (λ f. f.cause) b) c.in-None.ensures ∙ bar-cause n (bar_kept j n))
