use Rattle.notice_ledger.specs.Past.Refusals.{refusal}
use Rattle.book_tables.proofs.tables.Tables.setting_refusal.Goals as goal

pub returns : goal.returns
unfolding refusal
returns c = λ past h.
    let e0 = c.is_user.ensures past h in
    let e1 = c.is_bad_period.ensures in
    let first = c.first_broken.ensures in
    cc
