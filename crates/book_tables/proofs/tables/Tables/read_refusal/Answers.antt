use Rattle.notice_ledger.specs.Past.Refusals.{refusal}
use Rattle.book_tables.proofs.tables.Tables.read_refusal.Goals as goal

pub returns : goal.returns
unfolding refusal
returns c = λ past h.
    let e0 = c.is_user.ensures past h in
    let e1 = c.may_read_all.ensures past h in
    let first = c.first_broken.ensures in
    cc
