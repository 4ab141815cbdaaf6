use Rattle.notice_ledger.specs.Past.Refusals.{refusal}
use Rattle.book_tables.proofs.tables.Tables.direct_refusal.Goals as goal

pub returns : goal.returns
unfolding refusal
returns c = λ past h.
    let e0 = c.are_there_with.ensures past h in
    let e1 = c.is_blank.ensures in
    let e2 = c.is_longer_than.ensures in
    let first = c.first_broken.ensures in
    cc
