use Rattle.notice_ledger.specs.Past.Refusals.{refusal}
use Rattle.book_tables.proofs.tables.Tables.group_refusal.Goals as goal

pub returns : goal.returns
unfolding refusal
returns c = λ past h.
    let e0 = c.are_users.ensures past h in
    let e1 = c.is_taken_group.ensures past h in
    let e3 = c.is_longer_than.ensures in
    let e4 = c.is_bad_name.ensures in
    let first = c.first_broken.ensures in
    cc
