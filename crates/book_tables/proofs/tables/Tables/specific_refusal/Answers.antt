use Rattle.notice_ledger.specs.Past.Refusals.{refusal}
use Rattle.book_tables.proofs.tables.Tables.specific_refusal.Goals as goal

pub returns : goal.returns
unfolding refusal
returns c = λ past change h.
    let e0 = c.is_user.ensures past h in
    let e1 = c.is_channel.ensures past h in
    let first = c.first_broken.ensures in
    cc
