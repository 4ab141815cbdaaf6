use Rattle.notice_ledger.specs.Past.Refusals.{refusal}
use Rattle.book_tables.proofs.tables.Tables.policy_refusal.Goals as goal

pub returns : goal.returns
unfolding refusal
returns c = λ past policy h.
    let e0 = c.is_user.ensures past h in
    let e1 = c.is_channel.ensures past h in
    let e2 = c.is_longer_than.ensures in
    let first = c.first_broken.ensures in
    cc
