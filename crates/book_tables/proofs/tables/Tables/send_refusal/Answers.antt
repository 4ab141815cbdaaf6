use Rattle.notice_ledger.specs.Past.Refusals.{refusal}
use Rattle.book_tables.proofs.tables.Tables.send_refusal.Goals as goal

pub returns : goal.returns
unfolding refusal
returns c = λ past h.
    let e0 = c.is_user.ensures past h in
    let e1 = c.is_channel.ensures past h in
    let e2 = c.is_subscribed.ensures past h in
    let e3 = c.is_blank.ensures in
    let e4 = c.is_longer_than.ensures in
    let e5 = c.is_longer_than-2.ensures in
    let e6 = c.subscriber_count.ensures past h in
    let first = c.first_broken.ensures in
    cc
