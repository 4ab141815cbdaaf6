use Rattle.notice_ledger.specs.Past.Refusals.{refusal}
use Rattle.book_tables.proofs.tables.Tables.delete_refusal.Goals as goal

pub returns : goal.returns
unfolding refusal
returns c = λ past h.
    let e0 = c.is_user.ensures past h in
    let e1 = c.is_message.ensures past h in
    let e2 = c.is_sender.ensures past h in
    let first = c.first_broken.ensures in
    cc
