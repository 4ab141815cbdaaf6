use Rattle.notice_ledger.specs.Past.Refusals.{refusal}
use Rattle.book_tables.proofs.tables.Tables.mute_refusal.Goals as goal

pub returns : goal.returns
unfolding refusal
returns c = λ past on h.
    let e0 = c.are_both.ensures past h in
    let first = c.first_broken.ensures in
    cc
