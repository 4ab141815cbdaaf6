use Rattle.book_tables.proofs.tables.Tables.owed.Goals as goal

pub returns : goal.returns
returns c = λ past at h goes. c.in_ok-owed.ensures past at h (c.in_ok-gathered.ensures past h) goes
