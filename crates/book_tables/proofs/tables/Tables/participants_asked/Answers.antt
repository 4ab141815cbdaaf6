use Rattle.book_tables.proofs.tables.Tables.participants_asked.Goals as goal

pub returns-in_ok-asked : goal.returns-in_ok-asked
returns-in_ok-asked c = λ past u h is. c.in_ok-asked.ensures past u h

pub returns-else-is_asked : goal.returns-else-is_asked
returns-else-is_asked c = λ past u h is. let not = c.if-is_asked.false in absurd (cc)
