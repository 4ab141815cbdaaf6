use Rattle.book_tables.proofs.tables.Tables.gather.Goals as goal

pub returns : goal.returns
returns c = λ past h. record {
  mentioned = c.in_ok-mentioned.ensures past h;
  topic = c.in_ok-topic.ensures;
  participants = λ is u. c.in_ok-participants.ensures past u h is;
}
