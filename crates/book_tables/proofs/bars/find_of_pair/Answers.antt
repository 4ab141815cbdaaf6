use Rattle.std.proofs.Common.{sym}
use Rattle.book_tables.specs.Notices.{is_at}
use Rattle.book_tables.specs.Bars.{is_of_pair}
use Rattle.book_tables.proofs.Barring.{pairs-at, found-same}
use Rattle.book_tables.proofs.bars.find_of_pair.Goals as goal

pub returns-clause-found : goal.returns-clause-found
returns-clause-found c = λ order numbered.
    let ws = c.args.notices.now in let p = c.args.pair in let way = c.args.way in let k = c.in_ok-deal.deal in
    found-same (is_at k p.user way) (is_of_pair p way) ws _ (pairs-at k p way ws c.in_ok-deal.ensures numbered) (c.find_notice.ensures.found order)
