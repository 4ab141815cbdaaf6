use Rattle.notice_ledger.specs.Lawful.{lawful}
use Rattle.book_tables.proofs.TheSame.{same_stands}
use Rattle.book_tables.proofs.tables.Tables.reserve.Goals as goal

pub returns-clause-same : goal.returns-clause-same
returns-clause-same c = λ j h. same_stands c.args.self.now c.make_room.new.self (lawful j) h c.make_room.ensures.same
