use Rattle.notice_ledger.specs.Lawful.{lawful}
use Rattle.notice_ledger.proofs.FirstDue.{first_due-batches}
use Rattle.book_tables.proofs.tables.Tables.first_due.Goals as goal

pub returns : goal.returns
returns c = λ j h. first_due-batches (lawful j) c.args.self.now.batches h.batches.due c.first_due.result c.first_due.ensures
