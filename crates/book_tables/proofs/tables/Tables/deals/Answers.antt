use Rattle.std.proofs.Common.{arith}
use Rattle.notice_ledger.specs.Lawful.{lawful}
use Rattle.book_tables.proofs.Standing.{messages_dealt}
use Rattle.book_tables.proofs.tables.Tables.deals.Goals as goal

pub returns : goal.returns
returns c = λ j h. omega (arith, c.len.ensures, c.args.self.now.messages.ok.0, messages_dealt c.args.self.now (lawful j) h)
