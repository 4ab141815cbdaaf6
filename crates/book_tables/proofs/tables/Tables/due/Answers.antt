use Rattle.std.proofs.Common.{◌∙◌}
use Rattle.book_tables.proofs.tables.Tables.due.Goals as goal

pub returns : goal.returns
returns c = λ j h. c.due.ensures.due ∙ h.batches.due c.args.user
