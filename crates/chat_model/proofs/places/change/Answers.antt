use Rattle.std.proofs.Common.{sym, subst}
use Rattle.chat_model.specs.Rows.{IsAscending}
use Rattle.chat_model.specs.declared.row.RowChange.TheVariants.{Put, Remove}
use Rattle.chat_model.proofs.Rows.{IsAscending-changed}
use Rattle.chat_model.proofs.places.change.Goals as goal

pub returns-in-Put-clause-ascending : goal.returns-in-Put-clause-ascending
returns-in-Put-clause-ascending c =
    subst IsAscending (sym c.put.ensures.items) (IsAscending-changed (Put c.in-Put.row) c.args.rows.now.items c.requires.ascending)

pub returns-in-Remove-clause-ascending : goal.returns-in-Remove-clause-ascending
returns-in-Remove-clause-ascending c =
    subst IsAscending (sym c.remove.ensures.items) (IsAscending-changed (Remove c.in-Remove.key) c.args.rows.now.items c.requires.ascending)
