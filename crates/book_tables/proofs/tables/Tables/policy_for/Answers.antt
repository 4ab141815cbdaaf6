use Rattle.std.proofs.Common.{sym, ◌∙◌}
use Rattle.std.specs.Prelude.{Some, None}
use Rattle.book_tables.proofs.Addressed.{policy_for-key}
use Rattle.book_tables.proofs.tables.Tables.policy_for.Goals as goal

pub returns-in-Some : goal.returns-in-Some
returns-in-Some c = λ past to h is. c.policy.ensures past h ∙ policy_for-key past to c.args.user (Some c.in-Some.key) (sym c.in-Some.is ∙ is)

pub returns-in-None : goal.returns-in-None
returns-in-None c = λ past to h is. policy_for-key past to c.args.user None (sym c.in-None.is ∙ is)
