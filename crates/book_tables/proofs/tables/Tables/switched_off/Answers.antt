use Rattle.std.proofs.Common.{length, sym, ap, ◌∙◌}
use Rattle.std.specs.Prelude.{if◌then◌else◌}
use Rattle.notice_ledger.specs.Past.Outbox.{mailed}
use Rattle.book_tables.proofs.tables.Tables.switched_off.Goals as goal

pub returns-then-is_switch_on : goal.returns-then-is_switch_on
returns-then-is_switch_on c = λ past h. ap (λ b. if b then 0 else length (mailed past c.args.user)) (sym c.if-is_switch_on.true ∙ c.is_switch_on.ensures past h)

pub returns-else-is_switch_on : goal.returns-else-is_switch_on
returns-else-is_switch_on c = λ past h.
    c.mailed_count.ensures past h ∙ ap (λ b. if b then 0 else length (mailed past c.args.user)) (sym c.if-is_switch_on.false ∙ c.is_switch_on.ensures past h)
