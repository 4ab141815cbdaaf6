use Rattle.std.proofs.Common.{◌≡◌, List, [], length, map, sym, ap, ◌∙◌}
use Rattle.std.specs.Prelude.{if◌then◌else◌}
use Rattle.std.proofs.lemmas.List.{length-map}
use Rattle.mail_batches.specs.declared.grouping.ReadyItem.{ReadyItem}
use Rattle.notice_ledger.specs.Past.Outbox.{mailed, ready_item}
use Rattle.book_tables.proofs.tables.Tables.handed_over.Goals as goal

pub returns-then-is_switch_on : goal.returns-then-is_switch_on
returns-then-is_switch_on c = λ past h.
    let u = c.args.user in
    let items : List ReadyItem = map (ready_item past) (mailed past u) in
    c.mailed_count.ensures past h ∙ (sym (length-map (mailed past u) (ready_item past)) ∙ ap (λ b. length (if b then items else [])) (sym c.if-is_switch_on.true ∙ c.is_switch_on.ensures past h))

pub returns-else-is_switch_on : goal.returns-else-is_switch_on
returns-else-is_switch_on c = λ past h.
    let items : List ReadyItem = map (ready_item past) (mailed past c.args.user) in
    ap (λ b. length (if b then items else [])) (sym c.if-is_switch_on.false ∙ c.is_switch_on.ensures past h)
