use Rattle.std.proofs.Common.{[], ap, ◌∙◌}
use Rattle.std.specs.Prelude.{Option}
use Rattle.std.specs.Option.{option_map_or}
use Rattle.chat_model.specs.declared.mentions.GroupName.{GroupName}
use Rattle.notice_ledger.specs.Past.Values.{numbered}
use Rattle.book_tables.proofs.Standing.{group_name-there}
use Rattle.book_tables.proofs.tables.Tables.group_name.Goals as goal

pub returns-in-Some : goal.returns-in-Some
returns-in-Some c = λ past h.
    c.as_str.ensures ∙ (ap (λ (o : Option GroupName). option_map_or (λ n. n.name) o []) (c.in-Some.ensures ∙ ap (numbered c.args.group.0) c.deref.ensures.value) ∙ group_name-there c.args.self.now past h c.args.group)

pub returns-in-None : goal.returns-in-None
returns-in-None c = λ past h.
    ap (λ (o : Option GroupName). option_map_or (λ n. n.name) o []) (c.in-None.ensures ∙ ap (numbered c.args.group.0) c.deref.ensures.value) ∙ group_name-there c.args.self.now past h c.args.group
