use Rattle.std.proofs.Common.{List, ap, ◌∙◌}
use Rattle.std.specs.List.{list_any}
use Rattle.std.specs.Str.{str_eq_ignore_ascii_case}
use Rattle.chat_model.specs.declared.mentions.GroupName.{GroupName}
use Rattle.book_tables.proofs.Standing.{group-taken}
use Rattle.book_tables.proofs.tables.Tables.is_taken_group.Goals as goal

pub returns : goal.returns
returns c = λ past h. c.is_group_name.ensures ∙ (ap (λ (gs : List GroupName). list_any (λ g. str_eq_ignore_ascii_case c.args.name.now g.name) gs) c.deref.ensures.value ∙ group-taken c.args.self.now past h c.args.name.now)
