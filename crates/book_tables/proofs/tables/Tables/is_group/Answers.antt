use Rattle.std.proofs.Common.{List, ap, ◌∙◌}
use Rattle.std.specs.Prelude.{is_some}
use Rattle.chat_model.specs.declared.mentions.GroupName.{GroupName}
use Rattle.notice_ledger.specs.Past.Values.{numbered}
use Rattle.book_tables.proofs.Standing.{group-there}
use Rattle.book_tables.proofs.tables.Tables.is_group.Goals as goal

pub returns : goal.returns
returns c = λ past h. c.is_there.ensures ∙ (ap (λ (gs : List GroupName). is_some (numbered c.args.group.0 gs)) c.deref.ensures.value ∙ group-there c.args.self.now past h c.args.group)
