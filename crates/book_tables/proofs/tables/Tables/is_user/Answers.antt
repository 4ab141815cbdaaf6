use Rattle.std.proofs.Common.{List, ap, ◌∙◌}
use Rattle.std.specs.Prelude.{is_some}
use Rattle.chat_model.specs.declared.mentions.UserName.{UserName}
use Rattle.notice_ledger.specs.Past.Values.{numbered}
use Rattle.book_tables.proofs.Standing.{user-there}
use Rattle.book_tables.proofs.tables.Tables.is_user.Goals as goal

pub returns : goal.returns
returns c = λ past h. c.is_there.ensures ∙ (ap (λ (ns : List UserName). is_some (numbered c.args.user.0 ns)) c.deref.ensures.value ∙ user-there c.args.self.now past h c.args.user)
