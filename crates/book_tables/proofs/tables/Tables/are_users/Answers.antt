use Rattle.std.proofs.Common.{List, ap, ◌∙◌}
use Rattle.std.specs.Prelude.{is_some}
use Rattle.std.specs.List.{list_all}
use Rattle.chat_model.specs.declared.mentions.UserName.{UserName}
use Rattle.chat_model.specs.declared.ids.UserId.{UserId}
use Rattle.notice_ledger.specs.Past.Values.{numbered}
use Rattle.book_tables.proofs.Standing.{users-there}
use Rattle.book_tables.proofs.tables.Tables.are_users.Goals as goal

pub returns : goal.returns
returns c = λ past h. c.are_there.ensures ∙ (ap (λ (ns : List UserName). list_all (λ (u : UserId). is_some (numbered u.0 ns)) c.args.users.now) c.deref.ensures.value ∙ users-there c.args.self.now past h c.args.users.now)
