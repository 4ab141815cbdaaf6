use Rattle.std.proofs.Common.{Bool, List, ap, ◌∙◌}
use Rattle.chat_model.specs.declared.ids.UserId.{UserId}
use Rattle.notice_ledger.specs.Past.Values.{is_one_of}
use Rattle.book_tables.specs.Preferences.{preferred}
use Rattle.book_tables.proofs.UserSets.{is_one_of-after}
use Rattle.book_tables.proofs.preferences.Preferences.set_muted.Goals as goal

pub returns : goal.returns
returns c =
    ap (λ (f : UserId → Bool). record (preferred c.args.self.now) { muted = f })
    (λ i v. (ap (λ (us : List UserId). is_one_of us v) c.change.ensures ∙ is_one_of-after v c.args.other c.args.on c.args.self.now.muted.users.items) i)
