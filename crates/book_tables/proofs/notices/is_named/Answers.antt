use Rattle.std.proofs.Common.{◌≡◌, List, ap, ◌∙◌}
use Rattle.chat_model.specs.declared.ids.UserId.{UserId}
use Rattle.chat_model.specs.declared.mentions.Mentions.{Mentions}
use Rattle.notice_ledger.specs.InOrder.{is_ascending}
use Rattle.notice_ledger.specs.Past.Triggers.{mentions_of}
use Rattle.notice_ledger.specs.Past.Values.{is_one_of}
use Rattle.book_tables.proofs.Addressed.{mentioned-ascend}
use Rattle.book_tables.proofs.notices.is_named.Goals as goal

pub returns : goal.returns
returns c = λ past text mentioned.
    let same : c.as_slice.result.now ≡ (mentions_of past text).users = c.as_slice.ensures ∙ ap (λ (m : Mentions). m.users) mentioned in
    c.is_among.ensures (ap is_ascending same ∙ mentioned-ascend past text) ∙ ap (λ (us : List UserId). is_one_of us c.args.user) same
