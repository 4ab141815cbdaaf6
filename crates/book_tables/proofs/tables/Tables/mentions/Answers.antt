use Rattle.std.proofs.Common.{◌≡◌, List, ℕ, ap, ◌∙◌}
use Rattle.chat_model.specs.declared.event.Stamped.{Stamped}
use Rattle.chat_model.specs.declared.mentions.Mentions.{Mentions}
use Rattle.chat_model.specs.declared.mentions.UserName.{UserName}
use Rattle.chat_model.specs.declared.mentions.GroupName.{GroupName}
use Rattle.mention_scan.specs.Mentions.{mentions}
use Rattle.notice_ledger.specs.Past.Values.{user_names}
use Rattle.notice_ledger.specs.Past.Triggers.{mentions_of}
use Rattle.book_tables.specs.Tables.{Holds}
use Rattle.book_tables.proofs.Steps.{if_ok_then}
use Rattle.book_tables.proofs.tables.Tables.mentions.Goals as goal

pub returns : goal.returns
unfolding mentions_of
returns c =
    let names = c.deref.result.now in let groups = c.deref-2.result.now in let text = c.args.text.now in
    if_ok_then (λ (m : Mentions). m ≡ mentions c.as_str-2.result.now names groups) (λ (m : Mentions). (past : List Stamped) → Holds c.args.self.now past → m ≡ mentions_of past text)
    (λ m is past h.
    is ∙ (ap (λ (s : List ℕ). mentions s names groups) c.as_str-2.ensures
    ∙ (ap (λ (ns : List UserName). mentions text ns groups) (c.deref.ensures.value ∙ h.names) ∙ ap (λ (gs : List GroupName). mentions text (user_names past) gs) (c.deref-2.ensures.value ∙ h.groups))))
    c.resolve.result c.resolve.ensures.mentions
