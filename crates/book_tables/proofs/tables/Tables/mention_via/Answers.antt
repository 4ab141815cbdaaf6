use Rattle.std.proofs.Common.{◌≡◌, true, false, List, sym, ap, ◌∙◌}
use Rattle.std.specs.Prelude.{None, filter, if◌then◌else◌}
use Rattle.std.specs.List.{reduce}
use Rattle.chat_model.specs.declared.ids.GroupId.{GroupId}
use Rattle.chat_model.specs.declared.mentions.Mentions.{Mentions}
use Rattle.notice_ledger.specs.Past.Values.{is_member, is_one_of}
use Rattle.notice_ledger.specs.Past.Triggers.{mentions_of, smaller, smallest_named}
use Rattle.book_tables.proofs.tables.Tables.mention_via.Goals as goal

pub returns-then-is_named : goal.returns-then-is_named
returns-then-is_named c = λ past text h mentioned.
    let u = c.args.user in
    let named : true ≡ is_one_of (mentions_of past text).users u =
    sym c.if-is_named.true ∙ c.is_named.ensures past text mentioned in
    ap (λ b. if b then None else smallest_named past text u) named

pub returns : goal.returns
returns c = λ past text h mentioned.
    let u = c.args.user in
    let named : false ≡ is_one_of (mentions_of past text).users u =
    sym c.if-is_named.false ∙ c.is_named.ensures past text mentioned in
    c.smallest.ensures past h
    ∙ (ap (λ (gs : List GroupId). reduce (smaller past) (filter (λ g. is_member past g u) gs)) (c.as_slice.ensures ∙ ap (λ (x : Mentions). x.groups) mentioned)
    ∙ ap (λ b. if b then None else smallest_named past text u) named)
