use Rattle.std.proofs.Common.{ℕ, List, [], map, sym, ap, ◌∙◌}
use Rattle.std.specs.Prelude.{if◌then◌else◌}
use Rattle.mail_batches.specs.declared.grouping.ReadyItem.{ReadyItem}
use Rattle.mail_batches.specs.Entries.{entries_of}
use Rattle.mail_batches.proofs.EntryOrder.{no_message_twice-moved, entries_of-moved}
use Rattle.chat_model.specs.declared.entry.Entry.{Entry}
use Rattle.notice_ledger.specs.Past.Values.{user_name}
use Rattle.notice_ledger.specs.Past.Outbox.{mailed, ready_item}
use Rattle.notice_ledger.proofs.Batches.{mailed-once}
use Rattle.book_tables.proofs.tables.Tables.mail_entries.Goals as goal

pub entries-requires : goal.entries-requires
entries-requires c =
    let past = c.requires.0 in
    no_message_twice-moved (map (ready_item past) (mailed past c.args.user)) c.in_ok-items.items (mailed-once past c.args.user) (c.in_ok-items.ensures past c.requires.1)

pub returns : goal.returns
returns c = λ past h.
    let u = c.args.user in let items : List ReadyItem = map (ready_item past) (mailed past u) in
    let made : List Entry = entries_of u (user_name past u) c.args.at items in
    c.into_vec.ensures
    ∙ (c.in_ok-entries.ensures
    ∙ (ap (λ (name : List ℕ). entries_of u name c.args.at c.in_ok-items.items) (c.in_ok-name.ensures ∙ c.name.ensures past h)
    ∙ (sym (entries_of-moved u (user_name past u) c.args.at items c.in_ok-items.items (mailed-once past u) (c.in_ok-items.ensures past h))
    ∙ ap (λ b. if b then made else []) (sym c.if-not-is_switch_on.false ∙ c.is_switch_on.ensures past h))))

pub returns-then-not-is_switch_on : goal.returns-then-not-is_switch_on
returns-then-not-is_switch_on c = λ past h.
    let u = c.args.user in
    let made : List Entry = entries_of u (user_name past u) c.args.at (map (ready_item past) (mailed past u)) in
    c.new.ensures.items ∙ ap (λ b. if b then made else []) (sym c.if-not-is_switch_on.true ∙ c.is_switch_on.ensures past h)
