use Rattle.std.proofs.Common.{◌≡◌, ◌∷◌, [], ℕ, List, map, filter, refl, ap, subst, ◌∙◌}
use Rattle.chat_model.specs.Ascending.{is_ascending_by}
use Rattle.std.specs.Prelude.{IfOk}
use Rattle.chat_model.specs.declared.ids.UserId.{UserId}
use Rattle.chat_model.specs.declared.entry.Entry.{Entry}
use Rattle.chat_model.proofs.OnceEach.{ascending_once-ascending}
use Rattle.mail_batches.specs.declared.grouping.ReadyItem.{ReadyItem}
use Rattle.mail_batches.specs.Entries.{message_of, by_message, begins, entry_of}
use Rattle.mail_batches.specs.Groups.{entry_from, group_of, groups_of}
use Rattle.mail_batches.proofs.grouping.entries.Goals as goal

-- the entry of a group is that of the item that begins it
entries-groups : (user : UserId) (name : List ℕ) (at : ℕ) (items fs : List ReadyItem) → map (entry_from user name at) (map (group_of items) fs) ≡ map (entry_of user name at items) fs
entries-groups user name at items [] = refl
entries-groups user name at items (f ∷ fs) = ap (λ es. entry_of user name at items f ∷ es) (entries-groups user name at items fs)

pub grouped-requires : goal.grouped-requires
grouped-requires c = ap (is_ascending_by message_of) c.ascending-items.ensures.items ∙ ascending_once-ascending message_of c.args.items

pub returns : goal.returns
returns c =
    let user = c.args.user in let name = c.args.name.now in let at = c.args.at in
    let sorted = by_message c.args.items in
    let same = ap (map (entry_from user name at)) (c.in_ok-groups.ensures ∙ ap groups_of c.ascending-items.ensures.items) ∙ entries-groups user name at sorted (filter (begins sorted) sorted) in
    subst (λ (es : List Entry). IfOk c.mails.result (λ entries. entries ≡ es)) same c.mails.ensures
