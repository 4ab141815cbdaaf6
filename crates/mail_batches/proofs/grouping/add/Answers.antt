use Rattle.std.proofs.Common.{◌≡◌, ◌++◌, ◌∷◌, [], List, Some, None, set, get_or, sym, ap, ◌∙◌}
use Rattle.std.specs.Prelude.{position}
use Rattle.chat_model.specs.declared.entry.Item.{Item}
use Rattle.chat_model.specs.declared.entry.Conversation.{Conversation}
use Rattle.mail_batches.specs.declared.grouping.Group.{Group}
use Rattle.mail_batches.proofs.GroupSteps.{grow, is_of, at_some, at_none, joins, starts}
use Rattle.mail_batches.proofs.grouping.add.Goals as goal

abbrev group_with : Conversation → List Item → Group
group_with conversation items = record { conversation = conversation; items = items }

pub returns-in_ok-push-in-Some : goal.returns-in_ok-push-in-Some
returns-in_ok-push-in-Some c xs h e =
    let gs = c.args.groups.now.items in let x = c.args.ready in let old = c.index_mut-group.result.now in
    let found : position (is_of x) gs ≡ Some c.in-Some.place = ap (position (is_of x)) (sym c.deref.ensures.value) ∙ (sym c.place_of-place.ensures ∙ c.in-Some.is) in
    let at = at_some (is_of x) gs c.in-Some.place found in
    ap (λ items. set gs c.in-Some.place (group_with old.conversation items)) c.in_ok-push-in-Some.ensures.ok
    ∙ (ap (λ g. set gs c.in-Some.place (grow x.item g)) c.index_mut-group.ensures.value
    ∙ (ap (λ n. set gs n (grow x.item (get_or gs n old))) at.0
    ∙ joins xs x old gs h e at.1))

pub returns-in_ok-push-in-None-2 : goal.returns-in_ok-push-in-None-2
returns-in_ok-push-in-None-2 c xs h e =
    let gs = c.args.groups.now.items in let x = c.args.ready in
    let found : position (is_of x) gs ≡ None = ap (position (is_of x)) (sym c.deref.ensures.value) ∙ (sym c.place_of-place.ensures ∙ c.in-None.is) in
    let items : c.push-in-None.new.self ≡ x.item ∷ [] = c.in_ok-push-in-None.ensures.ok ∙ ap (λ is. is ++ x.item ∷ []) c.new-items.ensures in
    c.in_ok-push-in-None-2.ensures.items
    ∙ (ap (λ is. gs ++ group_with x.conversation is ∷ []) items
    ∙ starts xs x gs h e (at_none (is_of x) gs found))
