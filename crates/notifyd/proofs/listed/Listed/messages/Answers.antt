use Rattle.std.proofs.Common.{ℕ, IfOk, rules, tests, eqb, subst, ap, ◌≡◌, ◌∙◌}
use Rattle.std.specs.List.{filter_map}
use Rattle.std.specs.Slice.Iter.{split_rest, split_done, split_callee}
use Rattle.std.specs.Vec.{vec_items}
use Rattle.std.proofs.lemmas.Iterator.{items_from_collect}
use Rattle.std.proofs.lemmas.Iterator.Consumers.{YieldsList-from_filter_map}
use Rattle.std.proofs.lemmas.Iterator.Splits.{YieldsList-from_slice_split}
use Rattle.notifyd.specs.Field.{parts_of}
use Rattle.chat_model.specs.declared.ids.MessageId.{MessageId}
use Rattle.notifyd.specs.Listed.{messages_of}
use Rattle.notifyd.proofs.ListedLemmas.{made_of, made_of-list_of, made_of-dash}
use Rattle.notifyd.proofs.listed.Listed.messages.Goals as goal

-- the message of a number
abbrev message : ℕ → MessageId
message number = record { 0 = number }

pub returns-then-eq : goal.returns-then-eq
returns-then-eq c = c.new.ensures ∙ made_of-dash message c.self.inside.bytes.now (search (rules, tests)) ∙ ap messages_of c.self.view_is

pub returns : goal.returns
returns c =
    let word = c.self.inside.bytes.now in
    let source = c.filter_map.ensures.source in
    let items = items_from_collect _ c.collect.ensures.ran (YieldsList-from_filter_map _ (made_of message)
    (YieldsList-from_slice_split _ (λ byte. eqb byte 44) _ (ap split_rest source ∙ c.split.ensures.rest) (ap split_done source ∙ c.split.ensures.done) (ap split_callee source ∙ c.split.ensures.closure) (λ x r q k. search (rules, tests)))
    c.filter_map.ensures.closure (λ x r q k. search (rules, tests))) in
    c.from.ensures ∙ subst (λ r. IfOk r (λ messages. vec_items messages ≡ filter_map (made_of message) (parts_of word))) c.in_ok-messages.was items ∙ made_of-list_of message word (search (rules, tests)) c.self.invariant ∙ ap messages_of c.self.view_is
