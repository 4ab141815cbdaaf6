use Rattle.std.proofs.Common.{ℕ, IfOk, rules, tests, eqb, subst, ap, ◌≡◌, ◌∙◌}
use Rattle.std.specs.List.{filter_map}
use Rattle.std.specs.Slice.Iter.{split_rest, split_done, split_callee}
use Rattle.std.specs.Vec.{vec_items}
use Rattle.std.proofs.lemmas.Iterator.{items_from_collect}
use Rattle.std.proofs.lemmas.Iterator.Consumers.{YieldsList-from_filter_map}
use Rattle.std.proofs.lemmas.Iterator.Splits.{YieldsList-from_slice_split}
use Rattle.notifyd.specs.Field.{parts_of}
use Rattle.chat_model.specs.declared.ids.UserId.{UserId}
use Rattle.notifyd.specs.Listed.{users_of}
use Rattle.notifyd.proofs.ListedLemmas.{made_of, made_of-list_of, made_of-dash}
use Rattle.notifyd.proofs.listed.Listed.users.Goals as goal

-- the user of a number
abbrev user : ℕ → UserId
user number = record { 0 = number }

pub returns-then-eq : goal.returns-then-eq
returns-then-eq c = c.new.ensures ∙ made_of-dash user c.self.inside.bytes.now (search (rules, tests)) ∙ ap users_of c.self.view_is

pub returns : goal.returns
returns c =
    let word = c.self.inside.bytes.now in
    let source = c.filter_map.ensures.source in
    let items = items_from_collect _ c.collect.ensures.ran (YieldsList-from_filter_map _ (made_of user)
    (YieldsList-from_slice_split _ (λ byte. eqb byte 44) _ (ap split_rest source ∙ c.split.ensures.rest) (ap split_done source ∙ c.split.ensures.done) (ap split_callee source ∙ c.split.ensures.closure) (λ x r q k. search (rules, tests)))
    c.filter_map.ensures.closure (λ x r q k. search (rules, tests))) in
    c.from.ensures ∙ subst (λ r. IfOk r (λ users. vec_items users ≡ filter_map (made_of user) (parts_of word))) c.in_ok-users.was items ∙ made_of-list_of user word (search (rules, tests)) c.self.invariant ∙ ap users_of c.self.view_is
