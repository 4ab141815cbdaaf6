use Rattle.std.proofs.Common.{◌≡◌, ◌++◌, List, take, get_or, true, sym, ap, ◌∙◌}
use Rattle.std.specs.List.{flat_map}
use Rattle.std.proofs.lemmas.List.{take_all, take_more}
use Rattle.chat_model.specs.declared.ids.UserId.{UserId}
use Rattle.notice_ledger.specs.Past.Values.{is_one_of}
use Rattle.book_tables.specs.declared.tables.Waiting.{Waiting}
use Rattle.book_tables.specs.Gathered.{owed_there}
use Rattle.book_tables.proofs.Steps.{flat_map-push}
use Rattle.book_tables.proofs.Addressed.{item_there, owed-addressed}
use Rattle.book_tables.proofs.tables.Tables.owed_to.Goals as goal

pub loop-user-preserved : goal.loop-user-preserved
loop-user-preserved c = λ past at h g goes.
    let us = c.deref-user-items.result.now in let i = c.loop-user.user-index in let nobody : UserId = record { 0 = 0 } in
    let u = get_or us i nobody in let f = owed_there past at c.args.message.now in
    let there : is_one_of c.args.addressees.now.users.items u ≡ true = ap (λ (xs : List UserId). is_one_of xs u) (sym c.deref-user-items.ensures.value) ∙ item_there us i nobody c.loop-user-test.true in
    c.in_ok-add_owed.ensures past at h g (sym (goes u) ∙ there)
    ∙ (ap (λ (ws : List Waiting). ws ++ f u) (c.loop-user.invariant past at h g goes) ∙ (sym (flat_map-push f (take i us) u) ∙ ap (flat_map f) (sym (take_more us i nobody c.loop-user-test.true))))

pub returns : goal.returns
returns c = λ past at h g goes.
    let us = c.args.addressees.now.users.items in
    c.loop-user.invariant past at h g goes
    ∙ (ap (flat_map (owed_there past at c.args.message.now)) (take_all c.loop-user.user-index c.deref-user-items.result.now c.loop-user-test.false ∙ c.deref-user-items.ensures.value)
    ∙ owed-addressed c.args.self.now past h at c.args.message.now us c.args.addressees.now.ascending goes)
