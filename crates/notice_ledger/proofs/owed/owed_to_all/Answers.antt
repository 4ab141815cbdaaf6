use Rattle.std.proofs.Common.{false, List, [], ◌∷◌, ◌++◌, length, take, sym, ap, ◌∙◌}
use Rattle.std.specs.List.{filter_map}
use Rattle.chat_model.specs.declared.trigger.Way.TheVariants.{Mail, Push}
use Rattle.notice_ledger.specs.declared.owed.Owed.{Owed}
use Rattle.notice_ledger.specs.Plain.{owed_by_facts, owed_to, owed_to_all}
use Rattle.notice_ledger.proofs.Lists.{take_next}
use Rattle.notice_ledger.proofs.OwedLemmas.{owed_to_all-more}
use Rattle.notice_ledger.proofs.owed.owed_to_all.Goals as goal

pub loop-name-preserved : goal.loop-name-preserved
loop-name-preserved c =
    let past = c.args.past.now in let h = c.args.heard.now in let name = c.name-item.result in let names = take c.loop-name.name-index c.args.users.now in
    let next = take_next c.args.users.now c.loop-name.name-index name c.loop-name-test.true c.name-item.is in
    let n : Owed = record { user = name.id; message = h.number; way = Mail; deal = h.deal; online = false; place = length past } in
    c.in_ok-add_both.ensures
    ∙ (ap (λ f. c.loop-name.owed.items ++ filter_map (owed_by_facts n f) (Mail ∷ Push ∷ [])) c.facts-facts.ensures
    ∙ (ap (λ (ns : List Owed). ns ++ filter_map (owed_to past h name.id) (Mail ∷ Push ∷ [])) c.loop-name.invariant
    ∙ (owed_to_all-more past h names name ∙ ap (owed_to_all past h) (sym next))))
