use Rattle.std.proofs.Common.{◌∙◌, rules, tests}
use Rattle.std.specs.Prelude.{is_some}
use Rattle.std.proofs.lemmas.Iterator.{YieldsList-from_slice}
use Rattle.std.proofs.lemmas.Iterator.Consumers.{YieldsList-from_filter, count_from_yields_List}
use Rattle.std.proofs.lemmas.List.Sums.{length-filter}
use Rattle.chat_model.specs.declared.event.Stamped.{Stamped}
use Rattle.notice_ledger.specs.Past.Values.{person_of}
use Rattle.notice_ledger.proofs.values.user_additions.Goals as goal

pub returns : goal.returns
returns c =
    count_from_yields_List c.filter.result _ c.count.ensures.ran
    (YieldsList-from_filter _ (λ (s : Stamped). is_some (person_of s.event)) (YieldsList-from_slice c.args.past.now (cc)) c.filter.ensures.closure (λ x b q k. search (rules, tests)))
    ∙ length-filter (λ (s : Stamped). is_some (person_of s.event)) c.args.past.now
