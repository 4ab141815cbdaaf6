use Rattle.std.proofs.Common.{List, ◌++◌, ap, ◌∙◌}
use Rattle.std.specs.Prelude.{option_to_list}
use Rattle.chat_model.specs.declared.trigger.Way.TheVariants.{Push}
use Rattle.notice_ledger.specs.declared.owed.Owed.{Owed}
use Rattle.notice_ledger.specs.Plain.{owed_by_facts}
use Rattle.notice_ledger.proofs.OwedLemmas.{both_added}
use Rattle.notice_ledger.proofs.owed.Owed.add_both.Goals as goal

pub returns : goal.returns
returns c =
    let by = owed_by_facts c.args.self.now c.args.facts.now in
    c.in_ok-add_by-2.ensures
    ∙ (ap (λ (ns : List Owed). ns ++ option_to_list (by Push)) c.in_ok-add_by.ensures ∙ both_added c.args.owed.now.items by)
