use Rattle.std.proofs.Common.{◌+◌, ap, ◌∙◌}
use Rattle.std.specs.Prelude.{option_map}
use Rattle.chat_model.specs.declared.settings.Settings.{Settings}
use Rattle.notice_ledger.specs.declared.readiness.Spot.{Spot}
use Rattle.notice_ledger.specs.Past.Values.{settings}
use Rattle.notice_ledger.proofs.TurnLemmas.{due-first}
use Rattle.notice_ledger.proofs.due.due.Goals as goal

pub returns : goal.returns
returns c =
    let j = c.args.journal.now in let u = c.args.user in
    c.first_moment.ensures
    ∙ (ap (λ (s : Settings). option_map (λ (f : Spot). f.at + s.period) c.first_ready-first.result) c.settings.ensures
    ∙ (ap (option_map (λ (f : Spot). f.at + (settings j u).period)) c.first_ready-first.ensures
    ∙ due-first j u c.deref.result.now (c.deref.ensures.value ∙ c.in_ok-rows.ensures)))
