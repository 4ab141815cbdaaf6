use Rattle.std.proofs.Common.{refl, sym, ap, ◌∙◌}
use Rattle.chat_model.specs.declared.event.Stamped.{Stamped}
use Rattle.chat_model.specs.declared.request.Request.{Request}
use Rattle.notice_ledger.specs.Lawful.{is_lawful_after}
use Rattle.chat_model.specs.declared.event.Event.TheVariants.{Asked}
use Rattle.office.proofs.Offices.{asked_lawful, no_refusal}
use Rattle.office.proofs.Reaching.{reached-kept}
use Rattle.office.proofs.office.Office.ask.Goals as goal

pub record-requires : goal.record-requires
record-requires g c =
    let j = c.args.self.now.journal in
    let lawful = asked_lawful j c.args.now c.stamp-at.result c.args.request (sym c.refusal.ensures ∙ no_refusal c.refusal.result c.in_default.not-Some) c.stamp-at.ensures in
    record { lawful = ap (λ (r : Request). is_lawful_after j (record { at = c.stamp-at.result; event = Asked r })) c.in_order.ensures ∙ lawful }

pub returns-clause-reached : goal.returns-clause-reached
returns-clause-reached g c =
    let s : Stamped = record { at = c.stamp-at.result; event = Asked c.in_order.result } in
    reached-kept c.args.self.now.journal c.record.new.self.journal s c.args.self.now.in_hand c.record.new.self.in_hand refl refl c.in_ok-record.ensures.ok c.record.ensures.in_hand
