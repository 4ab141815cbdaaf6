use Rattle.std.proofs.Common.{refl, sym, ap, ◌∙◌, cond}
use Rattle.chat_model.specs.declared.deal.Verdict.TheVariants.{Idle, Live}
use Rattle.presence_queues.proofs.Hubs.{verdict_fields}
use Rattle.presence_queues.proofs.hub.Hub.verdict.Goals as goal

pub returns-then-is_live : goal.returns-then-is_live
returns-then-is_live g c =
    ap (λ b. cond b Live Idle) (sym c.if-is_live.true)
    ∙ verdict_fields _ c.args.self.now c.self.inside.queues.items c.deref.result.now c.deref-2.result.now c.args.user c.args.now c.is_live.result c.self.view_is refl c.deref.ensures.value c.deref-2.ensures.value c.is_live.ensures

pub returns-else-is_live : goal.returns-else-is_live
returns-else-is_live g c =
    ap (λ b. cond b Live Idle) (sym c.if-is_live.false)
    ∙ verdict_fields _ c.args.self.now c.self.inside.queues.items c.deref.result.now c.deref-2.result.now c.args.user c.args.now c.is_live.result c.self.view_is refl c.deref.ensures.value c.deref-2.ensures.value c.is_live.ensures
