use Rattle.std.proofs.Common.{List, [], ◌∷◌, ◌++◌, ap, sym, ◌∙◌, arith, subst}
use Rattle.std.specs.Prelude.{map}
use Rattle.chat_model.specs.declared.deal.Outcome.{Outcome}
use Rattle.chat_model.specs.declared.deal.Outcome.TheVariants.{Dealt}
use Rattle.missed_hook.specs.Orderly.{IsOrderly}
use Rattle.presence_queues.specs.Fields.{IsWaiting, WaitingSeen, waiting_of, waiting_seen, with_live}
use Rattle.presence_queues.proofs.InPlace.{written_back_twice}
use Rattle.presence_queues.proofs.Sending.{waits_alike, waits_dealt, when_ok}
use Rattle.presence_queues.proofs.sender.Sender.deal.Goals as goal

pub invariant_of-self-2 : goal.invariant_of-self-2
invariant_of-self-2 g c =
    subst (λ (ws : List WaitingSeen). IsWaiting (g.T.Post.sent c.post.new.self) ws)
    (sym (written_back_twice waiting_of (with_live c.args.verdicts.now c.args.deal) c.enter_live.new.waiting.len c.enter_live.new.waiting.items c.reserve_live.new.waiting c.add_live.new.waiting
    (omega arith)
    (c.reserve_live.ensures.same ∙ ap waiting_seen c.deref_mut.ensures.value)
    (c.add_live.ensures ∙ ap (λ ws. map (with_live c.args.verdicts.now c.args.deal) (waiting_seen ws)) c.deref_mut-2.ensures.value)))
    (waits_dealt (g.T.Post.sent c.self.inside.pipe) (g.T.Post.sent c.post.new.self) (waiting_seen c.enter_live.new.waiting.items) c.args.deal c.args.verdicts.now
    (waits_alike (g.T.Post.sent c.self.inside.pipe) (waiting_seen c.self.inside.waiting.items) (waiting_seen c.enter_live.new.waiting.items) c.self.invariant c.enter_live.ensures.same)
    c.in_ok-enter_live.ensures.entered
    (subst (λ (l : List Outcome). IsOrderly (l ++ Dealt c.args.deal c.args.verdicts.now ∷ [])) (sym (ap (λ s. s.sent) c.self.view_is)) c.requires.orderly)
    (when_ok c.post.result c.is_err.result _ c.is_err.ensures.value c.if-is_err.false c.post.ensures.ok
    ∙ ap (λ vs. g.T.Post.sent c.self.inside.pipe ++ Dealt c.args.deal vs ∷ []) (c.from.ensures ∙ c.in_ok-sent.ensures.items)))
