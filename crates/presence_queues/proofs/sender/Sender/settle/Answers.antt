use Rattle.std.proofs.Common.{List, [], ◌∷◌, ◌++◌, ap, sym, ◌∙◌, arith, subst}
use Rattle.std.specs.Prelude.{map}
use Rattle.chat_model.specs.declared.deal.Outcome.{Outcome}
use Rattle.missed_hook.specs.Orderly.{IsOrderly}
use Rattle.presence_queues.specs.Fields.{IsWaiting, WaitingSeen, forgotten, waiting_of, waiting_seen}
use Rattle.presence_queues.specs.Steps.{and_sent, outcome_by}
use Rattle.presence_queues.proofs.InPlace.{written_back_once}
use Rattle.presence_queues.proofs.Sending.{some_of, waits_settled, when_ok}
use Rattle.presence_queues.proofs.sender.Sender.settle.Goals as goal

pub invariant_of-self-2 : goal.invariant_of-self-2
invariant_of-self-2 g c =
    subst (λ (ws : List WaitingSeen). IsWaiting (g.T.Post.sent c.post.new.self) ws)
    (sym (written_back_once waiting_of (forgotten c.args.user c.args.gone.now) c.self.inside.waiting.len c.self.inside.waiting.items c.forget.new.waiting
    (omega arith)
    (c.forget.ensures ∙ ap (λ ws. map (forgotten c.args.user c.args.gone.now) (waiting_seen ws)) c.deref_mut.ensures.value)))
    (waits_settled (g.T.Post.sent c.self.inside.pipe) (g.T.Post.sent c.post.new.self) (waiting_seen c.self.inside.waiting.items) c.args.user c.args.by c.args.gone.now
    (some_of c.args.gone.now c.is_empty.result c.is_empty.ensures c.if-is_empty.false)
    c.self.invariant
    (subst (λ (l : List Outcome). IsOrderly (and_sent l (outcome_by c.args.user c.args.by) c.args.gone.now)) (sym (ap (λ s. s.sent) c.self.view_is)) c.requires.orderly)
    (when_ok c.post.result c.is_err.result _ c.is_err.ensures.value c.if-is_err.false c.post.ensures.ok
    ∙ ap (λ o. g.T.Post.sent c.self.inside.pipe ++ o ∷ []) (c.settled.ensures ∙ ap (outcome_by c.args.user c.args.by) (c.from.ensures ∙ c.in_ok-deals.ensures.items))))
