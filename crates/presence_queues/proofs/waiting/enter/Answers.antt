use Rattle.std.proofs.Common.{ap, sym, ◌∙◌, ◌==◌}
use Rattle.std.specs.List.{list_any}
use Rattle.std.proofs.lemmas.List.{map-append}
use Rattle.presence_queues.specs.Fields.{deals_of, waiting_of, waiting_seen}
use Rattle.presence_queues.proofs.Entries.{any-seen, deals_of-push}
use Rattle.presence_queues.proofs.waiting.enter.Goals as goal

pub returns-in_ok-push-clause-same : goal.returns-in_ok-push-clause-same
returns-in_ok-push-clause-same c = λ u.
    ap (λ ws. deals_of u (waiting_seen ws)) c.in_ok-push.ensures.items
    ∙ (ap (deals_of u) (map-append waiting_of c.args.waiting.now.items _)
    ∙ deals_of-push u (waiting_seen c.args.waiting.now.items) _ c.new.ensures.items)

pub returns-else-not-has_entry-clause-entered : goal.returns-else-not-has_entry-clause-entered
returns-else-not-has_entry-clause-entered c =
    any-seen waiting_of (λ w. w.user.0 == c.args.user.0) c.args.waiting.now.items
    ∙ (ap (list_any (λ w. w.user.0 == c.args.user.0)) (sym c.deref.ensures.value) ∙ (sym c.has_entry.ensures ∙ c.if-not-has_entry.false))
