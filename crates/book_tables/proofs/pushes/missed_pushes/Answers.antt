use Rattle.std.proofs.Common.{◌++◌, List, map, take, get_or, sym, ap, ◌∙◌}
use Rattle.std.specs.Prelude.{filter}
use Rattle.std.specs.List.{flat_map}
use Rattle.std.proofs.lemmas.List.{take_more, take_all}
use Rattle.chat_model.specs.declared.ids.DealNo.{DealNo}
use Rattle.chat_model.specs.declared.trigger.Way.TheVariants.{Push}
use Rattle.book_tables.specs.declared.pushes.PushKey.{PushKey}
use Rattle.book_tables.specs.Notices.{is_undecided_at}
use Rattle.book_tables.specs.Pushes.{push_of}
use Rattle.book_tables.proofs.Steps.{flat_map-push}
use Rattle.book_tables.proofs.pushes.missed_pushes.Goals as goal

pub loop-deal-preserved : goal.loop-deal-preserved
loop-deal-preserved c = λ order.
    let ks = c.args.deals.now in let i = c.loop-deal.deal-index in
    let none : DealNo = record { 0 = 0 } in let k = get_or ks i none in
    let found : DealNo → List PushKey = λ k. map push_of (filter (is_undecided_at k c.args.user Push) c.args.waiting.now) in
    c.in_ok-add_missed.ensures order
    ∙ (ap (λ (ps : List PushKey). ps ++ found k) (c.loop-deal.invariant order)
    ∙ (sym (flat_map-push found (take i ks) k) ∙ ap (flat_map found) (sym (take_more ks i none c.loop-deal-test.true))))

pub returns : goal.returns
returns c = λ order.
    c.loop-deal.invariant order
    ∙ ap (flat_map (λ k. map push_of (filter (is_undecided_at k c.args.user Push) c.args.waiting.now))) (take_all c.loop-deal.deal-index c.args.deals.now c.loop-deal-test.false)
