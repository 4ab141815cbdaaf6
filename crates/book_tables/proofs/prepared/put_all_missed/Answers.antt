use Rattle.std.proofs.Common.{Bool, ◌++◌, List, take, get_or, sym, ap, ◌∙◌}
use Rattle.std.specs.List.{flat_map}
use Rattle.std.proofs.lemmas.List.{append_assoc, take_more}
use Rattle.chat_model.specs.declared.ids.DealNo.{DealNo}
use Rattle.chat_model.specs.declared.row.RowChange.{RowChange}
use Rattle.chat_model.specs.declared.trigger.Way.TheVariants.{Mail, Push}
use Rattle.book_tables.specs.declared.tables.Waiting.{Waiting}
use Rattle.book_tables.specs.Notices.{is_undecided_at, named_by, readied}
use Rattle.book_tables.specs.Prepared.{puts_where}
use Rattle.book_tables.proofs.Sought.{given-more}
use Rattle.book_tables.proofs.prepared.put_all_missed.Goals as goal

pub loop-deal-preserved : goal.loop-deal-preserved
loop-deal-preserved c = λ order.
    let u = c.args.user in let ks = c.args.deals.now in let i = c.loop-deal.deal-index in
    let none : DealNo = record { 0 = 0 } in let k = get_or ks i none in let start = c.args.changes.now.items in
    let f : (Waiting → Bool) → List RowChange = λ test. puts_where test readied c.args.waiting.now in
    let so_far = flat_map f (named_by u (take i ks)) in
    c.in_ok-put_missed-2.ensures order
    ∙ (ap (λ (cs : List RowChange). cs ++ f (is_undecided_at k u Push)) (c.in_ok-put_missed.ensures order ∙ ap (λ (cs : List RowChange). cs ++ f (is_undecided_at k u Mail)) (c.loop-deal.invariant order))
    ∙ (ap (λ (cs : List RowChange). cs ++ f (is_undecided_at k u Push)) (append_assoc start so_far (f (is_undecided_at k u Mail)))
    ∙ (append_assoc start (so_far ++ f (is_undecided_at k u Mail)) (f (is_undecided_at k u Push))
    ∙ ap (λ (cs : List RowChange). start ++ cs) (given-more f u (take i ks) k ∙ ap (λ ds. flat_map f (named_by u ds)) (sym (take_more ks i none c.loop-deal-test.true))))))
