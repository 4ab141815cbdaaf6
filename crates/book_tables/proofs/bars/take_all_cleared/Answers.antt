use Rattle.std.proofs.Common.{not, take, get_or, sym, ap, ◌∙◌, subst}
use Rattle.std.specs.Prelude.{filter}
use Rattle.std.proofs.lemmas.List.{take_more}
use Rattle.chat_model.specs.declared.trigger.Way.TheVariants.{Mail, Push}
use Rattle.book_tables.specs.declared.pushes.PushKey.{PushKey}
use Rattle.book_tables.specs.declared.tables.Waiting.{Waiting}
use Rattle.book_tables.specs.Notices.{IsInOrder, AreNumbered}
use Rattle.book_tables.specs.Bars.{is_of_pair, is_one_of_pairs}
use Rattle.book_tables.proofs.Sought.{order-filter, numbered-filter}
use Rattle.book_tables.proofs.Barring.{take-pair, no-pair}
use Rattle.book_tables.proofs.bars.take_all_cleared.Goals as goal

pub loop-pair-init : goal.loop-pair-init
loop-pair-init c = λ order numbered. sym (no-pair c.args.cleared.now.items)

pub loop-pair-preserved : goal.loop-pair-preserved
loop-pair-preserved c = λ order numbered.
    let ws = c.args.cleared.now.items in let ps = c.args.pairs.now in let i = c.loop-pair.pair-index in
    let none : PushKey = record { user = record { 0 = 0 }; message = record { 0 = 0 } } in let p = get_or ps i none in
    let so_far = c.loop-pair.invariant order numbered in
    let others = λ (w : Waiting). not (is_one_of_pairs (take i ps) w) in
    let not_mail = λ (w : Waiting). not (is_of_pair p Mail w) in
    let order_now = subst IsInOrder (sym so_far) (order-filter others ws order) in
    let numbered_now = subst AreNumbered (sym so_far) (numbered-filter others ws numbered) in
    let mail = c.take_of_pair.ensures order_now numbered_now in
    c.take_of_pair-in-loop-pair.ensures
    (subst IsInOrder (sym mail) (order-filter not_mail c.loop-pair.cleared.items order_now))
    (subst AreNumbered (sym mail) (numbered-filter not_mail c.loop-pair.cleared.items numbered_now))
    ∙ (ap (filter (λ (w : Waiting). not (is_of_pair p Push w))) (mail ∙ ap (filter not_mail) so_far)
    ∙ (take-pair (take i ps) p ws ∙ ap (λ qs. filter (λ (w : Waiting). not (is_one_of_pairs qs w)) ws) (sym (take_more ps i none c.loop-pair-test.true))))
