use Rattle.std.proofs.Common.{take, get_or, sym, ap, ◌∙◌, subst}
use Rattle.std.proofs.lemmas.List.{take_more, take_all}
use Rattle.chat_model.specs.declared.trigger.Way.TheVariants.{Mail, Push}
use Rattle.book_tables.specs.declared.pushes.PushKey.{PushKey}
use Rattle.book_tables.specs.Notices.{IsInOrder, AreNumbered}
use Rattle.book_tables.specs.Bars.{is_of_pair, is_one_of_pairs, barred_where}
use Rattle.book_tables.proofs.Barring.{bar-next, nobody-barred, order-barred, numbered-barred}
use Rattle.book_tables.proofs.bars.bar_all_waiting.Goals as goal

pub loop-pair-init : goal.loop-pair-init
loop-pair-init c = λ order numbered. sym (nobody-barred c.args.cause c.args.waiting.now.items)

pub loop-pair-preserved : goal.loop-pair-preserved
loop-pair-preserved c = λ order numbered.
    let ws = c.args.waiting.now.items in let cause = c.args.cause in let ps = c.args.pairs.now in let i = c.loop-pair.pair-index in
    let none : PushKey = record { user = record { 0 = 0 }; message = record { 0 = 0 } } in let p = get_or ps i none in
    let so_far = c.loop-pair.invariant order numbered in
    let order_now = subst IsInOrder (sym so_far) (order-barred (is_one_of_pairs (take i ps)) cause ws order) in
    let numbered_now = subst AreNumbered (sym so_far) (numbered-barred (is_one_of_pairs (take i ps)) cause ws numbered) in
    let mail = c.bar_waiting.ensures order_now numbered_now in
    c.bar_waiting-in-loop-pair.ensures
    (subst IsInOrder (sym mail) (order-barred (is_of_pair p Mail) cause c.loop-pair.waiting.items order_now))
    (subst AreNumbered (sym mail) (numbered-barred (is_of_pair p Mail) cause c.loop-pair.waiting.items numbered_now))
    ∙ (ap (barred_where (is_of_pair p Push) cause) (mail ∙ ap (barred_where (is_of_pair p Mail) cause) so_far)
    ∙ (bar-next (take i ps) p cause ws ∙ ap (λ qs. barred_where (is_one_of_pairs qs) cause ws) (sym (take_more ps i none c.loop-pair-test.true))))

pub returns : goal.returns
returns c = λ order numbered.
    c.loop-pair.invariant order numbered ∙ ap (λ qs. barred_where (is_one_of_pairs qs) c.args.cause c.args.waiting.now.items) (take_all c.loop-pair.pair-index c.args.pairs.now c.loop-pair-test.false)
