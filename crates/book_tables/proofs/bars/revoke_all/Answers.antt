use Rattle.std.proofs.Common.{take, get_or, sym, ap, ◌∙◌, subst}
use Rattle.std.proofs.lemmas.List.{take_more, take_all}
use Rattle.chat_model.specs.declared.trigger.Way.TheVariants.{Push}
use Rattle.book_tables.specs.declared.pushes.PushKey.{PushKey}
use Rattle.book_tables.specs.Notices.{barred_by, IsInOrder, AreNumbered}
use Rattle.book_tables.specs.Bars.{is_of_pair, is_pushed_pair, revoked_where}
use Rattle.book_tables.proofs.Sought.{set-only, none-changed}
use Rattle.book_tables.proofs.Barring.{revoke-next, nobody-revoked, order-revoked, numbered-revoked, only-got}
use Rattle.book_tables.proofs.bars.revoke_all.Goals.{in-Some, in_default}
use Rattle.book_tables.proofs.bars.revoke_all.Goals as goal

pub loop-pair-init : goal.loop-pair-init
loop-pair-init c = λ order numbered. sym (nobody-revoked c.args.cause c.args.active.now)

pub loop-pair-preserved : goal.loop-pair-preserved
loop-pair-preserved c = λ order numbered.
    let ws = c.args.active.now in let cause = c.args.cause in let ps = c.args.pairs.now in let i = c.loop-pair.pair-index in
    let none : PushKey = record { user = record { 0 = 0 }; message = record { 0 = 0 } } in let p = get_or ps i none in
    let so_far = c.loop-pair.invariant order numbered in
    let order_now = subst IsInOrder (sym so_far) (order-revoked (is_pushed_pair (take i ps)) cause ws order) in
    let numbered_now = subst AreNumbered (sym so_far) (numbered-revoked (is_pushed_pair (take i ps)) cause ws numbered) in
    let now = c.loop-pair.active in let test = is_of_pair p Push in
    (elim c.match-find_of_pair.branch [
      | in-Some w ↦ w.active-is ∙ set-only test (barred_by cause) now w.in-Some.place _ w.barred_by.result (w.in-Some.ensures.found order_now numbered_now)
          (only-got test now w.in-Some.place _ (w.in-Some.ensures.found order_now numbered_now)) w.barred_by.ensures
      | in_default w ↦ w.active-is ∙ sym (none-changed test (barred_by cause) now (w.in_default.ensures.found order_now numbered_now))
    ])
    ∙ (ap (revoked_where (is_of_pair p Push) cause) so_far
    ∙ (revoke-next (take i ps) p cause ws ∙ ap (λ qs. revoked_where (is_pushed_pair qs) cause ws) (sym (take_more ps i none c.loop-pair-test.true))))

pub returns : goal.returns
returns c = λ order numbered.
    c.loop-pair.invariant order numbered ∙ ap (λ qs. revoked_where (is_pushed_pair qs) c.args.cause c.args.active.now) (take_all c.loop-pair.pair-index c.args.pairs.now c.loop-pair-test.false)
