use Rattle.std.proofs.Common.{take, get_or, sym, ap, ◌∙◌, arith}
use Rattle.std.proofs.lemmas.List.{take_more}
use Rattle.book_tables.specs.declared.pushes.PushKey.{PushKey}
use Rattle.book_tables.specs.Bars.{cancelled_of_pairs}
use Rattle.book_tables.proofs.Barring.{cancelled-more}
use Rattle.book_tables.proofs.bars.cancelled_by.Goals as goal

pub loop-pair-preserved : goal.loop-pair-preserved
loop-pair-preserved c = λ order numbered in_order numbered_so.
    let waiting = c.args.waiting.now in let cleared = c.args.cleared.now in let ps = c.args.pairs.now in let i = c.loop-pair.pair-index in
    let none : PushKey = record { user = record { 0 = 0 }; message = record { 0 = 0 } } in let p = get_or ps i none in
    let more = ap (cancelled_of_pairs waiting cleared) (take_more ps i none c.loop-pair-test.true) ∙ cancelled-more waiting cleared (take i ps) p in
    let so_far = c.loop-pair.invariant order numbered in_order numbered_so in
    let mail = c.cancelled_of_pair.ensures order numbered in_order numbered_so in
    let push = c.cancelled_of_pair-in-loop-pair.ensures order numbered in_order numbered_so in
    let first = c.saturating_add.ensures in let second = c.saturating_add-count.ensures in
    omega (arith, more, so_far, mail, push, first, second)
