use Rattle.std.proofs.Common.{Bool, cond, sym, ap, ◌∙◌, arith}
use Rattle.book_tables.specs.Bars.{is_of_pair, is_unbarred_of}
use Rattle.book_tables.proofs.Barring.{some-long, found-long}
use Rattle.book_tables.proofs.bars.cancelled_of_pair.Goals as goal

pub returns : goal.returns
returns c = λ order numbered in_order numbered_so.
    let waits = some-long c.unbarred_of_pair.result _ (c.unbarred_of_pair.ensures order numbered) in
    let cleared = found-long (is_of_pair c.args.pair c.args.way) c.args.cleared.now c.find_of_pair.result (c.find_of_pair.ensures.found in_order numbered_so) in
    let first = c.one_if.ensures ∙ ap (λ (b : Bool). cond b 1 0) c.is_some-waits.ensures ∙ sym waits in
    let second = c.one_if-2.ensures ∙ ap (λ (b : Bool). cond b 1 0) c.is_some-was_cleared.ensures ∙ sym cleared in
    omega (arith, first, second)
