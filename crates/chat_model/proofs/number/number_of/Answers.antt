use Rattle.std.proofs.Common.{◌≤◌, length, sym, ap, ◌∙◌, arith}
use Rattle.std.proofs.lemmas.Bool.Decides.{nat_tests}
use Rattle.std.proofs.lemmas.List.{drop_all}
use Rattle.chat_model.proofs.Digits.{number_from, number_of-small, below_power}
use Rattle.chat_model.proofs.number.number_of.Goals as goal

pub overflow_mul-value : goal.overflow_mul-value
overflow_mul-value c =
    omega (arith, below_power c.loop-digit.value c.loop-digit.digit-index c.loop-digit.invariant.1 (omega arith))

pub overflow_add-value : goal.overflow_add-value
overflow_add-value c =
    omega (arith, below_power c.loop-digit.value c.loop-digit.digit-index c.loop-digit.invariant.1 (omega arith))

pub returns : goal.returns
returns c =
    let some : 1 ≤ length c.args.digits.now = grind (arith, nat_tests) in
    sym (ap (number_from c.loop-digit.value) (drop_all c.loop-digit.digit-index c.args.digits.now c.loop-digit-test.false)) ∙ c.loop-digit.invariant.0 ∙ sym (number_of-small c.args.digits.now some c.if-digits-gt-MOST_DIGITS.false)
