use Rattle.std.proofs.Common.{◌≡◌, ◌^◌, ◌<◌, drop}
use Rattle.chat_model.proofs.Digits.{number_from}
use Rattle.chat_model.proofs.number.number_of.Given as goal

abbrev pub invariant-loop-digit : goal.invariant-loop-digit
invariant-loop-digit l =
    (number_from l.value (drop l.digit-index l.digits) ≡ number_from 0 l.digits) × (l.value < 10 ^ l.digit-index)
