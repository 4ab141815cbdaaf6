-- A rule of a request, tested.
use Rattle.std.specs.Prelude.{Bool}
use Rattle.chat_model.specs.declared.request.Refusal.{Refusal}
use Rattle.notice_ledger.specs.Past.Refusals.{Rule, rule}

-- a rule that was tested: whether it is broken, and its refusal
abbrev pub tested_rule : Bool × Refusal → Rule
tested_rule r = rule r.0 r.1
