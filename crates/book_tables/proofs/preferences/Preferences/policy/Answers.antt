use Rattle.std.proofs.Common.{ap}
use Rattle.std.specs.Prelude.{Option, unwrap_or}
use Rattle.chat_model.specs.declared.policy.Policy.{Policy}
use Rattle.chat_model.specs.declared.policy.Policy.TheVariants.{Inherit}
use Rattle.book_tables.proofs.preferences.Preferences.policy.Goals as goal

pub returns-in-Some : goal.returns-in-Some
returns-in-Some c = ap (λ (o : Option Policy). unwrap_or o Inherit) c.in-Some.ensures.value

pub returns-in-None : goal.returns-in-None
returns-in-None c = ap (λ (o : Option Policy). unwrap_or o Inherit) c.in-None.ensures.value
