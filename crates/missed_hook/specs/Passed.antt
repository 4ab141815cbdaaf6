-- What went through a pipe.
use Rattle.std.specs.Prelude.{◌≡◌, List, ◌++◌, length, slice_get, Option}
use Rattle.std.specs.Option.{option_to_list}
use Rattle.chat_model.specs.declared.deal.Outcome.{Outcome}

-- the outcomes that were sent, and of these the first ones, which were taken
pub record Passed : Type 0 where
  pub sent : List Outcome
  pub taken : List Outcome

-- the first outcome sent that isn't taken, and none exactly where all were taken
abbrev pub next_untaken : Passed → Option Outcome
next_untaken p = slice_get p.sent (length p.taken)

-- the next outcome is taken, if there is one, and nothing else changes
pub record TakesNext (before : Passed) (answer : Option Outcome) (after : Passed) : Type 0 where
  pub is : answer ≡ next_untaken before
  pub left : after ≡ record before { taken = before.taken ++ option_to_list answer }
