-- What is kept of each message beside the message itself.
use Rattle.std.specs.Prelude.{ℕ, Bool, false, List}
use Rattle.std.specs.Option.{option_map_or}
use Rattle.notice_ledger.specs.Past.Values.{numbered}

-- the mark of a number, from 1, is there and set
abbrev pub is_marked : List Bool → ℕ → Bool
is_marked marks n = option_map_or (λ mark. mark) (numbered n marks) false
