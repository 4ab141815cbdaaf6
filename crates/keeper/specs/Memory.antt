-- A keeper in memory, as contracts see it.
use Rattle.std.specs.Prelude.{◌≡◌, ℕ, ◌+◌, ◌-◌, ◌^◌, List, min, Contains}
use Rattle.std.specs.Prelude.{Result, Err}
use Rattle.keeper.specs.declared.keeper.KeepFault.{KeepFault}
use Rattle.keeper.specs.declared.keeper.KeepFault.TheVariants.{Failed}
use Rattle.keeper.specs.declared.keeper.Kept.{Kept}

-- what it keeps, the numbers of the calls that fail, and how many calls were made and failed
pub record Memory : Type 0 where
  pub kept : Kept
  pub failing : List ℕ
  pub calls : ℕ
  pub faults : ℕ

-- a count one higher, which stays at the end of its type
abbrev pub counted : ℕ → ℕ
counted n = min (n + 1) (2 ^ 64 - 1)

-- the number of the next call is among those that fail
abbrev pub FailsNext : Memory → Type 0
FailsNext memory = Contains memory.failing (counted memory.calls)

-- the call has the next number, and the same calls fail after it
abbrev pub IsNextCall : Memory → Memory → Type 0
IsNextCall before now = (now.calls ≡ counted before.calls) × (now.failing ≡ before.failing)

-- the count of faults after a call, which is higher where the call failed
abbrev pub faults_after : {T : Type 0} → Result T KeepFault → ℕ → ℕ
faults_after (Err Failed) faults = counted faults
faults_after answer faults = faults
