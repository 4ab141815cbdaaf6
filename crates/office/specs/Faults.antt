-- A keeper's fault as the office's, and what an answer says of the keeper's count of faults.
use Rattle.std.specs.Prelude.{ℕ, Result, Err}
use Rattle.keeper.specs.declared.keeper.KeepFault.{KeepFault}
use Rattle.keeper.specs.declared.keeper.KeepFault.TheVariants as keeps
use Rattle.office.specs.declared.answer.StepFault.{StepFault}
use Rattle.office.specs.declared.answer.StepFault.TheVariants as step
use Rattle.office.specs.declared.answer.AskFault.{AskFault}
use Rattle.office.specs.declared.answer.AskFault.TheVariants as ask
use Rattle.office.specs.declared.answer.StartFault.{StartFault}
use Rattle.office.specs.declared.answer.StartFault.TheVariants as start

-- why a step was not made, where the keeper did not do its work
abbrev pub step_fault : KeepFault → StepFault
step_fault keeps.Failed = step.KeeperFault
step_fault keeps.OutOfMemory = step.OutOfMemory

-- why a request was not granted, where its step was not made
abbrev pub ask_fault : StepFault → AskFault
ask_fault step.KeeperFault = ask.KeeperFault
ask_fault step.OutOfMemory = ask.OutOfMemory

-- why the office did not start, where its first step was not made
abbrev pub start_fault : StepFault → StartFault
start_fault step.KeeperFault = start.KeeperFault
start_fault step.OutOfMemory = start.OutOfMemory

-- how many faults of the keeper an answer tells of: one where the keeper failed, else none; the same at a step, at a
-- request and at a start
abbrev pub faults_in_step : {T : Type 0} → Result T StepFault → ℕ
faults_in_step (Err step.KeeperFault) = 1
faults_in_step _ = 0

abbrev pub faults_in_ask : {T : Type 0} → Result T AskFault → ℕ
faults_in_ask (Err ask.KeeperFault) = 1
faults_in_ask _ = 0

abbrev pub faults_in_start : StartFault → ℕ
faults_in_start start.KeeperFault = 1
faults_in_start _ = 0
