use Rattle.std.proofs.Common.{take}
use Rattle.std.specs.List.{zip}
use Rattle.mail_batches.proofs.Leasts.{Least}
use Rattle.mail_batches.proofs.by_user.ByUser+u64.least.Given as goal

abbrev pub invariant-loop-i : goal.invariant-loop-i
invariant-loop-i l = Least (take l.i (zip l.self-inside.users.items l.self-inside.values.items)) l.first
