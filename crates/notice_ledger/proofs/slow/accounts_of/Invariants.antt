use Rattle.std.proofs.Common.{◌≡◌, map, take}
use Rattle.notice_ledger.specs.Plain.{account_kept}
use Rattle.notice_ledger.proofs.slow.accounts_of.Given as goal

abbrev pub invariant-loop-notice : goal.invariant-loop-notice
invariant-loop-notice l = l.accounts.items ≡ map (account_kept l.events) (take l.notice-index l.notices)
