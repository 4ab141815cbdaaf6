use Rattle.std.proofs.Common.{◌≡◌, ◌≤◌}
use Rattle.std.specs.Prelude.{count_by}
use Rattle.notice_ledger.specs.Past.Values.{subscribed}
use Rattle.notice_ledger.proofs.There.{users_to}
use Rattle.notice_ledger.proofs.values.subscriber_count.Given as goal

abbrev pub invariant-loop-i : goal.invariant-loop-i
invariant-loop-i l = record { counted : l.count ≡ count_by (λ u. subscribed l.past u l.channel) (users_to l.i); within : l.count ≤ l.i }
