use Rattle.std.proofs.Common.{◌≡◌, take}
use Rattle.std.specs.List.{flat_map}
use Rattle.notice_ledger.specs.Plain.{removals_to_kept}
use Rattle.notice_ledger.proofs.revocations.removals_at.Given as goal

abbrev pub invariant-loop-name : goal.invariant-loop-name
invariant-loop-name l = l.items.items ≡ flat_map (λ name. removals_to_kept l.revoked l.place name.id) (take l.name-index l.users)
