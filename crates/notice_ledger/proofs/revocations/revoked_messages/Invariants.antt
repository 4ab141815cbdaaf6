use Rattle.std.proofs.Common.{◌≡◌, ◌&&◌, ◌==◌, map, filter, take}
use Rattle.notice_ledger.proofs.revocations.revoked_messages.Given as goal

abbrev pub invariant-loop-push : goal.invariant-loop-push
invariant-loop-push l = l.messages ≡ map (λ p. p.message) (filter (λ p. p.user.0 == l.user.0 && p.place == l.place) (take l.push-index l.revoked))
