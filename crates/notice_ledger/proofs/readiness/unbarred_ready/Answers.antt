use Rattle.std.proofs.Common.{cond, Some, None, sym, ap, ◌∙◌}
use Rattle.std.proofs.lemmas.List.{length-take-le}
use Rattle.notice_ledger.proofs.SlowBars.{spot-placed, ready-unbarred, unready-unbarred}
use Rattle.notice_ledger.proofs.readiness.unbarred_ready.Goals as goal
use Rattle.notice_ledger.proofs.readiness.unbarred_ready.Goals.{in_default-via-in-Some+else-is_unbarred, in_default-via-in_default}

pub slice_bounds-is_unbarred-end : goal.slice_bounds-is_unbarred-end
slice_bounds-is_unbarred-end c = sym (length-take-le c.in-Some.spot.place c.args.journal.now (spot-placed c.args.journal.now c.args.notice.now c.in-Some.spot c.in-Some.ensures))

pub returns-in-Some : goal.returns-in-Some
returns-in-Some c =
    ap (λ b. cond b (Some c.in-Some.spot) None) (sym c.if-is_unbarred.true)
    ∙ ready-unbarred c.args.journal.now c.args.notice.now c.in-Some.spot c.is_unbarred.result c.in-Some.ensures c.is_unbarred.ensures

pub returns-in_default : goal.returns-in_default
returns-in_default c = elim c.in_default.branch [
  | in_default-via-in-Some+else-is_unbarred w ↦
      ap (λ b. cond b (Some w.in-Some.spot) None) (sym w.if-is_unbarred.false)
      ∙ ready-unbarred c.args.journal.now c.args.notice.now w.in-Some.spot w.is_unbarred.result w.in-Some.ensures w.is_unbarred.ensures
  | in_default-via-in_default w ↦ unready-unbarred c.args.journal.now c.args.notice.now w.in_default.ensures
]
