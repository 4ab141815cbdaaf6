use Rattle.std.proofs.Common.{sym, subst}
use Rattle.chat_model.specs.Rows.{IsAscending}
use Rattle.notice_ledger.specs.Lawful.{lawful}
use Rattle.notice_ledger.proofs.RowOrder.{rows-ascending}
use Rattle.office.proofs.load.replay_kept.Goals as goal

pub first_difference-requires-clause-replayed : goal.first_difference-requires-clause-replayed
first_difference-requires-clause-replayed c =
    let j = c.as_slice.result.now in subst IsAscending (sym (c.in-Ok-rows.ensures j c.in-Ok.ensures)) (rows-ascending (lawful j))
