use Rattle.std.proofs.Common.{◌∙◌}
use Rattle.notice_ledger.proofs.TurnLemmas.{turn-ready}
use Rattle.notice_ledger.proofs.turns.turn.Goals as goal

pub returns-in-Some : goal.returns-in-Some
returns-in-Some c = c.turn_behind.ensures ∙ turn-ready c.args.journal.now c.args.notice.now c.in-Some.spot c.in-Some.ensures
