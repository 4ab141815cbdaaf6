use Rattle.std.proofs.Common.{◌≡◌, None, take}
use Rattle.chat_model.specs.Outcomes.{is_dealt}
use Rattle.notice_ledger.specs.Past.Journal.{absorbs}
use Rattle.notice_ledger.specs.Past.Journal.{first_behind}
use Rattle.notice_ledger.proofs.readiness.was_dealt.Given as goal

abbrev pub invariant-loop-i : goal.invariant-loop-i
invariant-loop-i l = first_behind l.notice.place (λ o. absorbs (is_dealt l.notice.deal) o.event) (take l.i l.journal) ≡ None
