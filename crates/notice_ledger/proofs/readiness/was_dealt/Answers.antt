use Rattle.std.proofs.Common.{◌&&◌, sym, ap, ◌∙◌}
use Rattle.std.specs.Prelude.{is_some, nat_lt}
use Rattle.chat_model.specs.declared.event.Stamped.{Stamped}
use Rattle.chat_model.specs.Outcomes.{is_dealt}
use Rattle.notice_ledger.specs.Past.Journal.{absorbs}
use Rattle.notice_ledger.proofs.Appended.{first_behind-nil}
use Rattle.notice_ledger.proofs.Search.{none-next, found-next, none-all}
use Rattle.notice_ledger.proofs.readiness.was_dealt.Goals as goal

pub loop-i-init : goal.loop-i-init
loop-i-init c = let n = c.args.notice.now in first_behind-nil n.place (λ o. absorbs (is_dealt n.deal) o.event)

pub loop-i-preserved : goal.loop-i-preserved
loop-i-preserved c =
    let n = c.args.notice.now in
    let same = ap (λ (t : Stamped). nat_lt n.place c.loop-i.i && absorbs (is_dealt n.deal) t.event) c.index-journal-i.is in
    none-next n.place (λ o. absorbs (is_dealt n.deal) o.event) c.args.journal.now c.loop-i.i c.index-journal-i.result c.loop-i-test.true c.index-journal-i.is c.loop-i.invariant (same ∙ (sym c.deals_behind.ensures ∙ c.if-deals_behind.false))

pub returns-then-deals_behind : goal.returns-then-deals_behind
returns-then-deals_behind c =
    let n = c.args.notice.now in
    let same = ap (λ (t : Stamped). nat_lt n.place c.loop-i.i && absorbs (is_dealt n.deal) t.event) c.index-journal-i.is in
    sym (ap is_some (found-next n.place (λ o. absorbs (is_dealt n.deal) o.event) c.args.journal.now c.loop-i.i c.index-journal-i.result c.loop-i-test.true c.index-journal-i.is c.loop-i.invariant (same ∙ (sym c.deals_behind.ensures ∙ c.if-deals_behind.true))))

pub returns : goal.returns
returns c = let n = c.args.notice.now in sym (ap is_some (none-all n.place (λ o. absorbs (is_dealt n.deal) o.event) c.args.journal.now c.loop-i.i c.loop-i-test.false c.loop-i.invariant))
