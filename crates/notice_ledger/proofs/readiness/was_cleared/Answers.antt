use Rattle.std.proofs.Common.{◌&&◌, sym, ap, ◌∙◌}
use Rattle.std.specs.Prelude.{is_some, nat_lt}
use Rattle.chat_model.specs.declared.event.Stamped.{Stamped}
use Rattle.notice_ledger.specs.Past.Owed.{clears}
use Rattle.notice_ledger.proofs.Appended.{first_behind-nil}
use Rattle.notice_ledger.proofs.Search.{none-next, found-next, none-all}
use Rattle.notice_ledger.proofs.readiness.was_cleared.Goals as goal

pub loop-i-init : goal.loop-i-init
loop-i-init c = let n = c.args.notice.now in first_behind-nil n.place (λ o. clears n.user n.deal o.event)

pub loop-i-preserved : goal.loop-i-preserved
loop-i-preserved c =
    let n = c.args.notice.now in
    let same = ap (λ (t : Stamped). nat_lt n.place c.loop-i.i && clears n.user n.deal t.event) c.index-journal-i.is in
    none-next n.place (λ o. clears n.user n.deal o.event) c.args.journal.now c.loop-i.i c.index-journal-i.result c.loop-i-test.true c.index-journal-i.is c.loop-i.invariant (same ∙ (sym c.clears_behind.ensures ∙ c.if-clears_behind.false))

pub returns-then-clears_behind : goal.returns-then-clears_behind
returns-then-clears_behind c =
    let n = c.args.notice.now in
    let same = ap (λ (t : Stamped). nat_lt n.place c.loop-i.i && clears n.user n.deal t.event) c.index-journal-i.is in
    sym (ap is_some (found-next n.place (λ o. clears n.user n.deal o.event) c.args.journal.now c.loop-i.i c.index-journal-i.result c.loop-i-test.true c.index-journal-i.is c.loop-i.invariant (same ∙ (sym c.clears_behind.ensures ∙ c.if-clears_behind.true))))

pub returns : goal.returns
returns c = let n = c.args.notice.now in sym (ap is_some (none-all n.place (λ o. clears n.user n.deal o.event) c.args.journal.now c.loop-i.i c.loop-i-test.false c.loop-i.invariant))
