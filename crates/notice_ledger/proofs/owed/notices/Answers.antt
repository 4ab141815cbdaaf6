use Rattle.std.proofs.Common.{List, ◌++◌, map, take, sym, ap, ◌∙◌}
use Rattle.std.proofs.lemmas.List.{map-append}
use Rattle.notice_ledger.specs.declared.owed.Owed.{Owed}
use Rattle.notice_ledger.specs.Past.Journal.{occurrence}
use Rattle.notice_ledger.specs.Past.Owed.{notices, owed_by}
use Rattle.notice_ledger.specs.Plain.{owed_kept}
use Rattle.notice_ledger.proofs.Lists.{take_next}
use Rattle.notice_ledger.proofs.Appended.{notices-nil, notices-append}
use Rattle.notice_ledger.proofs.owed.notices.Goals as goal

pub loop-i-init : goal.loop-i-init
loop-i-init c = c.new-found.ensures.items ∙ sym (ap (map owed_kept) notices-nil)

pub loop-i-preserved : goal.loop-i-preserved
loop-i-preserved c =
    let j = take c.loop-i.i c.args.journal.now in let s = c.index-journal-i.result in
    let next = take_next c.args.journal.now c.loop-i.i s c.loop-i-test.true c.index-journal-i.is in
    c.in_ok-extend_from_slice.ensures.items
    ∙ (ap (λ ns. c.loop-i.found.items ++ ns) (c.deref.ensures.value ∙ c.in_ok-owed.ensures)
    ∙ (ap (λ (ns : List Owed). ns ++ map owed_kept (owed_by (occurrence j s))) c.loop-i.invariant
    ∙ (sym (map-append owed_kept (notices j) (owed_by (occurrence j s))) ∙ ap (map owed_kept) (sym (notices-append j s) ∙ ap notices (sym next)))))
