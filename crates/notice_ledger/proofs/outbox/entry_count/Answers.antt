use Rattle.std.proofs.Common.{List, length, take, sym, ap, ◌∙◌, length-append}
use Rattle.chat_model.specs.declared.event.Stamped.{Stamped}
use Rattle.chat_model.specs.declared.entry.Entry.{Entry}
use Rattle.notice_ledger.specs.Past.Outbox.{outbox, entries_by}
use Rattle.notice_ledger.specs.Past.Audit.{in_64_bits}
use Rattle.notice_ledger.proofs.Lists.{take_next}
use Rattle.notice_ledger.proofs.Appended.{outbox-nil, outbox-append}
use Rattle.notice_ledger.proofs.SlowLemmas.{in_64_bits-more}
use Rattle.notice_ledger.proofs.outbox.entry_count.Goals as goal

pub loop-i-init : goal.loop-i-init
loop-i-init c = sym (ap (λ (es : List Entry). in_64_bits (length es)) outbox-nil)

pub loop-i-preserved : goal.loop-i-preserved
loop-i-preserved c =
    let j = take c.loop-i.i c.args.events.now in let s = c.index-events-i.result in
    let next = take_next c.args.events.now c.loop-i.i s c.loop-i-test.true c.index-events-i.is in
    let added = entries_by j s.at s.event in
    in_64_bits-more c.saturating_add-count.result c.loop-i.count c.in_ok-more.more (length (outbox j)) (length added) c.saturating_add-count.ensures c.in_ok-more.ensures c.loop-i.invariant
    ∙ (ap in_64_bits (sym (ap length (outbox-append j s) ∙ length-append (outbox j) added)) ∙ ap (λ (k : List Stamped). in_64_bits (length (outbox k))) (sym next))
