use Rattle.std.proofs.Common.{length, sym, ap, ◌∙◌}
use Rattle.notice_ledger.proofs.SlowEntries.{mailed_kept, slow_items-once, turn_entries-on}
use Rattle.notice_ledger.proofs.outbox.turn_entries.Goals as goal

pub entries-requires : goal.entries-requires
entries-requires c =
    let are = mailed_kept c.args.past.now c.args.user c.deref.result.now c.deref-2.result.now (c.deref.ensures.value ∙ c.in_ok-rows.ensures) (c.deref-2.ensures.value ∙ c.in_ok-mailed.ensures) in
    slow_items-once c.args.past.now c.args.user c.deref-2.result.now c.in_ok-items.items are c.in_ok-items.ensures

pub returns : goal.returns
returns c =
    let on = sym c.is_switch_on.ensures ∙ c.if-not-is_switch_on.false in
    let are = mailed_kept c.args.past.now c.args.user c.deref.result.now c.deref-2.result.now (c.deref.ensures.value ∙ c.in_ok-rows.ensures) (c.deref-2.ensures.value ∙ c.in_ok-mailed.ensures) in
    c.len.ensures
    ∙ (ap length c.in_ok-entries.ensures
    ∙ turn_entries-on c.args.past.now c.args.at c.args.user c.in_ok-name.name c.deref-2.result.now c.in_ok-items.items on are c.in_ok-items.ensures)
