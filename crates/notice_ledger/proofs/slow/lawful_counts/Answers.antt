use Rattle.std.proofs.Common.{List, map, ap, ◌∙◌}
use Rattle.notice_ledger.specs.declared.owed.Owed.{Owed}
use Rattle.notice_ledger.specs.Plain.{account_kept}
use Rattle.notice_ledger.proofs.SlowLemmas.{counts_kept-counts_of}
use Rattle.notice_ledger.proofs.slow.lawful_counts.Goals as goal

pub returns : goal.returns
returns c =
    let j = c.args.events.now in
    let accounts = c.deref-2.ensures.value ∙ (c.in_ok-accounts.ensures ∙ ap (λ (ns : List Owed). map (account_kept j) ns) (c.deref.ensures.value ∙ c.in_ok-notices.ensures)) in
    c.counts_among.ensures ∙ counts_kept-counts_of j c.deref-2.result.now c.in_ok-entries.entries c.in_ok-removals.removals accounts c.in_ok-entries.ensures c.in_ok-removals.ensures.counts_waiting c.in_ok-removals.ensures.counts_written
