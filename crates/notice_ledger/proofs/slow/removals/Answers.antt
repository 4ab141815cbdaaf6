use Rattle.std.proofs.Common.{ap, ◌∙◌}
use Rattle.notice_ledger.specs.declared.slow.RemovalCounts.{RemovalCounts}
use Rattle.notice_ledger.specs.Past.Audit.{in_64_bits}
use Rattle.notice_ledger.proofs.SlowLemmas.{waiting-counted, written-counted}
use Rattle.notice_ledger.proofs.slow.removals.Goals as goal

pub returns-clause-counts_waiting : goal.returns-clause-counts_waiting
returns-clause-counts_waiting c =
    ap (λ (r : RemovalCounts). r.waiting) c.removals_among.ensures
    ∙ ap in_64_bits (waiting-counted c.args.events.now c.deref.result.now c.deref-2.result.now (c.deref.ensures.value ∙ c.in_ok-waiting.ensures) (c.deref-2.ensures.value ∙ c.in_ok-revoked.ensures))

pub returns-clause-counts_written : goal.returns-clause-counts_written
returns-clause-counts_written c =
    ap (λ (r : RemovalCounts). r.written) c.removals_among.ensures
    ∙ ap in_64_bits (written-counted c.args.events.now c.deref.result.now c.deref-2.result.now (c.deref.ensures.value ∙ c.in_ok-waiting.ensures) (c.deref-2.ensures.value ∙ c.in_ok-revoked.ensures))
