use Rattle.std.proofs.Common.{◌≡◌, ◌-◌, length, ap, ◌∙◌}
use Rattle.notice_ledger.specs.Lawful.{lawful}
use Rattle.notice_ledger.specs.Past.Due.{batch_rows}
use Rattle.book_tables.proofs.BatchesAfter.{many_rows}
use Rattle.book_tables.proofs.tables.Tables.dropped.Goals as goal

pub returns : goal.returns
returns c = λ j h.
    let many : length c.rows.result.now ≡ length (batch_rows (lawful j) c.args.user) = ap length c.rows.ensures ∙ many_rows c.args.self.now.batches (lawful j) h.batches c.args.user in
    c.saturating_sub.ensures ∙ (λ i. many i - c.handed_over.ensures (lawful j) h i)
