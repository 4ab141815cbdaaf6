use Rattle.std.proofs.Common.{◌≡◌, ℕ, Bool, List, length, ap, ◌∙◌, arith}
use Rattle.std.specs.Prelude.{filter}
use Rattle.chat_model.specs.declared.counts.Counts.{Counts}
use Rattle.chat_model.specs.declared.row.Stage.TheVariants as stage
use Rattle.notice_ledger.specs.Lawful.{lawful}
use Rattle.notice_ledger.specs.Past.Audit.{in_64_bits}
use Rattle.book_tables.specs.declared.tables.Waiting.{Waiting}
use Rattle.book_tables.specs.Notices.{is_at_stage, is_barred}
use Rattle.book_tables.proofs.Kept.{filter-short}
use Rattle.book_tables.proofs.Standing.{counts-there}
use Rattle.book_tables.proofs.tables.Tables.audit.Goals as goal

pub returns : goal.returns
returns c = λ j h.
    let t = c.args.self.now in
    let many = λ (test : Waiting → Bool) (vs : List Waiting) (n : ℕ) (is : n ≡ length (filter test vs)) (same : vs ≡ t.waiting.items).
    (let e : n ≡ length (filter test t.waiting.items) = is ∙ ap (λ (xs : List Waiting). length (filter test xs)) same in
    let r : n ≡ in_64_bits (length (filter test t.waiting.items)) = omega (arith, e, filter-short test t.waiting.items, t.waiting.ok.0, t.waiting.small) in r) in
    let flight = many (is_at_stage stage.Flight) c.deref.result.now c.count_at.result c.count_at.ensures c.deref.ensures.value in
    let held = many (is_at_stage stage.Held) c.deref-2.result.now c.count_at-2.result c.count_at-2.ensures c.deref-2.ensures.value in
    let waits = many (is_at_stage stage.Ready) c.deref-3.result.now c.count_at-3.result c.count_at-3.ensures c.deref-3.ensures.value in
    let live : c.len.result ≡ in_64_bits (length t.cleared.items) = omega (arith, c.len.ensures, t.cleared.ok.0, t.cleared.small) in
    let entries : c.len-2.result ≡ in_64_bits (length t.outbox.items) = omega (arith, c.len-2.ensures, t.outbox.ok.0, t.outbox.small) in
    let revoked : c.revoked_count.result ≡ in_64_bits (length (filter is_barred t.active.items)) =
    (let e : c.revoked_count.result ≡ length (filter is_barred t.active.items) = c.revoked_count.ensures ∙ ap (λ (xs : List Waiting). length (filter is_barred xs)) c.deref-4.ensures.value in
    omega (arith, e, filter-short is_barred t.active.items, t.active.ok.0, t.active.small)) in
    (λ i. record { flight = flight i; held = held i; ready = waits i; handed = t.handed; read = t.read; deleted = t.gone; off = t.off; live = live i; entries = entries i; waiting = revoked i; written = t.written }) ∙ counts-there t (lawful j) h
