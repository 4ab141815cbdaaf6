use Rattle.std.proofs.Common.{◌≡◌, ℕ, ◌+◌, ◌<◌, List, [], ◌∷◌, ◌++◌, length, map, take, sym, ap, ◌∙◌, subst, get_or, arith}
use Rattle.std.proofs.lemmas.List.{append_assoc, length-take, map-append}
use Rattle.chat_model.specs.declared.row.Row.TheVariants.{Outbox}
use Rattle.chat_model.specs.declared.row.RowChange.TheVariants.{Put}
use Rattle.chat_model.specs.declared.entry.Entry.{Entry}
use Rattle.notice_ledger.specs.Past.Rows.{outbox_rows_from}
use Rattle.std.specs.Prelude.{false}
use Rattle.book_tables.proofs.RowsAfter.{outbox_rows-append}
use Rattle.book_tables.proofs.Steps.{take_next}
use Rattle.book_tables.proofs.prepared.put_entries.Goals as goal

-- one more entry has the next number
one_more : (before i : ℕ) (entries : List Entry) (e : Entry) → i < length entries → take (i + 1) entries ≡ take i entries ++ e ∷ []
    → map Put (outbox_rows_from (before + 1) (take i entries)) ++ Put (Outbox (record { 0 = (before + 1) + i }) e false) ∷ [] ≡ map Put (outbox_rows_from (before + 1) (take (i + 1) entries))
one_more before i entries e lt next =
    let long : length (take i entries) ≡ i = simp length-take (omega arith) in
    ap (λ n. map Put (outbox_rows_from (before + 1) (take i entries)) ++ Put (Outbox (record { 0 = (before + 1) + n }) e false) ∷ []) (sym long)
    ∙ (sym (map-append Put (outbox_rows_from (before + 1) (take i entries)) (outbox_rows_from ((before + 1) + length (take i entries)) (e ∷ [])))
    ∙ ap (map Put) (sym (outbox_rows-append (before + 1) (take i entries) (e ∷ [])) ∙ ap (outbox_rows_from (before + 1)) (sym next)))

pub loop-i-preserved : goal.loop-i-preserved
loop-i-preserved c =
    let start = c.args.changes.now.items in let es = c.args.entries.now in
    c.in_ok-push.ensures.items
    ∙ (ap (λ cs. cs ++ Put (Outbox (record { 0 = (c.args.before + 1) + c.loop-i.i }) c.in_ok-copy.field-0 false) ∷ []) c.loop-i.invariant
    ∙ (append_assoc start (map Put (outbox_rows_from (c.args.before + 1) (take c.loop-i.i es))) (Put (Outbox (record { 0 = (c.args.before + 1) + c.loop-i.i }) c.in_ok-copy.field-0 false) ∷ [])
    ∙ ap (λ cs. start ++ cs) (one_more c.args.before c.loop-i.i es c.in_ok-copy.field-0 c.loop-i-test.true (take_next es c.loop-i.i c.in_ok-copy.field-0 c.loop-i-test.true (subst (λ (x : Entry). x ≡ get_or es c.loop-i.i x) (sym c.in_ok-copy.ensures) c.index-entries-i.is)))))
