use Rattle.std.proofs.Common.{◌≡◌, ℕ, ◌+◌, ◌++◌, ◌∷◌, [], ◌≤◌, Bool, true, false, List, Some, None, length, get_or, refl, sym, ap, ◌∙◌, arith, length-append}
use Rattle.std.specs.Prelude.{Option, is_some, if◌then◌else◌}
use Rattle.chat_model.specs.declared.ids.MessageId.{MessageId}
use Rattle.std.proofs.lemmas.List.Sorted.{length_permutation}
use Rattle.notice_ledger.specs.Past.Owed.{Notice}
use Rattle.book_tables.specs.declared.tables.Waiting.{Waiting}
use Rattle.book_tables.specs.Tables.{notice_kept}
use Rattle.book_tables.proofs.MailedRows.{is_free, found, answered, free_rows, free_rows-next, free_rows-all}
use Rattle.book_tables.proofs.tables.Tables.mailed_count.Goals.{then-is_some, else-is_some}
use Rattle.book_tables.proofs.tables.Tables.mailed_count.Goals as goal

-- one more where it is found
counted : (free : Bool) (found : Option Waiting) (v : Waiting) (n : Notice) (ns : List Notice) (count : ℕ) → found ≡ (if free then Some v else None) → count ≡ length ns → (if is_some found then count + 1 else count) ≡ length (ns ++ (if free then n ∷ [] else []))
counted true found v n ns count is so = ap (λ f. if is_some f then count + 1 else count) is ∙ omega (arith, so, length-append ns (n ∷ []))
counted false found v n ns count is so = ap (λ f. if is_some f then count + 1 else count) is ∙ omega (arith, so, length-append ns [])

within : (b : Bool) (count i : ℕ) → count ≤ i → {next : ℕ} → next ≡ (if b then count + 1 else count) → next ≤ i + 1
within true count i le is = omega arith
within false count i le is = omega arith

pub loop-message-init : goal.loop-message-init
loop-message-init c = (omega arith, λ past h same. refl)

pub overflow_add-count : goal.overflow_add-count
overflow_add-count c = omega (arith, c.loop-message.invariant.0, c.loop-message-test.true, c.rows-message-items.type_inv.0)

pub loop-message-preserved : goal.loop-message-preserved
loop-message-preserved c =
    let before = c.loop-message.invariant in let count = c.loop-message.count in let i = c.loop-message.message-index in
    let counts : c.if-is_some.count ≡ (if is_some c.mailed_notice.result then count + 1 else count) =
    elim c.if-is_some.branch [
      | then-is_some w ↦ w.count-is ∙ ap (λ b. if b then count + 1 else count) w.if-is_some.ensures
      | else-is_some w ↦ w.count-is ∙ ap (λ b. if b then count + 1 else count) w.if-is_some.ensures
    ] in (
      within (is_some c.mailed_notice.result) count i before.0 counts,
      λ past h same.
          let t = c.args.self.now in let u = c.args.user in let ms = c.rows-message-items.result.now in let none : MessageId = record { 0 = 0 } in let m = get_or ms i none in
          let own = found t past h u ms same i none c.loop-message-test.true in
          counts
          ∙ (counted (is_free past own.made.from) c.mailed_notice.result (notice_kept past own.made.from) own.made.from (free_rows t past h u ms same i) count (answered t past h u ms same i m own c.mailed_notice.result c.mailed_notice.ensures) (before.1 past h same)
          ∙ ap length (sym (free_rows-next t past h u ms same i m own))),
    )

pub returns : goal.returns
returns c = λ past h.
    let same = c.rows-message-items.ensures in
    c.loop-message.invariant.1 past h same
    ∙ length_permutation _ _ (free_rows-all c.args.self.now past h c.args.user c.rows-message-items.result.now same c.loop-message.message-index (omega (arith, c.loop-message-test.false)))
