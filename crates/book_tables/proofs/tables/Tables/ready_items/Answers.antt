use Rattle.std.proofs.Common.{◌≡◌, ℕ, ◌+◌, ◌++◌, ◌∷◌, [], Bool, true, false, List, Some, None, length, map, get_or, refl, sym, ap, ◌∙◌, subst, arith}
use Rattle.std.specs.Prelude.{Option, IsPermutation, if◌then◌else◌}
use Rattle.std.proofs.lemmas.List.Sorted.{IsPermutation-map}
use Rattle.chat_model.specs.declared.ids.MessageId.{MessageId}
use Rattle.book_tables.specs.declared.tables.Message.{Message}
use Rattle.book_tables.specs.declared.tables.Waiting.{Waiting}
use Rattle.book_tables.specs.Tables.{message_kept, notice_kept}
use Rattle.notice_ledger.specs.Past.Values.{numbered}
use Rattle.std.proofs.lemmas.List.{append-nil, map-append}
use Rattle.notice_ledger.specs.Past.Outbox.{mailed, ready_item}
use Rattle.book_tables.proofs.MailedRows.{is_free, found, answered, free_rows, free_rows-next, free_rows-all}
use Rattle.book_tables.proofs.tables.Tables.ready_items.Goals.{in-Some+in-Some-item_at+in_ok-ready_item+in_ok-push, in-Some+in_default-item_at, in_default}
use Rattle.book_tables.proofs.tables.Tables.ready_items.Goals as goal

none_some : {X : Type 0} {a : X} → None ≡ Some a → ⊥
none_some e = cc

same_message : {a b : Message} → Some a ≡ Some b → a ≡ b
same_message e = cc

-- an answer is the row's notice, which is free
given : (free : Bool) (v x : Waiting) → Some x ≡ (if free then Some v else None) → (free ≡ true) × (x ≡ v)
given true v x e = (refl, same e)
  where
    same : Some x ≡ Some v → x ≡ v
    same e = cc
given false v x e = absurd (cc)

-- and where none is answered it is barred
withheld : (free : Bool) (v : Waiting) → None ≡ (if free then Some v else None) → free ≡ false
withheld true v e = absurd (none_some e)
withheld false v e = refl

pub loop-message-init : goal.loop-message-init
loop-message-init c = λ past h same. c.new-items.ensures

pub loop-message-preserved : goal.loop-message-preserved
loop-message-preserved c = λ past h same.
    let t = c.args.self.now in let u = c.args.user in let ms = c.rows-message-items.result.now in let i = c.loop-message.message-index in
    let none : MessageId = record { 0 = 0 } in let m = get_or ms i none in let f = ready_item past in
    let own = found t past h u ms same i none c.loop-message-test.true in
    let n = own.made.from in let v = notice_kept past n in let free = is_free past n in
    let answer = answered t past h u ms same i m own c.mailed_notice.result c.mailed_notice.ensures in
    let before = c.loop-message.invariant past h same in
    let next : map f (free_rows t past h u ms same (i + 1)) ≡ map f (free_rows t past h u ms same i) ++ map f (if free then n ∷ [] else []) =
    ap (map f) (free_rows-next t past h u ms same i m own) ∙ map-append f (free_rows t past h u ms same i) (if free then n ∷ [] else []) in
    let with_it : (b : Bool) → free ≡ b → map f (free_rows t past h u ms same (i + 1)) ≡ map f (free_rows t past h u ms same i) ++ map f (if b then n ∷ [] else []) =
    λ b e. next ∙ ap (λ x. map f (free_rows t past h u ms same i) ++ map f (if x then n ∷ [] else [])) e in
    elim c.match-mailed_notice.branch [
      | in-Some+in-Some-item_at+in_ok-ready_item+in_ok-push w ↦
          let is = given free v w.in-Some.notice (sym w.in-Some.is ∙ answer) in
          let sent : w.in-Some-item_at.sent.now ≡ message_kept n.message =
          same_message (w.in-Some-item_at.ensures ∙ (ap (λ (k : MessageId). numbered k.0 w.deref.result.now) own.made.is ∙ own.row.message w.deref.result.now (w.deref.ensures.value ∙ h.messages))) in
          let item = w.in_ok-ready_item.ensures past n h is.1 sent in
          w.items-is
          ∙ (w.in_ok-push.ensures.ok
          ∙ ((λ k. before k ++ item k ∷ []) ∙ sym (with_it true is.0)))
      | in-Some+in_default-item_at w ↦
          absurd (none_some (w.in_default-item_at.ensures ∙ (ap (λ (k : MessageId). numbered k.0 w.deref.result.now) own.made.is ∙ own.row.message w.deref.result.now (w.deref.ensures.value ∙ h.messages))))
      | in_default w ↦
          let barred = withheld free v (sym w.in_default.is ∙ answer) in
          w.items-is ∙ (before ∙ (sym (append-nil (map f (free_rows t past h u ms same i))) ∙ sym (with_it false barred)))
    ]

pub returns : goal.returns
returns c = λ past h.
    let t = c.args.self.now in let u = c.args.user in let f = ready_item past in let ms = c.rows-message-items.result.now in let i = c.loop-message.message-index in
    let same = c.rows-message-items.ensures in
    subst (IsPermutation (map f (mailed past u))) (sym (c.loop-message.invariant past h same))
    (IsPermutation-map f (mailed past u) (free_rows t past h u ms same i) (free_rows-all t past h u ms same i (omega (arith, c.loop-message-test.false))))
