use Rattle.std.proofs.Common.{◌≡◌, ℕ, true, false, List, Some, None, ◌<◌, length, get_or, sym, ap, ◌∙◌, subst}
use Rattle.std.specs.Prelude.{Option, if◌then◌else◌}
use Rattle.std.proofs.lemmas.Bool.{false≢true}
use Rattle.chat_model.specs.declared.ids.MessageId.{MessageId}
use Rattle.chat_model.specs.declared.ids.UserId.{UserId}
use Rattle.notice_ledger.proofs.Lists.{AllByRecursion-weaker}
use Rattle.book_tables.specs.declared.tables.Waiting.{Waiting}
use Rattle.book_tables.specs.Notices.{is_barred, is_batch_row, IsFound, IsInOrder, AreNumbered, NonePasses, IsOnly}
use Rattle.book_tables.proofs.MailedRows.{IsAnswer}
use Rattle.book_tables.proofs.Sought.{gets, only-each}
use Rattle.book_tables.proofs.tables.Tables.mailed_notice.Goals as goal

-- the answer of a search that found the row at a place
answer_at : (u : UserId) (m : MessageId) (ws : List Waiting) (i : ℕ) (x : Waiting) (found : Option Waiting) → IsOnly (is_batch_row u m) ws i → i < length ws → x ≡ get_or ws i x → found ≡ (if is_barred x then None else Some x) → IsAnswer u m ws found
answer_at u m ws i x found only lt at is =
    AllByRecursion-weaker (λ w. is_batch_row u m w ≡ true → x ≡ w) (λ w. is_batch_row u m w ≡ true → found ≡ (if is_barred w then None else Some w)) (λ w same passes.
    is ∙ ap (λ v. if is_barred v then None else Some v) (same passes)) ws (only-each (is_batch_row u m) ws i x only (gets ws i x lt ∙ ap Some (sym at)))

pub returns-then-is_barred : goal.returns-then-is_barred
returns-then-is_barred c = λ order numbered.
    let ws = c.args.self.now.waiting.items in let u = c.args.user in let m = c.args.message in let i = c.in_ok-place.place in let x = c.index.result.now in
    let only = subst (λ (vs : List Waiting). IsInOrder vs → AreNumbered vs → IsOnly (is_batch_row u m) vs i) c.deref.ensures.value c.in_ok-place.ensures.found order numbered in
    let within : i < length ws = subst (λ (vs : List Waiting). i < length vs) c.deref.ensures.value c.in_ok-place.ensures.within in
    answer_at u m ws i x None only within c.index.ensures (ap (λ b. if b then None else Some x) c.if-is_barred.ensures)

pub returns-else-is_barred : goal.returns-else-is_barred
returns-else-is_barred c = λ order numbered.
    let ws = c.args.self.now.waiting.items in let u = c.args.user in let m = c.args.message in let i = c.in_ok-place.place in let x = c.index.result.now in
    let only = subst (λ (vs : List Waiting). IsInOrder vs → AreNumbered vs → IsOnly (is_batch_row u m) vs i) c.deref.ensures.value c.in_ok-place.ensures.found order numbered in
    let within : i < length ws = subst (λ (vs : List Waiting). i < length vs) c.deref.ensures.value c.in_ok-place.ensures.within in
    answer_at u m ws i x (Some x) only within c.index.ensures (ap (λ b. if b then None else Some x) c.if-is_barred.ensures)

pub returns-in_err-place : goal.returns-in_err-place
returns-in_err-place c = λ order numbered.
    let ws = c.args.self.now.waiting.items in let u = c.args.user in let m = c.args.message in
    let none = subst (λ (vs : List Waiting). IsInOrder vs → AreNumbered vs → NonePasses (is_batch_row u m) vs) c.deref.ensures.value c.in_err-place.ensures.found order numbered in
    AllByRecursion-weaker (λ w. is_batch_row u m w ≡ false) (λ w. is_batch_row u m w ≡ true → c.from_residual.result ≡ (if is_barred w then None else Some w)) (λ w no passes. absurd (false≢true (sym no ∙ passes))) ws none
