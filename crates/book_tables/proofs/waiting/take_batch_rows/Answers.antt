use Rattle.std.proofs.Common.{not, take, get_or, sym, ap, ◌∙◌, subst}
use Rattle.std.specs.Prelude.{filter}
use Rattle.std.proofs.lemmas.List.{take_more}
use Rattle.chat_model.specs.declared.ids.MessageId.{MessageId}
use Rattle.book_tables.specs.declared.tables.Waiting.{Waiting}
use Rattle.book_tables.specs.Notices.{is_batch_row, is_one_batch_row, IsInOrder, AreNumbered}
use Rattle.book_tables.proofs.Sought.{order-filter, numbered-filter, take-next, nothing-taken}
use Rattle.book_tables.proofs.waiting.take_batch_rows.Goals as goal

pub loop-message-init : goal.loop-message-init
loop-message-init c = λ order numbered. sym (nothing-taken c.args.user c.args.waiting.now.items)

pub loop-message-preserved : goal.loop-message-preserved
loop-message-preserved c = λ order numbered.
    let ws = c.args.waiting.now.items in let u = c.args.user in let ms = c.args.messages.now in let i = c.loop-message.message-index in
    let none : MessageId = record { 0 = 0 } in let m = get_or ms i none in
    let so_far = c.loop-message.invariant order numbered in
    let taken = λ (w : Waiting). not (is_one_batch_row u (take i ms) w) in
    c.take_ready.ensures.rest (subst IsInOrder (sym so_far) (order-filter taken ws order)) (subst AreNumbered (sym so_far) (numbered-filter taken ws numbered))
    ∙ (ap (filter (λ (w : Waiting). not (is_batch_row u m w))) so_far
    ∙ (take-next u (take i ms) m ws ∙ ap (λ ns. filter (λ (w : Waiting). not (is_one_batch_row u ns w)) ws) (sym (take_more ms i none c.loop-message-test.true))))
