use Rattle.std.proofs.Common.{not, take, get_or, sym, ap, ◌∙◌, subst}
use Rattle.std.specs.Prelude.{filter}
use Rattle.std.proofs.lemmas.List.{take_more}
use Rattle.chat_model.specs.declared.ids.MessageId.{MessageId}
use Rattle.chat_model.specs.declared.trigger.Way.TheVariants.{Push}
use Rattle.book_tables.specs.declared.tables.Waiting.{Waiting}
use Rattle.book_tables.specs.Notices.{IsInOrder, AreNumbered}
use Rattle.book_tables.specs.Bars.{is_of_pair, is_removed}
use Rattle.book_tables.proofs.Sought.{order-filter, numbered-filter}
use Rattle.book_tables.proofs.Barring.{take-removal, no-removal}
use Rattle.book_tables.proofs.bars.take_removed.Goals as goal

pub loop-message-init : goal.loop-message-init
loop-message-init c = λ order numbered. sym (no-removal c.args.user c.args.active.now.items)

pub loop-message-preserved : goal.loop-message-preserved
loop-message-preserved c = λ order numbered.
    let ws = c.args.active.now.items in let u = c.args.user in let ms = c.args.messages.now in let i = c.loop-message.message-index in
    let none : MessageId = record { 0 = 0 } in let m = get_or ms i none in
    let so_far = c.loop-message.invariant order numbered in
    let others = λ (w : Waiting). not (is_removed u (take i ms) w) in
    c.take_of_pair.ensures (subst IsInOrder (sym so_far) (order-filter others ws order)) (subst AreNumbered (sym so_far) (numbered-filter others ws numbered))
    ∙ (ap (filter (λ (w : Waiting). not (is_of_pair (record { user = u; message = m }) Push w))) so_far
    ∙ (take-removal u (take i ms) m ws ∙ ap (λ ns. filter (λ (w : Waiting). not (is_removed u ns w)) ws) (sym (take_more ms i none c.loop-message-test.true))))
