use Rattle.std.proofs.Common.{List, ℕ, subst}
use Rattle.chat_model.specs.declared.event.Stamped.{Stamped}
use Rattle.chat_model.specs.declared.event.Event.TheVariants.{Asked}
use Rattle.chat_model.specs.declared.ids.UserId.{UserId}
use Rattle.chat_model.specs.declared.request.Request.TheVariants.{Direct}
use Rattle.book_tables.specs.Prepared.{IsNext, Follows}
use Rattle.book_tables.proofs.tables.Tables.prepare_direct_message.Goals as goal

pub returns : goal.returns
returns c = λ past h next.
    let p = c.in_ok-prepared.prepared in
    let sent = λ (to : List UserId) (text : List ℕ). (let s : Stamped = record { at = c.args.at; event = Asked (Direct c.args.sender to text) } in s) in
    subst (λ (text : List ℕ). IsNext past (sent c.args.to.now text) → Follows past (sent c.args.to.now text) p) c.in_ok-text.ensures
    (subst (λ (to : List UserId). IsNext past (sent to c.in_ok-text.text) → Follows past (sent to c.in_ok-text.text) p) c.in_ok-to.ensures
    (c.in_ok-prepared.ensures past h)) next
