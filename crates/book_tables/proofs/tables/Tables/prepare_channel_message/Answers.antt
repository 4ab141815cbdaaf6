use Rattle.std.proofs.Common.{List, ℕ, subst}
use Rattle.chat_model.specs.declared.event.Stamped.{Stamped}
use Rattle.chat_model.specs.declared.event.Event.TheVariants.{Asked}
use Rattle.chat_model.specs.declared.request.Request.TheVariants.{Send}
use Rattle.book_tables.specs.Prepared.{IsNext, Follows}
use Rattle.book_tables.proofs.tables.Tables.prepare_channel_message.Goals as goal

pub returns : goal.returns
returns c = λ past h next.
    let p = c.in_ok-prepared.prepared in
    let sent = λ (topic text : List ℕ). (let s : Stamped = record { at = c.args.at; event = Asked (Send c.args.sender c.args.channel topic text) } in s) in
    subst (λ (text : List ℕ). IsNext past (sent c.args.topic.now text) → Follows past (sent c.args.topic.now text) p) c.in_ok-text.ensures
    (subst (λ (topic : List ℕ). IsNext past (sent topic c.in_ok-text.text) → Follows past (sent topic c.in_ok-text.text) p) c.in_ok-topic.ensures
    (c.in_ok-prepared.ensures past h)) next
