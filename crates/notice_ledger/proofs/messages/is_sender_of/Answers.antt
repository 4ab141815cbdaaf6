use Rattle.std.proofs.Common.{false, take, sym, ap, ◌∙◌}
use Rattle.std.specs.Option.{option_map_or}
use Rattle.chat_model.specs.declared.event.Stamped.{Stamped}
use Rattle.notice_ledger.specs.Past.Values.{message, sent_by}
use Rattle.notice_ledger.specs.Past.Refusals.{is_sender}
use Rattle.std.proofs.lemmas.List.{take_all}
use Rattle.notice_ledger.proofs.SlowMessages.{is_send, none-numbered, none-sent, message-found}
use Rattle.notice_ledger.proofs.messages.is_sender_of.Goals as goal

pub loop-i-init : goal.loop-i-init
loop-i-init c = none-numbered c.args.message

pub loop-i-preserved : goal.loop-i-preserved
loop-i-preserved c =
    let past = take c.loop-i.i c.args.past.now in let s = c.index-past-i.result in
    none-sent c.args.past.now c.loop-i.i s c.args.message c.loop-i-test.true c.index-past-i.is c.loop-i.invariant
    (ap (λ (t : Stamped). is_send past c.args.message t) c.index-past-i.is ∙ (sym c.sends_message.ensures ∙ c.if-sends_message.false))

pub returns-then-sends_message : goal.returns-then-sends_message
returns-then-sends_message c =
    let past = take c.loop-i.i c.args.past.now in let s = c.index-past-i.result in
    c.is_send_of.ensures past
    ∙ (ap (λ (t : Stamped). option_map_or (is_sender c.args.user) (sent_by past t.event) false) (sym c.index-past-i.is)
    ∙ ap (λ o. option_map_or (is_sender c.args.user) o false) (sym (message-found c.args.past.now c.loop-i.i s c.args.message c.loop-i-test.true c.index-past-i.is c.loop-i.invariant
    (ap (λ (t : Stamped). is_send past c.args.message t) c.index-past-i.is ∙ (sym c.sends_message.ensures ∙ c.if-sends_message.true)))))

pub returns : goal.returns
returns c = ap (λ o. option_map_or (is_sender c.args.user) o false) (sym (ap (λ j. message j c.args.message) (sym (take_all c.loop-i.i c.args.past.now c.loop-i-test.false)) ∙ c.loop-i.invariant))
