use Rattle.std.proofs.Common.{◌≡◌, ◌+◌, ◌&&◌, true, false, not, length, take, sym, ap, ◌∙◌}
use Rattle.std.proofs.Math.Bool.{and-false}
use Rattle.chat_model.specs.declared.event.Stamped.{Stamped}
use Rattle.chat_model.specs.declared.ids.MessageId.{MessageId}
use Rattle.notice_ledger.specs.Past.Values.{is_deleted, messages, some_from, takes_part_by}
use Rattle.notice_ledger.proofs.Appended.{messages-nil}
use Rattle.notice_ledger.proofs.SlowMessages.{is_to, part-next, part-found, part-none}
use Rattle.notice_ledger.proofs.messages.is_participant.Goals as goal
use Rattle.notice_ledger.proofs.messages.is_participant.Goals.{else-sends_to_topic-via-then-sends_to_topic+else-not-is_deleted, else-sends_to_topic-via-else-sends_to_topic}

pub loop-i-init : goal.loop-i-init
loop-i-init c = ap (some_from (takes_part_by c.args.past.now c.args.user c.args.channel c.args.topic.now) 1) messages-nil

pub loop-i-preserved : goal.loop-i-preserved
loop-i-preserved c =
    let j = c.args.past.now in let i = c.loop-i.i in let s = c.index-past-i.result in let u = c.args.user in let h = c.args.channel in let t = c.args.topic.now in
    let told : is_to u h t s ≡ c.sends_to_topic.result = ap (λ (x : Stamped). is_to u h t x) c.index-past-i.is ∙ sym c.sends_to_topic.ensures in
    part-next j u h t i s false c.loop-i-test.true c.index-past-i.is c.loop-i.invariant
    (elim c.else-sends_to_topic.branch [
      | else-sends_to_topic-via-then-sends_to_topic+else-not-is_deleted w ↦
          ap (λ (n : MessageId). is_to u h t s && not (is_deleted j n)) (let e : (let m : MessageId = record { 0 = length (messages (take i j)) + 1 } in m) ≡ w.next_message.result = ap (λ k. let m : MessageId = record { 0 = k } in m) (sym w.next_message.ensures) in e)
          ∙ (ap (λ b. is_to u h t s && not b) (sym w.is_deleted.ensures ∙ w.if-not-is_deleted.false) ∙ and-false (is_to u h t s))
      | else-sends_to_topic-via-else-sends_to_topic w ↦
          ap (λ b. b && not (is_deleted j (record { 0 = length (messages (take i j)) + 1 }))) (told ∙ w.if-sends_to_topic.false)
    ])

pub returns-then-not-is_deleted : goal.returns-then-not-is_deleted
returns-then-not-is_deleted c =
    let j = c.args.past.now in let i = c.loop-i.i in let s = c.index-past-i.result in let u = c.args.user in let h = c.args.channel in let t = c.args.topic.now in
    let told : is_to u h t s ≡ true = ap (λ (x : Stamped). is_to u h t x) c.index-past-i.is ∙ (sym c.sends_to_topic.ensures ∙ c.if-sends_to_topic.true) in
    sym (part-found j u h t i (part-next j u h t i s true c.loop-i-test.true c.index-past-i.is c.loop-i.invariant
    (ap (λ b. b && not (is_deleted j (record { 0 = length (messages (take i j)) + 1 }))) told
    ∙ (ap (λ (k : _). not (is_deleted j (let m : MessageId = record { 0 = k } in m))) (sym c.next_message.ensures)
    ∙ ap not (sym c.is_deleted.ensures ∙ c.if-not-is_deleted.true)))))

pub returns : goal.returns
returns c = sym (part-none c.args.past.now c.args.user c.args.channel c.args.topic.now c.loop-i.i c.loop-i-test.false c.loop-i.invariant)
