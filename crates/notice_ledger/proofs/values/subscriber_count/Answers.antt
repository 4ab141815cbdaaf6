use Rattle.std.proofs.Common.{◌≡◌, true, false, length, sym, ap, ◌∙◌, arith}
use Rattle.std.specs.Prelude.{count_by}
use Rattle.chat_model.specs.declared.ids.UserId.{UserId}
use Rattle.notice_ledger.specs.Past.Values.{people, subscribed}
use Rattle.notice_ledger.proofs.There.{users_to, count_more, subscribers_counted}
use Rattle.notice_ledger.proofs.values.subscriber_count.Goals as goal
use Rattle.notice_ledger.proofs.values.subscriber_count.Goals.{then-is_subscribed, else-is_subscribed}

pub loop-i-preserved : goal.loop-i-preserved
loop-i-preserved c =
    let p = λ (u : UserId). subscribed c.args.past.now u c.args.channel in
    elim c.if-is_subscribed.branch [
      | then-is_subscribed w ↦
          let more = count_more p c.loop-i.i true (sym c.is_subscribed.ensures ∙ w.if-is_subscribed.true) in
          record { counted = omega (arith, w.count-is, c.loop-i.invariant.counted, more); within = omega (arith, w.count-is, c.loop-i.invariant.within) }
      | else-is_subscribed w ↦
          let more = count_more p c.loop-i.i false (sym c.is_subscribed.ensures ∙ w.if-is_subscribed.false) in
          record { counted = omega (arith, w.count-is, c.loop-i.invariant.counted, more); within = omega (arith, w.count-is, c.loop-i.invariant.within) }
    ]

pub returns : goal.returns
returns c =
    let whole : c.loop-i.i ≡ length (people c.args.past.now) = omega (arith, c.user_count-i-end.ensures) in
    c.loop-i.invariant.counted
    ∙ (ap (λ n. count_by (λ u. subscribed c.args.past.now u c.args.channel) (users_to n)) whole ∙ subscribers_counted c.args.past.now c.args.channel)
