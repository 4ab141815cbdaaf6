use Rattle.std.proofs.Common.{ℕ, List, [], ◌∷◌, ◌++◌, take, sym, ap, ◌∙◌}
use Rattle.notice_ledger.specs.Past.Values.{channels}
use Rattle.notice_ledger.proofs.Lists.{take_next}
use Rattle.notice_ledger.proofs.Appended.{channels-nil}
use Rattle.notice_ledger.proofs.There.{channels-more, channels-same}
use Rattle.notice_ledger.proofs.values.channel_names.Goals as goal
use Rattle.notice_ledger.proofs.values.channel_names.Goals.{in-Some+in_ok-name+in_ok-push, in_default}

pub loop-stamped-init : goal.loop-stamped-init
loop-stamped-init c = c.new-names.ensures.items ∙ sym channels-nil

pub loop-stamped-preserved : goal.loop-stamped-preserved
loop-stamped-preserved c =
    let j = take c.loop-stamped.stamped-index c.args.past.now in let s = c.stamped-item.result in
    let next = take_next c.args.past.now c.loop-stamped.stamped-index s c.loop-stamped-test.true c.stamped-item.is in
    let old = c.loop-stamped.names.items in
    elim c.match-added_channel.branch [
      | in-Some+in_ok-name+in_ok-push w ↦
          ap (λ v. v.items) w.names-is
          ∙ (w.in_ok-push.ensures.items
          ∙ (ap (λ (n : List ℕ). old ++ n ∷ []) w.in_ok-name.ensures
          ∙ (channels-more j s old w.in-Some.name.now c.loop-stamped.invariant w.in-Some.ensures ∙ ap channels (sym next))))
      | in_default w ↦ ap (λ v. v.items) w.names-is ∙ (channels-same j s old c.loop-stamped.invariant w.in_default.ensures ∙ ap channels (sym next))
    ]
