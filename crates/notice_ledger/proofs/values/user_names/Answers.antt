use Rattle.std.proofs.Common.{◌≡◌, ℕ, ◌+◌, List, [], ◌∷◌, ◌++◌, length, take, sym, ap, ◌∙◌, arith}
use Rattle.chat_model.specs.declared.mentions.UserName.{UserName}
use Rattle.notice_ledger.specs.Past.Values.{user_names}
use Rattle.notice_ledger.proofs.Lists.{take_next}
use Rattle.notice_ledger.proofs.There.{user_names-nil, user_names-more, user_names-same}
use Rattle.notice_ledger.proofs.values.user_names.Goals as goal
use Rattle.notice_ledger.proofs.values.user_names.Goals.{in-Some+in_ok-name+in_ok-push, in_default}

pub loop-stamped-init : goal.loop-stamped-init
loop-stamped-init c = c.new-names.ensures.items ∙ sym user_names-nil

pub loop-stamped-preserved : goal.loop-stamped-preserved
loop-stamped-preserved c =
    let j = take c.loop-stamped.stamped-index c.args.past.now in let s = c.stamped-item.result in
    let next = take_next c.args.past.now c.loop-stamped.stamped-index s c.loop-stamped-test.true c.stamped-item.is in
    let old = c.loop-stamped.names.items in
    elim c.match-added_user.branch [
      | in-Some+in_ok-name+in_ok-push w ↦
          let long : w.len.result ≡ length old = omega (arith, w.len.ensures, c.loop-stamped.names.ok.0) in
          ap (λ v. v.items) w.names-is
          ∙ (w.in_ok-push.ensures.items
          ∙ (ap (λ k. old ++ (let one : UserName = record { id = record { 0 = k + 1 }; name = w.in_ok-name.name } in one) ∷ []) long
          ∙ (ap (λ (n : List ℕ). old ++ (let one : UserName = record { id = record { 0 = length old + 1 }; name = n } in one) ∷ []) w.in_ok-name.ensures
          ∙ (user_names-more j s old w.in-Some.name.now c.loop-stamped.invariant w.in-Some.ensures ∙ ap user_names (sym next)))))
      | in_default w ↦ ap (λ v. v.items) w.names-is ∙ (user_names-same j s old c.loop-stamped.invariant w.in_default.ensures ∙ ap user_names (sym next))
    ]
