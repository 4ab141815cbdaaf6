use Rattle.std.proofs.Common.{◌≡◌, ◌∙◌, [], ◌∷◌, ◌++◌, Bool, true, false, ap, filter, get_or, map, sym, take}
use Rattle.std.specs.List.{list_any}
use Rattle.chat_model.specs.declared.mentions.UserName.{UserName}
use Rattle.mention_scan.specs.Mentions.{inner_of, speaks_of}
use Rattle.mention_scan.proofs.Judging.{kept_more, left_more}
use Rattle.mention_scan.proofs.mentions.named_users.Goals as goal
use Rattle.mention_scan.proofs.mentions.named_users.Goals.{then-names_user+in_ok-push, else-names_user}

pub loop-user-preserved : goal.loop-user-preserved
loop-user-preserved c =
    let p : UserName → Bool = λ u. list_any (λ s. speaks_of (inner_of c.args.text.now s) u) c.args.spans.now in
    let user = c.user-item.result in
    let users = c.args.users.now in
    let i = c.loop-user.user-index in
    let front = map (λ (u : UserName). u.id) (filter p (take i users)) in
    elim c.if-names_user.branch [
      | then-names_user+in_ok-push w ↦
          let passes : p (get_or users i user) ≡ true = ap p (sym c.user-item.is) ∙ sym c.names_user.ensures ∙ w.if-names_user.true in
          w.found-is ∙ w.in_ok-push.ensures.ok ∙ ap (λ xs. xs ++ user.id ∷ []) c.loop-user.invariant
          ∙ ap (λ (u : UserName). front ++ u.id ∷ []) c.user-item.is ∙ sym (kept_more (λ u. u.id) p users i user c.loop-user-test.true passes)
      | else-names_user w ↦
          let fails : p (get_or users i user) ≡ false = ap p (sym c.user-item.is) ∙ sym c.names_user.ensures ∙ w.if-names_user.false in
          w.found-is ∙ c.loop-user.invariant ∙ sym (left_more (λ u. u.id) p users i user c.loop-user-test.true fails)
    ]
