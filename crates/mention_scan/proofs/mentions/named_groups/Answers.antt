use Rattle.std.proofs.Common.{◌≡◌, ◌∙◌, [], ◌∷◌, ◌++◌, ◌&&◌, Bool, true, false, ap, filter, get_or, map, sym, take}
use Rattle.std.specs.List.{list_any}
use Rattle.chat_model.specs.declared.mentions.GroupName.{GroupName}
use Rattle.mention_scan.specs.Mentions.{inner_of, is_group_named, is_group_span}
use Rattle.mention_scan.proofs.Judging.{kept_more, left_more}
use Rattle.mention_scan.proofs.mentions.named_groups.Goals as goal
use Rattle.mention_scan.proofs.mentions.named_groups.Goals.{then-names_group+in_ok-push, else-names_group}

pub loop-group-preserved : goal.loop-group-preserved
loop-group-preserved c =
    let p : GroupName → Bool = λ u. list_any (λ s. is_group_span s && is_group_named (inner_of c.args.text.now s) u) c.args.spans.now in
    let group = c.group-item.result in
    let groups = c.args.groups.now in
    let i = c.loop-group.group-index in
    let front = map (λ (u : GroupName). u.id) (filter p (take i groups)) in
    elim c.if-names_group.branch [
      | then-names_group+in_ok-push w ↦
          let passes : p (get_or groups i group) ≡ true = ap p (sym c.group-item.is) ∙ sym c.names_group.ensures ∙ w.if-names_group.true in
          w.found-is ∙ w.in_ok-push.ensures.ok ∙ ap (λ xs. xs ++ group.id ∷ []) c.loop-group.invariant
          ∙ ap (λ (u : GroupName). front ++ u.id ∷ []) c.group-item.is ∙ sym (kept_more (λ u. u.id) p groups i group c.loop-group-test.true passes)
      | else-names_group w ↦
          let fails : p (get_or groups i group) ≡ false = ap p (sym c.group-item.is) ∙ sym c.names_group.ensures ∙ w.if-names_group.false in
          w.found-is ∙ c.loop-group.invariant ∙ sym (left_more (λ u. u.id) p groups i group c.loop-group-test.true fails)
    ]
