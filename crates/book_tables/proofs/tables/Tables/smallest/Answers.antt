use Rattle.std.proofs.Common.{take, get_or, sym, ap, ◌∙◌}
use Rattle.std.proofs.lemmas.List.{take_all, take_more}
use Rattle.std.specs.Prelude.{Some, filter}
use Rattle.std.specs.List.{reduce}
use Rattle.chat_model.specs.declared.ids.GroupId.{GroupId}
use Rattle.notice_ledger.specs.Past.Values.{is_member}
use Rattle.notice_ledger.specs.Past.Triggers.{smaller}
use Rattle.book_tables.proofs.Steps.{reduce_filter-push, reduce_filter-left}
use Rattle.book_tables.proofs.tables.Tables.smallest.Goals.{then-is_member, else-is_member}
use Rattle.book_tables.proofs.tables.Tables.smallest.Goals as goal

pub loop-group-preserved : goal.loop-group-preserved
loop-group-preserved c =
    let gs = c.args.groups.now in let i = c.loop-group.group-index in let u = c.args.user in
    let none : GroupId = record { 0 = 0 } in let g = get_or gs i none in let next = take_more gs i none c.loop-group-test.true in
    elim c.if-is_member.branch [
      | then-is_member w ↦ λ past h.
          w.smallest-is
          ∙ (ap Some (w.smaller.ensures past h)
          ∙ (reduce_filter-push (smaller past) (λ g. is_member past g u) (take i gs) g c.loop-group.smallest (sym (c.is_member.ensures past h) ∙ w.if-is_member.true) (c.loop-group.invariant past h)
          ∙ ap (λ gs. reduce (smaller past) (filter (λ g. is_member past g u) gs)) (sym next)))
      | else-is_member w ↦ λ past h.
          w.smallest-is
          ∙ (c.loop-group.invariant past h
          ∙ (reduce_filter-left (smaller past) (λ g. is_member past g u) (take i gs) g (sym (c.is_member.ensures past h) ∙ w.if-is_member.false)
          ∙ ap (λ gs. reduce (smaller past) (filter (λ g. is_member past g u) gs)) (sym next)))
    ]

pub returns : goal.returns
returns c = λ past h. c.loop-group.invariant past h ∙ ap (λ gs. reduce (smaller past) (filter (λ g. is_member past g c.args.user) gs)) (take_all c.loop-group.group-index c.args.groups.now c.loop-group-test.false)
