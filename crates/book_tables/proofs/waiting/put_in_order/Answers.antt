use Rattle.std.proofs.Common.{List, not, ◌+◌, length, sym, ap, ◌∙◌, subst, rules}
use Rattle.std.specs.Prelude.{insert, if◌then◌else◌}
use Rattle.std.specs.Vec.{vec_len}
use Rattle.std.proofs.lemmas.List.Sorted.{IsPartitionPoint-from_clause}
use Rattle.book_tables.specs.declared.tables.Waiting.{Waiting}
use Rattle.book_tables.specs.Notices.{is_before, put_in_order, AreSorted}
use Rattle.book_tables.proofs.Placing.{sorted-partitioned, insert-in_order}
use Rattle.book_tables.proofs.waiting.put_in_order.Goals as goal

pub returns-clause-items : goal.returns-clause-items
returns-clause-items c = λ sorted.
    let w = c.args.notice in let ws = c.args.notices.now.items in let xs = c.deref.result.now in let i = c.partition_point-place.result in
    let point = IsPartitionPoint-from_clause (is_before w.deal w.user w.way) _ _ c.partition_point-place.ensures.partitioned
    (sorted-partitioned w.deal w.user w.way xs (subst AreSorted (sym c.deref.ensures.value) sorted)) (λ a r q h. search rules) in
    c.insert.ensures.items
    ∙ (ap (λ b. if b then insert ws i w else ws) (c.is_err.ensures.negation ∙ ap not c.if-is_err.false)
    ∙ (ap (λ (vs : List Waiting). insert vs i w) (sym c.deref.ensures.value) ∙ (insert-in_order w xs i c.partition_point-place.ensures.bound point ∙ ap (put_in_order w) c.deref.ensures.value)))

pub returns-clause-long : goal.returns-clause-long
returns-clause-long c =
    c.insert.ensures.len ∙ ap (λ b. if b then vec_len c.args.notices.now + 1 else vec_len c.args.notices.now) (c.is_err.ensures.negation ∙ ap not c.if-is_err.false)
