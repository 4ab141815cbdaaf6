use Rattle.std.proofs.Common.{rules, sym, ap, ◌∙◌}
use Rattle.std.proofs.lemmas.List.Sorted.{IsPartitionPoint-from_clause}
use Rattle.book_tables.specs.Notices.{is_before, is_at}
use Rattle.book_tables.proofs.Sought.{got, gets, none-there, before-partitioned, found-at, none-at}
use Rattle.book_tables.proofs.waiting.find_notice.Goals.{else-place-waiting-via-then-place-waiting+else-is_at, else-place-waiting-via-else-place-waiting}
use Rattle.book_tables.proofs.waiting.find_notice.Goals as goal

pub returns-then-is_at-clause-found : goal.returns-then-is_at-clause-found
returns-then-is_at-clause-found c = λ order.
    let ws = c.args.waiting.now in let k = c.args.deal in let u = c.args.user in let way = c.args.way in let i = c.partition_point-place.result in
    let point = IsPartitionPoint-from_clause (is_before k u way) _ _ c.partition_point-place.ensures.partitioned (before-partitioned k u way ws order) (λ a r q h. search rules) in
    found-at k u way ws i _ order point (gets ws i _ c.if-place-waiting.true) (sym c.is_at.ensures ∙ c.if-is_at.true)

pub returns-else-place-waiting-clause-found : goal.returns-else-place-waiting-clause-found
returns-else-place-waiting-clause-found c = λ order.
    let ws = c.args.waiting.now in let k = c.args.deal in let u = c.args.user in let way = c.args.way in let i = c.partition_point-place.result in
    let point = IsPartitionPoint-from_clause (is_before k u way) _ _ c.partition_point-place.ensures.partitioned (before-partitioned k u way ws order) (λ a r q h. search rules) in
    none-at k u way ws i order point (λ v at. elim c.else-place-waiting.branch [
      | else-place-waiting-via-then-place-waiting+else-is_at w ↦ ap (is_at k u way) (sym (got ws i v _ at)) ∙ (sym w.is_at.ensures ∙ w.if-is_at.false)
      | else-place-waiting-via-else-place-waiting w ↦ absurd (none-there ws i v w.if-place-waiting.false at)
    ])
