use Rattle.std.proofs.Common.{◌≡◌, ◌≤◌, ℕ, List, false, true, ◌+◌, ◌-◌, drop, take, leb, ltb, sym, subst, arith, rules, length}
use Rattle.std.specs.List.{AllByRecursion}
use Rattle.std.specs.List.Sorted.{IsPartitionPoint, IsPartitionedBy}
use Rattle.std.proofs.lemmas.List.{drop-drop, take_rest}
use Rattle.std.proofs.lemmas.List.Sorted.{IsPartitionPoint-from_clause, IsPartitionedBy-leb, IsPartitionedBy-ltb, IsNonDecreasingBy-drop, IsNonDecreasingBy-take}
use Rattle.notice_ledger.proofs.Lists.{AllByRecursion-weaker}
use Rattle.book_tables.specs.declared.tables.Waiting.{Waiting}
use Rattle.book_tables.specs.Notices.{of_deal, IsInOrder}
use Rattle.book_tables.proofs.Sought.{deals-ascend, within-take, within-drop, all-take, all-both, deal_below, deal_above, deal_there}
use Rattle.book_tables.proofs.waiting.find_deal.Goals as goal

-- of notices in order, those from a place on are first of deals up to a number and then above it
rest_parted : (n from : ℕ) (ws : List Waiting) → IsInOrder ws → IsPartitionedBy (λ w. leb w.deal.0 n) (take (length ws - from) (drop from ws))
rest_parted n from ws h =
    IsPartitionedBy-leb (λ (w : Waiting). w.deal.0) (take (length ws - from) (drop from ws)) n
    (IsNonDecreasingBy-take (λ (w : Waiting). w.deal.0) (length ws - from) (drop from ws) (IsNonDecreasingBy-drop (λ (w : Waiting). w.deal.0) from ws (deals-ascend ws h)))

pub returns-clause-found : goal.returns-clause-found
returns-clause-found c = λ order.
    let ws = c.args.waiting.now in let n = c.args.deal.0 in
    let from = c.partition_point-from.result in let count = c.partition_point.result in
    let first = IsPartitionPoint-from_clause (λ (w : Waiting). ltb w.deal.0 n) _ _ c.partition_point-from.ensures.partitioned (IsPartitionedBy-ltb (λ (w : Waiting). w.deal.0) ws n (deals-ascend ws order)) (λ a r q k. search rules) in
    let second = subst (λ (vs : List Waiting). IsPartitionPoint (λ w. leb w.deal.0 n ≡ true) (λ w. leb w.deal.0 n ≡ false) vs count) (take_rest ws from)
    (IsPartitionPoint-from_clause (λ (w : Waiting). leb w.deal.0 n) (take (length ws - from) (drop from ws)) count c.partition_point.ensures.partitioned (rest_parted n from ws order) (λ a r q k. search rules)) in
    let bound : count ≤ length (drop from ws) = subst (λ (vs : List Waiting). count ≤ length vs) (take_rest ws from) c.partition_point.ensures.bound in
    let up_to = within-take (λ (w : Waiting). leb w.deal.0 n ≡ true) (drop from ws) count bound second.0 in
    let above = all-take (λ (w : Waiting). ltb w.deal.0 n ≡ false) (drop from ws) count (within-drop (λ (w : Waiting). ltb w.deal.0 n ≡ false) ws from first.1) in
    let e : from + count - from ≡ count = omega arith in
    record {
      before = AllByRecursion-weaker (λ (w : Waiting). ltb w.deal.0 n ≡ true) (λ (w : Waiting). of_deal c.args.deal w ≡ false) (λ w h. deal_below w.deal.0 n h) (take from ws)
          (within-take (λ (w : Waiting). ltb w.deal.0 n ≡ true) ws from c.partition_point-from.ensures.bound first.0);
      at = subst (λ (k : ℕ). AllByRecursion (λ (w : Waiting). of_deal c.args.deal w ≡ true) (take k (drop from ws))) (sym e)
          (all-both (λ (w : Waiting). leb w.deal.0 n ≡ true) (λ (w : Waiting). ltb w.deal.0 n ≡ false) (λ (w : Waiting). of_deal c.args.deal w ≡ true) (λ w h k. deal_there w.deal.0 n k h) (take count (drop from ws)) up_to above);
      behind = subst (λ (vs : List Waiting). AllByRecursion (λ (w : Waiting). of_deal c.args.deal w ≡ false) vs) (drop-drop count from ws)
          (AllByRecursion-weaker (λ (w : Waiting). leb w.deal.0 n ≡ false) (λ (w : Waiting). of_deal c.args.deal w ≡ false) (λ w h. deal_above w.deal.0 n h) (drop count (drop from ws))
          (within-drop (λ (w : Waiting). leb w.deal.0 n ≡ false) (drop from ws) count second.1));
    }
