use Rattle.std.proofs.Common.{◌≡◌, ◌≤◌, ℕ, List, false, ◌+◌, ◌-◌, drop, take, true, leb, ltb, ◌==◌, sym, ap, ◌∙◌, subst, arith, rules, length}
use Rattle.std.specs.Prelude.{nat_le, nat_lt}
use Rattle.std.specs.List.{list_all}
use Rattle.std.specs.List.Sorted.{IsPartitionPoint, IsPartitionedBy}
use Rattle.mail_batches.specs.ByUser.{ascends}
use Rattle.std.proofs.lemmas.List.{drop-drop, take_rest}
use Rattle.std.proofs.lemmas.List.Sorted.{IsPartitionPoint-from_clause, IsPartitionedBy-leb, IsPartitionedBy-ltb, IsNonDecreasingBy-drop, IsNonDecreasingBy-take}
use Rattle.chat_model.specs.declared.ids.UserId.{UserId}
use Rattle.mail_batches.proofs.Stretches.{ascends-non_decreasing, all_within-take, all_within-drop, all_take, all_both, not_below, not_up_to, just_at}
use Rattle.mail_batches.proofs.by_user.find_stretch.Goals as goal

-- of users that ascend, those from a place on are first up to a number and then above it
rest_parted : (n from : ℕ) (users : List UserId) → ascends users ≡ true → IsPartitionedBy (λ u. leb u.0 n) (take (length users - from) (drop from users))
rest_parted n from users h =
    IsPartitionedBy-leb (λ (u : UserId). u.0) (take (length users - from) (drop from users)) n
    (IsNonDecreasingBy-take (λ (u : UserId). u.0) (length users - from) (drop from users) (IsNonDecreasingBy-drop (λ (u : UserId). u.0) from users (ascends-non_decreasing users h)))

pub returns-clause-before : goal.returns-clause-before
returns-clause-before c =
    let users = c.args.users.now in let n = c.args.user.0 in
    let point = IsPartitionPoint-from_clause (λ u. ltb u.0 n) _ _ c.partition_point-from.ensures.partitioned (IsPartitionedBy-ltb (λ (u : UserId). u.0) users n (ascends-non_decreasing users c.requires)) (λ a r q k. search rules) in
    all_within-take (λ u. nat_lt u.0 n) users c.partition_point-from.result c.partition_point-from.ensures.bound point.0

pub returns-clause-at : goal.returns-clause-at
returns-clause-at c =
    let users = c.args.users.now in let n = c.args.user.0 in
    let from = c.partition_point-from.result in let count = c.partition_point.result in
    let climbs = ascends-non_decreasing users c.requires in
    let first = IsPartitionPoint-from_clause (λ u. ltb u.0 n) _ _ c.partition_point-from.ensures.partitioned (IsPartitionedBy-ltb (λ (u : UserId). u.0) users n climbs) (λ a r q k. search rules) in
    let second = subst (λ (us : List UserId). IsPartitionPoint (λ u. leb u.0 n ≡ true) (λ u. leb u.0 n ≡ false) us count) (take_rest users from)
    (IsPartitionPoint-from_clause (λ (u : UserId). leb u.0 n) (take (length users - from) (drop from users)) count c.partition_point.ensures.partitioned (rest_parted n from users c.requires) (λ a r q k. search rules)) in
    let above = all_within-drop (λ u. nat_lt u.0 n) (λ u. nat_le n u.0) (λ u h. not_below n u.0 h) users from first.1 in
    let up_to = all_within-take (λ u. nat_le u.0 n) (drop from users) count (subst (λ (us : List UserId). count ≤ length us) (take_rest users from) c.partition_point.ensures.bound) second.0 in
    let e : from + count - from ≡ count = omega arith in
    ap (λ k. list_all (λ (u : UserId). u.0 == n) (take k (drop from users))) e
    ∙ all_both (λ u. nat_le u.0 n) (λ u. nat_le n u.0) (λ u. u.0 == n) (λ u h k. just_at n u.0 h k) (take count (drop from users)) up_to (all_take (λ u. nat_le n u.0) count (drop from users) above)

pub returns-clause-behind : goal.returns-clause-behind
returns-clause-behind c =
    let users = c.args.users.now in let n = c.args.user.0 in
    let from = c.partition_point-from.result in let count = c.partition_point.result in
    let second = subst (λ (us : List UserId). IsPartitionPoint (λ u. leb u.0 n ≡ true) (λ u. leb u.0 n ≡ false) us count) (take_rest users from)
    (IsPartitionPoint-from_clause (λ (u : UserId). leb u.0 n) (take (length users - from) (drop from users)) count c.partition_point.ensures.partitioned (rest_parted n from users c.requires) (λ a r q k. search rules)) in
    ap (list_all (λ (u : UserId). nat_lt n u.0)) (sym (drop-drop count from users))
    ∙ all_within-drop (λ u. nat_le u.0 n) (λ u. nat_lt n u.0) (λ u h. not_up_to n u.0 h) (drop from users) count second.1
