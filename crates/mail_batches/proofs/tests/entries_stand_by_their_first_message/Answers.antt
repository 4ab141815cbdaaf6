use Rattle.std.proofs.Common.{◌≡◌, ℕ, Bool, true, not, ◌&&◌, ◌||◌, ◌==◌, List, [], ◌∷◌, ◌++◌, map, refl, ap, ◌∙◌}
use Rattle.std.specs.List.{list_any}
use Rattle.mail_batches.specs.declared.grouping.ReadyItem.{ReadyItem}
use Rattle.mail_batches.specs.Entries.{message_of, no_message_twice}
use Rattle.mail_batches.proofs.tests.entries_stand_by_their_first_message.Goals as goal

-- no number stands twice
abbrev no_twice : List ℕ → Bool
no_twice [] = true
no_twice (n ∷ ns) = not (list_any (λ k. k == n) ns) && no_twice ns

any-numbers : (n : ℕ) (xs : List ReadyItem) → list_any (λ k. message_of k == n) xs ≡ list_any (λ k. k == n) (map message_of xs)
any-numbers n [] = refl
any-numbers n (x ∷ xs) = ap (λ b. message_of x == n || b) (any-numbers n xs)

by_numbers : (xs : List ReadyItem) → no_message_twice xs ≡ no_twice (map message_of xs)
by_numbers [] = refl
by_numbers (x ∷ xs) = ap (λ b. not b && no_message_twice xs) (any-numbers (message_of x) xs) ∙ ap (λ b. not (list_any (λ k. k == message_of x) (map message_of xs)) && b) (by_numbers xs)

pub entries-requires : goal.entries-requires
entries-requires g c =
    let numbers : map message_of c.add-5.new.items ≡ 6 ∷ 5 ∷ 1 ∷ 4 ∷ 2 ∷ [] =
    c.in_ok-add-5.ensures
    ∙ ap (λ ns. ns ++ 2 ∷ []) (c.in_ok-add-4.ensures
    ∙ ap (λ ns. ns ++ 4 ∷ []) (c.in_ok-add-3.ensures
    ∙ ap (λ ns. ns ++ 1 ∷ []) (c.in_ok-add-2.ensures
    ∙ ap (λ ns. ns ++ 5 ∷ []) (c.in_ok-add.ensures
    ∙ ap (λ ns. ns ++ 6 ∷ []) (ap (map message_of) c.new-items.ensures))))) in
    by_numbers c.add-5.new.items ∙ ap no_twice numbers
