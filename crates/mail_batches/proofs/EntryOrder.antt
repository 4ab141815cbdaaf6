-- The entries of items are the same in whatever order the items come.
use Rattle.std.proofs.Common.{◌≡◌, ℕ, Bool, true, false, not, ◌||◌, ◌==◌, List, [], ◌∷◌, refl, ap, ◌∙◌, sym}
use Rattle.std.specs.Prelude.{filter, map}
use Rattle.std.specs.List.{AllByRecursion, IsDistinct, list_any}
use Rattle.std.specs.List.Sorted.{IsPermutation}
use Rattle.std.proofs.lemmas.Bool.{and_from}
use Rattle.std.proofs.lemmas.List.Sorted.{IsPermutation-sym}
use Rattle.std.proofs.lemmas.Map.Keys.{IsDistinct-IsPermutation}
use Rattle.chat_model.specs.declared.ids.UserId.{UserId}
use Rattle.chat_model.proofs.OnceEach.{ascending_once-ascending}
use Rattle.mail_batches.specs.declared.grouping.ReadyItem.{ReadyItem}
use Rattle.mail_batches.specs.Entries.{message_of, no_message_twice, by_message, begins, entry_of, entries_of}
use Rattle.mail_batches.proofs.InOrder.{same_message, flips, Apart, Found, distinct, same_items, found-all, found-sorted, all-moved, by_message-all}

once-from : (xs : List ReadyItem) → IsDistinct same_message xs → no_message_twice xs ≡ true
unfolding IsDistinct
once-from [] h = refl
once-from (x ∷ xs) h = and_from (not (list_any (λ k. message_of k == message_of x) xs)) (no_message_twice xs) (others xs h.0) (once-from xs h.1)
  where
    others : (ys : List ReadyItem) → Apart x ys → not (list_any (λ k. message_of k == message_of x) ys) ≡ true
    others [] apart = refl
    others (y ∷ ys) apart = at (message_of y == message_of x) (list_any (λ k. message_of k == message_of x) ys) (flips y x ∙ apart.0) (others ys apart.1)
      where
        at : (a b : Bool) → a ≡ false → not b ≡ true → not (a || b) ≡ true
        at a b e rest = ap (λ c. not (c || b)) e ∙ rest

-- no message stands twice in items that were moved
pub no_message_twice-moved : (xs ys : List ReadyItem) → no_message_twice xs ≡ true → IsPermutation xs ys → no_message_twice ys ≡ true
no_message_twice-moved xs ys once moved = once-from ys (IsDistinct-IsPermutation same_message flips xs ys moved (distinct xs once))

-- items that were moved are the same by ascending message
pub by_message-moved : (xs ys : List ReadyItem) → no_message_twice xs ≡ true → IsPermutation xs ys → by_message xs ≡ by_message ys
by_message-moved xs ys once moved =
    let apart = distinct xs once in
    let apart_moved = IsDistinct-IsPermutation same_message flips xs ys moved apart in
    let back = IsPermutation-sym xs ys moved in
    same_items (by_message xs) (by_message ys) (ascending_once-ascending message_of xs) (ascending_once-ascending message_of ys)
    (by_message-all (Found (by_message xs)) ys (found-sorted xs ys apart (all-moved (Found xs) xs ys moved (found-all xs apart))))
    (by_message-all (Found (by_message ys)) xs (found-sorted ys xs apart_moved (all-moved (Found ys) ys xs back (found-all ys apart_moved))))

-- the entries of items that were moved
pub entries_of-moved : (user : UserId) (name : List ℕ) (at : ℕ) (xs ys : List ReadyItem) → no_message_twice xs ≡ true → IsPermutation xs ys → entries_of user name at xs ≡ entries_of user name at ys
entries_of-moved user name at xs ys once moved =
    ap (λ items. map (entry_of user name at items) (filter (begins items) items)) (by_message-moved xs ys once moved)
