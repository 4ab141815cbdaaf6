-- How many entries there are is settled by the conversations and the messages of the items alone.
use Rattle.std.proofs.Common.{◌≡◌, ℕ, suc, Bool, true, false, not, ◌&&◌, ◌||◌, ◌==◌, cond, List, [], ◌∷◌, length, refl, sym, ap, ◌∙◌}
use Rattle.std.specs.Prelude.{filter, map, nat_le, nat_lt}
use Rattle.std.specs.List.{list_all, list_any}
use Rattle.std.proofs.lemmas.List.{length-map}
use Rattle.chat_model.specs.declared.ids.UserId.{UserId}
use Rattle.chat_model.specs.Ascending.{put_once_by}
use Rattle.mail_batches.specs.declared.grouping.ReadyItem.{ReadyItem}
use Rattle.mail_batches.specs.Conversations.{same_conversation}
use Rattle.mail_batches.specs.Entries.{message_of, no_message_twice, by_message, together, begins, entry_of, entries_of}

-- other items of the same conversations and messages
module _ (f : ReadyItem → ReadyItem) (conversation : (k : ReadyItem) → (f k).conversation ≡ k.conversation) (message : (k : ReadyItem) → message_of (f k) ≡ message_of k) where
  put-map : (x : ReadyItem) (ys : List ReadyItem) → put_once_by message_of (f x) (map f ys) ≡ map f (put_once_by message_of x ys)
  put-map x [] = refl
  put-map x (y ∷ ys) =
      (λ i. cond (nat_lt (message x i) (message y i)) (f x ∷ f y ∷ map f ys) (cond (message x i == message y i) (f y ∷ map f ys) (f y ∷ put-map x ys i)))
      ∙ by (nat_lt (message_of x) (message_of y)) (message_of x == message_of y)
    where
      by : (a b : Bool) → cond a (f x ∷ f y ∷ map f ys) (cond b (f y ∷ map f ys) (f y ∷ map f (put_once_by message_of x ys))) ≡ map f (cond a (x ∷ y ∷ ys) (cond b (y ∷ ys) (y ∷ put_once_by message_of x ys)))
      by true b = refl
      by false true = refl
      by false false = refl

  by_message-map : (xs : List ReadyItem) → by_message (map f xs) ≡ map f (by_message xs)
  by_message-map [] = refl
  by_message-map (x ∷ xs) = ap (put_once_by message_of (f x)) (by_message-map xs) ∙ put-map x (by_message xs)

  begins-map : (items : List ReadyItem) (x : ReadyItem) → begins (map f items) (f x) ≡ begins items x
  begins-map [] x = refl
  begins-map (k ∷ items) x =
      (λ i. (not (same_conversation (conversation x i) (conversation k i)) || nat_le (message x i) (message k i)) && begins-map items x i)

  filter-begins : (items fs : List ReadyItem) → length (filter (begins (map f items)) (map f fs)) ≡ length (filter (begins items) fs)
  filter-begins items [] = refl
  filter-begins items (x ∷ fs) =
      ap (λ b. length (cond b (f x ∷ filter (begins (map f items)) (map f fs)) (filter (begins (map f items)) (map f fs)))) (begins-map items x)
      ∙ by (begins items x) (filter-begins items fs)
    where
      by : (b : Bool) → length (filter (begins (map f items)) (map f fs)) ≡ length (filter (begins items) fs)
          → length (cond b (f x ∷ filter (begins (map f items)) (map f fs)) (filter (begins (map f items)) (map f fs))) ≡ length (cond b (x ∷ filter (begins items) fs) (filter (begins items) fs))
      by true rest = ap suc rest
      by false rest = rest

  -- have as many entries, whoever is named in these
  pub entries-counted : (user other : UserId) (name other_name : List ℕ) (at other_at : ℕ) (xs : List ReadyItem) → length (entries_of other other_name other_at (map f xs)) ≡ length (entries_of user name at xs)
  entries-counted user other name other_name at other_at xs =
      let sorted = by_message xs in
      length-map (filter (begins (by_message (map f xs))) (by_message (map f xs))) (entry_of other other_name other_at (by_message (map f xs)))
      ∙ (ap (λ items. length (filter (begins items) items)) (by_message-map xs)
      ∙ (filter-begins sorted sorted ∙ sym (length-map (filter (begins sorted) sorted) (entry_of user name at sorted))))

  any-map : (n : ℕ) (xs : List ReadyItem) → list_any (λ k. message_of k == n) (map f xs) ≡ list_any (λ k. message_of k == n) xs
  any-map n [] = refl
  any-map n (x ∷ xs) = λ i. (message x i == n) || any-map n xs i

  -- and no message twice where the items have none
  pub no_message_twice-map : (xs : List ReadyItem) → no_message_twice (map f xs) ≡ no_message_twice xs
  no_message_twice-map [] = refl
  no_message_twice-map (x ∷ xs) =
      (λ i. not (list_any (λ k. message_of k == message x i) (map f xs)) && no_message_twice-map xs i)
      ∙ ap (λ b. not b && no_message_twice xs) (any-map (message_of x) xs)
