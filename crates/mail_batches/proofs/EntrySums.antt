-- The entries of items have each item once: what is counted of the entries item by item is counted of the items.
use Rattle.std.proofs.Common.{◌≡◌, ℕ, ◌+◌, Bool, true, false, ◌||◌, cond, List, [], ◌∷◌, ◌++◌, refl, sym, ap, ◌∙◌, subst, arith, append_assoc}
use Rattle.std.specs.Prelude.{filter, map, sum_by}
use Rattle.std.specs.List.{IsDistinct, list_any}
use Rattle.std.proofs.lemmas.Bool.{eq-eqb, false≢true}
use Rattle.std.proofs.lemmas.List.{append-nil}
use Rattle.std.proofs.lemmas.List.Sums.{sum_by-append, sum_by-cons, sum_by_push}
use Rattle.chat_model.specs.declared.ids.UserId.{UserId}
use Rattle.chat_model.specs.declared.entry.Conversation.{Conversation}
use Rattle.chat_model.specs.declared.entry.Entry.{Entry}
use Rattle.chat_model.specs.declared.entry.Entry.TheVariants.{Mail}
use Rattle.chat_model.specs.declared.entry.Item.{Item}
use Rattle.chat_model.specs.Ascending.{is_ascending_by, put_once_by}
use Rattle.chat_model.proofs.OnceEach.{ascending_once-ascending}
use Rattle.mail_batches.specs.declared.grouping.ReadyItem.{ReadyItem}
use Rattle.mail_batches.specs.declared.grouping.Group.{Group}
use Rattle.mail_batches.specs.Entries.{message_of, no_message_twice, by_message, together, begins, entry_of, entries_of}
use Rattle.mail_batches.specs.Groups.{group_of, groups_of}
use Rattle.mail_batches.proofs.GroupSteps.{ascends-front, grow, grown, is_of, joined-groups, started-groups, some-group}
use Rattle.mail_batches.proofs.InOrder.{same_message, Apart, distinct, put-cases, by_message-all}

module _ (h : Item → ℕ) where
  -- what is counted of an item with its conversation, and of a group
  abbrev of_item : ReadyItem → ℕ
  of_item k = h k.item

  abbrev of_group : Group → ℕ
  of_group g = sum_by h g.items

  -- ---- items by ascending message

  put-sum : (x : ReadyItem) (ys : List ReadyItem) → Apart x ys → sum_by of_item (put_once_by message_of x ys) ≡ sum_by of_item (x ∷ ys)
  put-sum x [] apart = refl
  put-sum x (y ∷ ys) apart =
      put-cases (λ zs. sum_by of_item zs ≡ sum_by of_item (x ∷ y ∷ ys)) x y ys
      refl
      (λ e. absurd (false≢true (sym apart.0 ∙ eq-eqb (message_of x) (message_of y) e)))
      (let behind = sum_by-cons of_item y (put_once_by message_of x ys) in
      let rest = put-sum x ys apart.1 ∙ sum_by-cons of_item x ys in
      let whole = sum_by-cons of_item x (y ∷ ys) in let tail = sum_by-cons of_item y ys in
      omega (arith, behind, rest, whole, tail))

  by_message-sum : (xs : List ReadyItem) → IsDistinct same_message xs → sum_by of_item (by_message xs) ≡ sum_by of_item xs
  unfolding IsDistinct
  by_message-sum [] apart = refl
  by_message-sum (x ∷ xs) apart =
      put-sum x (by_message xs) (by_message-all (λ y. same_message x y ≡ false) xs apart.0)
      ∙ (sum_by-cons of_item x (by_message xs)
      ∙ (ap (λ n. of_item x + n) (by_message-sum xs apart.1) ∙ sym (sum_by-cons of_item x xs)))

  -- ---- groups

  grown-sum : (p : Group → Bool) (item : Item) (gs : List Group) → list_any p gs ≡ true → sum_by of_group (grown p item gs) ≡ sum_by of_group gs + h item
  grown-sum p item [] some = absurd (false≢true some)
  grown-sum p item (g ∷ gs) some = at (p g) some (grown-sum p item gs)
    where
      at : (b : Bool) → (b || list_any p gs) ≡ true → (list_any p gs ≡ true → sum_by of_group (grown p item gs) ≡ sum_by of_group gs + h item)
          → sum_by of_group (cond b (grow item g ∷ gs) (g ∷ grown p item gs)) ≡ sum_by of_group (g ∷ gs) + h item
      at true e rest =
          let whole = sum_by-cons of_group (grow item g) gs in let before = sum_by-cons of_group g gs in
          let more : of_group (grow item g) ≡ of_group g + h item = sum_by_push h g.items item in
          omega (arith, whole, before, more)
      at false e rest =
          let whole = sum_by-cons of_group g (grown p item gs) in let before = sum_by-cons of_group g gs in
          let more = rest e in
          omega (arith, whole, before, more)

  -- one more item
  groups-push : (xs : List ReadyItem) (x : ReadyItem) → is_ascending_by message_of (xs ++ x ∷ []) ≡ true → sum_by of_group (groups_of (xs ++ x ∷ [])) ≡ sum_by of_group (groups_of xs) + h x.item
  groups-push xs x ascends = at (list_any (λ k. together k x) xs) refl
    where
      at : (b : Bool) → list_any (λ k. together k x) xs ≡ b → sum_by of_group (groups_of (xs ++ x ∷ [])) ≡ sum_by of_group (groups_of xs) + h x.item
      at true e =
          ap (sum_by of_group) (sym (joined-groups xs x ascends e))
          ∙ grown-sum (is_of x) x.item (groups_of xs) (some-group xs x (ascends-front xs (x ∷ []) ascends) ∙ e)
      at false e =
          let new : Group = record { conversation = x.conversation; items = x.item ∷ [] } in
          let alone : of_group new ≡ h x.item = sum_by_push h [] x.item ∙ plain (h x.item) in
          ap (sum_by of_group) (sym (started-groups xs x ascends e))
          ∙ (sum_by_push of_group (groups_of xs) new ∙ ap (λ n. sum_by of_group (groups_of xs) + n) alone)
        where
          plain : (n : ℕ) → 0 + n ≡ n
          plain n = omega arith

  groups-sum-from : (before xs : List ReadyItem) → is_ascending_by message_of (before ++ xs) ≡ true → sum_by of_group (groups_of before) ≡ sum_by of_item before → sum_by of_group (groups_of (before ++ xs)) ≡ sum_by of_item (before ++ xs)
  groups-sum-from before [] ascends e =
      ap (λ ys. sum_by of_group (groups_of ys)) (append-nil before) ∙ (e ∙ ap (sum_by of_item) (sym (append-nil before)))
  groups-sum-from before (x ∷ xs) ascends e =
      let joined : (before ++ x ∷ []) ++ xs ≡ before ++ x ∷ xs = simp append_assoc in
      let up = ap (is_ascending_by message_of) joined ∙ ascends in
      let one = groups-push before x (ascends-front (before ++ x ∷ []) xs up) ∙ (ap (λ n. n + h x.item) e ∙ sym (sum_by_push of_item before x)) in
      subst (λ (ys : List ReadyItem). sum_by of_group (groups_of ys) ≡ sum_by of_item ys) joined (groups-sum-from (before ++ x ∷ []) xs up one)

  pub groups-sum : (xs : List ReadyItem) → is_ascending_by message_of xs ≡ true → sum_by of_group (groups_of xs) ≡ sum_by of_item xs
  groups-sum xs ascends = groups-sum-from [] xs ascends refl

  -- ---- entries

  module _ (f : Entry → ℕ) (user : UserId) (fits : (name : List ℕ) (at : ℕ) (c : Conversation) (items : List Item) → f (Mail user name at c items) ≡ sum_by h items) where
    each-entry : (name : List ℕ) (at : ℕ) (items fs : List ReadyItem) → sum_by f (map (entry_of user name at items) fs) ≡ sum_by of_group (map (group_of items) fs)
    each-entry name at items [] = refl
    each-entry name at items (first ∷ fs) =
        sum_by-cons f (entry_of user name at items first) (map (entry_of user name at items) fs)
        ∙ (ap (λ n. n + sum_by f (map (entry_of user name at items) fs)) (fits name at first.conversation (map (λ k. k.item) (filter (together first) items)))
        ∙ (ap (λ n. of_group (group_of items first) + n) (each-entry name at items fs)
        ∙ sym (sum_by-cons of_group (group_of items first) (map (group_of items) fs))))

    -- what is counted of the entries of a user's items
    pub entries-sum : (name : List ℕ) (at : ℕ) (xs : List ReadyItem) → no_message_twice xs ≡ true → sum_by f (entries_of user name at xs) ≡ sum_by of_item xs
    entries-sum name at xs once =
        let sorted = by_message xs in
        each-entry name at sorted (filter (begins sorted) sorted)
        ∙ (groups-sum sorted (ascending_once-ascending message_of xs) ∙ by_message-sum xs (distinct xs once))
