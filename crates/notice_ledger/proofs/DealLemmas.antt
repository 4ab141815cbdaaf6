-- The deals, event by event: their count, their numbers, and the order of their users.
use Rattle.std.proofs.Common.{◌≡◌, ℕ, zero, suc, ◌+◌, ◌≤◌, true, cond, List, [], ◌∷◌, ◌++◌, length, map, refl, sym, ap, ◌∙◌, subst, arith, zero-add}
use Rattle.std.specs.Prelude.{Option, Some, None, option_map, option_to_list, slice_get, count_by, ◌↔◌, ⊤}
use Rattle.std.specs.List.{filter_map, cons_option}
use Rattle.std.proofs.lemmas.Option.{slice_get_past}
use Rattle.std.proofs.lemmas.List.Elements.{filter_map-append}
use Rattle.std.proofs.lemmas.List.Sums.{sum_by-append}
use Rattle.chat_model.specs.Ascending.{is_ascending_by}
use Rattle.chat_model.proofs.OnceEach.{ascending_once-ascending}
use Rattle.chat_model.specs.declared.event.Stamped.{Stamped}
use Rattle.chat_model.specs.declared.deal.Deal.{Deal}
use Rattle.chat_model.specs.declared.ids.UserId.{UserId}
use Rattle.notice_ledger.specs.Past.Journal.{occurrence, occurrences}
use Rattle.notice_ledger.specs.Past.Values.{SentMessage, message_of, messages, deal_count}
use Rattle.notice_ledger.specs.Past.Owed.{Notice, owed_by}
use Rattle.notice_ledger.specs.Past.Deals.{deal_of, deal_made, deals}
use Rattle.notice_ledger.specs.Past.Runs.{is_restart, start_count}
use Rattle.notice_ledger.proofs.Lists.{by_appending}
use Rattle.notice_ledger.proofs.Appended.{occurrences-append}
use Rattle.notice_ledger.proofs.Sent.{deal_count-messages}

-- ---- one more event

single : {X Y : Type 0} (h : X → Option Y) (x : X) → filter_map h (x ∷ []) ≡ option_to_list (h x)
single h x = elim (h x) as (λ o. cons_option o [] ≡ option_to_list o) [ None ↦ refl | Some y ↦ refl ]

pub deals-nil : deals [] ≡ []
unfolding deals occurrences
deals-nil = refl

pub deals-append : (j : List Stamped) (s : Stamped) → deals (j ++ s ∷ []) ≡ deals j ++ option_to_list (deal_made (occurrence j s))
unfolding deals
deals-append j s =
    ap (filter_map deal_made) (occurrences-append j s) ∙ (filter_map-append deal_made (occurrences j) (occurrence j s ∷ []) ∙ ap (λ ds. filter_map deal_made (occurrences j) ++ ds) (single deal_made (occurrence j s)))

pub start_count-nil : start_count [] ≡ 0
unfolding start_count
start_count-nil = refl

pub start_count-append : (j : List Stamped) (s : Stamped) → start_count (j ++ s ∷ []) ≡ start_count j + cond (is_restart s.event) 1 0
unfolding start_count
start_count-append j s = sum_by-append (λ t. cond (is_restart t.event) 1 0) j (s ∷ []) ∙ ap (λ n. count_by (λ t. is_restart t.event) j + n) (zero-add (cond (is_restart s.event) 1 0))

-- ---- how many there are

one_each : {X Y Z : Type 0} (f : X → Z) (h : X → Option Y) (xs : List X) → length (filter_map (λ x. option_map (λ y. f x) (h x)) xs) ≡ length (filter_map h xs)
one_each f h [] = refl
one_each {X} {Y} {Z} f h (x ∷ xs) =
    let given = filter_map (λ x. option_map (λ y. f x) (h x)) xs in
    elim (h x) as (λ o. length (cons_option (option_map (λ y. f x) o) given) ≡ length (cons_option o (filter_map h xs))) [
      | None ↦ one_each f h xs
      | Some y ↦ ap suc (one_each f h xs)
    ]

pub deals-messages : (j : List Stamped) → length (deals j) ≡ length (messages j)
unfolding deals messages
deals-messages j = one_each deal_of message_of (occurrences j)

-- there are as many deals as are counted
pub deals-counted : (j : List Stamped) → length (deals j) ≡ deal_count j
deals-counted j = deals-messages j ∙ sym (deal_count-messages j)

-- ---- their numbers, and the order of their users

-- the users of a deal ascend
abbrev pub Ascend : Deal → Type 0
Ascend d = is_ascending_by (λ (u : UserId). u.0) d.users ≡ true

-- the deals have numbers one after another, from this one on, and the users of each ascend
abbrev AreNumbered : ℕ → List Deal → Type 0
AreNumbered n [] = ⊤
AreNumbered n (d ∷ ds) = (d.number.0 ≡ n) × Ascend d × AreNumbered (n + 1) ds

numbered-append : (n : ℕ) (xs ys : List Deal) → AreNumbered n xs → AreNumbered (n + length xs) ys → AreNumbered n (xs ++ ys)
numbered-append n [] ys h more = let e : n + 0 ≡ n = omega arith in subst (λ k. AreNumbered k ys) e more
numbered-append n (x ∷ xs) ys h more =
    let e : n + length (x ∷ xs) ≡ (n + 1) + length xs = omega arith in
    (h.0, h.1, numbered-append (n + 1) xs ys h.2 (subst (λ k. AreNumbered k ys) e more))

numbered-at : (n : ℕ) (xs : List Deal) (k : ℕ) (d : Deal) → AreNumbered n xs → slice_get xs k ≡ Some d → (d.number.0 ≡ n + k) × Ascend d
numbered-at n [] k d h e = absurd (cc)
numbered-at n (x ∷ xs) zero d h e =
    let same : x ≡ d = cc in
    subst (λ (y : Deal). (y.number.0 ≡ n + 0) × Ascend y) same (let here : x.number.0 ≡ n + 0 = omega (arith, h.0) in (here, h.1))
numbered-at n (x ∷ xs) (suc k) d h e =
    let later = numbered-at (n + 1) xs k d h.2 e in
    let here : d.number.0 ≡ n + suc k = omega (arith, later.0) in
    (here, later.1)

deals-numbered : (j : List Stamped) → AreNumbered 0 (deals j)
deals-numbered = by_appending (λ j. AreNumbered 0 (deals j)) (subst (AreNumbered 0) (sym deals-nil) tt) (λ j s h.
    subst (AreNumbered 0) (sym (deals-append j s)) (numbered-append 0 (deals j) (option_to_list (deal_made (occurrence j s))) h (next j s (message_of (occurrence j s)))))
  where
    next : (j : List Stamped) (s : Stamped) (m : Option SentMessage) → AreNumbered (0 + length (deals j)) (option_to_list (option_map (λ m. deal_of (occurrence j s)) m))
    next j s None = tt
    next j s (Some m) =
        let counted : deal_count j ≡ 0 + length (deals j) = omega (arith, deals-counted j) in
        (counted, ascending_once-ascending (λ (u : UserId). u.0) (map (λ (n : Notice). n.user) (owed_by (occurrence j s))), tt)

-- the deal at a number has that number, and its users ascend
pub deal-at : (j : List Stamped) (k : ℕ) (d : Deal) → slice_get (deals j) k ≡ Some d → (d.number.0 ≡ k) × Ascend d
deal-at j k d e =
    let found = numbered-at 0 (deals j) k d (deals-numbered j) e in
    let number : d.number.0 ≡ k = omega (arith, found.0) in
    (number, found.1)

at_least : (xs : List Deal) (k : ℕ) → slice_get xs k ≡ None → length xs ≤ k
at_least [] k none = omega arith
at_least (x ∷ xs) zero none = absurd (cc)
at_least (x ∷ xs) (suc k) none = omega (arith, at_least xs k none)

-- there is no deal from the count on, and one below it
pub no_deal : (j : List Stamped) (k : ℕ) → (slice_get (deals j) k ≡ None) ↔ (deal_count j ≤ k)
no_deal j k = (
  λ none. omega (arith, at_least (deals j) k none, deals-counted j),
  λ past. let long : length (deals j) ≤ k = omega (arith, past, deals-counted j) in slice_get_past (deals j) k long,
)
