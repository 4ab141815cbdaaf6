-- Lists whose elements ascend by a number, and what ascends in a journal's notices.
use Rattle.std.proofs.Common.{◌≡◌, ℕ, ◌+◌, ◌<◌, ◌≤◌, Bool, true, false, cond, List, [], ◌∷◌, ◌++◌, length, refl, ap, ◌∙◌, subst, arith, length-append}
use Rattle.std.specs.Prelude.{Option, Some, None, filter, option_to_list}
use Rattle.std.specs.List.{AllByRecursion}
use Rattle.chat_model.specs.declared.event.Stamped.{Stamped}
use Rattle.notice_ledger.specs.Past.Journal.{occurrence}
use Rattle.notice_ledger.specs.Past.Values.{SentMessage, message_of, messages}
use Rattle.notice_ledger.specs.Past.Owed.{owed_of, owed_by, notices}
use Rattle.std.specs.Option.{option_map_or}
use Rattle.notice_ledger.proofs.Lists.{AllByRecursion-append, AllByRecursion-weaker, AllByRecursion-filter, by_appending}
use Rattle.notice_ledger.proofs.Appended.{notices-nil, notices-append, messages-append}
use Rattle.notice_ledger.proofs.Waiting.{IsOwedBy, owed_by-each, notices-placed}

-- each element's number is at most those of the elements after it
abbrev pub Ascends : {X : Type 0} → (X → ℕ) → List X → Type 0
Ascends key [] = Unit {0}
Ascends key (x ∷ xs) = AllByRecursion (λ y. key x ≤ key y) xs × Ascends key xs

pub Ascends-append : {X : Type 0} (key : X → ℕ) (bound : ℕ) (xs ys : List X) → Ascends key xs → AllByRecursion (λ x. key x ≤ bound) xs → Ascends key ys → AllByRecursion (λ y. bound ≤ key y) ys → Ascends key (xs ++ ys)
Ascends-append key bound [] ys hx low hy high = hy
Ascends-append key bound (x ∷ xs) ys hx low hy high = (
  AllByRecursion-append (λ y. key x ≤ key y) xs ys hx.0 (AllByRecursion-weaker (λ y. bound ≤ key y) (λ y. key x ≤ key y) (λ y le. omega (arith, low.0)) ys high),
  Ascends-append key bound xs ys hx.1 low.1 hy high,
)

pub Ascends-filter : {X : Type 0} (key : X → ℕ) (p : X → Bool) (xs : List X) → Ascends key xs → Ascends key (filter p xs)
Ascends-filter key p [] h = tt
Ascends-filter key p (x ∷ xs) h =
    elim (p x) as (λ b. Ascends key (cond b (x ∷ filter p xs) (filter p xs))) [
      | true ↦ (AllByRecursion-filter (λ y. key x ≤ key y) p xs h.0, Ascends-filter key p xs h.1)
      | false ↦ Ascends-filter key p xs h.1
    ]

-- elements of one number ascend
pub Ascends-level : {X : Type 0} (key : X → ℕ) (n : ℕ) (xs : List X) → AllByRecursion (λ x. key x ≡ n) xs → Ascends key xs
Ascends-level key n [] h = tt
Ascends-level key n (x ∷ xs) h =
    (AllByRecursion-weaker (λ y. key y ≡ n) (λ y. key x ≤ key y) (λ y e. omega (arith, h.0)) xs h.1, Ascends-level key n xs h.1)

-- an event that owes a notice sends a message
length_sent : (j : List Stamped) (s : Stamped) → length (messages (j ++ s ∷ [])) ≡ length (messages j) + length (option_to_list (message_of (occurrence j s)))
length_sent j s = ap length (messages-append j s) ∙ length-append (messages j) (option_to_list (message_of (occurrence j s)))

-- each notice is of a message of the journal
pub notices-numbered : (j : List Stamped) → AllByRecursion (λ n. n.number.0 ≤ length (messages j)) (notices j)
notices-numbered = by_appending (λ j. AllByRecursion (λ n. n.number.0 ≤ length (messages j)) (notices j)) (rw notices-nil tt) (λ j s h.
    rw (notices-append j s) (AllByRecursion-append (λ n. n.number.0 ≤ length (messages (j ++ s ∷ []))) (notices j) (owed_by (occurrence j s))
    (AllByRecursion-weaker (λ n. n.number.0 ≤ length (messages j)) (λ n. n.number.0 ≤ length (messages (j ++ s ∷ []))) (λ n le. omega (arith, length_sent j s)) (notices j) h)
    (owed_numbered j s (message_of (occurrence j s)) refl)))
  where
    owed_numbered : (j : List Stamped) (s : Stamped) (m : Option SentMessage) → message_of (occurrence j s) ≡ m → AllByRecursion (λ n. n.number.0 ≤ length (messages (j ++ s ∷ []))) (option_map_or (owed_of (occurrence j s)) m [])
    owed_numbered j s None e = tt
    owed_numbered j s (Some m) e =
        let each : AllByRecursion (IsOwedBy (occurrence j s)) (owed_of (occurrence j s) m) = subst (λ (x : Option SentMessage). AllByRecursion (IsOwedBy (occurrence j s)) (option_map_or (owed_of (occurrence j s)) x [])) e (owed_by-each (occurrence j s)) in
        AllByRecursion-weaker (IsOwedBy (occurrence j s)) (λ n. n.number.0 ≤ length (messages (j ++ s ∷ []))) (λ n i. omega (arith, length_sent j s, i.number, ap (λ x. length (option_to_list x)) e)) (owed_of (occurrence j s) m) each

-- the events that owe them ascend
pub notices-by_place : (j : List Stamped) → Ascends (λ n. n.owing.place) (notices j)
notices-by_place = by_appending (λ j. Ascends (λ n. n.owing.place) (notices j)) (rw notices-nil tt) (λ j s h.
    rw (notices-append j s) (Ascends-append (λ n. n.owing.place) (length j) (notices j) (owed_by (occurrence j s)) h
    (AllByRecursion-weaker (λ n. n.owing.place < length j) (λ n. n.owing.place ≤ length j) (λ n lt. omega arith) (notices j) (notices-placed j))
    (Ascends-level (λ n. n.owing.place) (length j) (owed_by (occurrence j s)) (AllByRecursion-weaker (IsOwedBy (occurrence j s)) (λ n. n.owing.place ≡ length j) (λ n i. ap (λ o. o.place) i.owing) (owed_by (occurrence j s)) (owed_by-each (occurrence j s))))
    (AllByRecursion-weaker (IsOwedBy (occurrence j s)) (λ n. length j ≤ n.owing.place) (λ n i. omega (arith, ap (λ o. o.place) i.owing)) (owed_by (occurrence j s)) (owed_by-each (occurrence j s)))))

-- their messages ascend
pub notices-by_number : (j : List Stamped) → Ascends (λ n. n.number.0) (notices j)
notices-by_number = by_appending (λ j. Ascends (λ n. n.number.0) (notices j)) (rw notices-nil tt) (λ j s h.
    rw (notices-append j s) (Ascends-append (λ n. n.number.0) (length (messages j)) (notices j) (owed_by (occurrence j s)) h
    (notices-numbered j)
    (Ascends-level (λ n. n.number.0) (length (messages j) + 1) (owed_by (occurrence j s)) (AllByRecursion-weaker (IsOwedBy (occurrence j s)) (λ n. n.number.0 ≡ length (messages j) + 1) (λ n i. i.number) (owed_by (occurrence j s)) (owed_by-each (occurrence j s))))
    (AllByRecursion-weaker (IsOwedBy (occurrence j s)) (λ n. length (messages j) ≤ n.number.0) (λ n i. omega (arith, i.number)) (owed_by (occurrence j s)) (owed_by-each (occurrence j s)))))
