-- The first event behind a place that passes a test, at a journal with one more event.
use Rattle.std.proofs.Common.{◌≡◌, ℕ, ◌+◌, ◌<◌, ◌≤◌, Bool, true, false, ◌&&◌, ◌||◌, cond, List, [], ◌∷◌, ◌++◌, length, take, refl, sym, ap, ◌∙◌, subst, arith}
use Rattle.std.specs.Prelude.{Option, Some, None, is_some, find, nat_lt}
use Rattle.std.specs.List.{AllByRecursion}
use Rattle.std.specs.Option.{option_or}
use Rattle.std.proofs.lemmas.List.{append-nil, append_assoc, length_push, take-append-le}
use Rattle.std.proofs.Math.Seq.{take-append_seam}
use Rattle.std.proofs.lemmas.List.Folds.{find-append}
use Rattle.std.proofs.lemmas.Bool.{le-ltb, lt-ltb}
use Rattle.chat_model.specs.declared.event.Stamped.{Stamped}
use Rattle.notice_ledger.specs.Past.Journal.{Occurrence, occurrence, occurrences, occurrences_after, first_behind, some_behind}
use Rattle.notice_ledger.proofs.Lists.{AllByRecursion-append, AllByRecursion-weaker, by_appending}
use Rattle.notice_ledger.proofs.Appended.{occurrences-append, first_behind-nil, first_behind-append}

-- what is found has what all have
pub find_all : {X : Type 0} (P : X → Type 0) (p : X → Bool) (xs : List X) (x : X) → AllByRecursion P xs → find p xs ≡ Some x → P x
find_all P p [] x all e = absurd (cc)
find_all {X} P p (y ∷ xs) x all e = by (p y) e (λ h. find_all P p xs x all.1 h)
  where
    by : (b : Bool) → cond b (Some y) (find p xs) ≡ Some x → (find p xs ≡ Some x → P x) → P x
    by true h later = let same : y ≡ x = cc in subst P same all.0
    by false h later = later h

-- what is found passes
pub find-passes : {X : Type 0} (p : X → Bool) (xs : List X) (x : X) → find p xs ≡ Some x → p x ≡ true
find-passes p [] x e = absurd (cc)
find-passes {X} p (y ∷ ys) x e = by (p y) refl e (find-passes p ys x)
  where
    by : (b : Bool) → p y ≡ b → cond b (Some y) (find p ys) ≡ Some x → (find p ys ≡ Some x → p x ≡ true) → p x ≡ true
    by true h found later = let same : y ≡ x = cc in ap p (sym same) ∙ h
    by false h found later = later found

-- each event stands in the journal
pub occurrences-placed : (j : List Stamped) → AllByRecursion (λ o. o.place < length j) (occurrences j)
unfolding occurrences
occurrences-placed = by_appending (λ j. AllByRecursion (λ o. o.place < length j) (occurrences j)) tt (λ j s h.
    subst (AllByRecursion (λ o. o.place < length (j ++ s ∷ []))) (sym (occurrences-append j s))
    (AllByRecursion-append (λ o. o.place < length (j ++ s ∷ [])) (occurrences j) (occurrence j s ∷ [])
    (AllByRecursion-weaker (λ o. o.place < length j) (λ o. o.place < length (j ++ s ∷ [])) (λ o lt. omega (arith, length_push j s)) (occurrences j) h)
    (omega (arith, length_push j s), tt)))

pub first_behind-placed : (place : ℕ) (test : Occurrence → Bool) (j : List Stamped) (o : Occurrence) → first_behind place test j ≡ Some o → o.place < length j
first_behind-placed place test j o found =
    find_all (λ o. o.place < length j) (λ o. nat_lt place o.place && test o) (occurrences j) o (occurrences-placed j) found

-- one more event, behind a place of the journal
pub first_behind-next : (place : ℕ) (test : Occurrence → Bool) (j : List Stamped) (s : Stamped) → place < length j → first_behind place test (j ++ s ∷ []) ≡ option_or (first_behind place test j) (cond (test (occurrence j s)) (Some (occurrence j s)) None)
first_behind-next place test j s placed =
    first_behind-append place test j s
    ∙ ap (λ b. option_or (first_behind place test j) (cond (b && test (occurrence j s)) (Some (occurrence j s)) None)) (lt-ltb place (length j) placed)

some_or : {A : Type 0} (o : Option A) (b : Bool) (x : A) → is_some (option_or o (cond b (Some x) None)) ≡ (is_some o || b)
some_or None true x = refl
some_or None false x = refl
some_or (Some y) b x = refl

pub some_behind-next : (place : ℕ) (test : Occurrence → Bool) (j : List Stamped) (s : Stamped) → place < length j → some_behind place test (j ++ s ∷ []) ≡ (some_behind place test j || test (occurrence j s))
some_behind-next place test j s placed =
    ap is_some (first_behind-next place test j s placed) ∙ some_or (first_behind place test j) (test (occurrence j s)) (occurrence j s)

-- no event stands behind the journal
pub first_behind-past : (place : ℕ) (test : Occurrence → Bool) (j : List Stamped) → length j ≤ place + 1 → first_behind place test j ≡ None
first_behind-past place test = by_appending (λ j. length j ≤ place + 1 → first_behind place test j ≡ None) (λ _. first_behind-nil place test) (λ j s h bound.
    first_behind-append place test j s
    ∙ (ap (λ x. option_or x (cond (nat_lt place (length j) && test (occurrence j s)) (Some (occurrence j s)) None)) (h (omega (arith, length_push j s)))
    ∙ ap (λ b. cond (b && test (occurrence j s)) (Some (occurrence j s)) None) (le-ltb place (length j) (omega (arith, length_push j s)))))

-- ---- more events behind

occurrences_after-more : (past j k : List Stamped) → occurrences_after past (j ++ k) ≡ occurrences_after past j ++ occurrences_after (past ++ j) k
occurrences_after-more past [] k = ap (λ p. occurrences_after p k) (sym (append-nil past))
occurrences_after-more past (s ∷ j) k =
    ap (λ os. occurrence past s ∷ os) (occurrences_after-more (past ++ s ∷ []) j k ∙ ap (λ p. occurrences_after (past ++ s ∷ []) j ++ occurrences_after p k) (append_assoc past (s ∷ []) j))

found_or : {A : Type 0} (o : Option A) (p : Option A) (a : A) → o ≡ Some a → option_or o p ≡ Some a
found_or o p a e = ap (λ q. option_or q p) e

-- what is found stays found when more events come
pub found-longer : (place : ℕ) (test : Occurrence → Bool) (j k : List Stamped) (o : Occurrence) → first_behind place test j ≡ Some o → first_behind place test (j ++ k) ≡ Some o
unfolding occurrences
found-longer place test j k o e =
    ap (find (λ o. nat_lt place o.place && test o)) (occurrences_after-more [] j k)
    ∙ (find-append (λ o. nat_lt place o.place && test o) (occurrences_after [] j) (occurrences_after j k)
    ∙ found_or (find (λ o. nat_lt place o.place && test o) (occurrences_after [] j)) (find (λ o. nat_lt place o.place && test o) (occurrences_after j k)) o e)

-- an event has the events before its place
record HasPast (j : List Stamped) (o : Occurrence) : Type 0 where
  placed : o.place < length j
  past : o.past ≡ take o.place j

occurrences-past : (j : List Stamped) → AllByRecursion (HasPast j) (occurrences j)
unfolding occurrences
occurrences-past = by_appending (λ j. AllByRecursion (HasPast j) (occurrences j)) tt (λ j s h.
    subst (AllByRecursion (HasPast (j ++ s ∷ []))) (sym (occurrences-append j s))
    (AllByRecursion-append (HasPast (j ++ s ∷ [])) (occurrences j) (occurrence j s ∷ [])
    (AllByRecursion-weaker (HasPast j) (HasPast (j ++ s ∷ [])) (λ o p. record { placed = omega (arith, length_push j s, p.placed); past = p.past ∙ sym (take-append-le o.place j (s ∷ []) (omega (arith, p.placed))) }) (occurrences j) h)
    (record { placed = omega (arith, length_push j s); past = sym (take-append_seam j (s ∷ [])) }, tt)))

-- the events before the place of one that is found
pub first_behind-take : (place : ℕ) (test : Occurrence → Bool) (j : List Stamped) (o : Occurrence) → first_behind place test j ≡ Some o → o.past ≡ take o.place j
first_behind-take place test j o found = (find_all (HasPast j) (λ o. nat_lt place o.place && test o) (occurrences j) o (occurrences-past j) found).past
