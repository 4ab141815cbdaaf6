-- Stamps of lawful events don't go back, so a user's due moment is that of the least stamp at which a batch row is ready.
use Rattle.std.proofs.Common.{◌≡◌, ℕ, ◌+◌, ◌<◌, ◌≤◌, Bool, true, false, ◌&&◌, not, cond, List, [], ◌∷◌, ◌++◌, length, refl, sym, ap, ◌∙◌, subst, arith}
use Rattle.std.specs.Prelude.{Option, Some, None, option_map, find, fold, nat_lt, nat_le, if◌then◌else◌}
use Rattle.std.specs.List.{AllByRecursion, filter_map, cons_option, reduce}
use Rattle.std.proofs.lemmas.Bool.{and_parts, leb-true, ltb-true, ltb-false}
use Rattle.chat_model.specs.declared.event.Stamped.{Stamped}
use Rattle.chat_model.specs.declared.ids.UserId.{UserId}
use Rattle.notice_ledger.specs.Past.Journal.{Occurrence, occurrence, occurrences, some_behind, last_stamp}
use Rattle.notice_ledger.specs.Past.Values.{settings}
use Rattle.notice_ledger.specs.Past.Owed.{Notice, pushes_online, readies, clears, ready}
use Rattle.notice_ledger.specs.Past.Due.{batch_rows, due, earlier}
use Rattle.notice_ledger.specs.Past.Lawful as past
use Rattle.notice_ledger.specs.Lawful.{lawful}
use Rattle.notice_ledger.proofs.Lists.{AllByRecursion-append, AllByRecursion-weaker}
use Rattle.notice_ledger.proofs.Appended.{occurrences-append, last_stamp-append}
use Rattle.notice_ledger.proofs.Behind.{find_all, occurrences-placed}
use Rattle.notice_ledger.proofs.LawfulLemmas.{lawful-by_steps}

-- the stamps of events at later places are no less
abbrev pub InOrder : List Occurrence → Occurrence → Type 0
InOrder os o = AllByRecursion (λ p. o.place ≤ p.place → o.at ≤ p.at) os

-- what is so of the stamps of a journal
pub record AreStamped (j : List Stamped) : Type 0 where
  pub in_order : AllByRecursion (InOrder (occurrences j)) (occurrences j)
  pub bounded : AllByRecursion (λ o. o.at ≤ last_stamp j) (occurrences j)

all_true : {X : Type 0} (P : X → Type 0) → ((x : X) → P x) → (xs : List X) → AllByRecursion P xs
all_true P h [] = tt
all_true P h (x ∷ xs) = (h x, all_true P h xs)

both : {X : Type 0} (P Q : X → Type 0) (xs : List X) → AllByRecursion P xs → AllByRecursion Q xs → AllByRecursion (λ x. P x × Q x) xs
both P Q [] p q = tt
both P Q (x ∷ xs) p q = ((p.0, q.0), both P Q xs p.1 q.1)

stamped-nil : AreStamped []
unfolding occurrences
stamped-nil = record { in_order = tt; bounded = tt }

stamped-append : (j : List Stamped) (s : Stamped) → AreStamped j → last_stamp j ≤ s.at → AreStamped (j ++ s ∷ [])
stamped-append j s h le =
    let o = occurrence j s in
    let before = occurrences j in
    let low : AllByRecursion (λ p. p.at ≤ o.at) before = AllByRecursion-weaker (λ p. p.at ≤ last_stamp j) (λ p. p.at ≤ o.at) (λ p b. omega arith) before h.bounded in
    let old : AllByRecursion (InOrder (before ++ o ∷ [])) before =
    AllByRecursion-weaker (λ p. InOrder before p × (p.at ≤ o.at)) (InOrder (before ++ o ∷ [])) (λ p q. AllByRecursion-append (λ r. p.place ≤ r.place → p.at ≤ r.at) before (o ∷ []) q.0 (λ _. q.1, tt))
    before (both (InOrder before) (λ p. p.at ≤ o.at) before h.in_order low) in
    let new : InOrder (before ++ o ∷ []) o =
    AllByRecursion-append (λ r. o.place ≤ r.place → o.at ≤ r.at) before (o ∷ [])
    (AllByRecursion-weaker (λ r. r.place < length j) (λ r. o.place ≤ r.place → o.at ≤ r.at) (λ r lt place. absurd (omega arith)) before (occurrences-placed j))
    (λ _. omega arith, tt) in
    let now = last_stamp-append j s in
    record {
      in_order = subst (λ os. AllByRecursion (InOrder os) os) (sym (occurrences-append j s)) (AllByRecursion-append (InOrder (before ++ o ∷ [])) before (o ∷ []) old (new, tt));
      bounded = subst (AllByRecursion (λ p. p.at ≤ last_stamp (j ++ s ∷ []))) (sym (occurrences-append j s))
          (AllByRecursion-append (λ p. p.at ≤ last_stamp (j ++ s ∷ [])) before (o ∷ []) (AllByRecursion-weaker (λ p. p.at ≤ o.at) (λ p. p.at ≤ last_stamp (j ++ s ∷ [])) (λ p b. omega arith) before low) (omega arith, tt));
    }

-- the stamps of lawful events don't go back
pub lawful-stamped : (j : List Stamped) → AreStamped (lawful j)
lawful-stamped = lawful-by_steps AreStamped stamped-nil (λ j s h next.
    let parts = and_parts (nat_le (last_stamp j) s.at) (past.may_stand j s.at s.event) next in
    stamped-append j s h (leb-true (last_stamp j) s.at parts.0))

-- ---- the least ready event

-- the stamp of a notice's ready event
abbrev pub ready_stamp : List Stamped → Notice → Option ℕ
ready_stamp j n = option_map (λ o. o.at) (ready j n)

-- of two stamps the lesser
abbrev pub lesser : ℕ → ℕ → ℕ
lesser a b = if nat_lt b a then b else a

-- an event of the journal, which a search found
record IsAmong (j : List Stamped) (o : Occurrence) : Type 0 where
  test : Occurrence → Bool
  found : find test (occurrences j) ≡ Some o

earlier-stamp : (j : List Stamped) → AreStamped j → (a b : Occurrence) → IsAmong j a → IsAmong j b → (earlier a b).at ≡ lesser a.at b.at
earlier-stamp j h a b ha hb =
    let of_a : InOrder (occurrences j) a = find_all (InOrder (occurrences j)) ha.test (occurrences j) a h.in_order ha.found in
    let of_b : InOrder (occurrences j) b = find_all (InOrder (occurrences j)) hb.test (occurrences j) b h.in_order hb.found in
    let ab : a.place ≤ b.place → a.at ≤ b.at = find_all (λ p. a.place ≤ p.place → a.at ≤ p.at) hb.test (occurrences j) b of_a hb.found in
    let ba : b.place ≤ a.place → b.at ≤ a.at = find_all (λ p. b.place ≤ p.place → b.at ≤ p.at) ha.test (occurrences j) a of_b ha.found in
    by (nat_lt b.place a.place) (nat_lt b.at a.at) refl refl ab ba
  where
    by : (p q : Bool) → nat_lt b.place a.place ≡ p → nat_lt b.at a.at ≡ q → (a.place ≤ b.place → a.at ≤ b.at) → (b.place ≤ a.place → b.at ≤ a.at) → (cond p b a).at ≡ cond q b.at a.at
    by true true hp hq ab ba = refl
    by false false hp hq ab ba = refl
    by true false hp hq ab ba =
        let below : b.place < a.place = ltb-true b.place a.place hp in
        let above : a.at ≤ b.at = ltb-false b.at a.at hq in
        let least : b.at ≤ a.at = ba (omega arith) in
        omega arith
    by false true hp hq ab ba =
        let above : a.place ≤ b.place = ltb-false b.place a.place hp in
        let below : b.at < a.at = ltb-true b.at a.at hq in
        let least : a.at ≤ b.at = ab above in
        absurd (omega arith)

earlier-among : (j : List Stamped) (a b : Occurrence) → IsAmong j a → IsAmong j b → IsAmong j (earlier a b)
earlier-among j a b ha hb = elim (nat_lt b.place a.place) as (λ p. IsAmong j (cond p b a)) [ true ↦ hb | false ↦ ha ]

fold-stamps : (j : List Stamped) → AreStamped j → (a : Occurrence) (os : List Occurrence) → IsAmong j a → AllByRecursion (IsAmong j) os → (fold earlier a os).at ≡ fold lesser a.at (filter_map (λ o. Some o.at) os)
fold-stamps j h a [] ha hos = refl
fold-stamps j h a (o ∷ os) ha hos =
    fold-stamps j h (earlier a o) os (earlier-among j a o ha hos.0) hos.1
    ∙ ap (λ n. fold lesser n (filter_map (λ o. Some o.at) os)) (earlier-stamp j h a o ha hos.0)

reduce-stamps : (j : List Stamped) → AreStamped j → (os : List Occurrence) → AllByRecursion (IsAmong j) os → option_map (λ o. o.at) (reduce earlier os) ≡ reduce lesser (filter_map (λ o. Some o.at) os)
reduce-stamps j h [] hos = refl
reduce-stamps j h (o ∷ os) hos = ap Some (fold-stamps j h o os hos.0 hos.1)

ready-among : (j : List Stamped) (ns : List Notice) → AllByRecursion (IsAmong j) (filter_map (ready j) ns)
ready-among j [] = tt
ready-among j (n ∷ ns) = by (ready j n) refl (ready-among j ns)
  where
    by : (o : Option Occurrence) → ready j n ≡ o → AllByRecursion (IsAmong j) (filter_map (ready j) ns) → AllByRecursion (IsAmong j) (cons_option o (filter_map (ready j) ns))
    by None e rest = rest
    by (Some o) e rest = (record { test = λ o. nat_lt n.owing.place o.place && (readies n.user n.deal (pushes_online n) o.event && not (some_behind n.owing.place (λ p. clears n.user n.deal p.event) o.past)); found = e }, rest)

stamps_of : (j : List Stamped) (ns : List Notice) → filter_map (λ (o : Occurrence). Some o.at) (filter_map (ready j) ns) ≡ filter_map (ready_stamp j) ns
stamps_of j [] = refl
stamps_of j (n ∷ ns) = by (ready j n) ∙ ap (cons_option (ready_stamp j n)) (stamps_of j ns)
  where
    by : (o : Option Occurrence) → filter_map (λ (o : Occurrence). Some o.at) (cons_option o (filter_map (ready j) ns)) ≡ cons_option (option_map (λ (o : Occurrence). o.at) o) (filter_map (λ (o : Occurrence). Some o.at) (filter_map (ready j) ns))
    by None = refl
    by (Some o) = refl

map-twice : {A B C : Type 0} (f : B → C) (g : A → B) (o : Option A) → option_map f (option_map g o) ≡ option_map (λ x. f (g x)) o
map-twice f g None = refl
map-twice f g (Some x) = refl

-- a user's due moment: the least stamp at which a batch row is ready, plus the period
pub due-least : (j : List Stamped) (u : UserId) → AreStamped j → due j u ≡ option_map (λ at. at + (settings j u).period) (reduce lesser (filter_map (ready_stamp j) (batch_rows j u)))
due-least j u h =
    sym (map-twice (λ at. at + (settings j u).period) (λ (o : Occurrence). o.at) (reduce earlier (filter_map (ready j) (batch_rows j u))))
    ∙ ap (option_map (λ at. at + (settings j u).period)) (reduce-stamps j h (filter_map (ready j) (batch_rows j u)) (ready-among j (batch_rows j u)) ∙ ap (reduce lesser) (stamps_of j (batch_rows j u)))
