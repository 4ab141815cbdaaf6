-- The first event behind a place that passes a test, found by going through the events one after another.
use Rattle.std.proofs.Common.{◌≡◌, ℕ, ◌+◌, ◌<◌, ◌≤◌, Bool, true, false, ◌&&◌, cond, List, [], ◌∷◌, ◌++◌, length, take, drop, get_or, sym, ap, ◌∙◌, arith}
use Rattle.std.specs.Prelude.{Some, None, nat_lt}
use Rattle.std.specs.Option.{option_or}
use Rattle.std.proofs.lemmas.List.{length-take-le, take-append-drop, take_all}
use Rattle.chat_model.specs.declared.event.Stamped.{Stamped}
use Rattle.notice_ledger.specs.Past.Journal.{Occurrence, occurrence, first_behind}
use Rattle.notice_ledger.proofs.Lists.{take_next}
use Rattle.notice_ledger.proofs.Appended.{first_behind-append}
use Rattle.notice_ledger.proofs.Behind.{found-longer, first_behind-past}

module _ (place : ℕ) (test : Occurrence → Bool) where
  -- one more event where none was found
  one_more : (j : List Stamped) (s : Stamped) → first_behind place test j ≡ None → first_behind place test (j ++ s ∷ []) ≡ cond (nat_lt place (length j) && test (occurrence j s)) (Some (occurrence j s)) None
  one_more j s none =
      first_behind-append place test j s ∙ ap (λ o. option_or o (cond (nat_lt place (length j) && test (occurrence j s)) (Some (occurrence j s)) None)) none

  at_length : (j : List Stamped) (i : ℕ) (s : Stamped) → i < length j → (nat_lt place (length (take i j)) && test (occurrence (take i j) s)) ≡ (nat_lt place i && test (occurrence (take i j) s))
  at_length j i s lt = ap (λ m. nat_lt place m && test (occurrence (take i j) s)) (length-take-le i j (omega arith))

  -- the event at a place doesn't pass, and the search goes on
  pub none-next : (j : List Stamped) (i : ℕ) (s : Stamped) → i < length j → s ≡ get_or j i s → first_behind place test (take i j) ≡ None → (nat_lt place i && test (occurrence (take i j) s)) ≡ false → first_behind place test (take (i + 1) j) ≡ None
  none-next j i s lt at none other =
      ap (λ k. first_behind place test k) (take_next j i s lt at)
      ∙ (one_more (take i j) s none ∙ ap (λ b. cond b (Some (occurrence (take i j) s)) None) (at_length j i s lt ∙ other))

  -- an event that isn't behind the place, and the search goes on
  pub none-before : (j : List Stamped) (i : ℕ) → i < length j → i ≤ place → first_behind place test (take (i + 1) j) ≡ None
  none-before j i lt le =
      let long : length (take (i + 1) j) ≡ i + 1 = length-take-le (i + 1) j (omega arith) in
      first_behind-past place test (take (i + 1) j) (omega (arith, long))

  -- it passes, and is the first
  pub found-next : (j : List Stamped) (i : ℕ) (s : Stamped) → i < length j → s ≡ get_or j i s → first_behind place test (take i j) ≡ None → (nat_lt place i && test (occurrence (take i j) s)) ≡ true → first_behind place test j ≡ Some (occurrence (take i j) s)
  found-next j i s lt at none passes =
      ap (λ k. first_behind place test k) (sym (take-append-drop (i + 1) j) ∙ ap (λ k. k ++ drop (i + 1) j) (take_next j i s lt at))
      ∙ found-longer place test (take i j ++ s ∷ []) (drop (i + 1) j) (occurrence (take i j) s)
      (one_more (take i j) s none ∙ ap (λ b. cond b (Some (occurrence (take i j) s)) None) (at_length j i s lt ∙ passes))

  -- none of all passes
  pub none-all : (j : List Stamped) (i : ℕ) → length j ≤ i → first_behind place test (take i j) ≡ None → first_behind place test j ≡ None
  none-all j i le none = ap (λ k. first_behind place test k) (sym (take_all i j le)) ∙ none
