-- The rows of the notices that wait, where changes make of them what an event makes of the notices.
use Rattle.std.proofs.Common.{◌≡◌, Bool, true, false, ◌||◌, not, cond, List, [], ◌∷◌, Option, Some, None, map, filter, refl, sym, ap, ◌∙◌, subst}
use Rattle.std.specs.Prelude.{IfSome}
use Rattle.std.specs.Ordering.{is_eq}
use Rattle.std.specs.List.{AllByRecursion, filter_map, flat_map, cons_option, list_any}
use Rattle.chat_model.specs.declared.row.Row.{Row}
use Rattle.chat_model.specs.declared.row.RowKey.{RowKey}
use Rattle.chat_model.specs.declared.row.RowChange.{RowChange}
use Rattle.chat_model.specs.declared.row.RowChange.TheVariants.{Put, Remove}
use Rattle.chat_model.specs.Rows.{key_cmp, key_of}
use Rattle.chat_model.proofs.Keys.{same_key}
use Rattle.chat_model.proofs.Rows.{row_after, row_after_all, row_after_all-append}
use Rattle.notice_ledger.proofs.Apart.{Pairwise}
use Rattle.notice_ledger.proofs.RowKeys.{equal_from}
use Rattle.book_tables.specs.declared.tables.Waiting.{Waiting}
use Rattle.book_tables.specs.Notices.{is_barred}
use Rattle.book_tables.specs.Prepared.{notice_row, key_of_notice, puts_where}

-- the key that a change concerns
abbrev pub change_key : RowChange → RowKey
change_key (Put row) = key_of row
change_key (Remove k) = k

-- the keys of two notices differ
abbrev pub KeysDiffer : Waiting → Waiting → Type 0
KeysDiffer v w = is_eq (key_cmp (key_of_notice w) (key_of_notice v)) ≡ false

-- no notice has its row at the key
abbrev NoneAt : RowKey → List Waiting → Type 0
NoneAt k ws = AllByRecursion (λ w. is_eq (key_cmp (key_of_notice w) k) ≡ false) ws

aside : (k : RowKey) (c : RowChange) (x : Option Row) → is_eq (key_cmp (change_key c) k) ≡ false → row_after k c x ≡ x
aside k (Put row) x other = ap (λ b. cond b (Some row) x) other
aside k (Remove gone) x other = ap (λ b. cond b None x) other

-- what passes a test is changed, what doesn't stays
abbrev pub passes_any : List (Waiting → Bool) → Waiting → Bool
passes_any tests w = list_any (λ t. t w) tests

-- the row of a notice that waits: none where it is barred
abbrev pub shown_row : Waiting → Option Row
shown_row w = cond (is_barred w) None (Some (notice_row w))

-- the puts of the rows of those that aren't barred
pub puts_shown : (ws : List Waiting) → puts_where (λ w. not (is_barred w)) (λ w. w) ws ≡ map Put (filter_map shown_row ws)
puts_shown [] = refl
puts_shown (w ∷ ws) = by (is_barred w) (puts_shown ws)
  where
    by : (b : Bool) → puts_where (λ w. not (is_barred w)) (λ w. w) ws ≡ map Put (filter_map shown_row ws)
        → map (λ v. Put (notice_row v)) (cond (not b) (w ∷ filter (λ v. not (is_barred v)) ws) (filter (λ v. not (is_barred v)) ws)) ≡ map Put (cons_option (cond b None (Some (notice_row w))) (filter_map shown_row ws))
    by true e = e
    by false e = ap (λ cs. Put (notice_row w) ∷ cs) e

-- rows of notices, each at its notice's key where it is there
abbrev pub AtKeys : (Waiting → Option Row) → Type 0
AtKeys f = (w : Waiting) → IfSome (f w) (λ r. key_of r ≡ key_of_notice w)

pub shown-at_keys : AtKeys shown_row
shown-at_keys w = by (is_barred w)
  where
    by : (b : Bool) → IfSome (cond b None (Some (notice_row w))) (λ r. key_of r ≡ key_of_notice w)
    by true = tt
    by false = refl

module _ (k : RowKey) (f : Waiting → Option Row) (keyed : AtKeys f) where
  rows-aside : (ws : List Waiting) (x : Option Row) → NoneAt k ws → row_after_all k (map Put (filter_map f ws)) x ≡ x
  rows-aside [] x none = refl
  rows-aside (w ∷ ws) x none = by (f w) (keyed w) (rows-aside ws x none.1)
    where
      by : (o : Option Row) → IfSome o (λ r. key_of r ≡ key_of_notice w) → row_after_all k (map Put (filter_map f ws)) x ≡ x → row_after_all k (map Put (cons_option o (filter_map f ws))) x ≡ x
      by None at rest = rest
      by (Some r) at rest = ap (row_after_all k (map Put (filter_map f ws))) (ap (λ b. cond b (Some r) x) (ap (λ q. is_eq (key_cmp q k)) at ∙ none.0)) ∙ rest

  -- the row of the one notice that has it here
  row-here : (w : Waiting) (ws : List Waiting) → is_eq (key_cmp (key_of_notice w) k) ≡ true → NoneAt k ws → row_after_all k (map Put (filter_map f (w ∷ ws))) None ≡ f w
  row-here w ws at none = by (f w) (keyed w)
    where
      by : (o : Option Row) → IfSome o (λ r. key_of r ≡ key_of_notice w) → row_after_all k (map Put (cons_option o (filter_map f ws))) None ≡ o
      by None is = rows-aside ws None none
      by (Some r) is = ap (row_after_all k (map Put (filter_map f ws))) (ap (λ b. cond b (Some r) None) (ap (λ q. is_eq (key_cmp q k)) is ∙ at)) ∙ rows-aside ws (Some r) none

  -- and where it has it elsewhere
  row-elsewhere : (w : Waiting) (ws : List Waiting) → is_eq (key_cmp (key_of_notice w) k) ≡ false → row_after_all k (map Put (filter_map f (w ∷ ws))) None ≡ row_after_all k (map Put (filter_map f ws)) None
  row-elsewhere w ws other = by (f w) (keyed w)
    where
      by : (o : Option Row) → IfSome o (λ r. key_of r ≡ key_of_notice w) → row_after_all k (map Put (cons_option o (filter_map f ws))) None ≡ row_after_all k (map Put (filter_map f ws)) None
      by None at = refl
      by (Some r) at = ap (row_after_all k (map Put (filter_map f ws))) (ap (λ b. cond b (Some r) None) (ap (λ q. is_eq (key_cmp q k)) at ∙ other))

module _ (k : RowKey) (shown moved result : Waiting → Option Row) (change : Waiting → RowChange)
    (concerns : (w : Waiting) → change_key (change w) ≡ key_of_notice w)
    (gives : (w : Waiting) (x : Option Row) → row_after (key_of_notice w) (change w) x ≡ result w)
    (seen : AtKeys shown) (stays : AtKeys moved) where
  abbrev changes_by : List (Waiting → Bool) → List Waiting → List RowChange
  changes_by tests ws = flat_map (λ t. map change (filter t ws)) tests

  change-aside : (w : Waiting) (x : Option Row) → is_eq (key_cmp (key_of_notice w) k) ≡ false → row_after k (change w) x ≡ x
  change-aside w x other = aside k (change w) x (ap (λ q. is_eq (key_cmp q k)) (concerns w) ∙ other)

  filter-aside : (t : Waiting → Bool) (ws : List Waiting) (x : Option Row) → NoneAt k ws → row_after_all k (map change (filter t ws)) x ≡ x
  filter-aside t [] x none = refl
  filter-aside t (w ∷ ws) x none =
      elim (t w) as (λ b. row_after_all k (map change (cond b (w ∷ filter t ws) (filter t ws))) x ≡ x) [
        | true ↦ ap (row_after_all k (map change (filter t ws))) (change-aside w x none.0) ∙ filter-aside t ws x none.1
        | false ↦ filter-aside t ws x none.1
      ]

  -- the changes of no notice
  of_none : (tests : List (Waiting → Bool)) (x : Option Row) → row_after_all k (changes_by tests []) x ≡ x
  of_none [] x = refl
  of_none (t ∷ tests) x = of_none tests x

  -- the notice has its row elsewhere
  missed : (w : Waiting) (ws : List Waiting) → is_eq (key_cmp (key_of_notice w) k) ≡ false → (tests : List (Waiting → Bool)) (x : Option Row) → row_after_all k (changes_by tests (w ∷ ws)) x ≡ row_after_all k (changes_by tests ws) x
  missed w ws other [] x = refl
  missed w ws other (t ∷ tests) x =
      row_after_all-append k (map change (filter t (w ∷ ws))) (changes_by tests (w ∷ ws)) x
      ∙ (ap (row_after_all k (changes_by tests (w ∷ ws))) (one (t w))
      ∙ (missed w ws other tests (row_after_all k (map change (filter t ws)) x)
      ∙ sym (row_after_all-append k (map change (filter t ws)) (changes_by tests ws) x)))
    where
      one : (b : Bool) → row_after_all k (map change (cond b (w ∷ filter t ws) (filter t ws))) x ≡ row_after_all k (map change (filter t ws)) x
      one true = ap (row_after_all k (map change (filter t ws))) (change-aside w x other)
      one false = refl

  -- it has it here, and the others elsewhere
  hit : (w : Waiting) (ws : List Waiting) → key_of_notice w ≡ k → NoneAt k ws → (tests : List (Waiting → Bool)) (x : Option Row) → row_after_all k (changes_by tests (w ∷ ws)) x ≡ cond (passes_any tests w) (result w) x
  hit w ws here none [] x = refl
  hit w ws here none (t ∷ tests) x =
      row_after_all-append k (map change (filter t (w ∷ ws))) (changes_by tests (w ∷ ws)) x
      ∙ (ap (row_after_all k (changes_by tests (w ∷ ws))) (one (t w))
      ∙ (hit w ws here none tests (cond (t w) (result w) x) ∙ both (t w) (passes_any tests w)))
    where
      one : (b : Bool) → row_after_all k (map change (cond b (w ∷ filter t ws) (filter t ws))) x ≡ cond b (result w) x
      one true = ap (row_after_all k (map change (filter t ws))) (ap (λ q. row_after q (change w) x) (sym here) ∙ gives w x) ∙ filter-aside t ws (result w) none
      one false = filter-aside t ws x none

      both : (a b : Bool) → cond b (result w) (cond a (result w) x) ≡ cond (a || b) (result w) x
      both true true = refl
      both true false = refl
      both false b = refl

  -- at each key the changes make of the rows those of the notices that moved on
  pub rows-moved : (tests : List (Waiting → Bool)) (ws : List Waiting) → AllByRecursion (λ w. moved w ≡ cond (passes_any tests w) (result w) (shown w)) ws → Pairwise KeysDiffer ws
      → row_after_all k (changes_by tests ws) (row_after_all k (map Put (filter_map shown ws)) None) ≡ row_after_all k (map Put (filter_map moved ws)) None
  rows-moved tests [] is apart = of_none tests None
  rows-moved tests (w ∷ ws) is apart = by (is_eq (key_cmp (key_of_notice w) k)) refl (rows-moved tests ws is.1 apart.1)
    where
      there : is_eq (key_cmp (key_of_notice w) k) ≡ true → key_of_notice w ≡ k
      there e = same_key (key_of_notice w) k (equal_from (key_cmp (key_of_notice w) k) e)

      others : is_eq (key_cmp (key_of_notice w) k) ≡ true → NoneAt k ws
      others e = subst (λ (q : RowKey). NoneAt q ws) (there e) apart.0

      by : (b : Bool) → is_eq (key_cmp (key_of_notice w) k) ≡ b
          → row_after_all k (changes_by tests ws) (row_after_all k (map Put (filter_map shown ws)) None) ≡ row_after_all k (map Put (filter_map moved ws)) None
          → row_after_all k (changes_by tests (w ∷ ws)) (row_after_all k (map Put (filter_map shown (w ∷ ws))) None) ≡ row_after_all k (map Put (filter_map moved (w ∷ ws))) None
      by true e rest =
          ap (row_after_all k (changes_by tests (w ∷ ws))) (row-here k shown seen w ws e (others e))
          ∙ (hit w ws (there e) (others e) tests (shown w) ∙ (sym is.0 ∙ sym (row-here k moved stays w ws e (others e))))
      by false e rest =
          ap (row_after_all k (changes_by tests (w ∷ ws))) (row-elsewhere k shown seen w ws e)
          ∙ (missed w ws e tests (row_after_all k (map Put (filter_map shown ws)) None) ∙ (rest ∙ sym (row-elsewhere k moved stays w ws e)))
