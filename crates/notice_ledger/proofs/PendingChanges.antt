-- The rows of pending notices after an event are those before it, each changed by what the event makes of its notice, and
-- those of the notices that the event owes.
use Rattle.std.proofs.Common.{◌≡◌, Bool, true, false, cond, List, [], ◌∷◌, ◌++◌, map, refl, sym, ap, ◌∙◌, subst}
use Rattle.std.specs.Prelude.{Option, Some, None, option_map, option_and_then, if◌then◌else◌}
use Rattle.std.specs.List.{AllByRecursion, filter_map, cons_option}
use Rattle.std.specs.Option.{option_or}
use Rattle.std.specs.Ordering.{is_eq}
use Rattle.chat_model.specs.declared.event.Stamped.{Stamped}
use Rattle.chat_model.specs.declared.row.Row.{Row}
use Rattle.chat_model.specs.declared.row.RowKey.{RowKey}
use Rattle.chat_model.specs.declared.row.RowChange.{RowChange}
use Rattle.chat_model.specs.declared.row.RowChange.TheVariants.{Put, Remove}
use Rattle.chat_model.specs.declared.row.Stage.{Stage}
use Rattle.chat_model.specs.declared.row.Stage.TheVariants as stage
use Rattle.chat_model.specs.Rows.{key_cmp, key_of, row_at}
use Rattle.chat_model.proofs.Keys.{same_key, key_cmp_itself}
use Rattle.chat_model.proofs.Rows.{row_at-append, row_after, row_after_all}
use Rattle.notice_ledger.specs.Past.Journal.{occurrence}
use Rattle.notice_ledger.specs.Past.Owed.{Notice, notices, owed_by, account_of}
use Rattle.notice_ledger.specs.Past.Rows.{stage_of, pending_row}
use Rattle.notice_ledger.proofs.Apart.{Pairwise, Differ, notices-apart}
use Rattle.notice_ledger.proofs.OneMore.{row_at_stage, pending_row_after, pending_rows-append}
use Rattle.notice_ledger.proofs.RowKeys.{Apart, notice_key, keys_differ, equal_from, pending_apart}
use Rattle.notice_ledger.proofs.RowOrder.{no_other, row_after_all-puts}
use Rattle.notice_ledger.proofs.Standing.{stage_after}

-- ---- rows and changes of one notice each

-- the row after a change, if there is one
abbrev pub after_change : Option RowChange → Option Row → Option Row
after_change None before = before
after_change (Some (Put r)) before = Some r
after_change (Some (Remove k)) before = None

-- a row and a change have the notice's key
abbrev pub HasRowKey : Notice → Option Row → Type 0
HasRowKey n None = Unit {0}
HasRowKey n (Some r) = key_of r ≡ notice_key n

abbrev pub HasChangeKey : Notice → Option RowChange → Type 0
HasChangeKey n None = Unit {0}
HasChangeKey n (Some (Put r)) = key_of r ≡ notice_key n
HasChangeKey n (Some (Remove k)) = k ≡ notice_key n

-- the change makes of the notice's row before the row after
pub record MakesOf (n : Notice) (before after : Option Row) (change : Option RowChange) : Type 0 where
  pub before_key : HasRowKey n before
  pub after_key : HasRowKey n after
  pub change_key : HasChangeKey n change
  pub makes : after_change change before ≡ after

-- the notice's row stands at the key
abbrev stands_at : RowKey → Notice → Bool
stands_at k n = is_eq (key_cmp (notice_key n) k)

same_both : {X : Type 0} (b : Bool) (x : X) → x ≡ cond b x x
same_both true x = refl
same_both false x = refl

at_cons : (k : RowKey) (n : Notice) (o : Option Row) (rest : List Row) → HasRowKey n o → row_at k (cons_option o rest) ≡ cond (stands_at k n) (option_or o (row_at k rest)) (row_at k rest)
at_cons k n None rest h = same_both (stands_at k n) (row_at k rest)
at_cons k n (Some r) rest h = ap (λ q. cond (is_eq (key_cmp q k)) (Some r) (row_at k rest)) h

after_cons : (k : RowKey) (n : Notice) (c : Option RowChange) (rest : List RowChange) (x : Option Row) → HasChangeKey n c → row_after_all k (cons_option c rest) x ≡ row_after_all k rest (cond (stands_at k n) (after_change c x) x)
after_cons k n None rest x h = ap (row_after_all k rest) (same_both (stands_at k n) x)
after_cons k n (Some (Put r)) rest x h = ap (λ q. row_after_all k rest (cond (is_eq (key_cmp q k)) (Some r) x)) h
after_cons k n (Some (Remove gone)) rest x h = ap (λ q. row_after_all k rest (cond (is_eq (key_cmp q k)) None x)) h

-- a notice of another key
elsewhere : (k : RowKey) (n m : Notice) → stands_at k n ≡ true → Differ n m → stands_at k m ≡ false
elsewhere k n m here d =
    elim (stands_at k m) as (λ b. stands_at k m ≡ b → b ≡ false) [
      | true ↦ λ there.
          let at_n : notice_key n ≡ k = same_key (notice_key n) k (equal_from (key_cmp (notice_key n) k) here) in
          let at_m : notice_key m ≡ k = same_key (notice_key m) k (equal_from (key_cmp (notice_key m) k) there) in
          sym (ap is_eq (key_cmp_itself (notice_key n))) ∙ (ap (λ q. is_eq (key_cmp (notice_key n) q)) (at_n ∙ sym at_m) ∙ keys_differ n m d)
      | false ↦ λ there. refl
    ] refl

none_or : {X : Type 0} (o : Option X) → option_or o None ≡ o
none_or None = refl
none_or (Some x) = refl

module _ (P : Notice → Type 0) (f g : Notice → Option Row) (c : Notice → Option RowChange) (makes_of : (n : Notice) → P n → MakesOf n (f n) (g n) (c n)) where
  no_row : (h : Notice → Option Row) → ((n : Notice) → P n → HasRowKey n (h n)) → (k : RowKey) (ns : List Notice) → AllByRecursion P ns → AllByRecursion (λ n. stands_at k n ≡ false) ns → row_at k (filter_map h ns) ≡ None
  no_row h keys k [] all other = refl
  no_row h keys k (n ∷ ns) all other =
      at_cons k n (h n) (filter_map h ns) (keys n all.0)
      ∙ (ap (λ b. cond b (option_or (h n) (row_at k (filter_map h ns))) (row_at k (filter_map h ns))) other.0 ∙ no_row h keys k ns all.1 other.1)

  no_change : (k : RowKey) (ns : List Notice) (x : Option Row) → AllByRecursion P ns → AllByRecursion (λ n. stands_at k n ≡ false) ns → row_after_all k (filter_map c ns) x ≡ x
  no_change k [] x all other = refl
  no_change k (n ∷ ns) x all other =
      after_cons k n (c n) (filter_map c ns) x (makes_of n all.0).change_key
      ∙ (ap (λ b. row_after_all k (filter_map c ns) (cond b (after_change (c n) x) x)) other.0 ∙ no_change k ns x all.1 other.1)

  others : (k : RowKey) (n : Notice) (ns : List Notice) → stands_at k n ≡ true → AllByRecursion (Differ n) ns → AllByRecursion (λ m. stands_at k m ≡ false) ns
  others k n [] here d = tt
  others k n (m ∷ ns) here d = (elsewhere k n m here d.0, others k n ns here d.1)

  -- at each key the row after is what the changes make of the row before
  pub rows-changed : (k : RowKey) (ns : List Notice) → AllByRecursion P ns → Pairwise Differ ns → row_at k (filter_map g ns) ≡ row_after_all k (filter_map c ns) (row_at k (filter_map f ns))
  rows-changed k [] all apart = refl
  rows-changed k (n ∷ ns) all apart =
      let made = makes_of n all.0 in
      at_cons k n (g n) (filter_map g ns) made.after_key
      ∙ (by (stands_at k n) refl (rows-changed k ns all.1 apart.1)
      ∙ (sym (after_cons k n (c n) (filter_map c ns) (cond (stands_at k n) (option_or (f n) (row_at k (filter_map f ns))) (row_at k (filter_map f ns))) made.change_key)
      ∙ ap (row_after_all k (cons_option (c n) (filter_map c ns))) (sym (at_cons k n (f n) (filter_map f ns) made.before_key))))
    where
      by : (b : Bool) → stands_at k n ≡ b → row_at k (filter_map g ns) ≡ row_after_all k (filter_map c ns) (row_at k (filter_map f ns))
          → cond b (option_or (g n) (row_at k (filter_map g ns))) (row_at k (filter_map g ns))
          ≡ row_after_all k (filter_map c ns) (cond b (after_change (c n) (cond b (option_or (f n) (row_at k (filter_map f ns))) (row_at k (filter_map f ns)))) (cond b (option_or (f n) (row_at k (filter_map f ns))) (row_at k (filter_map f ns))))
      by false e later = later
      by true e later =
          let away = others k n ns e apart.0 in
          let none_before = no_row f (λ m p. (makes_of m p).before_key) k ns all.1 away in
          let none_after = no_row g (λ m p. (makes_of m p).after_key) k ns all.1 away in
          ap (option_or (g n)) none_after
          ∙ (none_or (g n)
          ∙ (sym (makes_of n all.0).makes
          ∙ (ap (after_change (c n)) (sym (none_or (f n)) ∙ ap (option_or (f n)) (sym none_before))
          ∙ sym (no_change k ns (after_change (c n) (option_or (f n) (row_at k (filter_map f ns)))) all.1 away))))

-- ---- the pending rows of a journal

abbrev pub same_stage : Stage → Stage → Bool
same_stage stage.Flight stage.Flight = true
same_stage stage.Held stage.Held = true
same_stage stage.Ready stage.Ready = true
same_stage _ _ = false

-- the change of a notice's row, where its stage changes
abbrev pub stage_change : Notice → Stage → Option Stage → Option RowChange
stage_change n before None = Some (Remove (notice_key n))
stage_change n before (Some after) = if same_stage before after then None else Some (Put (row_at_stage n after))

-- what an event changes of a notice's row
abbrev pub notice_change : List Stamped → Stamped → Notice → Option RowChange
notice_change j s n = option_and_then (λ g. stage_change n g (stage_after s n g)) (stage_of (account_of j n))

-- what an event changes of the rows of pending notices
abbrev pub pending_changes : List Stamped → Stamped → List RowChange
pending_changes j s = filter_map (notice_change j s) (notices j) ++ map (λ n. Put (row_at_stage n stage.Flight)) (owed_by (occurrence j s))

change_makes : (n : Notice) (before : Option Stage) (after : Stage → Option Stage) → MakesOf n (option_map (row_at_stage n) before) (option_map (row_at_stage n) (option_and_then after before)) (option_and_then (λ g. stage_change n g (after g)) before)
change_makes n None after = record { before_key = tt; after_key = tt; change_key = tt; makes = refl }
change_makes n (Some g) after = by (after g)
  where
    changes : (h : Stage) (b : Bool) → same_stage g h ≡ b → MakesOf n (Some (row_at_stage n g)) (Some (row_at_stage n h)) (if b then None else Some (Put (row_at_stage n h)))
    changes h true e = record { before_key = refl; after_key = refl; change_key = tt; makes = ap (λ x. Some (row_at_stage n x)) (same g h e) }
      where
        same : (g h : Stage) → same_stage g h ≡ true → g ≡ h
        same stage.Flight stage.Flight e = refl
        same stage.Held stage.Held e = refl
        same stage.Ready stage.Ready e = refl
        same g h e = cc
    changes h false e = record { before_key = refl; after_key = refl; change_key = refl; makes = refl }

    by : (o : Option Stage) → MakesOf n (Some (row_at_stage n g)) (option_map (row_at_stage n) o) (stage_change n g o)
    by None = record { before_key = refl; after_key = tt; change_key = refl; makes = refl }
    by (Some h) = changes h (same_stage g h) refl

all_true : {X : Type 0} (xs : List X) → AllByRecursion (λ _. Unit {0}) xs
all_true [] = tt
all_true (x ∷ xs) = (tt, all_true xs)

after_all-append : (k : RowKey) (xs ys : List RowChange) (x : Option Row) → row_after_all k (xs ++ ys) x ≡ row_after_all k ys (row_after_all k xs x)
after_all-append k [] ys x = refl
after_all-append k (c ∷ xs) ys x = after_all-append k xs ys (row_after k c x)

all_back : {X : Type 0} (P : X → Type 0) (xs ys : List X) → AllByRecursion P (xs ++ ys) → AllByRecursion P ys
all_back P [] ys all = all
all_back P (x ∷ xs) ys all = all_back P xs ys all.1

pairwise_back : {X : Type 0} (R : X → X → Type 0) (xs ys : List X) → Pairwise R (xs ++ ys) → Pairwise R ys
pairwise_back R [] ys p = p
pairwise_back R (x ∷ xs) ys p = pairwise_back R xs ys p.1

either_first : (k : RowKey) (xs ys : List Row) → Pairwise Apart (xs ++ ys) → option_or (row_at k xs) (row_at k ys) ≡ option_or (row_at k ys) (row_at k xs)
either_first k [] ys p = sym (none_or (row_at k ys))
either_first k (r ∷ xs) ys p = by (is_eq (key_cmp (key_of r) k)) refl (either_first k xs ys p.1)
  where
    by : (b : Bool) → is_eq (key_cmp (key_of r) k) ≡ b → option_or (row_at k xs) (row_at k ys) ≡ option_or (row_at k ys) (row_at k xs)
        → option_or (cond b (Some r) (row_at k xs)) (row_at k ys) ≡ option_or (row_at k ys) (cond b (Some r) (row_at k xs))
    by false e later = later
    by true e later = ap (λ o. option_or o (Some r)) (sym (no_other k r ys (same_key (key_of r) k (equal_from (key_cmp (key_of r) k) e)) (all_back (Apart r) xs ys p.0)))

map-map_put : (ns : List Notice) → map Put (map (λ n. row_at_stage n stage.Flight) ns) ≡ map (λ n. Put (row_at_stage n stage.Flight)) ns
map-map_put [] = refl
map-map_put (n ∷ ns) = ap (λ cs. Put (row_at_stage n stage.Flight) ∷ cs) (map-map_put ns)

-- at each key the pending row after an event is what these changes make of the one before it
pub pending_rows-changed : (j : List Stamped) (s : Stamped) (k : RowKey) → row_at k (filter_map (pending_row (j ++ s ∷ [])) (notices (j ++ s ∷ []))) ≡ row_after_all k (pending_changes j s) (row_at k (filter_map (pending_row j) (notices j)))
pending_rows-changed j s k =
    let moved_rows = filter_map (pending_row_after j s) (notices j) in
    let new_rows = map (λ n. row_at_stage n stage.Flight) (owed_by (occurrence j s)) in
    let apart : Pairwise Apart (moved_rows ++ new_rows) = subst (Pairwise Apart) (pending_rows-append j s) (pending_apart (j ++ s ∷ [])) in
    let changes = filter_map (notice_change j s) (notices j) in
    let before = row_at k (filter_map (pending_row j) (notices j)) in
    ap (row_at k) (pending_rows-append j s)
    ∙ (row_at-append k moved_rows new_rows
    ∙ (either_first k moved_rows new_rows apart
    ∙ (sym (row_after_all-puts k new_rows (row_at k moved_rows) (pairwise_back Apart moved_rows new_rows apart))
    ∙ (ap (λ cs. row_after_all k cs (row_at k moved_rows)) (map-map_put (owed_by (occurrence j s)))
    ∙ (ap (row_after_all k (map (λ n. Put (row_at_stage n stage.Flight)) (owed_by (occurrence j s))))
    (rows-changed (λ _. Unit {0}) (pending_row j) (pending_row_after j s) (notice_change j s) (λ n _. change_makes n (stage_of (account_of j n)) (stage_after s n)) k (notices j) (all_true (notices j)) (notices-apart j))
    ∙ sym (after_all-append k changes (map (λ n. Put (row_at_stage n stage.Flight)) (owed_by (occurrence j s))) before))))))
