-- Rows and due moments by user, and the batches that wait.
use Rattle.std.proofs.Common.{◌≡◌, ℕ, ◌+◌, ◌-◌, ◌≤◌, Bool, true, false, not, ◌&&◌, ◌||◌, ◌==◌, cond, min, List, [], ◌∷◌, ◌++◌, length, map, Option, Some, None, slice_get, unwrap_or, refl, sym, ap, ◌∙◌, ◌⊎◌, inl, inr, arith}
use Rattle.std.specs.Prelude.{option_map, IsNone, nat_lt}
use Rattle.std.specs.List.{list_all, list_any}
use Rattle.std.specs.Option.{option_map_or, MatchOption}
use Rattle.std.specs.Ordering.{nat_cmp, eq_by_cmp}
use Rattle.std.specs.Cmp.{nat_cmp_total}
use Rattle.std.specs.FinMap as finite
use Rattle.std.specs.FinMap.{nat_cmp-IsAntisymmetric, get-insert, get-remove, get-from_entries, same_map}
use Rattle.std.proofs.lemmas.Bool.{and_parts, cases_eq, eq-eqb, false≢true, ne_eqb}
use Rattle.std.proofs.lemmas.Bool.Decides.{nat_tests}
use Rattle.std.proofs.lemmas.List.{nil_from_length}
use Rattle.chat_model.specs.declared.ids.UserId.{UserId}
use Rattle.chat_model.specs.declared.ids.MessageId.{MessageId}
use Rattle.mail_batches.specs.declared.batches.DueUser.{DueUser}
use Rattle.mail_batches.specs.ByUser.{Listed, values_of, or_first, with_first}
use Rattle.mail_batches.specs.Batches.{Batch, Waiting, due_of, rows_of, with_row, shifted, settled, is_due_before, due_user, IsDueFirst, IsLeast}

-- a user's batch, with its rows
abbrev batch_entry : List (UserId × MessageId) → UserId × ℕ → ℕ × Batch
batch_entry rows e = (e.0.0, record { due = e.1; rows = values_of e.0.0 rows })

abbrev waiting_from : finite.FinMap nat_cmp Batch → ℕ → Waiting
waiting_from batches spare = record { batches = batches; spare = spare }

-- the batches of rows and due moments
abbrev pub waiting : Listed MessageId → Listed ℕ → Waiting
waiting r d = waiting_from (finite.from_entries (map (batch_entry r.entries) d.entries)) r.spare

-- a user has one due moment where there are rows, and none where there are none
abbrev pub Agree : Listed MessageId → Listed ℕ → Type 0
Agree r d = (u : ℕ) → length (values_of u d.entries) ≡ min 1 (length (values_of u r.entries))

abbrev made : List ℕ → List MessageId → Option Batch
made [] rs = None
made (d ∷ ds) rs = Some (record { due = d; rows = rs })

number_ties : (a b : ℕ) → eq_by_cmp nat_cmp a b ≡ (b == a)
number_ties a b = grind (arith, nat_tests)

find-made : (rows : List (UserId × MessageId)) (q : ℕ) (es : List (UserId × ℕ)) → finite.find nat_cmp q (map (batch_entry rows) es) ≡ made (values_of q es) (values_of q rows)
find-made rows q [] = refl
find-made rows q (e ∷ es) =
    let here : Option Batch = Some (record { due = e.1; rows = values_of e.0.0 rows }) in
    let later = finite.find nat_cmp q (map (batch_entry rows) es) in
    ap (λ b. cond b here later) (number_ties q e.0.0)
    ∙ elim (cases_eq e.0.0 q) [
      | inl same ↦
          ap (λ b. cond b here later) (eq-eqb e.0.0 q same)
          ∙ (ap (λ n. made (e.1 ∷ values_of q es) (values_of n rows)) same
          ∙ ap (λ b. made (cond b (e.1 ∷ values_of q es) (values_of q es)) (values_of q rows)) (sym (eq-eqb e.0.0 q same)))
      | inr other ↦
          ap (λ b. cond b here later) (ne_eqb e.0.0 q other)
          ∙ (find-made rows q es
          ∙ ap (λ b. made (cond b (e.1 ∷ values_of q es) (values_of q es)) (values_of q rows)) (sym (ne_eqb e.0.0 q other)))
    ]

-- a user's batch is that of the user's due moment and rows
get-waiting : (r : Listed MessageId) (d : Listed ℕ) (q : ℕ) → finite.get (waiting r d).batches q ≡ made (values_of q d.entries) (values_of q r.entries)
get-waiting r d q = get-from_entries nat_cmp_total (map (batch_entry r.entries) d.entries) q ∙ find-made r.entries q d.entries

made-due : (ds : List ℕ) (rs : List MessageId) → option_map (λ (b : Batch). b.due) (made ds rs) ≡ slice_get ds 0
made-due [] rs = refl
made-due (d ∷ ds) rs = refl

pub due-waiting : (r : Listed MessageId) (d : Listed ℕ) (u : UserId) → due_of (waiting r d) u ≡ slice_get (values_of u.0 d.entries) 0
due-waiting r d u = ap (option_map (λ (b : Batch). b.due)) (get-waiting r d u.0) ∙ made-due (values_of u.0 d.entries) (values_of u.0 r.entries)

made-rows : (ds : List ℕ) (rs : List MessageId) → length ds ≡ min 1 (length rs) → option_map_or (λ (b : Batch). b.rows) (made ds rs) [] ≡ rs
made-rows [] rs e = sym (nil_from_length rs (omega arith))
made-rows (d ∷ ds) rs e = refl

pub rows-waiting : (r : Listed MessageId) (d : Listed ℕ) (u : UserId) → Agree r d → rows_of (waiting r d) u ≡ values_of u.0 r.entries
rows-waiting r d u agree = ap (λ (o : Option Batch). option_map_or (λ b. b.rows) o []) (get-waiting r d u.0) ∙ made-rows (values_of u.0 d.entries) (values_of u.0 r.entries) (agree u.0)

-- no due moment stands just where no rows stand
pub none-waiting : (ds : List ℕ) (rs : List MessageId) → length ds ≡ min 1 (length rs) → (IsNone (slice_get ds 0) → rs ≡ []) × (rs ≡ [] → IsNone (slice_get ds 0))
none-waiting [] rs e = (λ _. nil_from_length rs (omega arith), λ _. refl)
none-waiting (d ∷ ds) rs e = (λ none. absurd (false≢true (sym none)), λ empty. absurd (omega (arith, ap length empty)))

-- ---- a row more

first-made : (due : ℕ) (ds : List ℕ) (rs : List MessageId) → made (or_first due ds) rs ≡ Some (record { due = unwrap_or (slice_get ds 0) due; rows = rs })
first-made due [] rs = refl
first-made due (d ∷ ds) rs = refl

pub with_row-waiting : (r new_r : Listed MessageId) (d new_d : Listed ℕ) (u : UserId) (m : MessageId) (due : ℕ) → Agree r d →
    ((v : ℕ) → values_of v new_r.entries ≡ cond (v == u.0) (values_of v r.entries ++ m ∷ []) (values_of v r.entries)) →
    ((v : ℕ) → values_of v new_d.entries ≡ cond (v == u.0) (or_first due (values_of v d.entries)) (values_of v d.entries)) →
    new_r.spare ≡ r.spare - 1 → waiting new_r new_d ≡ with_row (waiting r d) u m due
with_row-waiting r new_r d new_d u m due agree rows dues spare =
    let w = waiting r d in
    let batch : Batch = record { due = unwrap_or (due_of w u) due; rows = rows_of w u ++ m ∷ [] } in
    let batches = same_map nat_cmp_total nat_cmp-IsAntisymmetric (waiting new_r new_d).batches (finite.insert w.batches u.0 batch) (λ q.
    get-waiting new_r new_d q
    ∙ (at q
    ∙ sym (get-insert nat_cmp_total w.batches u.0 batch q ∙ ap (λ b. cond b (Some batch) (finite.get w.batches q)) (number_ties q u.0)))) in
    ap (λ b. waiting_from b new_r.spare) batches ∙ ap (waiting_from (finite.insert w.batches u.0 batch)) spare
  where
    mine : made (values_of u.0 new_d.entries) (values_of u.0 new_r.entries) ≡ Some (record { due = unwrap_or (due_of (waiting r d) u) due; rows = rows_of (waiting r d) u ++ m ∷ [] })
    mine =
        let itself = eq-eqb u.0 u.0 refl in
        ap (λ ds. made ds (values_of u.0 new_r.entries)) (dues u.0 ∙ ap (λ b. cond b (or_first due (values_of u.0 d.entries)) (values_of u.0 d.entries)) itself)
        ∙ (ap (made (or_first due (values_of u.0 d.entries))) (rows u.0 ∙ ap (λ b. cond b (values_of u.0 r.entries ++ m ∷ []) (values_of u.0 r.entries)) itself)
        ∙ (first-made due (values_of u.0 d.entries) (values_of u.0 r.entries ++ m ∷ [])
        ∙ (ap (batch_with (values_of u.0 r.entries ++ m ∷ [])) (sym (due-waiting r d u))
        ∙ ap (λ rs. batch_with (rs ++ m ∷ []) (due_of (waiting r d) u)) (sym (rows-waiting r d u agree)))))
      where
        batch_with : List MessageId → Option ℕ → Option Batch
        batch_with rs o = Some (record { due = unwrap_or o due; rows = rs })

    at : (q : ℕ) → made (values_of q new_d.entries) (values_of q new_r.entries) ≡ cond (u.0 == q) (Some (record { due = unwrap_or (due_of (waiting r d) u) due; rows = rows_of (waiting r d) u ++ m ∷ [] })) (finite.get (waiting r d).batches q)
    at q =
        let batch : Option Batch = Some (record { due = unwrap_or (due_of (waiting r d) u) due; rows = rows_of (waiting r d) u ++ m ∷ [] }) in
        elim (cases_eq q u.0) [
          | inl e ↦ ap (λ n. made (values_of n new_d.entries) (values_of n new_r.entries)) e ∙ (mine ∙ ap (λ b. cond b batch (finite.get (waiting r d).batches q)) (sym (eq-eqb u.0 q (sym e))))
          | inr ne ↦
              ap (λ ds. made ds (values_of q new_r.entries)) (dues q ∙ ap (λ b. cond b (or_first due (values_of q d.entries)) (values_of q d.entries)) (ne_eqb q u.0 ne))
              ∙ (ap (made (values_of q d.entries)) (rows q ∙ ap (λ b. cond b (values_of q r.entries ++ m ∷ []) (values_of q r.entries)) (ne_eqb q u.0 ne))
              ∙ (sym (get-waiting r d q) ∙ ap (λ b. cond b batch (finite.get (waiting r d).batches q)) (sym (ne_eqb u.0 q (λ e. ne (sym e))))))
        ]

-- ---- a due moment that moves

pub shifted-waiting : (r : Listed MessageId) (d new_d : Listed ℕ) (u : UserId) (old new due : ℕ) → slice_get (values_of u.0 d.entries) 0 ≡ Some due →
    ((v : ℕ) → values_of v new_d.entries ≡ cond (v == u.0) (with_first (due - old + new) (values_of v d.entries)) (values_of v d.entries)) →
    waiting r new_d ≡ shifted (waiting r d) u old new
shifted-waiting r d new_d u old new due has dues =
    let w = waiting r d in
    let batch : Batch = record { due = due - old + new; rows = values_of u.0 r.entries } in
    let batches = same_map nat_cmp_total nat_cmp-IsAntisymmetric (waiting r new_d).batches (finite.insert w.batches u.0 batch) (λ q.
    get-waiting r new_d q
    ∙ (at q
    ∙ sym (get-insert nat_cmp_total w.batches u.0 batch q ∙ ap (λ b. cond b (Some batch) (finite.get w.batches q)) (number_ties q u.0)))) in
    ap (λ b. waiting_from b r.spare) batches
    ∙ sym (ap (λ (o : Option Batch). option_map_or (λ b. record w { batches = finite.insert w.batches u.0 (record b { due = b.due - old + new }) }) o w) (get-waiting r d u.0 ∙ found (values_of u.0 d.entries) has))
  where
    found : (ds : List ℕ) → slice_get ds 0 ≡ Some due → made ds (values_of u.0 r.entries) ≡ Some (record { due = due; rows = values_of u.0 r.entries })
    found [] e = absurd (cc)
    found (x ∷ xs) e = ap (λ (o : Option ℕ). made (unwrap_or o x ∷ xs) (values_of u.0 r.entries)) e

    moved : (ds : List ℕ) → slice_get ds 0 ≡ Some due → made (with_first (due - old + new) ds) (values_of u.0 r.entries) ≡ Some (record { due = due - old + new; rows = values_of u.0 r.entries })
    moved [] e = absurd (cc)
    moved (x ∷ xs) e = refl

    at : (q : ℕ) → made (values_of q new_d.entries) (values_of q r.entries) ≡ cond (u.0 == q) (Some (record { due = due - old + new; rows = values_of u.0 r.entries })) (finite.get (waiting r d).batches q)
    at q =
        let batch : Option Batch = Some (record { due = due - old + new; rows = values_of u.0 r.entries }) in
        elim (cases_eq q u.0) [
          | inl e ↦
              ap (λ n. made (values_of n new_d.entries) (values_of n r.entries)) e
              ∙ (ap (λ ds. made ds (values_of u.0 r.entries)) (dues u.0 ∙ ap (λ b. cond b (with_first (due - old + new) (values_of u.0 d.entries)) (values_of u.0 d.entries)) (eq-eqb u.0 u.0 refl))
              ∙ (moved (values_of u.0 d.entries) has ∙ ap (λ b. cond b batch (finite.get (waiting r d).batches q)) (sym (eq-eqb u.0 q (sym e)))))
          | inr ne ↦
              ap (λ ds. made ds (values_of q r.entries)) (dues q ∙ ap (λ b. cond b (with_first (due - old + new) (values_of q d.entries)) (values_of q d.entries)) (ne_eqb q u.0 ne))
              ∙ (sym (get-waiting r d q) ∙ ap (λ b. cond b batch (finite.get (waiting r d).batches q)) (sym (ne_eqb u.0 q (λ e. ne (sym e)))))
        ]

-- without a due moment nothing moves
pub not_shifted-waiting : (r : Listed MessageId) (d : Listed ℕ) (u : UserId) (old new : ℕ) → slice_get (values_of u.0 d.entries) 0 ≡ None → waiting r d ≡ shifted (waiting r d) u old new
not_shifted-waiting r d u old new none =
    let w = waiting r d in
    sym (ap (λ (o : Option Batch). option_map_or (λ b. record w { batches = finite.insert w.batches u.0 (record b { due = b.due - old + new }) }) o w) (get-waiting r d u.0 ∙ nothing (values_of u.0 d.entries) none))
  where
    nothing : (ds : List ℕ) → slice_get ds 0 ≡ None → made ds (values_of u.0 r.entries) ≡ None
    nothing [] e = refl
    nothing (x ∷ xs) e = absurd (cc)

-- ---- a batch that goes

pub settled-waiting : (r new_r : Listed MessageId) (d new_d : Listed ℕ) (u : UserId) →
    ((v : ℕ) → values_of v new_r.entries ≡ cond (v == u.0) [] (values_of v r.entries)) →
    ((v : ℕ) → values_of v new_d.entries ≡ cond (v == u.0) [] (values_of v d.entries)) →
    new_r.spare ≡ r.spare → waiting new_r new_d ≡ settled (waiting r d) u
settled-waiting r new_r d new_d u rows dues spare =
    let w = waiting r d in
    let batches = same_map nat_cmp_total nat_cmp-IsAntisymmetric (waiting new_r new_d).batches (finite.remove w.batches u.0) (λ q.
    get-waiting new_r new_d q
    ∙ (at q
    ∙ sym (get-remove nat_cmp_total w.batches u.0 q ∙ ap (λ b. cond b None (finite.get w.batches q)) (number_ties q u.0)))) in
    ap (λ b. waiting_from b new_r.spare) batches ∙ ap (waiting_from (finite.remove w.batches u.0)) spare
  where
    at : (q : ℕ) → made (values_of q new_d.entries) (values_of q new_r.entries) ≡ cond (u.0 == q) None (finite.get (waiting r d).batches q)
    at q =
        elim (cases_eq q u.0) [
          | inl e ↦
              ap (λ ds. made ds (values_of q new_r.entries)) (dues q ∙ ap (λ b. cond b [] (values_of q d.entries)) (eq-eqb q u.0 e))
              ∙ ap (λ b. cond b None (finite.get (waiting r d).batches q)) (sym (eq-eqb u.0 q (sym e)))
          | inr ne ↦
              ap (λ ds. made ds (values_of q new_r.entries)) (dues q ∙ ap (λ b. cond b [] (values_of q d.entries)) (ne_eqb q u.0 ne))
              ∙ (ap (made (values_of q d.entries)) (rows q ∙ ap (λ b. cond b [] (values_of q r.entries)) (ne_eqb q u.0 ne))
              ∙ (sym (get-waiting r d q) ∙ ap (λ b. cond b None (finite.get (waiting r d).batches q)) (sym (ne_eqb u.0 q (λ e. ne (sym e))))))
        ]

-- ---- who is due first

found-some : (u m : ℕ) (es : List (UserId × ℕ)) → list_any (λ e. e.0.0 == u && e.1 == m) es ≡ true → 1 ≤ length (values_of u es)
found-some u m [] h = absurd (false≢true h)
found-some u m (e ∷ es) h = at (e.0.0 == u) (e.1 == m) (found-some u m es) h
  where
    at : (a b : Bool) → (list_any (λ e. e.0.0 == u && e.1 == m) es ≡ true → 1 ≤ length (values_of u es)) → (a && b || list_any (λ e. e.0.0 == u && e.1 == m) es) ≡ true → 1 ≤ length (cond a (e.1 ∷ values_of u es) (values_of u es))
    at true b later k = omega arith
    at false b later k = later k

found-value : (u m : ℕ) (es : List (UserId × ℕ)) → list_any (λ e. e.0.0 == u && e.1 == m) es ≡ true → length (values_of u es) ≤ 1 → slice_get (values_of u es) 0 ≡ Some m
found-value u m [] h one = absurd (false≢true h)
found-value u m (e ∷ es) h one = at (e.0.0 == u) (cases_eq e.1 m) (found-value u m es) h one
  where
    at : (a : Bool) → (e.1 ≡ m) ⊎ ¬ (e.1 ≡ m) → (list_any (λ e. e.0.0 == u && e.1 == m) es ≡ true → length (values_of u es) ≤ 1 → slice_get (values_of u es) 0 ≡ Some m) → (a && e.1 == m || list_any (λ e. e.0.0 == u && e.1 == m) es) ≡ true → length (cond a (e.1 ∷ values_of u es) (values_of u es)) ≤ 1 → slice_get (cond a (e.1 ∷ values_of u es) (values_of u es)) 0 ≡ Some m
    at true (inl same) rest k n = ap Some same
    at true (inr other) rest k n =
        let later : list_any (λ e. e.0.0 == u && e.1 == m) es ≡ true = sym (ap (λ b. b || list_any (λ e. e.0.0 == u && e.1 == m) es) (ne_eqb e.1 m other)) ∙ k in
        absurd (omega (arith, found-some u m es later))
    at false same rest k n = rest k n

not_before : (first : DueUser) (u : UserId) (due : ℕ) (es : List (UserId × ℕ)) → list_all (λ e. not (is_due_before (due_user e) first)) es ≡ true → slice_get (values_of u.0 es) 0 ≡ Some due → is_due_before (record { due = due; user = u }) first ≡ false
not_before first u due [] h has = absurd (cc)
not_before first u due (e ∷ es) h has =
    let parts = and_parts (not (is_due_before (due_user e) first)) (list_all (λ e. not (is_due_before (due_user e) first)) es) h in
    elim (cases_eq e.0.0 u.0) [
      | inl same ↦
          let here : slice_get (cond (e.0.0 == u.0) (e.1 ∷ values_of u.0 es) (values_of u.0 es)) 0 ≡ Some e.1 = ap (λ b. slice_get (cond b (e.1 ∷ values_of u.0 es) (values_of u.0 es)) 0) (eq-eqb e.0.0 u.0 same) in
          let moment : e.1 ≡ due = ap (λ (o : Option ℕ). unwrap_or o due) (sym here ∙ has) in
          ap (λ n. nat_lt n first.due || (n == first.due && nat_lt u.0 first.user.0)) (sym moment)
          ∙ (ap (λ n. nat_lt e.1 first.due || (e.1 == first.due && nat_lt n first.user.0)) (sym same)
          ∙ no (is_due_before (due_user e) first) parts.0)
      | inr other ↦
          not_before first u due es parts.1 (sym (ap (λ b. slice_get (cond b (e.1 ∷ values_of u.0 es) (values_of u.0 es)) 0) (ne_eqb e.0.0 u.0 other)) ∙ has)
    ]
  where
    no : (b : Bool) → not b ≡ true → b ≡ false
    no true k = absurd (false≢true k)
    no false k = refl

pub first-waiting : (r : Listed MessageId) (d : Listed ℕ) (o : Option DueUser) → Agree r d → MatchOption o (d.entries ≡ []) (IsLeast d.entries) → MatchOption o ((waiting r d).batches ≡ finite.empty) (IsDueFirst (waiting r d))
first-waiting r d None agree h = ap (λ es. finite.from_entries (map (batch_entry r.entries) es)) h
first-waiting r d (Some first) agree h = record {
  due = due-waiting r d first.user ∙ found-value first.user.0 first.due d.entries h.found (omega (arith, agree first.user.0));
  least = λ u due has. not_before first u due d.entries h.least (sym (due-waiting r d u) ∙ has);
}
