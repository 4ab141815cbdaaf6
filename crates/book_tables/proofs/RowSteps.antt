-- The changes of pending rows that each event brings make of the rows of the notices that wait those after the event.
use Rattle.std.proofs.Common.{◌≡◌, ℕ, Bool, true, false, ◌&&◌, ◌||◌, ◌==◌, cond, List, [], ◌∷◌, ◌++◌, Option, Some, None, map, filter, refl, sym, ap, ◌∙◌, subst}
use Rattle.std.specs.Prelude.{IfSome, option_map, option_and_then, is_some, is_none, IsPermutation, if◌then◌else◌}
use Rattle.std.specs.Option.{option_or}
use Rattle.std.proofs.Common.{not}
use Rattle.std.proofs.lemmas.List.Elements.{filter_map-append}
use Rattle.std.specs.Ordering.{is_eq}
use Rattle.std.specs.List.{AllByRecursion, filter_map, flat_map, cons_option, list_any}
use Rattle.std.proofs.lemmas.List.{map-append, append-nil}
use Rattle.std.proofs.Math.Bool.{and-true, and-false}
use Rattle.std.proofs.lemmas.Bool.{and_parts, eq-eqb, eqb-true}
use Rattle.std.proofs.lemmas.List.Sorted.{list_any-IsPermutation}
use Rattle.chat_model.specs.declared.event.Stamped.{Stamped}
use Rattle.chat_model.specs.declared.event.Event.TheVariants.{Restart, Absorbed, MailTurn, PushTurn}
use Rattle.chat_model.specs.declared.deal.Outcome.TheVariants.{Dealt, Cleared, Missed}
use Rattle.chat_model.specs.declared.deal.QueueId.{QueueId}
use Rattle.chat_model.specs.declared.deal.UserVerdict.{UserVerdict}
use Rattle.chat_model.specs.declared.ids.DealNo.{DealNo}
use Rattle.chat_model.specs.declared.ids.UserId.{UserId}
use Rattle.chat_model.specs.declared.ids.MessageId.{MessageId}
use Rattle.chat_model.specs.declared.push_item.PushItem.TheVariants.{Notify}
use Rattle.chat_model.specs.declared.trigger.Way.{Way}
use Rattle.chat_model.specs.declared.trigger.Way.TheVariants.{Mail, Push}
use Rattle.chat_model.specs.declared.row.Row.{Row}
use Rattle.chat_model.specs.declared.row.RowKey.{RowKey}
use Rattle.chat_model.specs.declared.row.RowKey.TheVariants as key
use Rattle.chat_model.specs.declared.row.RowChange.{RowChange}
use Rattle.chat_model.specs.declared.row.RowChange.TheVariants.{Put, Remove}
use Rattle.chat_model.specs.Outcomes.{gives_idle, gives_live, has_deal}
use Rattle.chat_model.specs.Rows.{key_cmp, key_of}
use Rattle.chat_model.proofs.Keys.{same_key, key_cmp_itself}
use Rattle.chat_model.proofs.Rows.{row_after, row_after_all, row_after_all-append}
use Rattle.notice_ledger.specs.Past.Journal.{occurrence, absorbs}
use Rattle.notice_ledger.specs.Past.Values.{is_one_of}
use Rattle.chat_model.specs.Outcomes.{is_dealt}
use Rattle.notice_ledger.specs.Past.Owed.{Notice, notices, cause_of_bar, same_way, owed_by, is_turn_of, readies, clears}
use Rattle.notice_ledger.proofs.Apart.{Pairwise, Pairwise-filter, Differ, notices-apart}
use Rattle.notice_ledger.proofs.Lists.{AllByRecursion-weaker, AllByRecursion-filter}
use Rattle.notice_ledger.proofs.Queued.{kept, is_kept, kept-each, is_queued, pending-unbarred, waiting-kept}
use Rattle.notice_ledger.proofs.Same.{eqb-turned}
use Rattle.chat_model.specs.declared.row.Cause.{Cause}
use Rattle.book_tables.specs.declared.pushes.PushKey.{PushKey}
use Rattle.book_tables.specs.Bars.{is_unbarred_of, unbarred_tests}
use Rattle.book_tables.specs.Pushes.{has_push}
use Rattle.book_tables.proofs.Kept.{all_kept, kept_unqueued, ready-kept}
use Rattle.notice_ledger.proofs.Lists.{AllByRecursion-append}
use Rattle.notice_ledger.proofs.RowKeys.{table, equal_from}
use Rattle.chat_model.specs.declared.row.Stage.{Stage}
use Rattle.chat_model.specs.declared.row.Stage.TheVariants.{Flight, Held, Ready}
use Rattle.book_tables.specs.declared.tables.Waiting.{Waiting}
use Rattle.book_tables.specs.Notices.{rank, is_barred, is_ready_stage, is_ready, is_undecided, is_ready_mail_to, is_ready_of, is_undecided_at, is_undecided_of, of_deal, is_named, named_by, ready_if, readied, dealt_by, dealt_to}
use Rattle.book_tables.specs.Prepared.{is_barred_at, notice_row, key_of_notice, puts_where, removes_where, removed_mail}
use Rattle.book_tables.specs.Batched.{messages_to}
use Rattle.book_tables.specs.Tables.{notice_kept, in_flight}
use Rattle.book_tables.proofs.Moves.{IsNoTurn, never_turn, swapped, next_by, barring_of, barring-alone, step, kept-append, steps_left, step_start, step_mails, step_push, step_cleared, step_missed, step_dealt}
use Rattle.book_tables.proofs.RowMoves.{change_key, KeysDiffer, AtKeys, shown_row, shown-at_keys, passes_any, rows-moved}
use Rattle.book_tables.proofs.RowsAfter.{AreOf, all_pending, MakesPending}

-- ---- the keys of the notices that wait

abbrev is_key_of : Waiting → RowKey → Bool
is_key_of w (key.Pending u m way) = w.user.0 == u.0 && w.message.0 == m.0 && same_way w.way way
is_key_of w _ = false

itself : (w : Waiting) → is_key_of w (key_of_notice w) ≡ true
itself w =
    ap (λ b. b && w.message.0 == w.message.0 && same_way w.way w.way) (eq-eqb w.user.0 w.user.0 refl)
    ∙ (ap (λ b. b && same_way w.way w.way) (eq-eqb w.message.0 w.message.0 refl) ∙ by w.way)
  where
    by : (way : Way) → same_way way way ≡ true
    by Mail = refl
    by Push = refl

differ : (j : List Stamped) (a b : Notice) → Differ a b → KeysDiffer (notice_kept j a) (notice_kept j b)
differ j a b d =
    let v = notice_kept j a in let w = notice_kept j b in
    elim (is_eq (key_cmp (key_of_notice w) (key_of_notice v))) as (λ t. is_eq (key_cmp (key_of_notice w) (key_of_notice v)) ≡ t → t ≡ false) [
      | true ↦ λ e. sym (itself w) ∙ (ap (is_key_of w) (same_key (key_of_notice w) (key_of_notice v) (equal_from (key_cmp (key_of_notice w) (key_of_notice v)) e)) ∙ d)
      | false ↦ λ e. refl
    ] refl

kept-apart : (j : List Stamped) → Pairwise Differ (kept j)
unfolding kept
kept-apart j = Pairwise-filter Differ (is_kept j) (notices j) (notices-apart j)

pub keys-differ : (j : List Stamped) → Pairwise KeysDiffer (all_kept j)
keys-differ j = each (kept j) (kept-apart j)
  where
    later : (a : Notice) (ns : List Notice) → AllByRecursion (Differ a) ns → AllByRecursion (KeysDiffer (notice_kept j a)) (map (notice_kept j) ns)
    later a [] all = tt
    later a (n ∷ ns) all = (differ j a n all.0, later a ns all.1)

    each : (ns : List Notice) → Pairwise Differ ns → Pairwise KeysDiffer (map (notice_kept j) ns)
    each [] p = tt
    each (n ∷ ns) p = (later n ns p.0, each ns p.1)

-- what is so of each notice is so of each that is kept
kept-among : (j : List Stamped) (P : Notice → Type 0) → AllByRecursion P (notices j) → AllByRecursion P (kept j)
unfolding kept
kept-among j P all = AllByRecursion-filter P (is_kept j) (notices j) all

-- what is so of each notice that is kept is so of it as the tables keep it
all_mapped : (j : List Stamped) (P : Waiting → Type 0) → ((n : Notice) → is_kept j n ≡ true → P (notice_kept j n)) → AllByRecursion P (all_kept j)
all_mapped j P so = each (kept j) (kept-each j)
  where
    each : (ns : List Notice) → AllByRecursion (λ n. is_kept j n ≡ true) ns → AllByRecursion P (map (notice_kept j) ns)
    each [] all = tt
    each (n ∷ ns) all = (so n all.0, each ns all.1)

-- nothing bars what isn't ready
pub undecided-free : (j : List Stamped) → AllByRecursion (λ w. is_undecided w ≡ true → is_barred w ≡ false) (all_kept j)
undecided-free j = all_mapped j (λ w. is_undecided w ≡ true → is_barred w ≡ false) (λ n k undecided.
    ap is_some (pending-unbarred j n (kept_unqueued j n k (sym (ready-kept j n k) ∙ unready (is_ready (notice_kept j n)) undecided))))
  where
    unready : (b : Bool) → not b ≡ true → b ≡ false
    unready true e = absurd (cc)
    unready false e = refl

-- ---- the rows after an event

row_here : (k : RowKey) (r : Row) (x : Option Row) → key_of r ≡ k → row_after k (Put r) x ≡ Some r
row_here k r x same = ap (λ b. cond b (Some r) x) (ap (λ q. is_eq (key_cmp q k)) same ∙ ap is_eq (key_cmp_itself k))

gone_here : (k : RowKey) (x : Option Row) → row_after k (Remove k) x ≡ None
gone_here k x = ap (λ b. cond b None x) (ap is_eq (key_cmp_itself k))

-- the row of a notice after an event
abbrev shown_after : Stamped → Waiting → Option Row
shown_after s w = option_and_then shown_row (step s w)

after-at_keys : (s : Stamped) → AtKeys (shown_after s)
after-at_keys s w = by (next_by (is_turn_of w.user w.message w.way s.event) (readies w.user w.deal w.online s.event) (clears w.user w.deal s.event) (absorbs (is_dealt w.deal) s.event) (is_some (barring_of s w)) w.stage) (option_or w.barred (barring_of s w))
  where
    by : (o : Option Stage) (c : Option Cause) → IfSome (option_and_then shown_row (option_map (λ g. let v : Waiting = record w { stage = g; barred = c } in v) o)) (λ r. key_of r ≡ key_of_notice w)
    by None c = tt
    by (Some g) None = refl
    by (Some g) (Some cause) = tt

rows_of_steps : (f : Waiting → Option Waiting) (ws : List Waiting) → filter_map shown_row (filter_map f ws) ≡ filter_map (λ w. option_and_then shown_row (f w)) ws
rows_of_steps f [] = refl
rows_of_steps f (w ∷ ws) = by (f w) ∙ ap (cons_option (option_and_then shown_row (f w))) (rows_of_steps f ws)
  where
    by : (o : Option Waiting) → filter_map shown_row (cons_option o (filter_map f ws)) ≡ cons_option (option_and_then shown_row o) (filter_map shown_row (filter_map f ws))
    by None = refl
    by (Some v) = refl

-- the pending rows are those of what the tables keep and nothing bars
pub pending-shown : (j : List Stamped) → map notice_row (all_pending j) ≡ filter_map shown_row (all_kept j)
pending-shown j = ap (λ ns. map notice_row (map (notice_kept j) ns)) (waiting-kept j) ∙ each (kept j)
  where
    each : (ns : List Notice) → map notice_row (map (notice_kept j) (filter (λ n. is_none (cause_of_bar j n)) ns)) ≡ filter_map shown_row (map (notice_kept j) ns)
    each [] = refl
    each (n ∷ ns) = by (cause_of_bar j n) (each ns)
      where
        by : (c : Option Cause) → map notice_row (map (notice_kept j) (filter (λ n. is_none (cause_of_bar j n)) ns)) ≡ filter_map shown_row (map (notice_kept j) ns)
            → map notice_row (map (notice_kept j) (cond (is_none c) (n ∷ filter (λ n. is_none (cause_of_bar j n)) ns) (filter (λ n. is_none (cause_of_bar j n)) ns)))
            ≡ cons_option (cond (is_some c) None (Some (notice_row (notice_kept j n)))) (filter_map shown_row (map (notice_kept j) ns))
        by None e = ap (λ rs. notice_row (notice_kept j n) ∷ rs) e
        by (Some cause) e = e

-- the rows after an event that owes nothing
all_moved : (j : List Stamped) (s : Stamped) → owed_by (occurrence j s) ≡ [] → map notice_row (all_pending (j ++ s ∷ [])) ≡ filter_map (shown_after s) (all_kept j)
all_moved j s none =
    pending-shown (j ++ s ∷ [])
    ∙ (ap (filter_map shown_row) (kept-append j s ∙ (ap (λ ns. filter_map (step s) (all_kept j) ++ map in_flight ns) none ∙ append-nil (filter_map (step s) (all_kept j))))
    ∙ rows_of_steps (step s) (all_kept j))

-- ---- changes by tests

puts_are : (become : Waiting → Waiting) (ws : List Waiting) → AreOf 2 (map (λ w. Put (notice_row (become w))) ws)
puts_are become [] = tt
puts_are become (w ∷ ws) = (refl, puts_are become ws)

removes_are : (ws : List Waiting) → AreOf 2 (map (λ w. Remove (key_of_notice w)) ws)
removes_are [] = tt
removes_are (w ∷ ws) = (refl, removes_are ws)

-- changes of the notices that pass one of some tests make of the rows those after the event
made_by : (j : List Stamped) (s : Stamped) → owed_by (occurrence j s) ≡ [] → (result : Waiting → Option Row) (change : Waiting → RowChange) (concerns : (w : Waiting) → change_key (change w) ≡ key_of_notice w)
    → (gives : (w : Waiting) (x : Option Row) → row_after (key_of_notice w) (change w) x ≡ result w) (tests : List (Waiting → Bool))
    → AllByRecursion (λ w. shown_after s w ≡ cond (passes_any tests w) (result w) (shown_row w)) (all_kept j)
    → (k : RowKey) → row_after_all k (flat_map (λ t. map change (filter t (all_kept j))) tests) (row_after_all k (map Put (map notice_row (all_pending j))) None) ≡ row_after_all k (map Put (map notice_row (all_pending (j ++ s ∷ [])))) None
made_by j s none result change concerns gives tests is k =
    ap (λ rs. row_after_all k (flat_map (λ t. map change (filter t (all_kept j))) tests) (row_after_all k (map Put rs) None)) (pending-shown j)
    ∙ (rows-moved k shown_row (shown_after s) result change concerns gives shown-at_keys (after-at_keys s) tests (all_kept j) is (keys-differ j)
    ∙ sym (ap (λ rs. row_after_all k (map Put rs) None) (all_moved j s none)))

-- notices that pass one of some tests become others, and the rest stay
puts_make : (j : List Stamped) (s : Stamped) → owed_by (occurrence j s) ≡ [] → (become : Waiting → Waiting) → ((w : Waiting) → key_of_notice (become w) ≡ key_of_notice w) → (tests : List (Waiting → Bool))
    → AllByRecursion (λ w. shown_after s w ≡ cond (passes_any tests w) (Some (notice_row (become w))) (shown_row w)) (all_kept j) → MakesPending j s (flat_map (λ t. puts_where t become (all_kept j)) tests)
puts_make j s none become keeps tests is = record {
  are = of tests;
  makes = made_by j s none (λ w. Some (notice_row (become w))) (λ w. Put (notice_row (become w))) (λ w. keeps w) (λ w x. row_here (key_of_notice w) (notice_row (become w)) x (keeps w)) tests is;
}
  where
    of : (ts : List (Waiting → Bool)) → AreOf 2 (flat_map (λ t. puts_where t become (all_kept j)) ts)
    of [] = tt
    of (t ∷ ts) = AllByRecursion-append (λ c. table (change_key c) ≡ 2) (puts_where t become (all_kept j)) (flat_map (λ t. puts_where t become (all_kept j)) ts) (puts_are become (filter t (all_kept j))) (of ts)

-- notices that pass one of some tests go, and the rest stay
removes_make : (j : List Stamped) (s : Stamped) → owed_by (occurrence j s) ≡ [] → (tests : List (Waiting → Bool))
    → AllByRecursion (λ w. shown_after s w ≡ cond (passes_any tests w) None (shown_row w)) (all_kept j) → MakesPending j s (flat_map (λ t. removes_where t (all_kept j)) tests)
removes_make j s none tests is = record {
  are = of tests;
  makes = made_by j s none (λ w. None) (λ w. Remove (key_of_notice w)) (λ w. refl) (λ w x. gone_here (key_of_notice w) x) tests is;
}
  where
    of : (ts : List (Waiting → Bool)) → AreOf 2 (flat_map (λ t. removes_where t (all_kept j)) ts)
    of [] = tt
    of (t ∷ ts) = AllByRecursion-append (λ c. table (change_key c) ≡ 2) (removes_where t (all_kept j)) (flat_map (λ t. removes_where t (all_kept j)) ts) (removes_are (filter t (all_kept j))) (of ts)

-- those that pass a test go
gone_where : (w : Waiting) (b : Bool) → option_and_then shown_row (cond b None (Some w)) ≡ cond b None (shown_row w)
gone_where w true = refl
gone_where w false = refl

-- what is so of all
all_of : {X : Type 0} (P : X → Type 0) → ((x : X) → P x) → (xs : List X) → AllByRecursion P xs
all_of P so [] = tt
all_of P so (x ∷ xs) = (so x, all_of P so xs)

-- one test
one_test : {X : Type 0} (f : (Waiting → Bool) → List X) (t : Waiting → Bool) → flat_map f (t ∷ []) ≡ f t
one_test f t = append-nil (f t)

or-none : (b : Bool) → (b || false) ≡ b
or-none true = refl
or-none false = refl

-- ---- each event

-- an event that is nothing to any notice
pub makes_left : (j : List Stamped) (s : Stamped) → IsNoTurn s.event → ((w : Waiting) → barring_of s w ≡ None) → ((u : UserId) (k : DealNo) (online : Bool) → readies u k online s.event ≡ false) → ((u : UserId) (k : DealNo) → clears u k s.event ≡ false) → ((k : DealNo) → absorbs (is_dealt k) s.event ≡ false)
    → MakesPending j s (map (λ w. Put (notice_row w)) (map in_flight (owed_by (occurrence j s))))
makes_left j s never not_barred not_ready not_cleared not_dealt = record {
  are = puts_are (λ w. w) (map in_flight (owed_by (occurrence j s)));
  makes = λ k.
      let old = all_kept j in let owed = owed_by (occurrence j s) in let new = map in_flight owed in
      let after : map notice_row (all_pending (j ++ s ∷ [])) ≡ map notice_row (all_pending j) ++ map notice_row new =
      pending-shown (j ++ s ∷ [])
      ∙ (ap (filter_map shown_row) (kept-append j s ∙ ap (λ ws. ws ++ new) (steps_left s never not_barred not_ready not_cleared not_dealt old))
      ∙ (filter_map-append shown_row old new ∙ (λ i. sym (pending-shown j) i ++ flying owed i))) in
      sym (ap (λ rs. row_after_all k (map Put rs) None) after
      ∙ (ap (λ cs. row_after_all k cs None) (map-append Put (map notice_row (all_pending j)) (map notice_row new))
      ∙ (row_after_all-append k (map Put (map notice_row (all_pending j))) (map Put (map notice_row new)) None
      ∙ ap (λ cs. row_after_all k cs (row_after_all k (map Put (map notice_row (all_pending j))) None)) (again new))));
}
  where
    flying : (ns : List Notice) → filter_map shown_row (map in_flight ns) ≡ map notice_row (map in_flight ns)
    flying [] = refl
    flying (n ∷ ns) = ap (λ rs. notice_row (in_flight n) ∷ rs) (flying ns)

    again : (ws : List Waiting) → map Put (map notice_row ws) ≡ map (λ w. Put (notice_row w)) ws
    again [] = refl
    again (w ∷ ws) = ap (λ cs. Put (notice_row w) ∷ cs) (again ws)

-- what isn't ready becomes so, and the rest stays
become_ready : (g : Stage) (w : Waiting) (barred : Option Cause) → (not (is_ready_stage g) ≡ true → is_some barred ≡ false)
    → cond (is_some barred) None (Some (notice_row (record w { stage = ready_if true g; barred = barred }))) ≡ cond (not (is_ready_stage g)) (Some (notice_row (record w { stage = ready_if true g; barred = barred }))) (cond (is_some barred) None (Some (notice_row (record w { stage = g; barred = barred }))))
become_ready Ready w barred free = refl
become_ready Flight w None free = refl
become_ready Flight w (Some c) free = let no : true ≡ false = free refl in absurd (cc)
become_ready Held w None free = refl
become_ready Held w (Some c) free = let no : true ≡ false = free refl in absurd (cc)

pub makes_start : (j : List Stamped) (at : ℕ) → MakesPending j (record { at = at; event = Restart }) (puts_where is_undecided readied (all_kept j))
makes_start j at =
    let s : Stamped = record { at = at; event = Restart } in
    subst (MakesPending j s) (one_test (λ t. puts_where t readied (all_kept j)) is_undecided)
    (puts_make j s refl readied (λ w. refl) (is_undecided ∷ []) (AllByRecursion-weaker (λ w. is_undecided w ≡ true → is_barred w ≡ false) (λ w. shown_after s w ≡ cond (passes_any (is_undecided ∷ []) w) (Some (notice_row (readied w))) (shown_row w)) (λ w free.
    ap (option_and_then shown_row) (step_start at w) ∙ (become_ready w.stage w w.barred free ∙ ap (λ b. cond b (Some (notice_row (readied w))) (shown_row w)) (sym (or-none (is_undecided w))))) (all_kept j) (undecided-free j)))

makes_mails : (j : List Stamped) (at : ℕ) (u : UserId) → MakesPending j (record { at = at; event = MailTurn u }) (removes_where (is_ready_mail_to u) (all_kept j))
makes_mails j at u =
    let s : Stamped = record { at = at; event = MailTurn u } in
    subst (MakesPending j s) (one_test (λ t. removes_where t (all_kept j)) (is_ready_mail_to u))
    (removes_make j s refl (is_ready_mail_to u ∷ []) (all_of (λ w. shown_after s w ≡ cond (passes_any (is_ready_mail_to u ∷ []) w) None (shown_row w)) (λ w.
    ap (option_and_then shown_row) (step_mails at u w) ∙ (gone_where w (is_ready_mail_to u w) ∙ ap (λ b. cond b None (shown_row w)) (sym (or-none (is_ready_mail_to u w))))) (all_kept j)))

-- the rows of a user's ready mails go by their messages, in any order
removed-mails : (u : UserId) (ws : List Waiting) → removes_where (is_ready_mail_to u) ws ≡ map (removed_mail u) (messages_to u ws)
removed-mails u [] = refl
removed-mails u (w ∷ ws) = by (w.user.0 == u.0) w.way (is_ready w) refl (removed-mails u ws)
  where
    same : (w.user.0 == u.0) ≡ true → w.user ≡ u
    same e = ap (λ n. let v : UserId = record { 0 = n } in v) (eqb-true w.user.0 u.0 e)

    by : (a : Bool) (way : Way) (c : Bool) → (w.user.0 == u.0) ≡ a → map (λ v. Remove (key_of_notice v)) (filter (is_ready_mail_to u) ws) ≡ map (removed_mail u) (map (λ v. v.message) (filter (is_ready_mail_to u) ws))
        → map (λ v. Remove (key_of_notice v)) (cond ((a && rank way == 0) && c) (record w { way = way } ∷ filter (is_ready_mail_to u) ws) (filter (is_ready_mail_to u) ws))
        ≡ map (removed_mail u) (map (λ v. v.message) (cond ((a && rank way == 0) && c) (record w { way = way } ∷ filter (is_ready_mail_to u) ws) (filter (is_ready_mail_to u) ws)))
    by true Mail true e more = λ i. Remove (key.Pending (same e i) w.message Mail) ∷ more i
    by true Mail false e more = more
    by true Push c e more = more
    by false way c e more = more

gone-mails : (k : RowKey) (u : UserId) (ms : List MessageId) (o : Option Row) → row_after_all k (map (removed_mail u) ms) o ≡ cond (list_any (λ m. is_eq (key_cmp (key.Pending u m Mail) k)) ms) None o
gone-mails k u [] o = refl
gone-mails k u (m ∷ ms) o =
    gone-mails k u ms (cond (is_eq (key_cmp (key.Pending u m Mail) k)) None o)
    ∙ by (is_eq (key_cmp (key.Pending u m Mail) k)) (list_any (λ m. is_eq (key_cmp (key.Pending u m Mail) k)) ms)
  where
    by : (a b : Bool) → cond b None (cond a None o) ≡ cond (a || b) None o
    by true true = refl
    by true false = refl
    by false b = refl

pub makes_taken : (j : List Stamped) (at : ℕ) (u : UserId) (ms : List MessageId) → IsPermutation (messages_to u (all_kept j)) ms → MakesPending j (record { at = at; event = MailTurn u }) (map (removed_mail u) ms)
makes_taken j at u ms moved =
    let all = subst (MakesPending j (record { at = at; event = MailTurn u })) (removed-mails u (all_kept j)) (makes_mails j at u) in
    record {
      are = of ms;
      makes = λ k.
          let before = row_after_all k (map Put (map notice_row (all_pending j))) None in
          gone-mails k u ms before
          ∙ (ap (λ b. cond b None before) (sym (list_any-IsPermutation (λ m. is_eq (key_cmp (key.Pending u m Mail) k)) (messages_to u (all_kept j)) ms moved))
          ∙ (sym (gone-mails k u (messages_to u (all_kept j)) before) ∙ all.makes k));
    }
  where
    of : (ns : List MessageId) → AreOf 2 (map (removed_mail u) ns)
    of [] = tt
    of (n ∷ ns) = (refl, of ns)

-- the row of a push goes at its turn, where it is among those that are ready
module _ (u : UserId) (m : MessageId) where
  abbrev its_key : RowKey
  its_key = key.Pending u m Push

  keyed : (w : Waiting) → is_ready_of u m Push w ≡ true → key_of_notice w ≡ its_key
  keyed w h =
      let third = and_parts ((w.user.0 == u.0 && rank w.way == 1) && is_ready w) (w.message.0 == m.0) h in
      let second = and_parts (w.user.0 == u.0 && rank w.way == 1) (is_ready w) third.0 in
      let first = and_parts (w.user.0 == u.0) (rank w.way == 1) second.0 in
      (λ i. key.Pending (record { 0 = eqb-true w.user.0 u.0 first.0 i }) (record { 0 = eqb-true w.message.0 m.0 third.1 i }) (by_push w.way first.1 i))
    where
      by_push : (way : Way) → (rank way == 1) ≡ true → way ≡ Push
      by_push Mail e = absurd (cc)
      by_push Push e = refl

  gone-push : (k : RowKey) (ws : List Waiting) (x : Option Row) → row_after_all k (removes_where (is_ready_of u m Push) ws) x ≡ cond (is_eq (key_cmp its_key k) && list_any (is_ready_of u m Push) ws) None x
  gone-push k [] x = ap (λ b. cond b None x) (sym (and-false (is_eq (key_cmp its_key k))))
  gone-push k (w ∷ ws) x = by (is_ready_of u m Push w) refl (gone-push k ws)
    where
      taken : (a b : Bool) → cond (a && b) None (cond a None x) ≡ cond (a && true) None x
      taken true true = refl
      taken true false = refl
      taken false b = refl

      by : (b : Bool) → is_ready_of u m Push w ≡ b → ((x : Option Row) → row_after_all k (removes_where (is_ready_of u m Push) ws) x ≡ cond (is_eq (key_cmp its_key k) && list_any (is_ready_of u m Push) ws) None x)
          → row_after_all k (map (λ v. Remove (key_of_notice v)) (cond b (w ∷ filter (is_ready_of u m Push) ws) (filter (is_ready_of u m Push) ws))) x ≡ cond (is_eq (key_cmp its_key k) && (b || list_any (is_ready_of u m Push) ws)) None x
      by true e rest =
          ap (λ q. row_after_all k (removes_where (is_ready_of u m Push) ws) (cond (is_eq (key_cmp q k)) None x)) (keyed w e)
          ∙ (rest (cond (is_eq (key_cmp its_key k)) None x) ∙ taken (is_eq (key_cmp its_key k)) (list_any (is_ready_of u m Push) ws))
      by false e rest = rest x

  pub makes_push : (j : List Stamped) (at : ℕ) → list_any (is_ready_of u m Push) (all_kept j) ≡ true → MakesPending j (record { at = at; event = PushTurn (Notify u m) }) (Remove its_key ∷ [])
  makes_push j at there =
      let s : Stamped = record { at = at; event = PushTurn (Notify u m) } in
      let all = subst (MakesPending j s) (one_test (λ t. removes_where t (all_kept j)) (is_ready_of u m Push))
      (removes_make j s refl (is_ready_of u m Push ∷ []) (all_of (λ w. shown_after s w ≡ cond (passes_any (is_ready_of u m Push ∷ []) w) None (shown_row w)) (λ w.
      ap (option_and_then shown_row) (step_push at u m w) ∙ (gone_where w (is_ready_of u m Push w) ∙ ap (λ b. cond b None (shown_row w)) (sym (or-none (is_ready_of u m Push w))))) (all_kept j))) in
      record {
        are = (refl, tt);
        makes = λ k.
            let before = row_after_all k (map Put (map notice_row (all_pending j))) None in
            ap (λ b. cond b None before) (sym (and-true (is_eq (key_cmp its_key k)))) ∙ (ap (λ b. cond (is_eq (key_cmp its_key k) && b) None before) (sym there)
            ∙ (sym (gone-push k (all_kept j) before) ∙ all.makes k));
      }

pub makes_dealt : (j : List Stamped) (at : ℕ) (k : DealNo) (verdicts : List UserVerdict) (idle live : List UserId) → ((u : UserId) → is_one_of idle u ≡ gives_idle verdicts u) → ((u : UserId) → is_one_of live u ≡ gives_live verdicts u)
    → MakesPending j (record { at = at; event = Absorbed (Dealt k verdicts) }) (puts_where (is_undecided_of k) (dealt_to idle live) (all_kept j))
makes_dealt j at k verdicts idle live are_idle are_live =
    let s : Stamped = record { at = at; event = Absorbed (Dealt k verdicts) } in
    subst (MakesPending j s) (one_test (λ t. puts_where t (dealt_to idle live) (all_kept j)) (is_undecided_of k))
    (puts_make j s refl (dealt_to idle live) (λ w. refl) (is_undecided_of k ∷ []) (AllByRecursion-weaker (λ w. is_undecided w ≡ true → is_barred w ≡ false) (λ w. shown_after s w ≡ cond (passes_any (is_undecided_of k ∷ []) w) (Some (notice_row (dealt_to idle live w))) (shown_row w)) (λ w free.
    ap (option_and_then shown_row) (step_dealt at k verdicts idle live are_idle are_live w)
    ∙ (by w (of_deal k w) (is_one_of idle w.user || (w.online && is_one_of live w.user)) w.stage w.barred free ∙ ap (λ b. cond b (Some (notice_row (dealt_to idle live w))) (shown_row w)) (sym (or-none (is_undecided_of k w))))) (all_kept j) (undecided-free j)))
  where
    by : (w : Waiting) (q r : Bool) (g : Stage) (barred : Option Cause) → (not (is_ready_stage g) ≡ true → is_some barred ≡ false)
        → option_and_then shown_row (Some (if q then record w { stage = dealt_by r g; barred = barred } else record w { stage = g; barred = barred }))
        ≡ cond (q && not (is_ready_stage g)) (Some (notice_row (record w { stage = dealt_by r g; barred = barred }))) (cond (is_some barred) None (Some (notice_row (record w { stage = g; barred = barred }))))
    by w false r g barred free = refl
    by w true true Ready barred free = refl
    by w true false Ready barred free = refl
    by w true r Flight (Some c) free = let no : true ≡ false = free refl in absurd (cc)
    by w true r Held (Some c) free = let no : true ≡ false = free refl in absurd (cc)
    by w true r Flight None free = refl
    by w true r Held None free = refl

-- a notice is named where it passes one of the tests
named_so : (u : UserId) (deals : List DealNo) (w : Waiting) → passes_any (named_by u deals) w ≡ (is_named u deals w && is_undecided w)
named_so u [] w = sym (nobody (w.user.0 == u.0) (is_undecided w))
  where
    nobody : (a b : Bool) → ((a && false) && b) ≡ false
    nobody true b = refl
    nobody false b = refl
named_so u (k ∷ deals) w =
    ap (λ b. is_undecided_at k u Mail w || (is_undecided_at k u Push w || b)) (named_so u deals w)
    ∙ (by (w.deal.0 == k.0) (w.user.0 == u.0) w.way (is_undecided w) (has_deal deals w.deal)
    ∙ ap (λ b. (w.user.0 == u.0 && (b || has_deal deals w.deal)) && is_undecided w) (swapped w.deal.0 k.0))
  where
    by : (q a : Bool) (way : Way) (d more : Bool) → (((q && (a && rank way == 0)) && d) || (((q && (a && rank way == 1)) && d) || ((a && more) && d))) ≡ ((a && (q || more)) && d)
    by true true Mail true more = refl
    by true true Mail false true = refl
    by true true Mail false false = refl
    by true true Push true more = refl
    by true true Push false true = refl
    by true true Push false false = refl
    by true false way d more = refl
    by false a way d more = refl

pub makes_cleared : (j : List Stamped) (at : ℕ) (u : UserId) (deals : List DealNo) (q : QueueId) → MakesPending j (record { at = at; event = Absorbed (Cleared u deals q) }) (flat_map (λ t. removes_where t (all_kept j)) (named_by u deals))
makes_cleared j at u deals q =
    let s : Stamped = record { at = at; event = Absorbed (Cleared u deals q) } in
    removes_make j s refl (named_by u deals) (all_of (λ w. shown_after s w ≡ cond (passes_any (named_by u deals) w) None (shown_row w)) (λ w.
    ap (option_and_then shown_row) (step_cleared at u deals q w) ∙ (gone_where w (is_named u deals w && is_undecided w) ∙ ap (λ b. cond b None (shown_row w)) (sym (named_so u deals w)))) (all_kept j))

pub makes_missed : (j : List Stamped) (at : ℕ) (u : UserId) (deals : List DealNo) → MakesPending j (record { at = at; event = Absorbed (Missed u deals) }) (flat_map (λ t. puts_where t readied (all_kept j)) (named_by u deals))
makes_missed j at u deals =
    let s : Stamped = record { at = at; event = Absorbed (Missed u deals) } in
    puts_make j s refl readied (λ w. refl) (named_by u deals) (AllByRecursion-weaker (λ w. is_undecided w ≡ true → is_barred w ≡ false) (λ w. shown_after s w ≡ cond (passes_any (named_by u deals) w) (Some (notice_row (readied w))) (shown_row w)) (λ w free.
    ap (option_and_then shown_row) (step_missed at u deals w) ∙ (by w (is_named u deals w) free ∙ ap (λ b. cond b (Some (notice_row (readied w))) (shown_row w)) (sym (named_so u deals w)))) (all_kept j) (undecided-free j))
  where
    by : (w : Waiting) (q : Bool) → (is_undecided w ≡ true → is_barred w ≡ false)
        → cond (is_barred w) None (Some (notice_row (record w { stage = ready_if q w.stage }))) ≡ cond (q && is_undecided w) (Some (notice_row (record w { stage = ready_if true w.stage }))) (shown_row w)
    by w true free = become_ready w.stage w w.barred free
    by w false free = refl

-- ---- a read and a deletion

-- the tests of pairs pass what nothing bars yet
barred_so : (ps : List PushKey) (w : Waiting) → passes_any (unbarred_tests ps) w ≡ (has_push ps w.user w.message && not (is_barred w))
barred_so [] w = refl
barred_so (p ∷ ps) w =
    ap (λ b. is_unbarred_of p Mail w || (is_unbarred_of p Push w || b)) (barred_so ps w)
    ∙ (by (w.message.0 == p.message.0) (w.user.0 == p.user.0) w.way (not (is_barred w)) (has_push ps w.user w.message)
    ∙ (λ i. ((eqb-turned w.user.0 p.user.0 i && eqb-turned w.message.0 p.message.0 i) || has_push ps w.user w.message) && not (is_barred w)))
  where
    by : (m u : Bool) (way : Way) (f more : Bool) → (((m && (u && rank way == 0)) && f) || (((m && (u && rank way == 1)) && f) || (more && f))) ≡ (((u && m) || more) && f)
    by true true Mail true more = refl
    by true true Mail false true = refl
    by true true Mail false false = refl
    by true true Push true more = refl
    by true true Push false true = refl
    by true true Push false false = refl
    by true false way f more = refl
    by false true way f more = refl
    by false false way f more = refl

-- what an event does that bars notices and is nothing else to any
pub makes_barred : (j : List Stamped) (s : Stamped) → IsNoTurn s.event → owed_by (occurrence j s) ≡ [] → ((u : UserId) (k : DealNo) (online : Bool) → readies u k online s.event ≡ false) → ((u : UserId) (k : DealNo) → clears u k s.event ≡ false) → ((k : DealNo) → absorbs (is_dealt k) s.event ≡ false)
    → (ps : List PushKey) → AllByRecursion (λ n. has_push ps n.user n.number ≡ is_barred_at j s n) (notices j) → MakesPending j s (flat_map (λ t. removes_where t (all_kept j)) (unbarred_tests ps))
makes_barred j s never none not_ready not_cleared not_dealt ps bars = removes_make j s none (unbarred_tests ps) (kept_all (kept j) (kept-among j (λ n. has_push ps n.user n.number ≡ is_barred_at j s n) bars))
  where
    by : (w : Waiting) (new old : Option Cause) (g : Stage)
        → option_and_then shown_row (option_map (λ g. let v : Waiting = record w { stage = g; barred = option_or old new } in v) (next_by false false false false (is_some new) g))
        ≡ cond (is_some new && not (is_some old)) None (cond (is_some old) None (Some (notice_row (record w { stage = g; barred = old }))))
    by w None None Flight = refl
    by w None None Held = refl
    by w None None Ready = refl
    by w None (Some c) Flight = refl
    by w None (Some c) Held = refl
    by w None (Some c) Ready = refl
    by w (Some c) None Flight = refl
    by w (Some c) None Held = refl
    by w (Some c) None Ready = refl
    by w (Some c) (Some d) Flight = refl
    by w (Some c) (Some d) Held = refl
    by w (Some c) (Some d) Ready = refl

    one : (w : Waiting) → has_push ps w.user w.message ≡ is_some (barring_of s w) → shown_after s w ≡ cond (passes_any (unbarred_tests ps) w) None (shown_row w)
    one w bars =
        (λ i. option_and_then shown_row (option_map (λ g. let v : Waiting = record w { stage = g; barred = option_or w.barred (barring_of s w) } in v)
        (next_by (never_turn s.event never w.user w.message w.way i) (not_ready w.user w.deal w.online i) (not_cleared w.user w.deal i) (not_dealt w.deal i) (is_some (barring_of s w)) w.stage)))
        ∙ (by w (barring_of s w) w.barred w.stage
        ∙ ap (λ b. cond b None (shown_row w)) (ap (λ b. b && not (is_barred w)) (sym bars) ∙ sym (barred_so ps w)))

    kept_all : (ns : List Notice) → AllByRecursion (λ n. has_push ps n.user n.number ≡ is_barred_at j s n) ns → AllByRecursion (λ w. shown_after s w ≡ cond (passes_any (unbarred_tests ps) w) None (shown_row w)) (map (notice_kept j) ns)
    kept_all [] all = tt
    kept_all (n ∷ ns) all = (one (notice_kept j n) (all.0 ∙ ap is_some (barring-alone j s n)), kept_all ns all.1)
