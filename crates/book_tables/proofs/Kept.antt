-- What is kept of a notice that waits, by the definitions of the journal: its stage, and the batch rows.
use Rattle.std.proofs.Common.{◌≡◌, ◌≤◌, ◌+◌, ℕ, suc, not, Bool, true, false, ◌&&◌, ◌||◌, ◌==◌, cond, List, [], ◌∷◌, Option, Some, None, length, map, filter, refl, sym, ap, ◌∙◌, arith}
use Rattle.std.specs.Prelude.{option_and_then, is_some, count_by, if◌then◌else◌}
use Rattle.std.specs.List.{AllByRecursion}
use Rattle.std.proofs.lemmas.List.{length-map}
use Rattle.std.proofs.lemmas.List.Sums.{length-filter}
use Rattle.chat_model.specs.declared.event.Stamped.{Stamped}
use Rattle.chat_model.specs.declared.ids.UserId.{UserId}
use Rattle.chat_model.specs.declared.row.Stage.{Stage}
use Rattle.chat_model.specs.declared.row.Stage.TheVariants as stage
use Rattle.chat_model.specs.declared.trigger.Way.{Way}
use Rattle.chat_model.specs.declared.trigger.Way.TheVariants.{Mail, Push}
use Rattle.notice_ledger.specs.declared.accounts.Account.{Account}
use Rattle.notice_ledger.specs.declared.accounts.Account.TheVariants as account
use Rattle.notice_ledger.specs.Past.Journal.{Occurrence, first_behind}
use Rattle.chat_model.specs.declared.row.Cause.{Cause}
use Rattle.std.specs.Option.{option_map_or}
use Rattle.notice_ledger.specs.Past.Owed.{Notice, notices, same_way, ready, was_cleared, was_dealt, cause_of_bar, is_unbarred, is_turn_of, turn, decided, account_by, account_of, is_pending}
use Rattle.notice_ledger.specs.Past.Due.{batch_rows}
use Rattle.notice_ledger.specs.Past.Audit.{same_account}
use Rattle.notice_ledger.proofs.Batches.{is_mail_of, batch_rows-kept}
use Rattle.notice_ledger.proofs.Queued.{is_queued, is_kept, kept, kept-each, queued-account, queued-ready, pending-unbarred, unqueued-unready}
use Rattle.book_tables.specs.declared.tables.Waiting.{Waiting}
use Rattle.book_tables.specs.Notices.{rank, is_ready, is_ready_stage, is_ready_mail_to, same_stage, is_at_stage}
use Rattle.book_tables.specs.Batched.{messages_to}
use Rattle.book_tables.specs.declared.tables.Tables.{Tables}
use Rattle.std.specs.List.{list_any}
use Rattle.notice_ledger.specs.Past.Pushes.{handed_at, is_active, is_removal_waiting, removes, waiting_items}
use Rattle.notice_ledger.specs.Past.Audit.{owed_with, removals_waiting}
use Rattle.notice_ledger.specs.Past.Owed.{bar}
use Rattle.notice_ledger.proofs.Standing.{cause_of_bar-is}
use Rattle.notice_ledger.proofs.Queued.{kept-tested}
use Rattle.notice_ledger.proofs.Revoked.{revoked-barred}
use Rattle.book_tables.specs.Notices.{is_barred}
use Rattle.book_tables.specs.Tables.{Holds, stage_by, notice_kept, cleared_kept, is_live, stays}

-- the account at a stage
abbrev pub account_at : Stage → Account
account_at stage.Flight = account.Flight
account_at stage.Held = account.Held
account_at stage.Ready = account.Ready

-- what is kept, as the tables keep it
abbrev pub all_kept : List Stamped → List Waiting
all_kept j = map (notice_kept j) (kept j)

-- what is kept is queued, or else pending and not queued
pub kept_unqueued : (j : List Stamped) (n : Notice) → is_kept j n ≡ true → is_queued j n ≡ false → is_pending (account_of j n) ≡ true
kept_unqueued j n k unqueued = by (is_pending (account_of j n)) (is_queued j n) k unqueued
  where
    by : (a b : Bool) → (a || b) ≡ true → b ≡ false → a ≡ true
    by true b k u = refl
    by false true k u = absurd (cc)
    by false false k u = absurd (cc)

-- what is pending and not queued is in flight or held
pub unqueued-account : (j : List Stamped) (n : Notice) → is_pending (account_of j n) ≡ true → is_queued j n ≡ false → account_of j n ≡ cond (was_dealt j n) account.Held account.Flight
unqueued-account j n pending unqueued =
    let u = unqueued-unready j n pending unqueued in let bar = pending-unbarred j n pending in
    (λ i. account_by (option_and_then (λ t. if is_unbarred n t then Some (decided n t) else None) (option_and_then (λ r. first_behind r.place (λ o. is_turn_of n.user n.number n.way o.event) j) (u.no_event i))) (bar i) (is_some (u.no_event i)) (u.not_cleared i) (was_dealt j n))
    ∙ two (was_dealt j n)
  where
    two : (d : Bool) → account_by None None false false d ≡ cond d account.Held account.Flight
    two true = refl
    two false = refl

-- a notice that is kept stands at the stage of its account, where nothing bars it
pub stage-kept : (g : Stage) (j : List Stamped) (n : Notice) → is_kept j n ≡ true → is_at_stage g (notice_kept j n) ≡ same_account (account_of j n) (account_at g)
stage-kept g j n k = by (is_queued j n) refl
  where
    queued : (c : Option Cause) (d : Bool) (h : Stage) → (not (is_some c) && same_stage (stage_by d true) h) ≡ same_account (option_map_or account.Cancelled c account.Ready) (account_at h)
    queued None d stage.Flight = refl
    queued None d stage.Held = refl
    queued None d stage.Ready = refl
    queued (Some c) d stage.Flight = refl
    queued (Some c) d stage.Held = refl
    queued (Some c) d stage.Ready = refl

    unqueued : (d : Bool) (h : Stage) → (not false && same_stage (stage_by d false) h) ≡ same_account (cond d account.Held account.Flight) (account_at h)
    unqueued true stage.Flight = refl
    unqueued true stage.Held = refl
    unqueued true stage.Ready = refl
    unqueued false stage.Flight = refl
    unqueued false stage.Held = refl
    unqueued false stage.Ready = refl

    by : (q : Bool) → is_queued j n ≡ q → is_at_stage g (notice_kept j n) ≡ same_account (account_of j n) (account_at g)
    by true q =
        let r = queued-ready j n q in
        ap (λ o. not (is_some (cause_of_bar j n)) && same_stage (stage_by (was_dealt j n) (is_some o)) g) r.1
        ∙ (queued (cause_of_bar j n) (was_dealt j n) g ∙ ap (λ a. same_account a (account_at g)) (sym (queued-account j n q)))
    by false q =
        let pending = kept_unqueued j n k q in let u = unqueued-unready j n pending q in let bar = pending-unbarred j n pending in
        (λ i. not (is_some (bar i)) && same_stage (stage_by (was_dealt j n) (is_some (u.no_event i))) g)
        ∙ (unqueued (was_dealt j n) g ∙ ap (λ a. same_account a (account_at g)) (sym (unqueued-account j n pending q)))

-- it is ready where it is queued
pub ready-kept : (j : List Stamped) (n : Notice) → is_kept j n ≡ true → is_ready (notice_kept j n) ≡ is_queued j n
ready-kept j n k = by (is_queued j n) refl
  where
    never : (d : Bool) → is_ready_stage (stage_by d false) ≡ false
    never true = refl
    never false = refl

    by : (q : Bool) → is_queued j n ≡ q → is_ready (notice_kept j n) ≡ is_queued j n
    by true q = ap (λ o. is_ready_stage (stage_by (was_dealt j n) (is_some o))) (queued-ready j n q).1 ∙ sym q
    by false q = ap (λ o. is_ready_stage (stage_by (was_dealt j n) (is_some o))) (unqueued-unready j n (kept_unqueued j n k q) q).no_event ∙ (never (was_dealt j n) ∙ sym q)

mail_way : (way : Way) → (rank way == 0) ≡ same_way way Mail
mail_way Mail = refl
mail_way Push = refl

pub mail-kept : (u : UserId) (j : List Stamped) (n : Notice) → is_kept j n ≡ true → is_ready_mail_to u (notice_kept j n) ≡ (is_mail_of u n && is_queued j n)
mail-kept u j n h =
    (λ i. (n.user.0 == u.0 && mail_way n.way i) && ready-kept j n h i)

pub filter-kept : (p : Waiting → Bool) (q : Notice → Bool) (j : List Stamped) → ((n : Notice) → is_kept j n ≡ true → p (notice_kept j n) ≡ q n) → (ns : List Notice) → AllByRecursion (λ n. is_kept j n ≡ true) ns → filter p (map (notice_kept j) ns) ≡ map (notice_kept j) (filter q ns)
filter-kept p q j same [] all = refl
filter-kept p q j same (n ∷ ns) all =
    (λ i. cond (same n all.0 i) (notice_kept j n ∷ filter-kept p q j same ns all.1 i) (filter-kept p q j same ns all.1 i)) ∙ by (q n)
  where
    by : (b : Bool) → cond b (notice_kept j n ∷ map (notice_kept j) (filter q ns)) (map (notice_kept j) (filter q ns)) ≡ map (notice_kept j) (cond b (n ∷ filter q ns) (filter q ns))
    by true = refl
    by false = refl

-- the mails of a user that are ready are the batch rows
pub mails-kept : (u : UserId) (j : List Stamped) → filter (is_ready_mail_to u) (map (notice_kept j) (kept j)) ≡ map (notice_kept j) (batch_rows j u)
mails-kept u j = filter-kept (is_ready_mail_to u) (λ n. is_mail_of u n && is_queued j n) j (mail-kept u j) (kept j) (kept-each j) ∙ ap (map (notice_kept j)) (sym (batch_rows-kept j u))

-- and their messages
pub messages-kept : (u : UserId) (j : List Stamped) → messages_to u (map (notice_kept j) (kept j)) ≡ map (λ n. n.number) (batch_rows j u)
messages-kept u j = ap (map (λ (w : Waiting). w.message)) (mails-kept u j) ∙ numbers (batch_rows j u)
  where
    numbers : (ns : List Notice) → map (λ (w : Waiting). w.message) (map (notice_kept j) ns) ≡ map (λ n. n.number) ns
    numbers [] = refl
    numbers (n ∷ ns) = ap (λ ms. n.number ∷ ms) (numbers ns)

-- how many wait at a stage
pub stages-kept : (g : Stage) (j : List Stamped) → length (filter (is_at_stage g) (map (notice_kept j) (kept j))) ≡ count_by (λ n. same_account (account_of j n) (account_at g)) (kept j)
stages-kept g j =
    ap length (filter-kept (is_at_stage g) (λ n. same_account (account_of j n) (account_at g)) j (stage-kept g j) (kept j) (kept-each j))
    ∙ (length-map (filter (λ n. same_account (account_of j n) (account_at g)) (kept j)) (notice_kept j) ∙ length-filter (λ n. same_account (account_of j n) (account_at g)) (kept j))

pub filter-short : (p : Waiting → Bool) (ws : List Waiting) → length (filter p ws) ≤ length ws
filter-short p [] = omega arith
filter-short p (w ∷ ws) = by (p w) (filter-short p ws)
  where
    by : (b : Bool) → length (filter p ws) ≤ length ws → length (cond b (w ∷ filter p ws) (filter p ws)) ≤ length (w ∷ ws)
    by true le = omega arith
    by false le = omega arith

-- those that pass and those that don't are all
pub filter-both : (p : Waiting → Bool) (ws : List Waiting) → length (filter p ws) + length (filter (λ w. not (p w)) ws) ≡ length ws
filter-both p [] = refl
filter-both p (w ∷ ws) = by (p w) (filter-both p ws)
  where
    by : (b : Bool) → length (filter p ws) + length (filter (λ w. not (p w)) ws) ≡ length ws → length (cond b (w ∷ filter p ws) (filter p ws)) + length (cond (not b) (w ∷ filter (λ w. not (p w)) ws) (filter (λ w. not (p w)) ws)) ≡ length (w ∷ ws)
    by true e = omega arith
    by false e = omega arith

-- they are those that stay
pub kept-stays : (j : List Stamped) → all_kept j ≡ map (notice_kept j) (filter (stays j) (notices j))
unfolding kept
kept-stays j = refl

-- and those that the tables keep
pub holds-kept : (t : Tables) (j : List Stamped) → Holds t j → t.waiting.items ≡ all_kept j
holds-kept t j holds = holds.waiting ∙ sym (kept-stays j)

-- how many stand at a stage of all notices
pub stages-owed : (g : Stage) (j : List Stamped) → length (filter (is_at_stage g) (all_kept j)) ≡ owed_with j (account_at g)
unfolding owed_with
stages-owed g j =
    stages-kept g j
    ∙ (sym (length-filter at_stage (kept j)) ∙ (ap length (sym (kept-tested j at_stage (λ n. within (account_of j n) g (is_queued j n)))) ∙ length-filter at_stage (notices j)))
  where
    at_stage : Notice → Bool
    at_stage n = same_account (account_of j n) (account_at g)

    within : (a : Account) (g : Stage) (q : Bool) → same_account a (account_at g) ≡ ((is_pending a || q) && same_account a (account_at g))
    within account.Flight g q = refl
    within account.Held g q = refl
    within account.Ready g q = refl
    within account.NotOwed g q = none g (is_pending account.NotOwed || q)
      where
        none : (g : Stage) (b : Bool) → same_account account.NotOwed (account_at g) ≡ (b && same_account account.NotOwed (account_at g))
        none stage.Flight true = refl
        none stage.Flight false = refl
        none stage.Held true = refl
        none stage.Held false = refl
        none stage.Ready true = refl
        none stage.Ready false = refl
    within account.Handed g q = none g q
      where
        none : (g : Stage) (b : Bool) → same_account account.Handed (account_at g) ≡ (b && same_account account.Handed (account_at g))
        none stage.Flight true = refl
        none stage.Flight false = refl
        none stage.Held true = refl
        none stage.Held false = refl
        none stage.Ready true = refl
        none stage.Ready false = refl
    within account.LiveQueue g q = none g q
      where
        none : (g : Stage) (b : Bool) → same_account account.LiveQueue (account_at g) ≡ (b && same_account account.LiveQueue (account_at g))
        none stage.Flight true = refl
        none stage.Flight false = refl
        none stage.Held true = refl
        none stage.Held false = refl
        none stage.Ready true = refl
        none stage.Ready false = refl
    within (account.Cancelled c) g q = none g q
      where
        none : (g : Stage) (b : Bool) → same_account (account.Cancelled c) (account_at g) ≡ (b && same_account (account.Cancelled c) (account_at g))
        none stage.Flight true = refl
        none stage.Flight false = refl
        none stage.Held true = refl
        none stage.Held false = refl
        none stage.Ready true = refl
        none stage.Ready false = refl

-- a live queue cleared so many
pub cleared-owed : (j : List Stamped) → length (map cleared_kept (filter (is_live j) (notices j))) ≡ owed_with j account.LiveQueue
unfolding owed_with
cleared-owed j = length-map (filter (is_live j) (notices j)) cleared_kept ∙ length-filter (is_live j) (notices j)

-- of the active pushes those that are barred are the ones whose removal waits
pub revoked-waits : (j : List Stamped) → length (filter is_barred (map (notice_kept j) (filter (is_active j) (notices j)))) ≡ removals_waiting j
unfolding removals_waiting
revoked-waits j = each (notices j) ∙ length-filter (is_removal_waiting j) (notices j)
  where
    one : (n : Notice) → (is_active j n && is_some (cause_of_bar j n)) ≡ is_removal_waiting j n
    one n =
        (λ i. (is_some (handed_at j n) && not (revoked-barred j n i && not (list_any (removes n.user n.number) (waiting_items j)))) && cause_of_bar-is j n i)
        ∙ (by (is_some (handed_at j n)) (is_some (bar j n)) (list_any (removes n.user n.number) (waiting_items j))
        ∙ sym (ap (λ b. b && list_any (removes n.user n.number) (waiting_items j)) (revoked-barred j n)))
      where
        by : (h b w : Bool) → ((h && not ((h && b) && not w)) && b) ≡ ((h && b) && w)
        by true true true = refl
        by true true false = refl
        by true false w = refl
        by false b w = refl

    first : (a : Bool) (n : Notice) (ns ms : List Notice) → length (filter is_barred (map (notice_kept j) ns)) ≡ length ms → length (filter is_barred (map (notice_kept j) (cond a (n ∷ ns) ns))) ≡ length (cond (a && is_some (cause_of_bar j n)) (n ∷ ms) ms)
    first false n ns ms rest = rest
    first true n ns ms rest =
        elim (is_some (cause_of_bar j n)) as (λ b. length (cond b (notice_kept j n ∷ filter is_barred (map (notice_kept j) ns)) (filter is_barred (map (notice_kept j) ns))) ≡ length (cond b (n ∷ ms) ms)) [
          | true ↦ ap suc rest
          | false ↦ rest
        ]

    each : (ns : List Notice) → length (filter is_barred (map (notice_kept j) (filter (is_active j) ns))) ≡ length (filter (is_removal_waiting j) ns)
    each [] = refl
    each (n ∷ ns) =
        first (is_active j n) n (filter (is_active j) ns) (filter (is_removal_waiting j) ns) (each ns)
        ∙ ap (λ b. length (cond b (n ∷ filter (is_removal_waiting j) ns) (filter (is_removal_waiting j) ns))) (one n)
