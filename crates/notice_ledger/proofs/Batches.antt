-- A user's batch rows, and what its mail turn hands over, among the notices that are kept and among those that wait.
use Rattle.std.proofs.Common.{◌≡◌, ℕ, ◌+◌, ◌-◌, Bool, true, false, ◌&&◌, ◌||◌, ◌==◌, not, cond, List, [], ◌∷◌, length, map, refl, sym, ap, ◌∙◌, arith}
use Rattle.std.specs.Prelude.{Option, Some, None, is_none, is_some, filter, count_by, if◌then◌else◌}
use Rattle.std.specs.List.{AllByRecursion, list_any}
use Rattle.std.proofs.lemmas.Bool.{and_from, and_parts, eq-eqb, eqb-true}
use Rattle.std.proofs.lemmas.List.{length-map}
use Rattle.std.proofs.lemmas.List.Sums.{sum_by-cons}
use Rattle.std.proofs.Math.Bool.{and-false}
use Rattle.chat_model.specs.declared.event.Stamped.{Stamped}
use Rattle.chat_model.specs.declared.ids.UserId.{UserId}
use Rattle.chat_model.specs.declared.trigger.Way.TheVariants.{Mail}
use Rattle.mail_batches.specs.Entries.{message_of, no_message_twice}
use Rattle.notice_ledger.specs.declared.accounts.Account.{Account}
use Rattle.notice_ledger.specs.declared.accounts.Account.TheVariants.{Flight, Held, Ready}
use Rattle.notice_ledger.specs.Past.Owed.{Notice, notices, bar, cause_of_bar, switch_on, account_of, is_pending, waiting, same_way}
use Rattle.notice_ledger.specs.Past.Due.{batch_rows, is_batch_row}
use Rattle.notice_ledger.specs.Past.Outbox.{ready_item, mailed, mail_items, dropped}
use Rattle.notice_ledger.specs.Past.Audit.{same_account}
use Rattle.notice_ledger.proofs.Apart.{Pairwise, Pairwise-filter, Differ, notices-apart}
pub use Rattle.notice_ledger.proofs.Lists.{filter_same}
use Rattle.notice_ledger.proofs.Lists.{AllByRecursion-weaker, AllByRecursion-filter, filter-filter, filter-passed}
use Rattle.notice_ledger.proofs.Same.{same_ways}
use Rattle.notice_ledger.proofs.Queued.{is_queued, kept, ready-is, kept-tested}
use Rattle.notice_ledger.proofs.Standing.{cause_of_bar-is, unbarred-cause}

-- a mail notice of the user
abbrev pub is_mail_of : UserId → Notice → Bool
is_mail_of u n = n.user.0 == u.0 && same_way n.way Mail

-- the notice is ready
abbrev pub is_ready : List Stamped → Notice → Bool
is_ready j n = same_account (account_of j n) Ready

-- a mail notice of the user that is ready
abbrev pub is_ready_mail_of : List Stamped → UserId → Notice → Bool
is_ready_mail_of j u n = is_mail_of u n && is_ready j n

and_assoc : (a b c : Bool) → ((a && b) && c) ≡ (a && (b && c))
and_assoc true b c = refl
and_assoc false b c = refl

-- the batch rows are the mail notices that are queued, among what is kept
pub batch_rows-kept : (j : List Stamped) (u : UserId) → batch_rows j u ≡ filter (is_batch_row j u) (kept j)
batch_rows-kept j u = kept-tested j (is_batch_row j u) (λ n. by (is_pending (account_of j n)) (is_queued j n) (is_mail_of u n))
  where
    by : (pending queued mail : Bool) → (mail && queued) ≡ ((pending || queued) && (mail && queued))
    by true queued mail = refl
    by false true mail = refl
    by false false mail = and-false mail

-- a user's mail turn hands over those of them that have no bar
pub mailed-kept : (j : List Stamped) (u : UserId) → mailed j u ≡ filter (λ n. is_mail_of u n && (is_queued j n && is_none (cause_of_bar j n))) (kept j)
mailed-kept j u =
    ap (filter (λ n. is_none (bar j n))) (batch_rows-kept j u)
    ∙ (filter-filter (λ n. is_none (bar j n)) (is_batch_row j u) (kept j)
    ∙ filter_same (λ n. is_batch_row j u n && is_none (bar j n)) (λ n. is_mail_of u n && (is_queued j n && is_none (cause_of_bar j n))) (λ n.
    ap (λ b. is_batch_row j u n && b) (unbarred-cause j n) ∙ and_assoc (is_mail_of u n) (is_queued j n) (is_none (cause_of_bar j n))) (kept j))

-- these are the mail notices that are ready
pub mailed-ready : (j : List Stamped) (u : UserId) → mailed j u ≡ filter (is_ready_mail_of j u) (notices j)
mailed-ready j u =
    filter-filter (λ n. is_none (bar j n)) (is_batch_row j u) (notices j)
    ∙ filter_same (λ n. is_batch_row j u n && is_none (bar j n)) (is_ready_mail_of j u) (λ n.
    ap (λ b. is_batch_row j u n && b) (unbarred-cause j n)
    ∙ (and_assoc (is_mail_of u n) (is_queued j n) (is_none (cause_of_bar j n)) ∙ ap (λ b. is_mail_of u n && b) (sym (ready-is j n)))) (notices j)

-- what is ready is pending
pub ready-pending : (b : Bool) (a : Account) → (b && same_account a Ready) ≡ (is_pending a && (b && same_account a Ready))
ready-pending b Flight = refl
ready-pending b Held = refl
ready-pending b Ready = refl
ready-pending b a = and-false b

-- and so among those that wait
pub mailed-waiting : (j : List Stamped) (u : UserId) → mailed j u ≡ filter (is_ready_mail_of j u) (waiting j)
unfolding waiting
mailed-waiting j u =
    mailed-ready j u
    ∙ (filter_same (is_ready_mail_of j u) (λ n. is_pending (account_of j n) && is_ready_mail_of j u n) (λ n. ready-pending (is_mail_of u n) (account_of j n)) (notices j)
    ∙ sym (filter-filter (is_ready_mail_of j u) (λ n. is_pending (account_of j n)) (notices j)))

-- ---- a user has one mail notice of a message at most

mail_numbers : (u : UserId) (a b : Notice) → is_mail_of u a ≡ true → is_mail_of u b ≡ true → Differ a b → (b.number.0 == a.number.0) ≡ false
mail_numbers u a b of_a of_b differ =
    let parts_a = and_parts (a.user.0 == u.0) (same_way a.way Mail) of_a in
    let parts_b = and_parts (b.user.0 == u.0) (same_way b.way Mail) of_b in
    let users : (b.user.0 == a.user.0) ≡ true = eq-eqb b.user.0 a.user.0 (eqb-true b.user.0 u.0 parts_b.0 ∙ sym (eqb-true a.user.0 u.0 parts_a.0)) in
    let ways : same_way b.way a.way ≡ true = ap (same_way b.way) (same_ways a.way Mail parts_a.1) ∙ parts_b.1 in
    by (b.number.0 == a.number.0) ((λ i. (sym users i && b.number.0 == a.number.0) && sym ways i) ∙ differ)
  where
    by : (x : Bool) → ((true && x) && true) ≡ false → x ≡ false
    by true e = e
    by false e = refl

once_each : (j : List Stamped) (u : UserId) (ns : List Notice) → AllByRecursion (λ n. is_mail_of u n ≡ true) ns → Pairwise Differ ns → no_message_twice (map (ready_item j) ns) ≡ true
once_each j u [] mails apart = refl
once_each j u (n ∷ ns) mails apart =
    and_from (not (list_any (λ k. message_of k == n.number.0) (map (ready_item j) ns))) (no_message_twice (map (ready_item j) ns)) (ap not (none ns mails.1 apart.0)) (once_each j u ns mails.1 apart.1)
  where
    none : (ms : List Notice) → AllByRecursion (λ m. is_mail_of u m ≡ true) ms → AllByRecursion (Differ n) ms → list_any (λ k. message_of k == n.number.0) (map (ready_item j) ms) ≡ false
    none [] all differ = refl
    none (m ∷ ms) all differ =
        ap (λ b. b || list_any (λ k. message_of k == n.number.0) (map (ready_item j) ms)) (mail_numbers u n m mails.0 all.0 differ.0) ∙ none ms all.1 differ.1

batch_rows-mails : (j : List Stamped) (u : UserId) → AllByRecursion (λ n. is_mail_of u n ≡ true) (batch_rows j u)
batch_rows-mails j u =
    AllByRecursion-weaker (λ n. is_batch_row j u n ≡ true) (λ n. is_mail_of u n ≡ true)
    (λ n row. (and_parts (is_mail_of u n) (is_queued j n) row).0)
    (batch_rows j u) (filter-passed (is_batch_row j u) (notices j))

batch_rows-apart : (j : List Stamped) (u : UserId) → Pairwise Differ (batch_rows j u)
batch_rows-apart j u = Pairwise-filter Differ (is_batch_row j u) (notices j) (notices-apart j)

-- so no message stands twice in a user's batch rows
pub batch_rows-once : (j : List Stamped) (u : UserId) → no_message_twice (map (ready_item j) (batch_rows j u)) ≡ true
batch_rows-once j u = once_each j u (batch_rows j u) (batch_rows-mails j u) (batch_rows-apart j u)

-- nor in what a mail turn hands over
pub mailed-once : (j : List Stamped) (u : UserId) → no_message_twice (map (ready_item j) (mailed j u)) ≡ true
mailed-once j u =
    let free : Notice → Bool = λ n. is_none (bar j n) in
    once_each j u (mailed j u) (AllByRecursion-filter (λ n. is_mail_of u n ≡ true) free (batch_rows j u) (batch_rows-mails j u)) (Pairwise-filter Differ free (batch_rows j u) (batch_rows-apart j u))

-- ---- what a mail turn drops

-- what a filter keeps and what it leaves out
kept_and_left : {X : Type 0} (p q : X → Bool) → ((x : X) → q x ≡ not (p x)) → (xs : List X) → length (filter p xs) + count_by q xs ≡ length xs
kept_and_left p q h [] = refl
kept_and_left {X} p q h (x ∷ xs) =
    ap (λ n. length (filter p (x ∷ xs)) + n) (sum_by-cons (λ y. cond (q y) 1 0) x xs ∙ ap (λ b. cond b 1 0 + count_by q xs) (h x))
    ∙ by (p x) (kept_and_left p q h xs)
  where
    by : (b : Bool) → length (filter p xs) + count_by q xs ≡ length xs → length (cond b (x ∷ filter p xs) (filter p xs)) + (cond (not b) 1 0 + count_by q xs) ≡ length (x ∷ xs)
    by true e = omega (arith, e)
    by false e = omega (arith, e)

-- the batch rows are those that a mail turn hands over and those with a bar
pub mailed-barred : (j : List Stamped) (u : UserId) → length (mailed j u) + count_by (λ n. is_some (cause_of_bar j n)) (batch_rows j u) ≡ length (batch_rows j u)
mailed-barred j u =
    kept_and_left (λ n. is_none (bar j n)) (λ n. is_some (cause_of_bar j n)) (λ n. cause_of_bar-is j n ∙ some_not_none (bar j n)) (batch_rows j u)
  where
    some_not_none : {X : Type 0} (o : Option X) → is_some o ≡ not (is_none o)
    some_not_none None = refl
    some_not_none (Some x) = refl

-- all batch rows where the mail switch is off, and those with a bar where it is on
pub dropped-switched : (j : List Stamped) (u : UserId) → dropped j u ≡ (if switch_on j u Mail then count_by (λ n. is_some (cause_of_bar j n)) (batch_rows j u) else length (batch_rows j u))
dropped-switched j u = by (switch_on j u Mail)
  where
    rest : (rows made barred : ℕ) → made + barred ≡ rows → rows - made ≡ barred
    rest rows made barred e = omega (arith, e)

    all : (rows : ℕ) → rows - 0 ≡ rows
    all rows = omega arith

    by : (on : Bool) → length (batch_rows j u) - length (if on then map (ready_item j) (mailed j u) else []) ≡ (if on then count_by (λ n. is_some (cause_of_bar j n)) (batch_rows j u) else length (batch_rows j u))
    by true =
        rest (length (batch_rows j u)) (length (map (ready_item j) (mailed j u))) (count_by (λ n. is_some (cause_of_bar j n)) (batch_rows j u))
        (ap (λ n. n + count_by (λ n. is_some (cause_of_bar j n)) (batch_rows j u)) (length-map (mailed j u) (ready_item j)) ∙ mailed-barred j u)
    by false = all (length (batch_rows j u))

-- each batch row is an item or is dropped
pub mail_items-dropped : (j : List Stamped) (u : UserId) → length (mail_items j u) + dropped j u ≡ length (batch_rows j u)
mail_items-dropped j u = by (switch_on j u Mail)
  where
    whole : (rows made barred : ℕ) → made + barred ≡ rows → made + (rows - made) ≡ rows
    whole rows made barred e = omega (arith, e)

    none : (rows : ℕ) → 0 + (rows - 0) ≡ rows
    none rows = omega arith

    by : (on : Bool) → length (if on then map (ready_item j) (mailed j u) else []) + (length (batch_rows j u) - length (if on then map (ready_item j) (mailed j u) else [])) ≡ length (batch_rows j u)
    by true =
        whole (length (batch_rows j u)) (length (map (ready_item j) (mailed j u))) (count_by (λ n. is_some (cause_of_bar j n)) (batch_rows j u))
        (ap (λ n. n + count_by (λ n. is_some (cause_of_bar j n)) (batch_rows j u)) (length-map (mailed j u) (ready_item j)) ∙ mailed-barred j u)
    by false = none (length (batch_rows j u))
