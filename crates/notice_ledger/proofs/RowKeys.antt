-- No key stands twice among what has a row.
use Rattle.std.proofs.Common.{◌≡◌, ◌≢◌, ℕ, ◌+◌, ◌<◌, Bool, true, false, ◌&&◌, ◌==◌, not, List, [], ◌∷◌, ◌++◌, refl, sym, ap, ◌∙◌, arith}
use Rattle.std.specs.Prelude.{Option, Some, None, option_map, is_some, if◌then◌else◌}
use Rattle.std.specs.declared.cmp.Ordering.{Ordering}
use Rattle.std.specs.declared.cmp.Ordering.TheVariants.{Less, Equal, Greater}
use Rattle.std.specs.Ordering.{is_eq}
use Rattle.std.specs.List.{AllByRecursion, filter_map, cons_option}
use Rattle.std.proofs.lemmas.Bool.{eq-eqb}
use Rattle.chat_model.specs.declared.event.Stamped.{Stamped}
use Rattle.chat_model.specs.declared.entry.Entry.{Entry}
use Rattle.chat_model.specs.declared.trigger.Way.{Way}
use Rattle.chat_model.specs.declared.trigger.Way.TheVariants.{Mail, Push}
use Rattle.chat_model.specs.declared.row.Row.{Row}
use Rattle.chat_model.specs.declared.row.Row.TheVariants as row
use Rattle.chat_model.specs.declared.row.RowKey.{RowKey}
use Rattle.chat_model.specs.declared.row.RowKey.TheVariants as key
use Rattle.chat_model.specs.declared.row.Stage.{Stage}
use Rattle.chat_model.specs.Rows.{key_cmp, key_of}
use Rattle.chat_model.proofs.Keys.{same_key, users_ascend, messages_ascend, outbox_ascends}
use Rattle.notice_ledger.specs.Past.Values.{Person, people, SentMessage, messages}
use Rattle.notice_ledger.specs.Past.Owed.{Notice, notices, account_of, same_way}
use Rattle.notice_ledger.specs.Past.Pushes.{handed_at, is_removal_written}
use Rattle.notice_ledger.specs.Past.Outbox.{outbox}
use Rattle.notice_ledger.specs.Past.Rows.{user_rows_from, message_rows_from, outbox_rows_from, stage_of, pending_row, active_row, listed_rows}
use Rattle.notice_ledger.proofs.Lists.{AllByRecursion-append, AllByRecursion-weaker, AllByRecursion-filter_map}
use Rattle.notice_ledger.proofs.Apart.{Pairwise, Pairwise-append, Differ, notices-apart}
use Rattle.notice_ledger.proofs.Revoked.{handed_at-push}
use Rattle.notice_ledger.proofs.Same.{same_ways}

-- ---- keys

-- the table of a key
abbrev pub table : RowKey → ℕ
table (key.User user) = 0
table (key.Message message) = 1
table (key.Pending user message way) = 2
table (key.Active user message) = 3
table (key.Outbox number) = 4

pub equal_from : (o : Ordering) → is_eq o ≡ true → o ≡ Equal
equal_from Less h = absurd (cc)
equal_from Equal h = refl
equal_from Greater h = absurd (cc)

-- keys of two tables differ
pub other_key : (a k : RowKey) → table a ≢ table k → is_eq (key_cmp a k) ≡ false
other_key a k other =
    elim (is_eq (key_cmp a k)) as (λ b. is_eq (key_cmp a k) ≡ b → b ≡ false) [
      | true ↦ λ e. absurd (other (ap table (same_key a k (equal_from (key_cmp a k) e))))
      | false ↦ λ e. refl
    ] refl

-- two rows have different keys
abbrev pub Apart : Row → Row → Type 0
Apart a b = is_eq (key_cmp (key_of a) (key_of b)) ≡ false

-- ---- lists

AllByRecursion-filter_map_where : {X Y : Type 0} (P : X → Type 0) (Q : Y → Type 0) (h : X → Option Y) → ((x : X) (y : Y) → P x → h x ≡ Some y → Q y) → (xs : List X) → AllByRecursion P xs → AllByRecursion Q (filter_map h xs)
AllByRecursion-filter_map_where P Q h f [] all = tt
AllByRecursion-filter_map_where {X} {Y} P Q h f (x ∷ xs) all = given (h x) refl (AllByRecursion-filter_map_where P Q h f xs all.1)
  where
    given : (o : Option Y) → h x ≡ o → AllByRecursion Q (filter_map h xs) → AllByRecursion Q (cons_option o (filter_map h xs))
    given None e rest = rest
    given (Some y) e rest = (f x y all.0 e, rest)

-- what is given by elements that stand in R stands in S
Pairwise-filter_map : {X Y : Type 0} (R : X → X → Type 0) (S : Y → Y → Type 0) (h : X → Option Y) → ((x y : X) (a b : Y) → R x y → h x ≡ Some a → h y ≡ Some b → S a b) → (xs : List X) → Pairwise R xs → Pairwise S (filter_map h xs)
Pairwise-filter_map R S h f [] p = tt
Pairwise-filter_map {X} {Y} R S h f (x ∷ xs) p = given (h x) refl (Pairwise-filter_map R S h f xs p.1)
  where
    given : (o : Option Y) → h x ≡ o → Pairwise S (filter_map h xs) → Pairwise S (cons_option o (filter_map h xs))
    given None e rest = rest
    given (Some a) e rest = (AllByRecursion-filter_map_where (R x) (S a) h (λ y b r hy. f x y a b r e hy) xs p.0, rest)

-- ---- each table's rows

later_users : (j : List Stamped) (low n : ℕ) → low < n → (ps : List Person) → AllByRecursion (λ r. is_eq (key_cmp (key.User (record { 0 = low })) (key_of r)) ≡ false) (user_rows_from j n ps)
later_users j low n h [] = tt
later_users j low n h (p ∷ ps) = (ap is_eq (users_ascend (record { 0 = low }) (record { 0 = n }) h), later_users j low (n + 1) (omega arith) ps)

users_apart : (j : List Stamped) (n : ℕ) (ps : List Person) → Pairwise Apart (user_rows_from j n ps)
users_apart j n [] = tt
users_apart j n (p ∷ ps) = (later_users j n (n + 1) (omega arith) ps, users_apart j (n + 1) ps)

later_messages : (j : List Stamped) (low n : ℕ) → low < n → (ms : List SentMessage) → AllByRecursion (λ r. is_eq (key_cmp (key.Message (record { 0 = low })) (key_of r)) ≡ false) (message_rows_from j n ms)
later_messages j low n h [] = tt
later_messages j low n h (m ∷ ms) = (ap is_eq (messages_ascend (record { 0 = low }) (record { 0 = n }) h), later_messages j low (n + 1) (omega arith) ms)

pub messages_apart : (j : List Stamped) (n : ℕ) (ms : List SentMessage) → Pairwise Apart (message_rows_from j n ms)
messages_apart j n [] = tt
messages_apart j n (m ∷ ms) = (later_messages j n (n + 1) (omega arith) ms, messages_apart j (n + 1) ms)

later_entries : (low n : ℕ) → low < n → (es : List Entry) → AllByRecursion (λ r. is_eq (key_cmp (key.Outbox (record { 0 = low })) (key_of r)) ≡ false) (outbox_rows_from n es)
later_entries low n h [] = tt
later_entries low n h (e ∷ es) = (ap is_eq (outbox_ascends (record { 0 = low }) (record { 0 = n }) h), later_entries low (n + 1) (omega arith) es)

outbox_apart : (n : ℕ) (es : List Entry) → Pairwise Apart (outbox_rows_from n es)
outbox_apart n [] = tt
outbox_apart n (e ∷ es) = (later_entries n (n + 1) (omega arith) es, outbox_apart (n + 1) es)

-- the key of a notice's row
abbrev pub notice_key : Notice → RowKey
notice_key n = key.Pending n.user n.number n.way

-- the key is that of the notice
abbrev is_key_of : Notice → RowKey → Bool
is_key_of n (key.Pending u m w) = u.0 == n.user.0 && m.0 == n.number.0 && same_way w n.way
is_key_of n _ = false

same_way-itself : (w : Way) → same_way w w ≡ true
same_way-itself Mail = refl
same_way-itself Push = refl

is_key_of-itself : (n : Notice) → is_key_of n (notice_key n) ≡ true
is_key_of-itself n =
    ap (λ b. b && n.number.0 == n.number.0 && same_way n.way n.way) (eq-eqb n.user.0 n.user.0 refl)
    ∙ (ap (λ b. b && same_way n.way n.way) (eq-eqb n.number.0 n.number.0 refl) ∙ same_way-itself n.way)

pub keys_differ : (a b : Notice) → Differ a b → is_eq (key_cmp (notice_key a) (notice_key b)) ≡ false
keys_differ a b d =
    elim (is_eq (key_cmp (notice_key a) (notice_key b))) as (λ t. is_eq (key_cmp (notice_key a) (notice_key b)) ≡ t → t ≡ false) [
      | true ↦ λ e. sym (is_key_of-itself a) ∙ (ap (is_key_of a) (same_key (notice_key a) (notice_key b) (equal_from (key_cmp (notice_key a) (notice_key b)) e)) ∙ d)
      | false ↦ λ e. refl
    ] refl

-- a notice's row has the notice's key
pub pending_row-key : (j : List Stamped) (n : Notice) (r : Row) → pending_row j n ≡ Some r → key_of r ≡ notice_key n
pending_row-key j n r e = by (stage_of (account_of j n)) e
  where
    by : (o : Option Stage) → option_map (λ s. row.Pending n.user n.number n.way n.trigger n.deal s) o ≡ Some r → key_of r ≡ notice_key n
    by None h = absurd (cc)
    by (Some s) h = let same : r ≡ row.Pending n.user n.number n.way n.trigger n.deal s = cc in ap key_of same

pub pending_apart : (j : List Stamped) → Pairwise Apart (filter_map (pending_row j) (notices j))
pending_apart j = Pairwise-filter_map Differ Apart (pending_row j) (λ x y a b d ex ey.
    ap (λ k. is_eq (key_cmp k (key_of b))) (pending_row-key j x a ex) ∙ (ap (λ k. is_eq (key_cmp (notice_key x) k)) (pending_row-key j y b ey) ∙ keys_differ x y d)) (notices j) (notices-apart j)

-- ---- active pushes

abbrev push_key : Notice → RowKey
push_key n = key.Active n.user n.number

-- the key is that of the notice's push
abbrev is_push_key_of : Notice → RowKey → Bool
is_push_key_of n (key.Active u m) = u.0 == n.user.0 && m.0 == n.number.0 && true
is_push_key_of n _ = false

is_push_key_of-itself : (n : Notice) → is_push_key_of n (push_key n) ≡ true
is_push_key_of-itself n =
    ap (λ b. b && n.number.0 == n.number.0 && true) (eq-eqb n.user.0 n.user.0 refl) ∙ ap (λ b. b && true) (eq-eqb n.number.0 n.number.0 refl)

push_keys_differ : (a b : Notice) → same_way a.way Push ≡ true → same_way b.way Push ≡ true → Differ a b → is_eq (key_cmp (push_key a) (push_key b)) ≡ false
push_keys_differ a b push_a push_b d =
    elim (is_eq (key_cmp (push_key a) (push_key b))) as (λ t. is_eq (key_cmp (push_key a) (push_key b)) ≡ t → t ≡ false) [
      | true ↦ λ e. sym (is_push_key_of-itself a) ∙ (ap (is_push_key_of a) (same_key (push_key a) (push_key b) (equal_from (key_cmp (push_key a) (push_key b)) e)) ∙ apart)
      | false ↦ λ e. refl
    ] refl
  where
    both : same_way b.way a.way ≡ true
    both = ap (same_way b.way) (same_ways a.way Push push_a) ∙ push_b

    apart : (b.user.0 == a.user.0 && b.number.0 == a.number.0 && true) ≡ false
    apart = ap (λ t. b.user.0 == a.user.0 && b.number.0 == a.number.0 && t) (sym both) ∙ d

-- an active push's row has the push's key, and the notice is a push
record IsActiveRow (n : Notice) (r : Row) : Type 0 where
  push : same_way n.way Push ≡ true
  row : r ≡ row.Active n.user n.number

active_row-is : (j : List Stamped) (n : Notice) (r : Row) → active_row j n ≡ Some r → IsActiveRow n r
active_row-is j n r e = by (is_some (handed_at j n)) (is_removal_written j n) refl e
  where
    by : (handed written : Bool) → is_some (handed_at j n) ≡ handed → (if handed && not written then Some (row.Active n.user n.number) else None) ≡ Some r → IsActiveRow n r
    by true false p h = record { push = handed_at-push j n p; row = cc }
    by true true p h = absurd (cc)
    by false written p h = absurd (cc)

pub active_apart : (j : List Stamped) → Pairwise Apart (filter_map (active_row j) (notices j))
active_apart j = Pairwise-filter_map Differ Apart (active_row j) (λ x y a b d ex ey.
    let at_x = active_row-is j x a ex in
    let at_y = active_row-is j y b ey in
    (λ i. is_eq (key_cmp (key_of (at_x.row i)) (key_of (at_y.row i)))) ∙ push_keys_differ x y at_x.push at_y.push d) (notices j) (notices-apart j)

-- ---- the five tables

-- rows of one table
abbrev pub AreInTable : ℕ → List Row → Type 0
AreInTable t rows = AllByRecursion (λ r. table (key_of r) ≡ t) rows

pub users_table : (j : List Stamped) (n : ℕ) (ps : List Person) → AreInTable 0 (user_rows_from j n ps)
users_table j n [] = tt
users_table j n (p ∷ ps) = (refl, users_table j (n + 1) ps)

pub messages_table : (j : List Stamped) (n : ℕ) (ms : List SentMessage) → AreInTable 1 (message_rows_from j n ms)
messages_table j n [] = tt
messages_table j n (m ∷ ms) = (refl, messages_table j (n + 1) ms)

pub pending_table : (j : List Stamped) (ns : List Notice) → AreInTable 2 (filter_map (pending_row j) ns)
pending_table j ns = AllByRecursion-filter_map (λ r. table (key_of r) ≡ 2) (pending_row j) (λ n r e. ap table (pending_row-key j n r e)) ns

pub active_table : (j : List Stamped) (ns : List Notice) → AreInTable 3 (filter_map (active_row j) ns)
active_table j ns = AllByRecursion-filter_map (λ r. table (key_of r) ≡ 3) (active_row j) (λ n r e. ap (λ x. table (key_of x)) (active_row-is j n r e).row) ns

pub outbox_table : (n : ℕ) (es : List Entry) → AreInTable 4 (outbox_rows_from n es)
outbox_table n [] = tt
outbox_table n (e ∷ es) = (refl, outbox_table (n + 1) es)

-- rows of a table, and rows of later tables
across : (t : ℕ) (xs ys : List Row) → AreInTable t xs → AllByRecursion (λ r. t < table (key_of r)) ys → AllByRecursion (λ x. AllByRecursion (Apart x) ys) xs
across t xs ys low high =
    AllByRecursion-weaker (λ x. table (key_of x) ≡ t) (λ x. AllByRecursion (Apart x) ys) (λ x e.
    AllByRecursion-weaker (λ y. t < table (key_of y)) (Apart x) (λ y lt. other_key (key_of x) (key_of y) (λ same. omega arith)) ys high) xs low

later_table : (s t : ℕ) (rs : List Row) → s < t → AreInTable t rs → AllByRecursion (λ r. s < table (key_of r)) rs
later_table s t rs h = AllByRecursion-weaker (λ r. table (key_of r) ≡ t) (λ r. s < table (key_of r)) (λ r e. omega arith) rs

-- rows behind a table
later_tables : (t : ℕ) (xs ys : List Row) → AllByRecursion (λ r. t < table (key_of r)) xs → AllByRecursion (λ r. t < table (key_of r)) ys → AllByRecursion (λ r. t < table (key_of r)) (xs ++ ys)
later_tables t xs ys = AllByRecursion-append (λ r. t < table (key_of r)) xs ys

-- no two of what has a row have one key
pub listed_rows-apart : (j : List Stamped) → Pairwise Apart (listed_rows j)
listed_rows-apart j =
    let us = user_rows_from j 1 (people j) in let ms = message_rows_from j 1 (messages j) in let ps = filter_map (pending_row j) (notices j) in let actives = filter_map (active_row j) (notices j) in let os = outbox_rows_from 1 (outbox j) in
    let of_users = users_table j 1 (people j) in
    let of_messages = messages_table j 1 (messages j) in
    let of_pending = pending_table j (notices j) in
    let of_active = active_table j (notices j) in
    let of_outbox = outbox_table 1 (outbox j) in
    let behind = λ (t : ℕ) (h : t < 3). later_tables t actives os (later_table t 3 actives h of_active) (later_table t 4 os (omega arith) of_outbox) in
    Pairwise-append Apart us (ms ++ (ps ++ (actives ++ os))) (users_apart j 1 (people j))
    (Pairwise-append Apart ms (ps ++ (actives ++ os)) (messages_apart j 1 (messages j))
    (Pairwise-append Apart ps (actives ++ os) (pending_apart j)
    (Pairwise-append Apart actives os (active_apart j) (outbox_apart 1 (outbox j)) (across 3 actives os of_active (later_table 3 4 os (omega arith) of_outbox)))
    (across 2 ps (actives ++ os) of_pending (behind 2 (omega arith))))
    (across 1 ms (ps ++ (actives ++ os)) of_messages (later_tables 1 ps (actives ++ os) (later_table 1 2 ps (omega arith) of_pending) (behind 1 (omega arith)))))
    (across 0 us (ms ++ (ps ++ (actives ++ os))) of_users (later_tables 0 ms (ps ++ (actives ++ os)) (later_table 0 1 ms (omega arith) of_messages)
    (later_tables 0 ps (actives ++ os) (later_table 0 2 ps (omega arith) of_pending) (behind 0 (omega arith)))))
