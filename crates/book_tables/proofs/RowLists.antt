-- Rows that are made of a list, one by one.
use Rattle.std.proofs.Common.{◌≡◌, ℕ, zero, suc, ◌+◌, ◌<◌, List, [], ◌∷◌, ◌++◌, length, map, take, get_or, refl, sym, ap, ◌∙◌, add-zero, append_assoc, arith}
use Rattle.std.specs.Prelude.{Some, slice_get}
use Rattle.std.specs.Option.{option_map_or}
use Rattle.chat_model.specs.declared.event.Stamped.{Stamped}
use Rattle.chat_model.specs.declared.ids.UserId.{UserId}
use Rattle.chat_model.specs.declared.mentions.UserName.{UserName}
use Rattle.chat_model.specs.declared.row.Row.{Row}
use Rattle.chat_model.specs.declared.row.Row.TheVariants as row
use Rattle.chat_model.specs.declared.row.RowChange.{RowChange}
use Rattle.chat_model.specs.declared.row.RowChange.TheVariants.{Put}
use Rattle.chat_model.specs.Rows.{changed_all}
use Rattle.notice_ledger.specs.Past.Values.{numbered, Person, people, named_from, SentMessage, messages, is_bot, settings}
use Rattle.notice_ledger.specs.Past.Outbox.{outbox}
use Rattle.notice_ledger.specs.Past.Rows.{user_rows_from, message_rows_from, outbox_rows_from, rows}
use Rattle.book_tables.specs.declared.tables.Tables.{Tables}
use Rattle.book_tables.specs.Tables.{Holds}
use Rattle.book_tables.specs.declared.tables.Waiting.{Waiting}
use Rattle.book_tables.specs.Prepared.{notice_row, active_row}
use Rattle.std.proofs.Common.{not, false}
use Rattle.std.specs.Prelude.{Option, None, is_some, is_none, filter}
use Rattle.chat_model.specs.declared.row.Cause.{Cause}
use Rattle.notice_ledger.specs.Past.Owed.{Notice, notices, cause_of_bar}
use Rattle.notice_ledger.specs.Past.Pushes.{is_active}
use Rattle.notice_ledger.specs.Past.Values.{is_deleted}
use Rattle.notice_ledger.proofs.Queued.{kept, kept-each, waiting-kept}
use Rattle.book_tables.specs.Notices.{is_barred}
use Rattle.book_tables.specs.Prepared.{puts_where}
use Rattle.book_tables.specs.Pushes.{push_of}
use Rattle.book_tables.specs.Tables.{notice_kept}
use Rattle.book_tables.proofs.ActivePushes.{key_of_push, active_keys, active-has}
use Rattle.book_tables.proofs.Kept.{all_kept, filter-kept, holds-kept}
use Rattle.book_tables.proofs.RowsAfter.{all_pending, rows-made}

-- the rows of a list, the first with this number
abbrev pub rows_by : {A : Type 0} → (ℕ → A → Row) → ℕ → List A → List Row
rows_by f n [] = []
rows_by f n (x ∷ xs) = f n x ∷ rows_by f (n + 1) xs

pub rows_by-long : {A : Type 0} (f : ℕ → A → Row) (n : ℕ) (xs : List A) → length (rows_by f n xs) ≡ length xs
rows_by-long f n [] = refl
rows_by-long f n (x ∷ xs) = ap suc (rows_by-long f (n + 1) xs)

-- the rows up to the next one
pub rows_by-next : {A : Type 0} (f : ℕ → A → Row) (n : ℕ) (xs : List A) (i : ℕ) (x : A) → slice_get xs i ≡ Some x → take (i + 1) (rows_by f n xs) ≡ take i (rows_by f n xs) ++ f (n + i) x ∷ []
rows_by-next f n [] i x e = absurd (cc)
rows_by-next f n (y ∷ ys) zero x e =
    let same : y ≡ x = cc in
    ap (λ z. f n z ∷ []) same ∙ ap (λ k. f k x ∷ []) (sym (add-zero n))
rows_by-next f n (y ∷ ys) (suc i) x e =
    let step : suc i + 1 ≡ suc (i + 1) = omega arith in
    let on : (n + 1) + i ≡ n + suc i = omega arith in
    ap (λ k. take k (rows_by f n (y ∷ ys))) step
    ∙ (ap (λ rs. f n y ∷ rs) (rows_by-next f (n + 1) ys i x e) ∙ ap (λ k. f n y ∷ (take i (rows_by f (n + 1) ys) ++ f k x ∷ [])) on)

-- ---- users

abbrev pub user_row : List Stamped → ℕ → Person → Row
user_row past n p = row.User (record { 0 = n }) p.name p.bot (settings past (record { 0 = n }))

pub user_rows-by : (past : List Stamped) (n : ℕ) (ps : List Person) → user_rows_from past n ps ≡ rows_by (user_row past) n ps
user_rows-by past n [] = refl
user_rows-by past n (p ∷ ps) = ap (λ rs. user_row past n p ∷ rs) (user_rows-by past (n + 1) ps)

-- the user at a place
pub record IsNamed (n i : ℕ) (ps : List Person) (x : UserName) : Type 0 where
  pub person : Person
  pub id : x.id.0 ≡ n + i
  pub name : x.name ≡ person.name
  pub at : slice_get ps i ≡ Some person

pub named_at : (n : ℕ) (ps : List Person) (i : ℕ) (x : UserName) → i < length ps → x ≡ get_or (named_from n ps) i x → IsNamed n i ps x
named_at n [] i x lt e = absurd (omega arith)
named_at n (p ∷ ps) zero x lt e = record { person = p; id = ap (λ (u : UserName). u.id.0) e ∙ sym (add-zero n); name = ap (λ (u : UserName). u.name) e; at = refl }
named_at n (p ∷ ps) (suc i) x lt e =
    let rest = named_at (n + 1) ps i x (omega arith) e in
    record { person = rest.person; id = omega (arith, rest.id); name = rest.name; at = rest.at }

-- whether it is a bot
pub bot_at : (past : List Stamped) (i : ℕ) (u : UserId) (p : Person) → u.0 ≡ 1 + i → slice_get (people past) i ≡ Some p → is_bot past u ≡ p.bot
bot_at past i u p id at =
    let next : u.0 ≡ suc i = omega arith in
    ap (λ n. option_map_or (λ (q : Person). q.bot) (numbered n (people past)) false) next ∙ ap (λ o. option_map_or (λ (q : Person). q.bot) o false) at

-- ---- messages

abbrev pub message_row : List Stamped → ℕ → SentMessage → Row
message_row past n m = row.Message (record { 0 = n }) m.sender m.text (is_deleted past (record { 0 = n }))

pub message_rows-by : (past : List Stamped) (n : ℕ) (ms : List SentMessage) → message_rows_from past n ms ≡ rows_by (message_row past) n ms
message_rows-by past n [] = refl
message_rows-by past n (m ∷ ms) = ap (λ rs. message_row past n m ∷ rs) (message_rows-by past (n + 1) ms)

-- ---- all rows

-- the puts of the notices that wait: those that nothing bars
notices_put : (ws : List Waiting) → map (λ w. Put (notice_row w)) ws ≡ map Put (map notice_row ws)
notices_put [] = refl
notices_put (w ∷ ws) = ap (λ cs. Put (notice_row w) ∷ cs) (notices_put ws)

unbarred-kept : (past : List Stamped) → filter (λ w. not (is_barred w)) (all_kept past) ≡ all_pending past
unbarred-kept past =
    filter-kept (λ w. not (is_barred w)) (λ n. is_none (cause_of_bar past n)) past (λ n h. unbarred (cause_of_bar past n)) (kept past) (kept-each past) ∙ ap (map (notice_kept past)) (sym (waiting-kept past))
  where
    unbarred : (o : Option Cause) → not (is_some o) ≡ is_none o
    unbarred None = refl
    unbarred (Some c) = refl

-- and those of the active pushes
active_put : (j : List Stamped) (ns : List Notice) → map (λ w. Put (active_row (push_of w))) (map (notice_kept j) ns) ≡ map Put (map active_row (map key_of_push ns))
active_put j [] = refl
active_put j (n ∷ ns) = ap (λ cs. Put (active_row (key_of_push n)) ∷ cs) (active_put j ns)

joined : (us ms ps qs os : List RowChange) → (((us ++ ms) ++ ps) ++ qs) ++ os ≡ us ++ (ms ++ (ps ++ (qs ++ os)))
joined us ms ps qs os = simp append_assoc

-- the puts of everything that has a row, table by table, make the rows
pub rows_put : (t : Tables) (past : List Stamped) → Holds t past → (users all waits active entries : List RowChange) → users ≡ map Put (user_rows_from past 1 (people past)) → all ≡ users ++ map Put (message_rows_from past 1 (messages past))
    → waits ≡ all ++ puts_where (λ w. not (is_barred w)) (λ w. w) t.waiting.items → active ≡ waits ++ map (λ w. Put (active_row (push_of w))) t.active.items → entries ≡ active ++ map Put (outbox_rows_from 1 t.outbox.items) → changed_all entries [] ≡ rows past
rows_put t past h users all waits active entries are_users are_messages are_waits are_active are_entries =
    let us = map Put (user_rows_from past 1 (people past)) in let ms = map Put (message_rows_from past 1 (messages past)) in let ps = map Put (map notice_row (all_pending past)) in
    let qs = map Put (map active_row (active_keys past)) in let os = map Put (outbox_rows_from 1 (outbox past)) in
    let put_messages : all ≡ us ++ ms = are_messages ∙ ap (λ (cs : List RowChange). cs ++ ms) are_users in
    let put_waits : waits ≡ (us ++ ms) ++ ps =
    are_waits
    ∙ (ap (λ (cs : List RowChange). cs ++ puts_where (λ w. not (is_barred w)) (λ w. w) t.waiting.items) put_messages
    ∙ ap (λ (cs : List RowChange). (us ++ ms) ++ cs) (ap (map (λ w. Put (notice_row w))) (ap (filter (λ w. not (is_barred w))) (holds-kept t past h) ∙ unbarred-kept past) ∙ notices_put (all_pending past))) in
    let put_active : active ≡ ((us ++ ms) ++ ps) ++ qs =
    are_active ∙ (λ i. put_waits i ++ (ap (map (λ w. Put (active_row (push_of w)))) h.active ∙ active_put past (filter (is_active past) (notices past))) i) in
    let put_entries : entries ≡ (((us ++ ms) ++ ps) ++ qs) ++ os =
    are_entries
    ∙ (λ i. put_active i ++ map Put (outbox_rows_from 1 (h.outbox i))) in
    ap (λ (cs : List RowChange). changed_all cs []) (put_entries ∙ joined us ms ps qs os)
    ∙ rows-made past (active_keys past) (λ u m. active-has u m past)
