-- The batches keep up with the notices that become ready, one after another.
use Rattle.std.proofs.Common.{◌≡◌, ℕ, suc, ◌+◌, ◌<◌, ◌≤◌, Bool, true, false, ◌&&◌, ◌||◌, ◌==◌, not, cond, List, [], ◌∷◌, ◌++◌, length, map, take, drop, get_or, set, Option, Some, None, unwrap_or, refl, sym, ap, ◌∙◌, subst, arith, length-append}
use Rattle.std.specs.Prelude.{filter, nat_lt, IsPermutation, if◌then◌else◌}
use Rattle.std.specs.Option.{option_or}
use Rattle.std.proofs.lemmas.Bool.{eqb-true}
use Rattle.std.proofs.lemmas.Bool.Decides.{nat_tests}
use Rattle.std.proofs.lemmas.List.{map-append, set_split, set-get_or}
use Rattle.std.proofs.lemmas.List.Elements.{filter-append}
use Rattle.std.proofs.lemmas.List.Sorted.{IsPermutation-refl, IsPermutation-sym, IsPermutation-cons, IsPermutation-trans, IsPermutation-middle, IsPermutation-to_front}
use Rattle.chat_model.specs.declared.ids.MessageId.{MessageId}
use Rattle.chat_model.specs.declared.ids.UserId.{UserId}
use Rattle.chat_model.specs.declared.trigger.Way.{Way}
use Rattle.chat_model.specs.declared.trigger.Way.TheVariants.{Mail, Push}
use Rattle.chat_model.specs.declared.row.Stage.{Stage}
use Rattle.chat_model.specs.declared.row.Stage.TheVariants.{Flight, Held, Ready}
use Rattle.notice_ledger.specs.Limits.{longest_period}
use Rattle.mail_batches.specs.Batches.{Waiting as Batches, due_of, rows_of, with_row}
use Rattle.book_tables.specs.declared.tables.Tables.{Tables}
use Rattle.book_tables.specs.declared.tables.Waiting.{Waiting}
use Rattle.book_tables.specs.Notices.{rank, is_ready_stage, is_ready, is_ready_mail_to, is_undecided_mail, dealt_by, moved}
use Rattle.book_tables.specs.Batched.{messages_to, HasRows, period_in, KeepsBatches, WithNotices, due_grown, AreReadied}
use Rattle.book_tables.proofs.BatchLooks.{due-with_row, rows-with_row}

-- ---- the messages of a user's mails that are ready

messages-append : (u : UserId) (xs ys : List Waiting) → messages_to u (xs ++ ys) ≡ messages_to u xs ++ messages_to u ys
messages-append u xs ys = ap (map (λ (w : Waiting). w.message)) (filter-append (is_ready_mail_to u) xs ys) ∙ map-append (λ (w : Waiting). w.message) (filter (is_ready_mail_to u) xs) (filter (is_ready_mail_to u) ys)

messages-at : (u : UserId) (xs : List Waiting) (w : Waiting) (ys : List Waiting) → messages_to u (xs ++ w ∷ ys) ≡ messages_to u xs ++ cond (is_ready_mail_to u w) (w.message ∷ messages_to u ys) (messages_to u ys)
messages-at u xs w ys = messages-append u xs (w ∷ ys) ∙ ap (λ ms. messages_to u xs ++ ms) (by (is_ready_mail_to u w))
  where
    by : (b : Bool) → map (λ (w : Waiting). w.message) (cond b (w ∷ filter (is_ready_mail_to u) ys) (filter (is_ready_mail_to u) ys)) ≡ cond b (w.message ∷ messages_to u ys) (messages_to u ys)
    by true = refl
    by false = refl

-- ---- one notice that moves on

ready-moved : (r : Bool) (g : Stage) → is_ready_stage (dealt_by r g) ≡ (r || is_ready_stage g)
ready-moved true g = refl
ready-moved false Flight = refl
ready-moved false Held = refl
ready-moved false Ready = refl

-- where it isn't a mail that becomes ready, it is a ready mail where it was
still : (a b r c : Bool) → (r && (b && not c)) ≡ false → ((a && b) && (r || c)) ≡ ((a && b) && c)
still a b false c h = refl
still a true true true h = refl
still a true true false h = absurd (cc)
still true false true c h = refl
still false false true c h = refl

-- and else it wasn't one, and now is one to its user
record Joins (a b r c : Bool) : Type 0 where
  before : ((a && b) && c) ≡ false
  after : ((a && b) && (r || c)) ≡ a

joins : (a b r c : Bool) → (r && (b && not c)) ≡ true → Joins a b r c
joins a b false c h = absurd (cc)
joins a false true c h = absurd (cc)
joins a true true true h = absurd (cc)
joins true true true false h = record { before = refl; after = refl }
joins false true true false h = record { before = refl; after = refl }

module _ (ws : List Waiting) (i : ℕ) (w : Waiting) (lt : i < length ws) (is : w ≡ get_or ws i w) (r : Bool) where
  split_old : take i ws ++ w ∷ drop (suc i) ws ≡ ws
  split_old = sym (set_split ws i w lt) ∙ (ap (set ws i) is ∙ set-get_or ws i w)

  split_new : set ws i (moved r w) ≡ take i ws ++ moved r w ∷ drop (suc i) ws
  split_new = set_split ws i (moved r w) lt

  at_old : (u : UserId) → messages_to u ws ≡ messages_to u (take i ws) ++ cond (is_ready_mail_to u w) (w.message ∷ messages_to u (drop (suc i) ws)) (messages_to u (drop (suc i) ws))
  at_old u = ap (messages_to u) (sym split_old) ∙ messages-at u (take i ws) w (drop (suc i) ws)

  at_new : (u : UserId) → messages_to u (set ws i (moved r w)) ≡ messages_to u (take i ws) ++ cond ((w.user.0 == u.0 && rank w.way == 0) && (r || is_ready w)) (w.message ∷ messages_to u (drop (suc i) ws)) (messages_to u (drop (suc i) ws))
  at_new u =
      ap (messages_to u) split_new
      ∙ (messages-at u (take i ws) (moved r w) (drop (suc i) ws)
      ∙ ap (λ b. messages_to u (take i ws) ++ cond ((w.user.0 == u.0 && rank w.way == 0) && b) (w.message ∷ messages_to u (drop (suc i) ws)) (messages_to u (drop (suc i) ws))) (ready-moved r w.stage))

  messages-still : (r && is_undecided_mail w) ≡ false → (u : UserId) → messages_to u (set ws i (moved r w)) ≡ messages_to u ws
  messages-still none u =
      at_new u
      ∙ (ap (λ b. messages_to u (take i ws) ++ cond b (w.message ∷ messages_to u (drop (suc i) ws)) (messages_to u (drop (suc i) ws))) (still (w.user.0 == u.0) (rank w.way == 0) r (is_ready w) none)
      ∙ sym (at_old u))

  messages-joined : (r && is_undecided_mail w) ≡ true → (u : UserId) → IsPermutation (cond (w.user.0 == u.0) (w.message ∷ messages_to u ws) (messages_to u ws)) (messages_to u (set ws i (moved r w)))
  messages-joined one u =
      let both = joins (w.user.0 == u.0) (rank w.way == 0) r (is_ready w) one in
      let front = messages_to u (take i ws) in let back = messages_to u (drop (suc i) ws) in
      let before : messages_to u ws ≡ front ++ back = at_old u ∙ ap (λ b. front ++ cond b (w.message ∷ back) back) both.before in
      let after : messages_to u (set ws i (moved r w)) ≡ front ++ cond (w.user.0 == u.0) (w.message ∷ back) back = at_new u ∙ ap (λ b. front ++ cond b (w.message ∷ back) back) both.after in
      subst (λ (ms : List MessageId). IsPermutation (cond (w.user.0 == u.0) (w.message ∷ messages_to u ws) (messages_to u ws)) ms) (sym after)
      (subst (λ (ms : List MessageId). IsPermutation (cond (w.user.0 == u.0) (w.message ∷ ms) ms) (front ++ cond (w.user.0 == u.0) (w.message ∷ back) back)) (sym before) (by front back (w.user.0 == u.0)))
    where
      by : (front back : List MessageId) (b : Bool) → IsPermutation (cond b (w.message ∷ (front ++ back)) (front ++ back)) (front ++ cond b (w.message ∷ back) back)
      by front back true = IsPermutation-sym (front ++ w.message ∷ back) (w.message ∷ (front ++ back)) (IsPermutation-middle front w.message back)
      by front back false = IsPermutation-refl (front ++ back)

-- ---- the batches

same_user : (u v : UserId) → (u.0 == v.0) ≡ true → u ≡ v
same_user u v e = ap (λ n. let w : UserId = record { 0 = n } in w) (eqb-true u.0 v.0 e)

not_less : (n : ℕ) → nat_lt n n ≡ false
not_less n = grind (arith, nat_tests)

less_one : (n : ℕ) → nat_lt n (n + 1) ≡ true
less_one n = grind (arith, nat_tests)

or_none : (o : Option ℕ) → option_or o None ≡ o
or_none None = refl
or_none (Some d) = refl

module _ (p : UserId → ℕ) (at : ℕ) where
  -- nothing became ready
  pub readied-none : (ws : List Waiting) (b : Batches) → HasRows ws b → AreReadied p at ws b b
  readied-none ws b rows = record {
    rows = rows;
    more = λ u. omega arith;
    due = λ u. sym (ap (λ t. due_grown (at + p u) t (due_of b u)) (not_less (length (rows_of b u))) ∙ or_none (due_of b u));
  }

  -- first some, then some more
  pub readied-then : (us ws : List Waiting) (a b c : Batches) → AreReadied p at us a b → AreReadied p at ws b c → AreReadied p at ws a c
  readied-then us ws a b c first second = record {
    rows = second.rows;
    more = λ u. omega (arith, first.more u, second.more u);
    due = λ u.
        second.due u
        ∙ (ap (due_grown (at + p u) (nat_lt (length (rows_of b u)) (length (rows_of c u)))) (first.due u)
        ∙ both (at + p u) (due_of a u) (length (rows_of a u)) (length (rows_of b u)) (length (rows_of c u)) (first.more u) (second.more u));
  }
    where
      grown : (x : ℕ) (s t q : Bool) → (s || t) ≡ q → option_or (if s then Some x else None) (if t then Some x else None) ≡ (if q then Some x else None)
      grown x true t q e = ap (λ (b : Bool). if b then Some x else None) e
      grown x false t q e = ap (λ (b : Bool). if b then Some x else None) e

      either : (l m n : ℕ) → l ≤ m → m ≤ n → (nat_lt l m || nat_lt m n) ≡ nat_lt l n
      either l m n le ge = grind (arith, nat_tests)

      both : (x : ℕ) (o : Option ℕ) (l m n : ℕ) → l ≤ m → m ≤ n → due_grown x (nat_lt m n) (due_grown x (nat_lt l m) o) ≡ due_grown x (nat_lt l n) o
      both x None l m n le ge = grown x (nat_lt l m) (nat_lt m n) (nat_lt l n) (either l m n le ge)
      both x (Some d) l m n le ge = refl

  -- a notice that moves on, and is no mail that becomes ready
  pub readied-still : (ws : List Waiting) (i : ℕ) (w : Waiting) (r : Bool) (b : Batches) → i < length ws → w ≡ get_or ws i w → (r && is_undecided_mail w) ≡ false → HasRows ws b → AreReadied p at (set ws i (moved r w)) b b
  readied-still ws i w r b lt is none rows =
      readied-none (set ws i (moved r w)) b (λ u. subst (λ (ms : List MessageId). IsPermutation ms (rows_of b u)) (sym (messages-still ws i w lt is r none u)) (rows u))

  -- a mail that becomes ready
  pub readied-one : (ws : List Waiting) (i : ℕ) (w : Waiting) (r : Bool) (b : Batches) → i < length ws → w ≡ get_or ws i w → (r && is_undecided_mail w) ≡ true → HasRows ws b
      → AreReadied p at (set ws i (moved r w)) b (with_row b w.user w.message (at + p w.user))
  readied-one ws i w r b lt is one rows =
      let new = with_row b w.user w.message (at + p w.user) in
      record {
        rows = λ u.
            subst (IsPermutation (messages_to u (set ws i (moved r w)))) (sym (rows-with_row b w.user w.message (at + p w.user) u))
            (IsPermutation-trans (messages_to u (set ws i (moved r w))) (cond (w.user.0 == u.0) (w.message ∷ messages_to u ws) (messages_to u ws)) (cond (w.user.0 == u.0) (rows_of b w.user ++ w.message ∷ []) (rows_of b u))
            (IsPermutation-sym (cond (w.user.0 == u.0) (w.message ∷ messages_to u ws) (messages_to u ws)) (messages_to u (set ws i (moved r w))) (messages-joined ws i w lt is r one u))
            (joined u (w.user.0 == u.0) refl));
        more = λ u. subst (λ (ms : List MessageId). length (rows_of b u) ≤ length ms) (sym (rows-with_row b w.user w.message (at + p w.user) u)) (longer u (w.user.0 == u.0) refl);
        due = λ u. due-with_row b w.user w.message (at + p w.user) u ∙ (due u (w.user.0 == u.0) refl ∙ ap (λ (ms : List MessageId). due_grown (at + p u) (nat_lt (length (rows_of b u)) (length ms)) (due_of b u)) (sym (rows-with_row b w.user w.message (at + p w.user) u)));
      }
    where
      joined : (u : UserId) (t : Bool) → (w.user.0 == u.0) ≡ t → IsPermutation (cond t (w.message ∷ messages_to u ws) (messages_to u ws)) (cond t (rows_of b w.user ++ w.message ∷ []) (rows_of b u))
      joined u true e =
          subst (λ (v : UserId). IsPermutation (w.message ∷ messages_to u ws) (rows_of b v ++ w.message ∷ [])) (sym (same_user w.user u e))
          (IsPermutation-trans (w.message ∷ messages_to u ws) (w.message ∷ rows_of b u) (rows_of b u ++ w.message ∷ [])
          (IsPermutation-cons w.message (messages_to u ws) (rows_of b u) (rows u))
          (IsPermutation-sym (rows_of b u ++ w.message ∷ []) (w.message ∷ rows_of b u) (IsPermutation-to_front (rows_of b u) w.message)))
      joined u false e = rows u

      longer : (u : UserId) (t : Bool) → (w.user.0 == u.0) ≡ t → length (rows_of b u) ≤ length (cond t (rows_of b w.user ++ w.message ∷ []) (rows_of b u))
      longer u true e = subst (λ (v : UserId). length (rows_of b u) ≤ length (rows_of b v ++ w.message ∷ [])) (sym (same_user w.user u e)) (omega (arith, length-append (rows_of b u) (w.message ∷ [])))
      longer u false e = omega arith

      first : (x n k : ℕ) (o : Option ℕ) → k ≡ n + 1 → Some (unwrap_or o x) ≡ due_grown x (nat_lt n k) o
      first x n k None e = sym (ap (λ (t : Bool). if t then Some x else None) (ap (nat_lt n) e ∙ less_one n))
      first x n k (Some d) e = refl

      due : (u : UserId) (t : Bool) → (w.user.0 == u.0) ≡ t → cond t (Some (unwrap_or (due_of b w.user) (at + p w.user))) (due_of b u) ≡ due_grown (at + p u) (nat_lt (length (rows_of b u)) (length (cond t (rows_of b w.user ++ w.message ∷ []) (rows_of b u)))) (due_of b u)
      due u true e =
          subst (λ (v : UserId). Some (unwrap_or (due_of b v) (at + p v)) ≡ due_grown (at + p u) (nat_lt (length (rows_of b u)) (length (rows_of b v ++ w.message ∷ []))) (due_of b u)) (sym (same_user w.user u e))
          (first (at + p u) (length (rows_of b u)) (length (rows_of b u ++ w.message ∷ [])) (due_of b u) (length-append (rows_of b u) (w.message ∷ [])))
      due u false e = sym (ap (λ t. due_grown (at + p u) t (due_of b u)) (not_less (length (rows_of b u))) ∙ or_none (due_of b u))

-- lists and batches that are the same
pub readied-so : (p : UserId → ℕ) (at : ℕ) (ws vs : List Waiting) (a b c : Batches) → ws ≡ vs → b ≡ c → AreReadied p at vs a c → AreReadied p at ws a b
readied-so p at ws vs a b c notices batches readied = subst (λ (us : List Waiting). AreReadied p at us a b) (sym notices) (subst (λ (d : Batches). AreReadied p at vs a d) (sym batches) readied)

pub rank-small : (way : Way) → rank way ≤ 1
rank-small Mail = omega arith
rank-small Push = omega arith

-- ---- the tables

pub notices-then : (a b c : Tables) → WithNotices a b → WithNotices b c → WithNotices a c
notices-then a b c first second = second ∙ ap (λ (t : Tables). record t { waiting = c.waiting; batches = c.batches }) first

pub same_periods : (old new : Tables) → WithNotices old new → period_in new.preferences.items ≡ period_in old.preferences.items
same_periods old new rest = ap (λ (t : Tables). period_in t.preferences.items) rest

-- the batches are kept where notices became ready
pub keeps-readied : (old new : Tables) (at : ℕ) → KeepsBatches old → WithNotices old new → AreReadied (period_in old.preferences.items) at new.waiting.items old.batches new.batches → KeepsBatches new
keeps-readied old new at keeps rest readied = record {
  rows = readied.rows;
  periods = λ u. subst (λ (q : UserId → ℕ). q u ≤ longest_period) (sym (same_periods old new rest)) (keeps.periods u);
}
