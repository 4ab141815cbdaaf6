-- How many notices a read or a deletion cancels: those of its pairs that wait and nothing bars, and those that a live queue
-- cleared.
use Rattle.std.proofs.Common.{◌≡◌, ℕ, suc, ◌+◌, Bool, true, false, ◌&&◌, ◌||◌, ◌==◌, not, cond, List, [], ◌∷◌, length, map, refl, sym, ap, ◌∙◌, arith}
use Rattle.std.specs.Prelude.{⊤, Option, Some, None, filter, is_some, is_none, if◌then◌else◌}
use Rattle.std.specs.List.{AllByRecursion, list_any}
use Rattle.std.proofs.lemmas.Bool.{and_parts, eq-eqb}
use Rattle.chat_model.specs.Ascending.{is_ascending_by}
use Rattle.chat_model.specs.declared.event.Event.TheVariants.{Asked}
use Rattle.chat_model.specs.declared.request.Request.TheVariants.{Read, Delete}
use Rattle.chat_model.specs.declared.row.Cause.TheVariants as causes
use Rattle.chat_model.proofs.OnceEach.{ascending-rest, ascending-distinct}
use Rattle.chat_model.specs.declared.event.Stamped.{Stamped}
use Rattle.chat_model.specs.declared.ids.MessageId.{MessageId}
use Rattle.chat_model.specs.declared.ids.UserId.{UserId}
use Rattle.chat_model.specs.declared.trigger.Way.{Way}
use Rattle.chat_model.specs.declared.trigger.Way.TheVariants.{Mail, Push}
use Rattle.chat_model.specs.declared.row.Cause.{Cause}
use Rattle.notice_ledger.specs.declared.accounts.Account.{Account}
use Rattle.notice_ledger.specs.declared.accounts.Account.TheVariants.{NotOwed, Flight, Held, Ready, Handed, Cancelled, LiveQueue}
use Rattle.notice_ledger.specs.Past.Audit.{in_64_bits, same_account}
use Rattle.notice_ledger.specs.Past.Owed.{Notice, notices, bar_cause, cause_of_bar, account_of, is_pending}
use Rattle.notice_ledger.specs.Past.Values.{reads, deletes}
use Rattle.notice_ledger.proofs.DealUsers.{deal_users, notices-dealt}
use Rattle.notice_ledger.proofs.Same.{same_user, same_message, eqb-turned}
use Rattle.notice_ledger.proofs.Lists.{filter-filter, filter_same, filter_same_where}
use Rattle.notice_ledger.proofs.Queued.{kept, is_kept, pending-is}
use Rattle.book_tables.specs.declared.pushes.PushKey.{PushKey}
use Rattle.book_tables.specs.declared.tables.Tables.{Tables}
use Rattle.book_tables.specs.declared.tables.Waiting.{Waiting}
use Rattle.book_tables.specs.Bars.{pairs_read, pairs_gone, is_of_pair, is_unbarred_of, cancelled_of_pair, cancelled_of_pairs, cancelled_by}
use Rattle.book_tables.specs.Notices.{rank}
use Rattle.book_tables.specs.Prepared.{concerned, is_barred_at, is_cancelled_at}
use Rattle.book_tables.specs.Pushes.{has_push}
use Rattle.book_tables.specs.Tables.{Holds, notice_kept, cleared_kept, is_live}
use Rattle.book_tables.proofs.Kept.{holds-kept}

-- a notice that a bar cancels: it is still to be handed over, or a live queue cleared it
abbrev is_open : List Stamped → Notice → Bool
is_open j n = is_pending (account_of j n) || same_account (account_of j n) LiveQueue

-- the notice of a pair by a way
abbrev is_pairs : PushKey → Way → Notice → Bool
is_pairs p way n = n.number.0 == p.message.0 && (n.user.0 == p.user.0 && rank n.way == rank way)

-- the notice of a pair, by either way
abbrev is_of_key : PushKey → Notice → Bool
is_of_key p n = p.user.0 == n.user.0 && p.message.0 == n.number.0

-- ---- lengths of filters

filter-mapped : {X Y : Type 0} (p : Y → Bool) (f : X → Y) (xs : List X) → length (filter p (map f xs)) ≡ length (filter (λ x. p (f x)) xs)
filter-mapped p f [] = refl
filter-mapped {X} p f (x ∷ xs) = by (p (f x)) (filter-mapped p f xs)
  where
    by : (b : Bool) → length (filter p (map f xs)) ≡ length (filter (λ x. p (f x)) xs) → length (cond b (f x ∷ filter p (map f xs)) (filter p (map f xs))) ≡ length (cond b (x ∷ filter (λ x. p (f x)) xs) (filter (λ x. p (f x)) xs))
    by true e = ap suc e
    by false e = e

-- tests of which no element passes both
two_filters : {X : Type 0} (p q r : X → Bool) → ((x : X) → (p x && q x) ≡ false) → ((x : X) → (p x || q x) ≡ r x) → (xs : List X) → length (filter p xs) + length (filter q xs) ≡ length (filter r xs)
two_filters p q r apart either [] = refl
two_filters {X} p q r apart either (x ∷ xs) = by (p x) (q x) (r x) (apart x) (either x) (two_filters p q r apart either xs)
  where
    by : (a b c : Bool) → (a && b) ≡ false → (a || b) ≡ c → length (filter p xs) + length (filter q xs) ≡ length (filter r xs)
        → length (cond a (x ∷ filter p xs) (filter p xs)) + length (cond b (x ∷ filter q xs) (filter q xs)) ≡ length (cond c (x ∷ filter r xs) (filter r xs))
    by true true c disjoint joined e = absurd (cc)
    by true false true disjoint joined e = omega (arith, e)
    by true false false disjoint joined e = absurd (cc)
    by false true true disjoint joined e = omega (arith, e)
    by false true false disjoint joined e = absurd (cc)
    by false false true disjoint joined e = absurd (cc)
    by false false false disjoint joined e = e

filter-never : {X : Type 0} (p : X → Bool) (xs : List X) → 0 ≡ length (filter (λ x. false && p x) xs)
filter-never p [] = refl
filter-never p (x ∷ xs) = filter-never p xs

-- ---- the notices of pairs

-- no pair stands twice
abbrev pub AreApart : List PushKey → Type 0
AreApart [] = ⊤
AreApart (p ∷ ps) = (has_push ps p.user p.message ≡ false) × AreApart ps

module _ (t : Tables) (past : List Stamped) (holds : Holds t past) where
  -- those that wait and nothing bars are the pending ones
  waiting_pair : (p : PushKey) (way : Way) → length (filter (is_unbarred_of p way) t.waiting.items) ≡ length (filter (λ n. is_pairs p way n && is_pending (account_of past n)) (notices past))
  unfolding kept
  waiting_pair p way =
      ap (λ ws. length (filter (is_unbarred_of p way) ws)) (holds-kept t past holds)
      ∙ (filter-mapped (is_unbarred_of p way) (notice_kept past) (kept past)
      ∙ ap length (filter-filter (λ n. is_unbarred_of p way (notice_kept past n)) (is_kept past) (notices past)
      ∙ filter_same (λ n. is_kept past n && (is_pairs p way n && not (is_some (cause_of_bar past n)))) (λ n. is_pairs p way n && is_pending (account_of past n)) (λ n.
      by (is_kept past n) (is_pairs p way n) (cause_of_bar past n) ∙ ap (λ b. is_pairs p way n && b) (sym (pending-is past n))) (notices past)))
    where
      by : (k a : Bool) (c : Option Cause) → (k && (a && not (is_some c))) ≡ (a && (k && is_none c))
      by true true None = refl
      by true true (Some c) = refl
      by true false c = refl
      by false true c = refl
      by false false c = refl

  -- and those that a live queue cleared
  cleared_pair : (p : PushKey) (way : Way) → length (filter (is_of_pair p way) t.cleared.items) ≡ length (filter (λ n. is_live past n && is_pairs p way n) (notices past))
  cleared_pair p way =
      ap (λ ws. length (filter (is_of_pair p way) ws)) holds.cleared
      ∙ (filter-mapped (is_of_pair p way) cleared_kept (filter (is_live past) (notices past))
      ∙ ap length (filter-filter (λ n. is_of_pair p way (cleared_kept n)) (is_live past) (notices past)))

  pair_open : (p : PushKey) (way : Way) → cancelled_of_pair t.waiting.items t.cleared.items p way ≡ length (filter (λ n. is_pairs p way n && is_open past n) (notices past))
  pair_open p way =
      (λ i. waiting_pair p way i + cleared_pair p way i)
      ∙ two_filters (λ n. is_pairs p way n && is_pending (account_of past n)) (λ n. is_live past n && is_pairs p way n) (λ n. is_pairs p way n && is_open past n)
      (λ n. apart (is_pairs p way n) (account_of past n)) (λ n. either (is_pairs p way n) (account_of past n)) (notices past)
    where
      apart : (a : Bool) (x : Account) → ((a && is_pending x) && (same_account x LiveQueue && a)) ≡ false
      apart false x = refl
      apart true Flight = refl
      apart true Held = refl
      apart true Ready = refl
      apart true x = refl

      either : (a : Bool) (x : Account) → ((a && is_pending x) || (same_account x LiveQueue && a)) ≡ (a && (is_pending x || same_account x LiveQueue))
      either true x = by (same_account x LiveQueue) (is_pending x)
        where
          by : (l p : Bool) → (p || (l && true)) ≡ (p || l)
          by true p = refl
          by false p = refl
      either false x = by (same_account x LiveQueue)
        where
          by : (l : Bool) → (l && false) ≡ false
          by true = refl
          by false = refl

  key_open : (p : PushKey) → cancelled_of_pair t.waiting.items t.cleared.items p Mail + cancelled_of_pair t.waiting.items t.cleared.items p Push ≡ length (filter (λ n. is_of_key p n && is_open past n) (notices past))
  key_open p =
      (λ i. pair_open p Mail i + pair_open p Push i)
      ∙ two_filters (λ n. is_pairs p Mail n && is_open past n) (λ n. is_pairs p Push n && is_open past n) (λ n. is_of_key p n && is_open past n)
      (λ n. apart (n.number.0 == p.message.0) (n.user.0 == p.user.0) (is_open past n) n.way)
      (λ n. either (n.number.0 == p.message.0) (n.user.0 == p.user.0) (is_open past n) n.way ∙ (λ i. (eqb-turned n.user.0 p.user.0 i && eqb-turned n.number.0 p.message.0 i) && is_open past n)) (notices past)
    where
      apart : (m u o : Bool) (w : Way) → (((m && (u && rank w == 0)) && o) && ((m && (u && rank w == 1)) && o)) ≡ false
      apart false u o w = refl
      apart true false o w = refl
      apart true true o Push = refl
      apart true true false Mail = refl
      apart true true true Mail = refl

      either : (m u o : Bool) (w : Way) → (((m && (u && rank w == 0)) && o) || ((m && (u && rank w == 1)) && o)) ≡ ((u && m) && o)
      either true true o Mail = by o
        where
          by : (o : Bool) → (o || false) ≡ o
          by true = refl
          by false = refl
      either true true o Push = refl
      either true false o w = refl
      either false true o w = refl
      either false false o w = refl

  pairs_open : (ps : List PushKey) → AreApart ps → cancelled_of_pairs t.waiting.items t.cleared.items ps ≡ length (filter (λ n. has_push ps n.user n.number && is_open past n) (notices past))
  pairs_open [] apart = filter-never (is_open past) (notices past)
  pairs_open (p ∷ ps) apart =
      (λ i. key_open p i + pairs_open ps apart.1 i)
      ∙ two_filters (λ n. is_of_key p n && is_open past n) (λ n. has_push ps n.user n.number && is_open past n) (λ n. has_push (p ∷ ps) n.user n.number && is_open past n)
      (λ n. alone n (is_of_key p n) refl) (λ n. either (is_of_key p n) (has_push ps n.user n.number) (is_open past n)) (notices past)
    where
      either : (a b o : Bool) → ((a && o) || (b && o)) ≡ ((a || b) && o)
      either true b true = refl
      either true true false = refl
      either true false false = refl
      either false b o = refl

      and_false : (a o : Bool) → a ≡ false → (o && (a && o)) ≡ false
      and_false true o e = absurd (cc)
      and_false false true e = refl
      and_false false false e = refl

      alone : (n : Notice) (b : Bool) → is_of_key p n ≡ b → ((b && is_open past n) && (has_push ps n.user n.number && is_open past n)) ≡ false
      alone n true e =
          let parts = and_parts (p.user.0 == n.user.0) (p.message.0 == n.number.0) e in
          and_false (has_push ps n.user n.number) (is_open past n) ((λ i. has_push ps (sym (same_user p.user n.user parts.0) i) (sym (same_message p.message n.number parts.1) i)) ∙ apart.0)
      alone n false e = refl

  -- the pairs of which a read or a deletion bars the notices
  pub cancelled-pairs : (s : Stamped) (ps : List PushKey) → AreApart ps → AllByRecursion (λ n. has_push ps n.user n.number ≡ is_barred_at past s n) (notices past)
      → cancelled_by t.waiting.items t.cleared.items ps ≡ in_64_bits (length (filter (is_cancelled_at past s) (notices past)))
  cancelled-pairs s ps apart bars =
      ap in_64_bits (pairs_open ps apart
      ∙ ap length (filter_same_where (λ n. has_push ps n.user n.number ≡ is_barred_at past s n) (λ n. has_push ps n.user n.number && is_open past n) (is_cancelled_at past s) (λ n same. ap (λ b. b && is_open past n) same) (notices past) bars))

-- ---- the pairs of a read, and of a deletion

has_read : (u v : UserId) (k : MessageId) (ms : List MessageId) → has_push (pairs_read u ms) v k ≡ (u.0 == v.0 && list_any (λ m. m.0 == k.0) ms)
has_read u v k [] = sym (by (u.0 == v.0))
  where
    by : (b : Bool) → (b && false) ≡ false
    by true = refl
    by false = refl
has_read u v k (m ∷ ms) = ap (λ b. (u.0 == v.0 && m.0 == k.0) || b) (has_read u v k ms) ∙ by (u.0 == v.0) (m.0 == k.0) (list_any (λ m. m.0 == k.0) ms)
  where
    by : (a b c : Bool) → ((a && b) || (a && c)) ≡ (a && (b || c))
    by true b c = refl
    by false b c = refl

has_gone : (v : UserId) (k m : MessageId) (us : List UserId) → has_push (pairs_gone us m) v k ≡ (list_any (λ u. u.0 == v.0) us && m.0 == k.0)
has_gone v k m [] = refl
has_gone v k m (u ∷ us) = ap (λ b. (u.0 == v.0 && m.0 == k.0) || b) (has_gone v k m us) ∙ by (u.0 == v.0) (list_any (λ u. u.0 == v.0) us) (m.0 == k.0)
  where
    by : (a b c : Bool) → ((a && c) || (b && c)) ≡ ((a || b) && c)
    by true true true = refl
    by true true false = refl
    by true false true = refl
    by true false false = refl
    by false b c = refl

pub read-apart : (u : UserId) (ms : List MessageId) → is_ascending_by (λ m. m.0) ms ≡ true → AreApart (pairs_read u ms)
read-apart u [] h = tt
read-apart u (m ∷ ms) h =
    (has_read u u m ms ∙ (λ i. eq-eqb u.0 u.0 refl i && ascending-distinct (λ (m : MessageId). m.0) m ms h i), read-apart u ms (ascending-rest (λ (m : MessageId). m.0) m ms h))

pub gone-apart : (us : List UserId) (m : MessageId) → is_ascending_by (λ u. u.0) us ≡ true → AreApart (pairs_gone us m)
gone-apart [] m h = tt
gone-apart (u ∷ us) m h =
    (has_gone u m m us ∙ ap (λ b. b && m.0 == m.0) (ascending-distinct (λ (u : UserId). u.0) u us h), gone-apart us m (ascending-rest (λ (u : UserId). u.0) u us h))

-- a read bars the notices of its pairs
pub read-bars : (past : List Stamped) (at : ℕ) (u : UserId) (ms : List MessageId) → AllByRecursion (λ n. has_push (pairs_read u ms) n.user n.number ≡ is_barred_at past (record { at = at; event = Asked (Read u ms) }) n) (notices past)
unfolding bar_cause
read-bars past at u ms = each (notices past)
  where
    by : (b : Bool) → b ≡ is_some (if b then Some causes.Read else None)
    by true = refl
    by false = refl

    each : (ns : List Notice) → AllByRecursion (λ n. has_push (pairs_read u ms) n.user n.number ≡ is_some (if reads n.user n.number (Asked (Read u ms)) then Some causes.Read else None)) ns
    each [] = tt
    each (n ∷ ns) = (has_read u n.user n.number ms ∙ by (reads n.user n.number (Asked (Read u ms))), each ns)

-- and a deletion those of the message's users
pub gone-bars : (past : List Stamped) (at : ℕ) (u : UserId) (m : MessageId) → AllByRecursion (λ n. has_push (pairs_gone (concerned past m) m) n.user n.number ≡ is_barred_at past (record { at = at; event = Asked (Delete u m) }) n) (notices past)
unfolding bar_cause
gone-bars past at u m = each (notices past) (notices-dealt past)
  where
    by : (n : Notice) (b : Bool) → (m.0 == n.number.0) ≡ b → list_any (λ u. u.0 == n.user.0) (deal_users past n.number) ≡ true
        → (list_any (λ u. u.0 == n.user.0) (concerned past m) && b) ≡ is_some (if b then Some causes.Deleted else None)
    by n true e one = ap (λ (k : MessageId). list_any (λ u. u.0 == n.user.0) (deal_users past k) && true) (same_message m n.number e) ∙ ap (λ b. b && true) one
    by n false e one = none (list_any (λ u. u.0 == n.user.0) (concerned past m))
      where
        none : (b : Bool) → (b && false) ≡ false
        none true = refl
        none false = refl

    each : (ns : List Notice) → AllByRecursion (λ n. list_any (λ u. u.0 == n.user.0) (deal_users past n.number) ≡ true) ns
        → AllByRecursion (λ n. has_push (pairs_gone (concerned past m) m) n.user n.number ≡ is_some (if deletes n.number (Asked (Delete u m)) then Some causes.Deleted else None)) ns
    each [] all = tt
    each (n ∷ ns) all = (has_gone n.user n.number m (concerned past m) ∙ by n (m.0 == n.number.0) refl all.0, each ns all.1)
