-- What a read and a deletion revoke, among the active pushes that the tables keep.
use Rattle.std.proofs.Common.{◌≡◌, ℕ, Bool, true, false, ◌+◌, ◌&&◌, ◌||◌, ◌==◌, not, cond, List, [], ◌∷◌, map, refl, sym, ap, ◌∙◌, arith}
use Rattle.std.specs.Prelude.{filter, count_by, is_none, is_some, Option, Some, None}
use Rattle.std.specs.Option.{option_map_or}
use Rattle.std.proofs.lemmas.List.Sums.{sum_by-cons}
use Rattle.std.specs.List.{flat_map, list_any}
use Rattle.chat_model.specs.declared.event.Event.TheVariants.{Asked}
use Rattle.chat_model.specs.declared.event.Stamped.{Stamped}
use Rattle.chat_model.specs.declared.ids.MessageId.{MessageId}
use Rattle.chat_model.specs.declared.ids.UserId.{UserId}
use Rattle.chat_model.specs.declared.push_item.PushItem.{PushItem}
use Rattle.chat_model.specs.declared.request.Request.TheVariants.{Read, Delete}
use Rattle.chat_model.specs.declared.trigger.Way.{Way}
use Rattle.chat_model.specs.declared.trigger.Way.TheVariants.{Mail, Push}
use Rattle.chat_model.specs.Ascending.{is_ascending_by}
use Rattle.notice_ledger.specs.Past.Owed.{Notice, notices, notice_to, is_of, same_way, bar, cause_of_bar}
use Rattle.notice_ledger.specs.Past.Pushes.{is_active}
use Rattle.notice_ledger.proofs.Lists.{filter_same}
use Rattle.notice_ledger.proofs.PushesWait.{one-counted}
use Rattle.notice_ledger.proofs.Revoked.{flat_map_same, removals_by-last}
use Rattle.notice_ledger.proofs.RevokedMessages.{is_push_unrevoked, removals_read}
use Rattle.notice_ledger.proofs.DealUsers.{removals_deleted-concerned}
use Rattle.notice_ledger.proofs.Standing.{cause_of_bar-is}
use Rattle.revocation.specs.Removals.{removals_of}
use Rattle.book_tables.specs.declared.tables.Tables.{Tables}
use Rattle.book_tables.specs.declared.tables.Waiting.{Waiting}
use Rattle.book_tables.specs.Bars.{is_unbarred_of, revoked_in}
use Rattle.book_tables.specs.Notices.{rank}
use Rattle.book_tables.specs.Prepared.{concerned, removals_made}
use Rattle.book_tables.specs.Tables.{Holds, notice_kept}

-- one of those that pass a test does what its image does
any-image : {X Y : Type 0} (p : Y → Bool) (f : X → Y) (q : X → Bool) (xs : List X) → list_any p (map f (filter q xs)) ≡ list_any (λ x. q x && p (f x)) xs
any-image p f q [] = refl
any-image p f q (x ∷ xs) = by (q x) ∙ ap (λ b. (q x && p (f x)) || b) (any-image p f q xs)
  where
    by : (b : Bool) → list_any p (map f (cond b (x ∷ filter q xs) (filter q xs))) ≡ ((b && p (f x)) || list_any p (map f (filter q xs)))
    by true = refl
    by false = refl

any_same : {X : Type 0} (p q : X → Bool) → ((x : X) → p x ≡ q x) → (xs : List X) → list_any p xs ≡ list_any q xs
any_same p q same [] = refl
any_same p q same (x ∷ xs) = (λ i. same x i || any_same p q same xs i)

-- some pass where they count one
some-counted : {X : Type 0} (p : X → Bool) (xs : List X) → count_by p xs ≡ 1 → list_any p xs ≡ true
some-counted p [] one = absurd (omega (arith, one))
some-counted p (x ∷ xs) one = by (p x) (count_by p xs) (list_any p xs) (some-counted p xs) (sym (sum_by-cons (λ y. cond (p y) 1 0) x xs) ∙ one)
  where
    by : (t : Bool) (rest : ℕ) (any : Bool) → (rest ≡ 1 → any ≡ true) → cond t 1 0 + rest ≡ 1 → (t || any) ≡ true
    by true rest any later e = refl
    by false rest any later e = later (omega (arith, e))

none-counted : {X : Type 0} (p : X → Bool) (xs : List X) → count_by p xs ≡ 0 → list_any p xs ≡ false
none-counted p [] none = refl
none-counted p (x ∷ xs) none = by (p x) (count_by p xs) (list_any p xs) (none-counted p xs) (sym (sum_by-cons (λ y. cond (p y) 1 0) x xs) ∙ none)
  where
    by : (t : Bool) (rest : ℕ) (any : Bool) → (rest ≡ 0 → any ≡ false) → cond t 1 0 + rest ≡ 0 → (t || any) ≡ false
    by true rest any later e = absurd (omega (arith, e))
    by false rest any later e = later (omega (arith, e))

any-counted : {X : Type 0} (p : X → Bool) (xs : List X) (b : Bool) → count_by p xs ≡ cond b 1 0 → list_any p xs ≡ b
any-counted p xs true one = some-counted p xs one
any-counted p xs false none = none-counted p xs none

-- an active push that nothing bars, as it is kept
one-kept : (past : List Stamped) (u : UserId) (m : MessageId) (n : Notice)
    → (is_active past n && is_unbarred_of (record { user = u; message = m }) Push (notice_kept past n)) ≡ (is_of u m Push n && (is_active past n && is_none (bar past n)))
one-kept past u m n =
    ap (λ b. is_active past n && (((n.number.0 == m.0) && ((n.user.0 == u.0) && (rank n.way == 1))) && not b)) (cause_of_bar-is past n)
    ∙ by (is_active past n) (n.number.0 == m.0) (n.user.0 == u.0) n.way (bar past n)
  where
    by : {X : Type 0} (a k v : Bool) (w : Way) (o : Option X) → (a && ((k && (v && (rank w == 1))) && not (is_some o))) ≡ (((v && k) && same_way w Push) && (a && is_none o))
    by true true true Push None = refl
    by true true true Push (Some x) = refl
    by true true true Mail o = refl
    by true true false w o = refl
    by true false true w o = refl
    by true false false w o = refl
    by false true true Push o = refl
    by false true true Mail o = refl
    by false true false w o = refl
    by false false true w o = refl
    by false false false w o = refl

-- the push of a user and a message is among the active ones, with no bar
pub unrevoked-kept : (past : List Stamped) (u : UserId) (m : MessageId)
    → list_any (is_unbarred_of (record { user = u; message = m }) Push) (map (notice_kept past) (filter (is_active past) (notices past))) ≡ is_push_unrevoked past u m
unrevoked-kept past u m =
    any-image (is_unbarred_of (record { user = u; message = m }) Push) (notice_kept past) (is_active past) (notices past)
    ∙ (any_same (λ n. is_active past n && is_unbarred_of (record { user = u; message = m }) Push (notice_kept past n)) (λ n. is_of u m Push n && (is_active past n && is_none (bar past n))) (one-kept past u m) (notices past)
    ∙ any-counted (λ n. is_of u m Push n && (is_active past n && is_none (bar past n))) (notices past) (is_push_unrevoked past u m) (one-counted past (λ n. is_active past n && is_none (bar past n)) u m))

-- so of some messages the tables find those whose push is active and not revoked
pub revoked-kept : (t : Tables) (past : List Stamped) → Holds t past → (u : UserId) (ms : List MessageId) → revoked_in t.active.items u ms ≡ filter (is_push_unrevoked past u) ms
revoked-kept t past holds u ms =
    ap (λ ws. revoked_in ws u ms) holds.active
    ∙ filter_same (λ m. list_any (is_unbarred_of (record { user = u; message = m }) Push) (map (notice_kept past) (filter (is_active past) (notices past)))) (is_push_unrevoked past u) (unrevoked-kept past u) ms

-- the removals of a read
pub read-removals : (t : Tables) (past : List Stamped) → Holds t past → (at : ℕ) (u : UserId) (ms : List MessageId) → is_ascending_by (λ m. m.0) ms ≡ true
    → removals_of u (revoked_in t.active.items u ms) ≡ removals_made past (record { at = at; event = Asked (Read u ms) })
read-removals t past holds at u ms ascends =
    ap (removals_of u) (revoked-kept t past holds u ms)
    ∙ (sym (removals_read past at u ms ascends) ∙ sym (removals_by-last past (record { at = at; event = Asked (Read u ms) })))

-- and of a deletion
pub delete-removals : (t : Tables) (past : List Stamped) → Holds t past → (at : ℕ) (v : UserId) (m : MessageId)
    → flat_map (λ u. removals_of u (revoked_in t.active.items u (m ∷ []))) (concerned past m) ≡ removals_made past (record { at = at; event = Asked (Delete v m) })
delete-removals t past holds at v m =
    flat_map_same (λ u. removals_of u (revoked_in t.active.items u (m ∷ []))) (λ u. removals_of u (filter (is_push_unrevoked past u) (m ∷ []))) (λ u. ap (removals_of u) (revoked-kept t past holds u (m ∷ []))) (concerned past m)
    ∙ (sym (removals_deleted-concerned past at v m) ∙ sym (removals_by-last past (record { at = at; event = Asked (Delete v m) })))
