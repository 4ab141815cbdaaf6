-- The users of the deal of a message: each whom its send owes a notice is one, and so the removals that its deletion makes are those
-- of these users.
use Rattle.std.proofs.Common.{◌≡◌, ℕ, zero, suc, ◌+◌, Bool, true, false, ◌&&◌, ◌||◌, ◌==◌, cond, List, [], ◌∷◌, ◌++◌, length, map, refl, sym, ap, ◌∙◌, subst, arith}
use Rattle.std.specs.Prelude.{Option, Some, None, option_map, slice_get, filter, find, is_none, nat_lt}
use Rattle.std.specs.Option.{option_map_or, option_or}
use Rattle.std.specs.List.{AllByRecursion, flat_map, range_with_len}
use Rattle.std.proofs.lemmas.Bool.{and_from, eq-eqb, lt-ltb}
use Rattle.std.proofs.lemmas.Option.{slice_get_past}
use Rattle.chat_model.specs.Ascending.{is_ascending_by}
use Rattle.chat_model.proofs.OnceEach.{has_number}
use Rattle.chat_model.specs.declared.event.Stamped.{Stamped}
use Rattle.chat_model.specs.declared.event.Event.TheVariants.{Asked}
use Rattle.chat_model.specs.declared.deal.Deal.{Deal}
use Rattle.chat_model.specs.declared.ids.UserId.{UserId}
use Rattle.chat_model.specs.declared.ids.MessageId.{MessageId}
use Rattle.chat_model.specs.declared.request.Request.TheVariants.{Delete}
use Rattle.chat_model.specs.declared.trigger.Way.TheVariants.{Push}
use Rattle.revocation.specs.Removals.{removals_of}
use Rattle.notice_ledger.specs.Past.Deals.{deal_of, deal_made, deals}
use Rattle.notice_ledger.specs.Past.Journal.{Occurrence, occurrence}
use Rattle.notice_ledger.specs.Past.Values.{SentMessage, message_of, numbered, people, users}
use Rattle.notice_ledger.specs.Past.Owed.{Notice, is_of, notices, notice_to, owed_by, owed_of, bar}
use Rattle.notice_ledger.specs.Past.Pushes.{is_active}
use Rattle.notice_ledger.proofs.Apart.{AllByRecursion-map}
use Rattle.notice_ledger.proofs.Appended.{notices-nil, notices-append, numbered-append}
use Rattle.notice_ledger.proofs.DealLemmas.{deal-at, deals-append, deals-messages}
use Rattle.notice_ledger.proofs.FirstDue.{IsWithin, notices-within}
use Rattle.notice_ledger.proofs.Found.{of_parts}
use Rattle.notice_ledger.proofs.Lists.{AllByRecursion-append, AllByRecursion-weaker, AllByRecursion-filter, by_appending, filter-passed}
use Rattle.notice_ledger.proofs.Parts.{any-counted, ascending_once-among, ascending_once-has, each-has}
use Rattle.notice_ledger.proofs.Revoked.{removals_added, user_once}
use Rattle.notice_ledger.proofs.RevokedMessages.{is_push_unrevoked, removals_deleted}
use Rattle.notice_ledger.proofs.Same.{same_message, same_user}
use Rattle.notice_ledger.proofs.Waiting.{IsOwedBy, owed_by-each}

-- the users of the deal of the message
abbrev pub deal_users : List Stamped → MessageId → List UserId
deal_users j m = option_map_or (λ d. d.users) (numbered m.0 (deals j)) []

-- the user is one of these
abbrev pub is_user_of : List UserId → UserId → Bool
is_user_of us u = has_number (λ v. v.0) us u.0

-- ---- whom a send owes a notice

has-map : (ns : List Notice) (k : ℕ) → has_number (λ v. v.0) (map (λ n. n.user) ns) k ≡ has_number (λ n. n.user.0) ns k
has-map [] k = refl
has-map (n ∷ ns) k = ap (λ b. n.user.0 == k || b) (has-map ns k)

-- they are the users of the deal that the event makes
owed-users : (o : Occurrence) → AllByRecursion (λ n. is_user_of (deal_of o).users n.user ≡ true) (owed_by o)
owed-users o =
    AllByRecursion-weaker (λ n. has_number (λ n. n.user.0) (owed_by o) n.user.0 ≡ true) (λ n. is_user_of (deal_of o).users n.user ≡ true)
    (λ n h. ascending_once-has (λ v. v.0) n.user.0 (map (λ n. n.user) (owed_by o)) ∙ (has-map (owed_by o) n.user.0 ∙ h))
    (owed_by o) (each-has (λ n. n.user.0) (owed_by o))

past_all : {A : Type 0} (xs : List A) → numbered (length xs + 1) xs ≡ None
past_all xs = by (length xs + 1) (omega arith)
  where
    by : (k : ℕ) → k ≡ length xs + 1 → numbered k xs ≡ None
    by zero e = absurd (omega (arith, e))
    by (suc k) e = slice_get_past xs k (omega (arith, e))

-- each whom the send of a message owes a notice is a user of its deal
pub notices-dealt : (j : List Stamped) → AllByRecursion (λ n. is_user_of (deal_users j n.number) n.user ≡ true) (notices j)
notices-dealt = by_appending (λ j. AllByRecursion (λ n. is_user_of (deal_users j n.number) n.user ≡ true) (notices j)) (subst (AllByRecursion (λ n. is_user_of (deal_users [] n.number) n.user ≡ true)) (sym notices-nil) tt) (λ j s h.
    subst (AllByRecursion (λ n. is_user_of (deal_users (j ++ s ∷ []) n.number) n.user ≡ true)) (sym (notices-append j s))
    (AllByRecursion-append (λ n. is_user_of (deal_users (j ++ s ∷ []) n.number) n.user ≡ true) (notices j) (owed_by (occurrence j s))
    (AllByRecursion-weaker (λ n. is_user_of (deal_users j n.number) n.user ≡ true) (λ n. is_user_of (deal_users (j ++ s ∷ []) n.number) n.user ≡ true) (λ n e. longer j s n.number n.user e) (notices j) h)
    (new j s)))
  where
    found : (j : List Stamped) (s : Stamped) (m : MessageId) → numbered m.0 (deals (j ++ s ∷ [])) ≡ option_or (numbered m.0 (deals j)) (cond (m.0 == length (deals j) + 1) (deal_made (occurrence j s)) None)
    found j s m = ap (numbered m.0) (deals-append j s) ∙ numbered-append m.0 (deals j) (deal_made (occurrence j s))

    longer : (j : List Stamped) (s : Stamped) (m : MessageId) (u : UserId) → is_user_of (deal_users j m) u ≡ true → is_user_of (deal_users (j ++ s ∷ []) m) u ≡ true
    longer j s m u h = ap (λ o. is_user_of (option_map_or (λ (d : Deal). d.users) o []) u) (found j s m) ∙ by (numbered m.0 (deals j)) h
      where
        by : (o : Option Deal) → is_user_of (option_map_or (λ d. d.users) o []) u ≡ true → is_user_of (option_map_or (λ d. d.users) (option_or o (cond (m.0 == length (deals j) + 1) (deal_made (occurrence j s)) None)) []) u ≡ true
        by None e = absurd (cc)
        by (Some d) e = e

    new : (j : List Stamped) (s : Stamped) → AllByRecursion (λ n. is_user_of (deal_users (j ++ s ∷ []) n.number) n.user ≡ true) (owed_by (occurrence j s))
    new j s = by (message_of (occurrence j s)) refl
      where
        both : (ns : List Notice) → AllByRecursion (IsOwedBy (occurrence j s)) ns → AllByRecursion (λ n. is_user_of (deal_of (occurrence j s)).users n.user ≡ true) ns → ((n : Notice) → IsOwedBy (occurrence j s) n → deal_users (j ++ s ∷ []) n.number ≡ (deal_of (occurrence j s)).users)
            → AllByRecursion (λ n. is_user_of (deal_users (j ++ s ∷ []) n.number) n.user ≡ true) ns
        both [] owed has same = tt
        both (n ∷ ns) owed has same = (ap (λ us. is_user_of us n.user) (same n owed.0) ∙ has.0, both ns owed.1 has.1 same)

        at_last : (m : SentMessage) → message_of (occurrence j s) ≡ Some m → (n : Notice) → IsOwedBy (occurrence j s) n → deal_users (j ++ s ∷ []) n.number ≡ (deal_of (occurrence j s)).users
        at_last m sent n owed =
            let number : n.number.0 ≡ length (deals j) + 1 = omega (arith, owed.number, deals-messages j) in
            ap (λ o. option_map_or (λ (d : Deal). d.users) o []) (
            found j s n.number
            ∙ ((λ i. option_or ((ap (λ k. numbered k (deals j)) number ∙ past_all (deals j)) i) (cond (eq-eqb n.number.0 (length (deals j) + 1) number i) (option_map (λ m. deal_of (occurrence j s)) (sent i)) None))))

        by : (o : Option SentMessage) → message_of (occurrence j s) ≡ o → AllByRecursion (λ n. is_user_of (deal_users (j ++ s ∷ []) n.number) n.user ≡ true) (owed_by (occurrence j s))
        by None e = subst (AllByRecursion (λ n. is_user_of (deal_users (j ++ s ∷ []) n.number) n.user ≡ true)) (ap (λ o. option_map_or (owed_of (occurrence j s)) o []) (sym e)) tt
        by (Some m) e = both (owed_by (occurrence j s)) (owed_by-each (occurrence j s)) (owed-users (occurrence j s)) (at_last m e)

-- ---- lists of users that ascend

-- the users of a deal do
pub deal_users-ascend : (j : List Stamped) (m : MessageId) → is_ascending_by (λ u. u.0) (deal_users j m) ≡ true
deal_users-ascend j m = by m.0
  where
    of_deal : (o : Option Deal) → ((d : Deal) → o ≡ Some d → is_ascending_by (λ (u : UserId). u.0) d.users ≡ true) → is_ascending_by (λ (u : UserId). u.0) (option_map_or (λ (d : Deal). d.users) o []) ≡ true
    of_deal None h = refl
    of_deal (Some d) h = h d refl

    by : (k : ℕ) → is_ascending_by (λ (u : UserId). u.0) (option_map_or (λ (d : Deal). d.users) (numbered k (deals j)) []) ≡ true
    by zero = refl
    by (suc k) = of_deal (slice_get (deals j) k) (λ d e. (deal-at j k d e).1)

-- and those who are there
users-ascend : (start len : ℕ) → is_ascending_by (λ (u : UserId). u.0) (map (λ n. let u : UserId = record { 0 = n } in u) (range_with_len start len)) ≡ true
users-ascend start zero = refl
users-ascend start (suc zero) = refl
users-ascend start (suc (suc len)) =
    and_from (nat_lt start (start + 1)) (is_ascending_by (λ (u : UserId). u.0) (map (λ n. let u : UserId = record { 0 = n } in u) (range_with_len (start + 1) (suc len)))) (lt-ltb start (start + 1) (omega arith)) (users-ascend (start + 1) (suc len))

-- a user within their number is one of them
users-has : (j : List Stamped) (u : UserId) → IsWithin (length (people j)) u → is_user_of (users j) u ≡ true
users-has j u within =
    any-counted (λ (v : UserId). v.0 == u.0) (users j) ∙ ap (nat_lt 0) (user_once u 1 1 (length (people j)) (omega (arith, within.0)) (omega (arith, within.1)))

-- ---- what concerns the users with a notice of a message

module _ (j : List Stamped) (m : MessageId) where
  of_message : List Notice → List Notice
  of_message ns = filter (λ n. n.number.0 == m.0) ns

  -- the users with a notice of it
  noticed : List UserId
  noticed = map (λ n. n.user) (of_message (notices j))

  noticed-there : AllByRecursion (λ u. is_user_of (users j) u ≡ true) noticed
  unfolding noticed of_message
  noticed-there =
      AllByRecursion-map (λ u. is_user_of (users j) u ≡ true) (λ n. n.user) (filter (λ n. n.number.0 == m.0) (notices j))
      (AllByRecursion-filter (λ n. is_user_of (users j) n.user ≡ true) (λ n. n.number.0 == m.0) (notices j)
      (AllByRecursion-weaker (λ n. IsWithin (length (people j)) n.user) (λ n. is_user_of (users j) n.user ≡ true) (λ n within. users-has j n.user within) (notices j) (notices-within j)))

  noticed-dealt : AllByRecursion (λ u. is_user_of (deal_users j m) u ≡ true) noticed
  unfolding noticed of_message
  noticed-dealt =
      AllByRecursion-map (λ u. is_user_of (deal_users j m) u ≡ true) (λ n. n.user) (filter (λ n. n.number.0 == m.0) (notices j))
      (both (filter (λ n. n.number.0 == m.0) (notices j)) (filter-passed (λ n. n.number.0 == m.0) (notices j)) (AllByRecursion-filter (λ n. is_user_of (deal_users j n.number) n.user ≡ true) (λ n. n.number.0 == m.0) (notices j) (notices-dealt j)))
    where
      both : (ns : List Notice) → AllByRecursion (λ n. (n.number.0 == m.0) ≡ true) ns → AllByRecursion (λ n. is_user_of (deal_users j n.number) n.user ≡ true) ns → AllByRecursion (λ n. is_user_of (deal_users j m) n.user ≡ true) ns
      both [] its has = tt
      both (n ∷ ns) its has = (ap (λ (x : MessageId). is_user_of (deal_users j x) n.user) (sym (same_message n.number m its.0)) ∙ has.0, both ns its.1 has.1)

  -- a user without one has no push of it
  unnoticed : (u : UserId) → is_user_of noticed u ≡ false → notice_to j u m Push ≡ None
  unfolding noticed of_message
  unnoticed u none = by (notices j) none
    where
      by : (ns : List Notice) → is_user_of (map (λ n. n.user) (filter (λ n. n.number.0 == m.0) ns)) u ≡ false → find (is_of u m Push) ns ≡ None
      by [] h = refl
      by (n ∷ ns) h = one (is_of u m Push n) refl (n.number.0 == m.0) refl h (λ rest. by ns rest)
        where
          one : (it : Bool) → is_of u m Push n ≡ it → (of : Bool) → (n.number.0 == m.0) ≡ of
              → is_user_of (map (λ n. n.user) (cond of (n ∷ filter (λ n. n.number.0 == m.0) ns) (filter (λ n. n.number.0 == m.0) ns))) u ≡ false
              → (is_user_of (map (λ n. n.user) (filter (λ n. n.number.0 == m.0) ns)) u ≡ false → find (is_of u m Push) ns ≡ None)
              → cond it (Some n) (find (is_of u m Push) ns) ≡ None
          one true e true f g rest =
              let is = of_parts u m Push n e in
              let no : true ≡ false = sym (ap (λ b. b || is_user_of (map (λ n. n.user) (filter (λ n. n.number.0 == m.0) ns)) u) (eq-eqb n.user.0 u.0 (ap (λ (x : UserId). x.0) is.user))) ∙ g in
              absurd (cc)
          one true e false f g rest =
              let is = of_parts u m Push n e in
              let no : true ≡ false = sym (eq-eqb n.number.0 m.0 (ap (λ (x : MessageId). x.0) is.number)) ∙ f in
              absurd (cc)
          one false e true f g rest = rest (behind (n.user.0 == u.0) g)
            where
              behind : (b : Bool) → (b || is_user_of (map (λ n. n.user) (filter (λ n. n.number.0 == m.0) ns)) u) ≡ false → is_user_of (map (λ n. n.user) (filter (λ n. n.number.0 == m.0) ns)) u ≡ false
              behind true h = absurd (cc)
              behind false h = h
          one false e false f g rest = rest g

  module _ {A : Type 0} (of_user : UserId → List A) (empty : (u : UserId) → notice_to j u m Push ≡ None → of_user u ≡ []) where
    kept-flat : (us : List UserId) → flat_map of_user us ≡ flat_map of_user (filter (λ u. is_user_of noticed u) us)
    kept-flat [] = refl
    kept-flat (u ∷ us) = by (is_user_of noticed u) refl (kept-flat us)
      where
        by : (b : Bool) → is_user_of noticed u ≡ b → flat_map of_user us ≡ flat_map of_user (filter (λ u. is_user_of noticed u) us)
            → of_user u ++ flat_map of_user us ≡ flat_map of_user (cond b (u ∷ filter (λ u. is_user_of noticed u) us) (filter (λ u. is_user_of noticed u) us))
        by true e rest = ap (λ xs. of_user u ++ xs) rest
        by false e rest = (λ i. empty u (unnoticed u e) i ++ rest i)

    -- what is made for users with a push of the message alone is made for the users of its deal as for all
    pub users-concerned : flat_map of_user (users j) ≡ flat_map of_user (deal_users j m)
    users-concerned =
        kept-flat (users j)
        ∙ (ap (flat_map of_user)
        (sym (ascending_once-among (λ u. u.0) (λ u v same. same_user u v (eq-eqb u.0 v.0 same)) noticed (users j) (users-ascend 1 (length (people j))) noticed-there)
        ∙ ascending_once-among (λ u. u.0) (λ u v same. same_user u v (eq-eqb u.0 v.0 same)) noticed (deal_users j m) (deal_users-ascend j m) noticed-dealt)
        ∙ sym (kept-flat (deal_users j m)))

-- the removals that a deletion makes are those of the users of the message's deal
pub removals_deleted-concerned : (j : List Stamped) (at : ℕ) (v : UserId) (m : MessageId) → removals_added j (record { at = at; event = Asked (Delete v m) }) ≡ flat_map (λ u. removals_of u (filter (is_push_unrevoked j u) (m ∷ []))) (deal_users j m)
removals_deleted-concerned j at v m =
    removals_deleted j at v m
    ∙ users-concerned j m (λ u. removals_of u (filter (is_push_unrevoked j u) (m ∷ []))) (λ u none. ap (λ o. removals_of u (cond (option_map_or (λ n. is_active j n && is_none (bar j n)) o false) (m ∷ []) [])) none)
