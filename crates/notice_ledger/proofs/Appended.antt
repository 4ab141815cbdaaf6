-- Each definition at a journal with one more event.
use Rattle.std.proofs.Common.{◌≡◌, ℕ, zero, suc, ◌+◌, Bool, true, false, List, [], ◌∷◌, ◌++◌, cond, length, refl, sym, ap, ◌∙◌, zero-add, arith}
use Rattle.std.specs.Prelude.{Option, Some, None, unwrap_or, option_to_list, count_by, find, fold, nat_lt, slice_get, ◌&&◌, ◌||◌, ◌==◌}
use Rattle.std.specs.List.{filter_map, flat_map, list_any, cons_option}
use Rattle.std.specs.Option.{option_or}
use Rattle.std.proofs.lemmas.Bool.Decides.{nat_tests}
use Rattle.std.proofs.lemmas.List.{append_assoc, append-nil}
use Rattle.std.proofs.lemmas.List.Sums.{fold-append, sum_by-append}
use Rattle.std.proofs.lemmas.List.Folds.{find-append, list_any-append}
use Rattle.std.proofs.lemmas.List.Elements.{filter_map-append}
use Rattle.std.proofs.lemmas.Grind.{flat_map-append}
use Rattle.chat_model.specs.declared.event.Stamped.{Stamped}
use Rattle.chat_model.specs.declared.ids.UserId.{UserId}
use Rattle.chat_model.specs.declared.ids.ChannelId.{ChannelId}
use Rattle.chat_model.specs.declared.ids.GroupId.{GroupId}
use Rattle.chat_model.specs.declared.ids.MessageId.{MessageId}
use Rattle.notice_ledger.specs.Past.Journal.{Occurrence, occurrence, occurrences, occurrences_after, last_given, last_stamp, first_behind}
use Rattle.notice_ledger.specs.Past.Values.{person_of, people, channel_of, channels, numbered, message_of, messages, message, deletes, is_deleted, reads, makes_deal, deal_count, group_of, groups, membership_change, is_member, subscription_change, subscribed}
use Rattle.notice_ledger.specs.Past.Owed.{owed_by, notices}
use Rattle.notice_ledger.specs.Past.Outbox.{entries_by, outbox}

occurrences_after-append : (past j : List Stamped) (s : Stamped) → occurrences_after past (j ++ s ∷ []) ≡ occurrences_after past j ++ occurrence (past ++ j) s ∷ []
occurrences_after-append past [] s = ap (λ p. occurrence p s ∷ []) (sym (append-nil past))
occurrences_after-append past (t ∷ ts) s =
    ap (λ os. occurrence past t ∷ os) (occurrences_after-append (past ++ t ∷ []) ts s ∙ ap (λ p. occurrences_after (past ++ t ∷ []) ts ++ occurrence p s ∷ []) (append_assoc past (t ∷ []) ts))

pub occurrences-append : (j : List Stamped) (s : Stamped) → occurrences (j ++ s ∷ []) ≡ occurrences j ++ occurrence j s ∷ []
unfolding occurrences
occurrences-append j s = occurrences_after-append [] j s

pub first_behind-append : (place : ℕ) (test : Occurrence → Bool) (j : List Stamped) (s : Stamped) → first_behind place test (j ++ s ∷ []) ≡ option_or (first_behind place test j) (cond (nat_lt place (length j) && test (occurrence j s)) (Some (occurrence j s)) None)
first_behind-append place test j s =
    ap (find (λ o. nat_lt place o.place && test o)) (occurrences-append j s) ∙ find-append (λ o. nat_lt place o.place && test o) (occurrences j) (occurrence j s ∷ [])

pub first_behind-nil : (place : ℕ) (test : Occurrence → Bool) → first_behind place test [] ≡ None
unfolding occurrences
first_behind-nil place test = refl

pub last_given-append : {A : Type 0} (change : Occurrence → Option A) (start : A) (j : List Stamped) (s : Stamped) → last_given change start (j ++ s ∷ []) ≡ unwrap_or (change (occurrence j s)) (last_given change start j)
last_given-append change start j s =
    ap (fold (λ before o. unwrap_or (change o) before) start) (occurrences-append j s) ∙ fold-append (λ before o. unwrap_or (change o) before) start (occurrences j) (occurrence j s ∷ [])

pub last_stamp-append : (j : List Stamped) (s : Stamped) → last_stamp (j ++ s ∷ []) ≡ s.at
last_stamp-append j s = fold-append (λ before t. t.at) 0 j (s ∷ [])

single_filter_map : {X Y : Type 0} (h : X → Option Y) (x : X) → filter_map h (x ∷ []) ≡ option_to_list (h x)
single_filter_map h x = elim (h x) as (λ o. cons_option o [] ≡ option_to_list o) [ None ↦ refl | Some y ↦ refl ]

pub people-nil : people [] ≡ []
unfolding people
people-nil = refl

pub channels-nil : channels [] ≡ []
unfolding channels
channels-nil = refl

pub messages-nil : messages [] ≡ []
unfolding messages occurrences
messages-nil = refl

pub deal_count-nil : deal_count [] ≡ 0
unfolding deal_count
deal_count-nil = refl

pub subscribed-nil : (u : UserId) (c : ChannelId) → subscribed [] u c ≡ false
unfolding subscribed occurrences
subscribed-nil u c = refl

pub groups-nil : groups [] ≡ []
unfolding groups
groups-nil = refl

pub is_member-nil : (g : GroupId) (u : UserId) → is_member [] g u ≡ false
unfolding is_member occurrences
is_member-nil g u = refl

pub is_deleted-nil : (m : MessageId) → is_deleted [] m ≡ false
unfolding is_deleted
is_deleted-nil m = refl

pub outbox-nil : outbox [] ≡ []
unfolding outbox occurrences
outbox-nil = refl

pub people-append : (j : List Stamped) (s : Stamped) → people (j ++ s ∷ []) ≡ people j ++ option_to_list (person_of s.event)
unfolding people
people-append j s = filter_map-append (λ t. person_of t.event) j (s ∷ []) ∙ ap (λ ps. filter_map (λ t. person_of t.event) j ++ ps) (single_filter_map (λ t. person_of t.event) s)

pub channels-append : (j : List Stamped) (s : Stamped) → channels (j ++ s ∷ []) ≡ channels j ++ option_to_list (channel_of s.event)
unfolding channels
channels-append j s = filter_map-append (λ t. channel_of t.event) j (s ∷ []) ∙ ap (λ ps. filter_map (λ t. channel_of t.event) j ++ ps) (single_filter_map (λ t. channel_of t.event) s)

pub groups-append : (j : List Stamped) (s : Stamped) → groups (j ++ s ∷ []) ≡ groups j ++ option_to_list (group_of s.event)
unfolding groups
groups-append j s = filter_map-append (λ t. group_of t.event) j (s ∷ []) ∙ ap (λ ps. filter_map (λ t. group_of t.event) j ++ ps) (single_filter_map (λ t. group_of t.event) s)

pub messages-append : (j : List Stamped) (s : Stamped) → messages (j ++ s ∷ []) ≡ messages j ++ option_to_list (message_of (occurrence j s))
unfolding messages
messages-append j s =
    ap (filter_map message_of) (occurrences-append j s) ∙ (filter_map-append message_of (occurrences j) (occurrence j s ∷ []) ∙ ap (λ ms. filter_map message_of (occurrences j) ++ ms) (single_filter_map message_of (occurrence j s)))

slice_get-append : {A : Type 0} (xs : List A) (o : Option A) (k : ℕ) → slice_get (xs ++ option_to_list o) k ≡ option_or (slice_get xs k) (cond (k == length xs) o None)
slice_get-append {A} [] None k = by (k == 0)
  where
    by : (b : Bool) → ◌≡◌ {A = Option A} None (cond b None None)
    by true = refl
    by false = refl
slice_get-append [] (Some x) zero = refl
slice_get-append [] (Some x) (suc k) = ap (λ b. cond b (Some x) None) (sym (later k))
  where
    later : (k : ℕ) → (suc k == 0) ≡ false
    later k = grind (arith, nat_tests)
slice_get-append (y ∷ xs) o zero = refl
slice_get-append (y ∷ xs) o (suc k) = slice_get-append xs o k ∙ ap (λ b. option_or (slice_get xs k) (cond b o None)) (one_less k (length xs))
  where
    one_less : (k n : ℕ) → (k == n) ≡ (suc k == suc n)
    one_less k n = grind (arith, nat_tests)

-- the one more is numbered behind the others
pub numbered-append : {A : Type 0} (n : ℕ) (xs : List A) (o : Option A) → numbered n (xs ++ option_to_list o) ≡ option_or (numbered n xs) (cond (n == length xs + 1) o None)
numbered-append zero xs o = ap (λ b. cond b o None) (sym (not_last (length xs)))
  where
    not_last : (n : ℕ) → (0 == n + 1) ≡ false
    not_last n = grind (arith, nat_tests)
numbered-append (suc k) xs o = slice_get-append xs o k ∙ ap (λ b. option_or (slice_get xs k) (cond b o None)) (one_less k (length xs))
  where
    one_less : (k n : ℕ) → (k == n) ≡ (suc k == n + 1)
    one_less k n = grind (arith, nat_tests)

-- a message that the event sends has the next number
pub message-append : (j : List Stamped) (s : Stamped) (m : MessageId) → message (j ++ s ∷ []) m ≡ option_or (message j m) (cond (m.0 == length (messages j) + 1) (message_of (occurrence j s)) None)
message-append j s m = ap (numbered m.0) (messages-append j s) ∙ numbered-append m.0 (messages j) (message_of (occurrence j s))

or_no_more : (a b : Bool) → (a || (b || false)) ≡ (a || b)
or_no_more true b = refl
or_no_more false true = refl
or_no_more false false = refl

pub is_deleted-append : (j : List Stamped) (s : Stamped) (m : MessageId) → is_deleted (j ++ s ∷ []) m ≡ (is_deleted j m || deletes m s.event)
unfolding is_deleted
is_deleted-append j s m = list_any-append (λ t. deletes m t.event) j (s ∷ []) ∙ or_no_more (list_any (λ t. deletes m t.event) j) (deletes m s.event)

-- the user read the message
abbrev pub was_read : List Stamped → UserId → MessageId → Bool
was_read j u m = list_any (λ s. reads u m s.event) j

pub was_read-append : (j : List Stamped) (s : Stamped) (u : UserId) (m : MessageId) → was_read (j ++ s ∷ []) u m ≡ (was_read j u m || reads u m s.event)
was_read-append j s u m = list_any-append (λ t. reads u m t.event) j (s ∷ []) ∙ or_no_more (was_read j u m) (reads u m s.event)

pub deal_count-append : (j : List Stamped) (s : Stamped) → deal_count (j ++ s ∷ []) ≡ deal_count j + cond (makes_deal s.event) 1 0
unfolding deal_count
deal_count-append j s = sum_by-append (λ t. cond (makes_deal t.event) 1 0) j (s ∷ []) ∙ ap (λ n. count_by (λ t. makes_deal t.event) j + n) (zero-add (cond (makes_deal s.event) 1 0))

pub subscribed-append : (j : List Stamped) (s : Stamped) (u : UserId) (c : ChannelId) → subscribed (j ++ s ∷ []) u c ≡ unwrap_or (subscription_change u c s.event) (subscribed j u c)
unfolding subscribed
subscribed-append j s u c = last_given-append (λ o. subscription_change u c o.event) false j s

pub is_member-append : (j : List Stamped) (s : Stamped) (g : GroupId) (u : UserId) → is_member (j ++ s ∷ []) g u ≡ unwrap_or (membership_change g u j s.event) (is_member j g u)
unfolding is_member
is_member-append j s g u = last_given-append (λ o. membership_change g u o.past o.event) false j s

pub notices-nil : notices [] ≡ []
unfolding notices occurrences
notices-nil = refl

pub notices-append : (j : List Stamped) (s : Stamped) → notices (j ++ s ∷ []) ≡ notices j ++ owed_by (occurrence j s)
unfolding notices
notices-append j s =
    ap (flat_map owed_by) (occurrences-append j s) ∙ (flat_map-append owed_by (occurrences j) (occurrence j s ∷ []) ∙ ap (λ ns. flat_map owed_by (occurrences j) ++ ns) (append-nil (owed_by (occurrence j s))))

pub outbox-append : (j : List Stamped) (s : Stamped) → outbox (j ++ s ∷ []) ≡ outbox j ++ entries_by j s.at s.event
unfolding outbox
outbox-append j s =
    ap (flat_map (λ o. entries_by o.past o.at o.event)) (occurrences-append j s) ∙ (flat_map-append (λ o. entries_by o.past o.at o.event) (occurrences j) (occurrence j s ∷ []) ∙ ap (λ es. flat_map (λ o. entries_by o.past o.at o.event) (occurrences j) ++ es) (append-nil (entries_by j s.at s.event)))
