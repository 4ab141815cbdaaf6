-- What an effect has to make of each table: what the event makes of what the table holds. And what an event of another kind
-- leaves in each.
use Rattle.std.proofs.Common.{add-zero, ◌≡◌, ℕ, zero, suc, ◌+◌, ◌<◌, ◌≤◌, Bool, true, false, ◌&&◌, ◌==◌, ◌||◌, cond, not, List, [], ◌∷◌, ◌++◌, length, map, refl, sym, ap, ◌∙◌, subst, arith, ⊎_elim, length-append}
use Rattle.std.specs.Prelude.{sum_by, ◌-◌, ◌^◌, min, Option, Some, None, option_map, option_to_list, is_some, slice_get, unwrap_or, if◌then◌else◌}
use Rattle.std.specs.Option.{option_map_or}
use Rattle.std.specs.List.{AllByRecursion}
use Rattle.std.proofs.lemmas.List.{length-map, append-nil}
use Rattle.std.proofs.lemmas.Bool.Decides.{nat_tests, eqb_tells}
use Rattle.chat_model.specs.declared.event.Stamped.{Stamped}
use Rattle.chat_model.specs.declared.event.Event.{Event}
use Rattle.chat_model.specs.declared.event.Event.TheVariants.{Asked, PushTurn}
use Rattle.chat_model.specs.declared.request.Request.{Request}
use Rattle.chat_model.specs.declared.ids.DealNo.{DealNo}
use Rattle.chat_model.specs.Outcomes.{is_dealt}
use Rattle.std.proofs.Math.Bool.{and-false}
use Rattle.std.specs.List.{filter_map}
use Rattle.std.specs.FinMap as finite
use Rattle.std.specs.Ordering.{nat_cmp}
use Rattle.chat_model.specs.declared.ids.UserId.{UserId}
use Rattle.chat_model.specs.declared.ids.ChannelId.{ChannelId}
use Rattle.chat_model.specs.declared.ids.GroupId.{GroupId}
use Rattle.chat_model.specs.declared.ids.MessageId.{MessageId}
use Rattle.chat_model.specs.declared.push_item.PushItem.{PushItem}
use Rattle.chat_model.specs.declared.trigger.Way.TheVariants.{Push}
use Rattle.chat_model.specs.declared.deal.Deal.{Deal}
use Rattle.chat_model.specs.declared.entry.Entry.{Entry}
use Rattle.chat_model.specs.declared.mentions.UserName.{UserName}
use Rattle.chat_model.specs.declared.mentions.GroupName.{GroupName}
use Rattle.notice_ledger.specs.Past.Journal.{occurrence, absorbs}
use Rattle.chat_model.specs.declared.settings.Settings.{Settings}
use Rattle.chat_model.specs.Settings.{changed_settings}
use Rattle.notice_ledger.proofs.SettingLemmas.{settings-append}
use Rattle.notice_ledger.specs.Past.Values.{settings, numbered, Person, person_of, setting_change, specific_change, policy_change, mute_change, people, named_from, user_names, is_one_of, group_of, groups, named_groups_from, group_names, membership_change, is_member, channel_of, channels, message_of, messages, subscription_change, subscribed}
use Rattle.notice_ledger.specs.Past.Owed.{same_way, pushes_online, readies, clears, waiting, owed_by, account, is_handed}
use Rattle.notice_ledger.specs.Past.Pushes.{notify, by_user, is_push_turn, waiting_items}
use Rattle.notice_ledger.specs.Past.Deals.{deal_of, deals}
use Rattle.notice_ledger.specs.Past.Runs.{is_restart, start_count}
use Rattle.notice_ledger.specs.Past.Due.{batch_rows}
use Rattle.notice_ledger.specs.Past.Outbox.{outbox, entries_by}
use Rattle.notice_ledger.specs.Past.Audit.{in_64_bits}
use Rattle.notice_ledger.proofs.Audited.{handed_over, handed_over-append, item_count, switched_off, switched_off-append, is_turned}
use Rattle.notice_ledger.proofs.Lists.{filter_none}
use Rattle.notice_ledger.proofs.Appended.{people-append, groups-append, is_member-append, channels-append, messages-append, subscribed-append, outbox-append, last_stamp-append}
use Rattle.notice_ledger.proofs.Batches.{is_ready}
use Rattle.notice_ledger.proofs.PushItems.{items_added, items_by-last}
use Rattle.notice_ledger.proofs.PushesWait.{PushesWait, waiting_items-other}
use Rattle.notice_ledger.proofs.Turned.{IsTurnReady}
use Rattle.notice_ledger.proofs.DealLemmas.{deals-append, start_count-append}
use Rattle.book_tables.specs.declared.pushes.PushKey.{PushKey}
use Rattle.book_tables.specs.declared.tables.Message.{Message}
use Rattle.book_tables.specs.declared.tables.Waiting.{Waiting}
use Rattle.book_tables.specs.declared.tables.Tables.{Tables}
use Rattle.book_tables.specs.declared.prepared.Effect.{Effect}
use Rattle.book_tables.specs.UserSets.{users_in, users_after, changed_numbered, IsSet}
use Rattle.book_tables.specs.Preferences.{Preferred, preferred, preferred_in, preferred_by}
use Rattle.mail_batches.specs.Batches.{Waiting as Batches, Batch, due_of, rows_of}
use Rattle.book_tables.specs.Batched.{period_in, BatchesAfter}
use Rattle.book_tables.specs.Tables.{Holds, HoldBatches, message_kept, in_flight}
use Rattle.book_tables.specs.Pushes.{item_of, has_push}
use Rattle.book_tables.specs.Prepared.{items_made}
use Rattle.book_tables.specs.Applied.{starts_after, names_after, bots_after, preferences_after, groups_after, members_after, channels_after, subscribers_after, messages_after, waiting_after, cleared_after, items_after, active_after, addressees_after, deleted_after, deals_after, outbox_after, handed_after, off_after, read_after, gone_after, written_after, IsApplied}
use Rattle.book_tables.proofs.Numbered.{changed-long}
use Rattle.book_tables.proofs.BatchesAfter.{BatchesAgree, batches_left}
use Rattle.book_tables.proofs.Moves.{IsNoTurn, step, kept-append, never_turn, no_request, steps_left, bars_none}
use Rattle.book_tables.proofs.Kept.{all_kept, kept-stays, holds-kept}
use Rattle.book_tables.proofs.ClearedAfter.{all_cleared, cleared-left}
use Rattle.book_tables.proofs.ActivesAfter.{all_active, active-left}
use Rattle.book_tables.specs.Receipts.{is_marked}
use Rattle.std.specs.Option.{option_or}
use Rattle.std.proofs.lemmas.List.Sums.{length-filter}
use Rattle.chat_model.specs.declared.row.Cause.{Cause}
use Rattle.chat_model.specs.declared.row.Cause.TheVariants.{Read, Deleted, SwitchedOff}
use Rattle.notice_ledger.specs.declared.accounts.Account.TheVariants.{LiveQueue, Cancelled}
use Rattle.notice_ledger.specs.Past.Audit.{same_cause, same_account, owed_with, removals_written}
use Rattle.notice_ledger.specs.Past.Lawful.{may_stand}
use Rattle.notice_ledger.specs.Past.Owed.{Notice, notices, is_pending, account_of}
use Rattle.notice_ledger.specs.Past.Triggers.{goes_to}
use Rattle.notice_ledger.specs.Past.Values.{SentMessage, message, is_deleted, reads, deletes}
use Rattle.notice_ledger.proofs.ActiveAfter.{is_removal_of, no_removal}
use Rattle.notice_ledger.proofs.Appended.{message-append, is_deleted-append}
use Rattle.notice_ledger.proofs.Counted.{is_cancelled_now, owed_with-cancelled}
use Rattle.notice_ledger.proofs.PushItems.{items_added-none}
use Rattle.notice_ledger.proofs.RemovalCounts.{is_removed_by, removals_written-append, none-removed}
use Rattle.notice_ledger.proofs.Revoked.{removals_added, removals_added-none}
use Rattle.notice_ledger.proofs.Standing.{is_turn, is_barring, barring, barring-none}
use Rattle.book_tables.proofs.PreferenceLemmas.{at_number, preferred_in-list, preferred_by-left}
use Rattle.book_tables.proofs.UserSets.{is_in, has_in-sets, is_in-added, is_in-changed}
use Rattle.book_tables.proofs.SetSizes.{are_changed, are_user_sets}

pub named_from-append : (n : ℕ) (ps qs : List Person) → named_from n (ps ++ qs) ≡ named_from n ps ++ named_from (n + length ps) qs
named_from-append n [] qs = ap (λ k. named_from k qs) (omega arith)
named_from-append n (p ∷ ps) qs =
    let e : (n + 1) + length ps ≡ n + length (p ∷ ps) = omega arith in
    ap (λ ns. record { id = record { 0 = n }; name = p.name } ∷ ns) (named_from-append (n + 1) ps qs ∙ ap (λ k. named_from (n + 1) ps ++ named_from k qs) e)

pub and-swap : (a b : Bool) → (a && b) ≡ (b && a)
and-swap true true = refl
and-swap true false = refl
and-swap false true = refl
and-swap false false = refl

slice_get-there : {A : Type 0} (n : ℕ) (xs : List A) → n < length xs → is_some (slice_get xs n) ≡ true
slice_get-there n [] lt = absurd (omega arith)
slice_get-there zero (x ∷ xs) lt = refl
slice_get-there (suc n) (x ∷ xs) lt = slice_get-there n xs (omega arith)

pub numbered-there : {A : Type 0} (n : ℕ) (xs : List A) → 0 < n → n ≤ length xs → is_some (numbered n xs) ≡ true
numbered-there zero xs low high = absurd (omega arith)
numbered-there (suc n) xs low high = slice_get-there n xs (omega arith)

past_end : {A : Type 0} (xs : List A) → slice_get xs (length xs) ≡ None
past_end [] = refl
past_end (x ∷ xs) = past_end xs

-- nobody is in the set behind the last one
past_none : (sets : List (List UserId)) (u : UserId) → is_in sets (length sets + 1) u ≡ false
past_none sets u =
    let e : length sets + 1 ≡ suc (length sets) = omega arith in
    ap (λ n. is_in sets n u) e ∙ ap (λ o. option_map_or (λ (us : List UserId). is_one_of us u) o false) (past_end sets)

-- a set of nobody behind the last one has nobody
pub is_in-opened : (sets : List (List UserId)) (n : ℕ) (u : UserId) → is_in (sets ++ [] ∷ []) n u ≡ is_in sets n u
is_in-opened sets n u =
    is_in-added sets [] n u
    ∙ ⊎_elim
    (λ h. ap (λ b. cond b false (is_in sets n u)) h.0 ∙ sym (ap (λ m. is_in sets m u) (sym h.1) ∙ past_none sets u))
    (λ h. ap (λ b. cond b false (is_in sets n u)) h.0)
    (eqb_tells (length sets + 1) n)

pub named_groups_from-append : (n : ℕ) (xs ys : List (List ℕ)) → named_groups_from n (xs ++ ys) ≡ named_groups_from n xs ++ named_groups_from (n + length xs) ys
named_groups_from-append n [] ys = ap (λ k. named_groups_from k ys) (omega arith)
named_groups_from-append n (x ∷ xs) ys =
    let e : (n + 1) + length xs ≡ n + length (x ∷ xs) = omega arith in
    ap (λ ns. record { id = record { 0 = n }; name = x } ∷ ns) (named_groups_from-append (n + 1) xs ys ∙ ap (λ k. named_groups_from (n + 1) xs ++ named_groups_from k ys) e)

pub next_number : (n : ℕ) → 1 + n ≡ n + 1
next_number n = omega arith

pub one_longer : {A : Type 0} (xs : List A) (x : A) → length (xs ++ x ∷ []) ≡ length xs + 1
one_longer xs x = length-append xs (x ∷ [])

-- ---- what an effect has to make of each table: what the event makes of what the table holds

-- the sets that stand by the numbers of groups or channels: who is in each, how many there are, and of which users
pub record SetsAgree {K : Type 0} (number : K → ℕ) (has next : K → UserId → Bool) (many more n m : ℕ) (f : List (List UserId) → List (List UserId)) : Type 0 where
  pub found : (sets : List (List UserId)) → length sets ≡ many → ((k : K) (u : UserId) → is_in sets (number k) u ≡ has k u) → (k : K) (u : UserId) → is_in (f sets) (number k) u ≡ next k u
  pub count : (sets : List (List UserId)) → length sets ≡ many → length (f sets) ≡ more
  pub are : (sets : List (List UserId)) → AllByRecursion (IsSet n) sets → AllByRecursion (IsSet m) (f sets)

-- where the sets stay
sets_left : {K : Type 0} (number : K → ℕ) (has next : K → UserId → Bool) (many more n m : ℕ) (f : List (List UserId) → List (List UserId)) → ((sets : List (List UserId)) → f sets ≡ sets) → ((k : K) (u : UserId) → next k u ≡ has k u) → more ≡ many
    → ((sets : List (List UserId)) → AllByRecursion (IsSet n) sets → AllByRecursion (IsSet m) sets) → SetsAgree number has next many more n m f
sets_left number has next many more n m f same left as_many kept = record {
  found = λ sets long is k u. ap (λ x. is_in x (number k) u) (same sets) ∙ (is k u ∙ sym (left k u));
  count = λ sets long. ap length (same sets) ∙ (long ∙ sym as_many);
  are = λ sets all. subst (λ (x : List (List UserId)). AllByRecursion (IsSet m) x) (sym (same sets)) (kept sets all);
}

-- where a user comes into a set or goes
pub sets_changed : {K : Type 0} (number : K → ℕ) (has next : K → UserId → Bool) (many more n m : ℕ) (h : ℕ) (v : UserId) (on : Bool) → (0 < h) × (h ≤ many) → (0 < v.0) × (v.0 ≤ n)
    → ((k : K) (u : UserId) → next k u ≡ unwrap_or (if v.0 == u.0 && h == number k then Some on else None) (has k u)) → more ≡ many
    → ((sets : List (List UserId)) → AllByRecursion (IsSet n) sets → AllByRecursion (IsSet m) sets) → SetsAgree number has next many more n m (changed_numbered h (users_after v on))
sets_changed number has next many more n m h v on place user comes as_many kept = record {
  found = λ sets long is k u.
      is_in-changed sets v h on u (number k) (numbered-there h sets place.0 (omega (arith, place.1, long)))
      ∙ (ap (λ b. unwrap_or (if v.0 == u.0 && h == number k then Some on else None) b) (is k u) ∙ sym (comes k u));
  count = λ sets long. changed-long h (users_after v on) sets ∙ (long ∙ sym as_many);
  are = λ sets all. kept (changed_numbered h (users_after v on) sets) (are_changed n h sets v on all user.0 user.1);
}

-- users, which of them are bots, and what they prefer
pub record UsersAgree (j : List Stamped) (s : Stamped) (e : Effect) : Type 0 where
  pub named : user_names (j ++ s ∷ []) ≡ names_after e (user_names j)
  pub automatic : map (λ (p : Person). p.bot) (people (j ++ s ∷ [])) ≡ bots_after e (map (λ (p : Person). p.bot) (people j))
  pub prefer : (all : List Preferred) → length all ≡ length (people j) → ((u : UserId) → at_number all u.0 ≡ preferred_by j u) → (u : UserId) → at_number (preferences_after e all) u.0 ≡ preferred_by (j ++ s ∷ []) u
  pub count : (all : List Preferred) → length all ≡ length (people j) → length (preferences_after e all) ≡ length (people (j ++ s ∷ []))

-- what is kept of sets of users behind the event
abbrev pub KeepsSets : List Stamped → Stamped → Type 0
KeepsSets j s = (sets : List (List UserId)) → AllByRecursion (IsSet (length (people j))) sets → AllByRecursion (IsSet (length (people (j ++ s ∷ [])))) sets

pub record GroupsAgree (j : List Stamped) (s : Stamped) (e : Effect) : Type 0 where
  pub named : group_names (j ++ s ∷ []) ≡ groups_after e (group_names j)
  pub sets : SetsAgree (λ (g : GroupId). g.0) (λ g u. is_member j g u) (λ g u. is_member (j ++ s ∷ []) g u) (length (groups j)) (length (groups (j ++ s ∷ []))) (length (people j)) (length (people (j ++ s ∷ []))) (members_after e)

pub record ChannelsAgree (j : List Stamped) (s : Stamped) (e : Effect) : Type 0 where
  pub named : channels (j ++ s ∷ []) ≡ channels_after e (channels j)
  pub sets : SetsAgree (λ (c : ChannelId). c.0) (λ c u. subscribed j u c) (λ c u. subscribed (j ++ s ∷ []) u c) (length (channels j)) (length (channels (j ++ s ∷ []))) (length (people j)) (length (people (j ++ s ∷ []))) (subscribers_after e)

-- whether a message goes to a user, where there is the message
abbrev pub goes : List Stamped → MessageId → UserId → Bool
goes j m u = option_map_or (λ sent. goes_to sent.past sent.to u) (message j m) false

-- the messages, to whom each goes and which are deleted, and the deals
pub record MessagesAgree (j : List Stamped) (s : Stamped) (e : Effect) : Type 0 where
  pub sent : map message_kept (messages (j ++ s ∷ [])) ≡ messages_after e (map message_kept (messages j))
  pub addressed : (sets : List (List UserId)) → length sets ≡ length (messages j) → ((m : MessageId) (u : UserId) → is_in sets m.0 u ≡ goes j m u) → (m : MessageId) (u : UserId) → is_in (addressees_after e sets) m.0 u ≡ goes (j ++ s ∷ []) m u
  pub addressed_long : (sets : List (List UserId)) → length sets ≡ length (messages j) → length (addressees_after e sets) ≡ length (messages (j ++ s ∷ []))
  pub marked : (marks : List Bool) → length marks ≡ length (messages j) → ((m : MessageId) → is_marked marks m.0 ≡ is_deleted j m) → (m : MessageId) → is_marked (deleted_after e marks) m.0 ≡ is_deleted (j ++ s ∷ []) m
  pub marked_long : (marks : List Bool) → length marks ≡ length (messages j) → length (deleted_after e marks) ≡ length (messages (j ++ s ∷ []))
  pub dealt : deals (j ++ s ∷ []) ≡ deals_after e (deals j)

-- how many notices were cancelled for a cause
abbrev pub cancelled_for : Cause → List Stamped → ℕ
cancelled_for cause j = owed_with j (Cancelled cause)

-- what waits, what a live queue cleared, what was handed over, and how many were cancelled for which cause
pub record NoticesAgree (j : List Stamped) (s : Stamped) (e : Effect) : Type 0 where
  pub wait : all_kept (j ++ s ∷ []) ≡ waiting_after e (all_kept j)
  pub cleared : all_cleared (j ++ s ∷ []) ≡ cleared_after e (all_kept j) (all_cleared j)
  pub entries : outbox (j ++ s ∷ []) ≡ outbox_after e (outbox j)
  pub handed : in_64_bits (handed_over (j ++ s ∷ [])) ≡ handed_after e (in_64_bits (handed_over j))
  pub off : in_64_bits (switched_off (j ++ s ∷ [])) ≡ off_after e (in_64_bits (switched_off j))
  pub read : in_64_bits (cancelled_for Read (j ++ s ∷ [])) ≡ read_after e (in_64_bits (cancelled_for Read j))
  pub gone : in_64_bits (cancelled_for Deleted (j ++ s ∷ [])) ≡ gone_after e (in_64_bits (cancelled_for Deleted j))

-- the items that wait, the active pushes, and how many removals were written
pub record PushesAgree (j : List Stamped) (s : Stamped) (e : Effect) : Type 0 where
  pub items : waiting_items (j ++ s ∷ []) ≡ items_after e (waiting_items j)
  pub active : all_active (j ++ s ∷ []) ≡ active_after e (all_kept j) (all_active j)
  pub written : in_64_bits (removals_written (j ++ s ∷ [])) ≡ written_after e (all_active j) (in_64_bits (removals_written j))

-- the effect makes of all tables what the event makes of them
pub record Agrees (j : List Stamped) (s : Stamped) (e : Effect) : Type 0 where
  pub starts : in_64_bits (start_count (j ++ s ∷ [])) ≡ starts_after e (in_64_bits (start_count j))
  pub of_users : UsersAgree j s e
  pub of_groups : GroupsAgree j s e
  pub of_channels : ChannelsAgree j s e
  pub of_messages : MessagesAgree j s e
  pub of_notices : NoticesAgree j s e
  pub of_batches : BatchesAgree j s e
  pub of_pushes : PushesAgree j s e

-- tables to which such an effect was made stand for the journal with the event
pub agreed : (old new : Tables) (j : List Stamped) → Holds old j → (s : Stamped) (e : Effect) → Agrees j s e → IsApplied old new s.at e → new.last ≡ s.at → Holds new (j ++ s ∷ [])
agreed old new j stands s e agrees applied last =
    let kept_before = holds-kept old j stands in
    let kept : new.waiting.items ≡ all_kept (j ++ s ∷ []) = applied.waiting ∙ (ap (waiting_after e) kept_before ∙ sym agrees.of_notices.wait) in
    let preferred_so : (u : UserId) → preferred_in new.preferences.items u.0 ≡ preferred_by (j ++ s ∷ []) u =
    λ u.
    preferred_in-list new.preferences.items u.0
    ∙ (ap (λ ps. at_number ps u.0) applied.preferences
    ∙ agrees.of_users.prefer (map preferred old.preferences.items) (length-map old.preferences.items preferred ∙ stands.preferences_long) (λ v. sym (preferred_in-list old.preferences.items v.0) ∙ stands.preferences v) u) in
    let users = agrees.of_users in let members = agrees.of_groups.sets in let subscribers = agrees.of_channels.sets in
    let all = map preferred old.preferences.items in
    let in_groups = map users_in old.members.items in let in_channels = map users_in old.subscribers.items in
    let people_long : length all ≡ length (people j) = length-map old.preferences.items preferred ∙ stands.preferences_long in
    let groups_long : length in_groups ≡ length (groups j) = length-map old.members.items users_in ∙ stands.member_sets.count in
    let channels_long : length in_channels ≡ length (channels j) = length-map old.subscribers.items users_in ∙ stands.subscriber_sets.count in
    record {
      last = last ∙ sym (last_stamp-append j s);
      starts = applied.starts ∙ (ap (starts_after e) stands.starts ∙ sym agrees.starts);
      names = applied.names ∙ (ap (names_after e) stands.names ∙ sym users.named);
      bots = applied.bots ∙ (ap (bots_after e) stands.bots ∙ sym users.automatic);
      preferences = preferred_so;
      preferences_long = sym (length-map new.preferences.items preferred) ∙ (ap length applied.preferences ∙ users.count all people_long);
      members = λ g u.
          has_in-sets new.members.items g.0 u
          ∙ (ap (λ sets. is_in sets g.0 u) applied.members ∙ members.found in_groups groups_long (λ h v. sym (has_in-sets old.members.items h.0 v) ∙ stands.members h v) g u);
      member_sets = are_user_sets (length (groups (j ++ s ∷ []))) (length (people (j ++ s ∷ []))) new.members.items (members_after e in_groups) applied.members (members.count in_groups groups_long) (members.are in_groups stands.member_sets.sets);
      groups = applied.groups ∙ (ap (groups_after e) stands.groups ∙ sym agrees.of_groups.named);
      subscribers = λ c u.
          has_in-sets new.subscribers.items c.0 u
          ∙ (ap (λ sets. is_in sets c.0 u) applied.subscribers ∙ subscribers.found in_channels channels_long (λ d v. sym (has_in-sets old.subscribers.items d.0 v) ∙ stands.subscribers d v) c u);
      subscriber_sets = are_user_sets (length (channels (j ++ s ∷ []))) (length (people (j ++ s ∷ []))) new.subscribers.items (subscribers_after e in_channels) applied.subscribers (subscribers.count in_channels channels_long) (subscribers.are in_channels stands.subscriber_sets.sets);
      channels = applied.channels ∙ (ap (channels_after e) stands.channels ∙ sym agrees.of_channels.named);
      addressees = λ m u.
          has_in-sets new.addressees.items m.0 u
          ∙ (ap (λ sets. is_in sets m.0 u) applied.addressees
          ∙ agrees.of_messages.addressed (map users_in old.addressees.items) (length-map old.addressees.items users_in ∙ stands.addressees_long) (λ k v. sym (has_in-sets old.addressees.items k.0 v) ∙ stands.addressees k v) m u);
      addressees_long = sym (length-map new.addressees.items users_in) ∙ (ap length applied.addressees ∙ agrees.of_messages.addressed_long (map users_in old.addressees.items) (length-map old.addressees.items users_in ∙ stands.addressees_long));
      deleted = λ m. ap (λ marks. is_marked marks m.0) applied.deleted ∙ agrees.of_messages.marked old.deleted.items stands.deleted_long stands.deleted m;
      deleted_long = ap length applied.deleted ∙ agrees.of_messages.marked_long old.deleted.items stands.deleted_long;
      messages = applied.messages ∙ (ap (messages_after e) stands.messages ∙ sym agrees.of_messages.sent);
      waiting = kept ∙ kept-stays (j ++ s ∷ []);
      cleared = applied.cleared ∙ ((λ i. cleared_after e (kept_before i) (stands.cleared i)) ∙ sym agrees.of_notices.cleared);
      batches = agrees.of_batches.after (period_in old.preferences.items) (period_in new.preferences.items) new.waiting.items old.batches new.batches
          (λ u. ap (λ (p : Preferred). p.settings.period) (stands.preferences u)) (λ u. ap (λ (p : Preferred). p.settings.period) (preferred_so u)) kept stands.batches applied.batches;
      items = applied.items ∙ (ap (items_after e) stands.items ∙ sym agrees.of_pushes.items);
      active = applied.active ∙ ((λ i. active_after e (kept_before i) (stands.active i)) ∙ sym agrees.of_pushes.active);
      deals = applied.deals ∙ (ap (deals_after e) stands.deals ∙ sym agrees.of_messages.dealt);
      outbox = applied.outbox ∙ (ap (outbox_after e) stands.outbox ∙ sym agrees.of_notices.entries);
      handed = applied.handed ∙ (ap (handed_after e) stands.handed ∙ sym agrees.of_notices.handed);
      off = applied.off ∙ (ap (off_after e) stands.off ∙ sym agrees.of_notices.off);
      read = applied.read ∙ (ap (read_after e) stands.read ∙ sym agrees.of_notices.read);
      gone = applied.gone ∙ (ap (gone_after e) stands.gone ∙ sym agrees.of_notices.gone);
      written = applied.written ∙ ((λ i. written_after e (stands.active i) (stands.written i)) ∙ sym agrees.of_pushes.written);
    }

-- a count at the end of 64 bits stands still
pub or-false : (b : Bool) → (b || false) ≡ b
or-false true = refl
or-false false = refl

pub added : (n m : ℕ) → min (min n (2 ^ 64 - 1) + m) (2 ^ 64 - 1) ≡ min (n + m) (2 ^ 64 - 1)
added n m = omega arith

-- an event that is nothing to a notice that waits: no turn, and it makes none ready, clears none, absorbs no deal, and bars none
pub record IsCalm (s : Stamped) : Type 0 where
  pub other : is_push_turn s.event ≡ false
  pub never : IsNoTurn s.event
  pub not_ready : (u : UserId) (k : DealNo) (online : Bool) → readies u k online s.event ≡ false
  pub not_cleared : (u : UserId) (k : DealNo) → clears u k s.event ≡ false
  pub not_dealt : (k : DealNo) → absorbs (is_dealt k) s.event ≡ false
  pub no_read : (u : UserId) (m : MessageId) → reads u m s.event ≡ false
  pub no_deletion : (m : MessageId) → deletes m s.event ≡ false

-- an event that is no read and no deletion bars none
pub unbarring : (s : Stamped) → ((u : UserId) (m : MessageId) → reads u m s.event ≡ false) → ((m : MessageId) → deletes m s.event ≡ false) → (n : Notice) → is_barring s n ≡ false
unbarring s no_read no_deletion n = (λ i. no_read n.user n.number i || no_deletion n.number i)

-- an event that is no push turn is none of a notice that isn't ready
turn_other : (j : List Stamped) (e : Event) → is_push_turn e ≡ false → IsTurnReady j e
turn_other j (PushTurn i) other = absurd (cc)
turn_other j e other = tt

-- ---- what an event of another kind leaves

module _ (j : List Stamped) (s : Stamped) (e : Effect) where
  pub starts_left : is_restart s.event ≡ false → ((n : ℕ) → starts_after e n ≡ n) → in_64_bits (start_count (j ++ s ∷ [])) ≡ starts_after e (in_64_bits (start_count j))
  starts_left other same =
      ap in_64_bits (start_count-append j s ∙ (ap (λ b. start_count j + cond b 1 0) other ∙ add-zero (start_count j))) ∙ sym (same (in_64_bits (start_count j)))

  pub same_people : person_of s.event ≡ None → people (j ++ s ∷ []) ≡ people j
  same_people none = people-append j s ∙ (ap (λ o. people j ++ option_to_list o) none ∙ append-nil (people j))

  pub same_groups : group_of s.event ≡ None → groups (j ++ s ∷ []) ≡ groups j
  same_groups none = groups-append j s ∙ (ap (λ o. groups j ++ option_to_list o) none ∙ append-nil (groups j))

  pub same_channels : channel_of s.event ≡ None → channels (j ++ s ∷ []) ≡ channels j
  same_channels none = channels-append j s ∙ (ap (λ o. channels j ++ option_to_list o) none ∙ append-nil (channels j))

  pub users_left : person_of s.event ≡ None → ((u : UserId) → setting_change u s.event ≡ None) → ((u : UserId) (c : ChannelId) → specific_change u c s.event ≡ None) → ((u : UserId) (c : ChannelId) (topic : List ℕ) → policy_change u c topic s.event ≡ None) → ((u v : UserId) → mute_change u v s.event ≡ None)
      → ((ns : List UserName) → names_after e ns ≡ ns) → ((bs : List Bool) → bots_after e bs ≡ bs) → ((ps : List Preferred) → preferences_after e ps ≡ ps) → UsersAgree j s e
  users_left nobody no_setting no_specific no_policy no_mute same_names same_bots same_preferences =
      let bot : Person → Bool = λ p. p.bot in
      record {
        named = ap (named_from 1) (same_people nobody) ∙ sym (same_names (user_names j));
        automatic = ap (map bot) (same_people nobody) ∙ sym (same_bots (map bot (people j)));
        prefer = λ all long is u. ap (λ ps. at_number ps u.0) (same_preferences all) ∙ (is u ∙ sym (preferred_by-left j s u (no_setting u) (no_specific u) (no_policy u) (no_mute u)));
        count = λ all long. ap length (same_preferences all) ∙ (long ∙ ap length (sym (same_people nobody)));
      }

  -- sets of users stay sets of users where nobody comes
  pub still_sets : person_of s.event ≡ None → KeepsSets j s
  still_sets nobody sets all = subst (λ (ps : List Person). AllByRecursion (IsSet (length ps)) sets) (sym (same_people nobody)) all

  pub groups_left : group_of s.event ≡ None → ((g : GroupId) (u : UserId) → membership_change g u j s.event ≡ None) → KeepsSets j s
      → ((gs : List GroupName) → groups_after e gs ≡ gs) → ((sets : List (List UserId)) → members_after e sets ≡ sets) → GroupsAgree j s e
  groups_left no_group no_member kept same_names same_sets = record {
    named = ap (named_groups_from 1) (same_groups no_group) ∙ sym (same_names (group_names j));
    sets = sets_left (λ (g : GroupId). g.0) (λ g u. is_member j g u) (λ g u. is_member (j ++ s ∷ []) g u) (length (groups j)) (length (groups (j ++ s ∷ []))) (length (people j)) (length (people (j ++ s ∷ []))) (members_after e) same_sets
        (λ g u. is_member-append j s g u ∙ ap (λ o. unwrap_or o (is_member j g u)) (no_member g u)) (ap length (same_groups no_group)) kept;
  }

  pub channels_left : channel_of s.event ≡ None → ((u : UserId) (c : ChannelId) → subscription_change u c s.event ≡ None) → KeepsSets j s
      → ((cs : List (List ℕ)) → channels_after e cs ≡ cs) → ((sets : List (List UserId)) → subscribers_after e sets ≡ sets) → ChannelsAgree j s e
  channels_left no_channel no_subscription kept same_names same_sets = record {
    named = same_channels no_channel ∙ sym (same_names (channels j));
    sets = sets_left (λ (c : ChannelId). c.0) (λ c u. subscribed j u c) (λ c u. subscribed (j ++ s ∷ []) u c) (length (channels j)) (length (channels (j ++ s ∷ []))) (length (people j)) (length (people (j ++ s ∷ []))) (subscribers_after e) same_sets
        (λ c u. subscribed-append j s u c ∙ ap (λ o. unwrap_or o (subscribed j u c)) (no_subscription u c)) (ap length (same_channels no_channel)) kept;
  }

  pub same_messages : message_of (occurrence j s) ≡ None → messages (j ++ s ∷ []) ≡ messages j
  same_messages none = messages-append j s ∙ (ap (λ o. messages j ++ option_to_list o) none ∙ append-nil (messages j))

  pub messages_left : message_of (occurrence j s) ≡ None → ((ms : List Message) → messages_after e ms ≡ ms) → ((ds : List Deal) → deals_after e ds ≡ ds) → ((sets : List (List UserId)) → addressees_after e sets ≡ sets)
      → ((m : MessageId) → deletes m s.event ≡ false) → ((marks : List Bool) → deleted_after e marks ≡ marks) → MessagesAgree j s e
  messages_left none same_sent same_deals same_addressees no_deletion same_marks = record {
    sent = ap (map message_kept) (same_messages none) ∙ sym (same_sent (map message_kept (messages j)));
    addressed = λ sets long is m u. ap (λ all. is_in all m.0 u) (same_addressees sets) ∙ (is m u ∙ sym (ap (λ ms. option_map_or (λ (sent : SentMessage). goes_to sent.past sent.to u) (numbered m.0 ms) false) (same_messages none)));
    addressed_long = λ sets long. ap length (same_addressees sets) ∙ (long ∙ ap length (sym (same_messages none)));
    marked = λ marks long is m. ap (λ all. is_marked all m.0) (same_marks marks) ∙ (is m ∙ sym (is_deleted-append j s m ∙ (ap (λ b. is_deleted j m || b) (no_deletion m) ∙ or-false (is_deleted j m))));
    marked_long = λ marks long. ap length (same_marks marks) ∙ (long ∙ ap length (sym (same_messages none)));
    dealt = deals-append j s ∙ (ap (λ o. deals j ++ option_to_list (option_map (λ m. deal_of (occurrence j s)) o)) none ∙ (append-nil (deals j) ∙ sym (same_deals (deals j))));
  }

  -- nothing is handed over or switched off
  pub none_handed : is_push_turn s.event ≡ false → entries_by j s.at s.event ≡ [] → handed_over (j ++ s ∷ []) ≡ handed_over j
  none_handed other none =
      let all = handed_over-append j s (turn_other j s.event other) in
      let no_entry = ap (sum_by item_count) none in
      omega (arith, all, no_entry)

  pub none_off : is_push_turn s.event ≡ false → IsNoTurn s.event → entries_by j s.at s.event ≡ [] → switched_off (j ++ s ∷ []) ≡ switched_off j
  none_off other never none =
      let all = switched_off-append j s (turn_other j s.event other) in
      let no_entry = ap (sum_by item_count) none in
      let turned = ap length (filter_none (is_turned j s) (λ n. ap (λ b. is_ready j n && b) (never_turn s.event never n.user n.number n.way) ∙ and-false (is_ready j n)) (waiting j)) in
      omega (arith, all, no_entry, turned)

  -- nothing is cancelled for a cause of a bar
  pub none_cancelled : ((n : Notice) → is_barring s n ≡ false) → (cause : Cause) → same_cause SwitchedOff cause ≡ false → cancelled_for cause (j ++ s ∷ []) ≡ cancelled_for cause j
  none_cancelled not_barring cause other =
      let all = owed_with-cancelled j s cause other in
      let none = sym (length-filter (is_cancelled_now j s cause) (notices j)) ∙ ap length (filter_none (is_cancelled_now j s cause)
      (λ n. ap (λ (b : Option Cause). option_map_or (same_cause cause) b false && ((is_pending (account_of j n) && not (is_turn s n)) || same_account (account_of j n) LiveQueue)) (barring-none j s n (not_barring n))) (notices j)) in
      all ∙ (ap (λ k. cancelled_for cause j + k) none ∙ add-zero (cancelled_for cause j))

  -- what waits after an event that owes nothing
  pub all_moved : owed_by (occurrence j s) ≡ [] → all_kept (j ++ s ∷ []) ≡ filter_map (step s) (all_kept j)
  all_moved none = kept-append j s ∙ (ap (λ ns. filter_map (step s) (all_kept j) ++ map in_flight ns) none ∙ append-nil (filter_map (step s) (all_kept j)))

  -- an event that owes nothing, is no turn, clears nothing and bars nothing
  pub notices_moved : is_push_turn s.event ≡ false → IsNoTurn s.event → ((u : UserId) (k : DealNo) → clears u k s.event ≡ false) → ((n : Notice) → is_barring s n ≡ false) → owed_by (occurrence j s) ≡ [] → entries_by j s.at s.event ≡ []
      → ((ws : List Waiting) → waiting_after e ws ≡ filter_map (step s) ws) → ((es : List Entry) → outbox_after e es ≡ es) → ((n : ℕ) → handed_after e n ≡ n) → ((n : ℕ) → off_after e n ≡ n)
      → ((ws vs : List Waiting) → cleared_after e ws vs ≡ vs) → ((n : ℕ) → read_after e n ≡ n) → ((n : ℕ) → gone_after e n ≡ n) → NoticesAgree j s e
  notices_moved other never not_cleared not_barring none no_entry moved_so same_outbox same_handed same_off same_cleared same_read same_gone = record {
    wait = all_moved none ∙ sym (moved_so (all_kept j));
    cleared = cleared-left j s not_cleared not_barring ∙ sym (same_cleared (all_kept j) (all_cleared j));
    entries = outbox-append j s ∙ (ap (λ es. outbox j ++ es) no_entry ∙ (append-nil (outbox j) ∙ sym (same_outbox (outbox j))));
    handed = ap in_64_bits (none_handed other no_entry) ∙ sym (same_handed (in_64_bits (handed_over j)));
    off = ap in_64_bits (none_off other never no_entry) ∙ sym (same_off (in_64_bits (switched_off j)));
    read = ap in_64_bits (none_cancelled not_barring Read refl) ∙ sym (same_read (in_64_bits (cancelled_for Read j)));
    gone = ap in_64_bits (none_cancelled not_barring Deleted refl) ∙ sym (same_gone (in_64_bits (cancelled_for Deleted j)));
  }

  pub notices_left : IsCalm s → owed_by (occurrence j s) ≡ [] → entries_by j s.at s.event ≡ []
      → ((ws : List Waiting) → waiting_after e ws ≡ ws) → ((es : List Entry) → outbox_after e es ≡ es) → ((n : ℕ) → handed_after e n ≡ n) → ((n : ℕ) → off_after e n ≡ n)
      → ((ws vs : List Waiting) → cleared_after e ws vs ≡ vs) → ((n : ℕ) → read_after e n ≡ n) → ((n : ℕ) → gone_after e n ≡ n) → NoticesAgree j s e
  notices_left calm none no_entry same_waiting same_outbox same_handed same_off same_cleared same_read same_gone =
      notices_moved calm.other calm.never calm.not_cleared (unbarring s calm.no_read calm.no_deletion) none no_entry
      (λ ws. same_waiting ws ∙ sym (steps_left s calm.never (bars_none s calm.no_read calm.no_deletion) calm.not_ready calm.not_cleared calm.not_dealt ws)) same_outbox same_handed same_off same_cleared same_read same_gone

  -- no period changes
  pub same_period : ((u : UserId) → setting_change u s.event ≡ None) → (u : UserId) → (settings (j ++ s ∷ []) u).period ≡ (settings j u).period
  same_period no_setting u = ap (λ (p : Settings). p.period) (settings-append j s u ∙ ap (λ o. option_map_or (λ d. changed_settings d (settings j u)) o (settings j u)) (no_setting u))

  pub batches_calm : IsCalm s → ((u : UserId) → setting_change u s.event ≡ None) → ((p q : UserId → ℕ) (ws : List Waiting) (old new : Batches) → BatchesAfter p q ws s.at e old new → new ≡ old) → BatchesAgree j s e
  batches_calm calm no_setting stays = batches_left j s e calm.never.mail calm.not_ready (same_period no_setting) stays

-- a turn that isn't of a push writes no removal
pub none_written : (j : List Stamped) (s : Stamped) (waits : PushesWait j) → may_stand j s.at s.event ≡ true → ((u : UserId) (m : MessageId) → is_removal_of u m s.event ≡ false) → removals_written (j ++ s ∷ []) ≡ removals_written j
none_written j s waits may none =
    removals_written-append j s waits may ∙ (ap (λ k. removals_written j + k) (none-removed j s.event none) ∙ add-zero (removals_written j))

module _ (j : List Stamped) (s : Stamped) (e : Effect) (waits : PushesWait j) (may : may_stand j s.at s.event ≡ true) where
  -- an event that makes nothing ready and bars nothing makes no item
  pub none_added : ((u : UserId) (k : DealNo) (online : Bool) → readies u k online s.event ≡ false) → ((n : Notice) → is_barring s n ≡ false) → items_added j s ++ removals_added j s ≡ []
  none_added not_ready not_barring =
      (λ i. items_added-none j s (λ n. not_ready n.user n.deal (pushes_online n)) i ++ removals_added-none j s (λ n. barring-none j s n (not_barring n)) i)

  pub pushes_left : is_push_turn s.event ≡ false → ((u : UserId) (k : DealNo) (online : Bool) → readies u k online s.event ≡ false) → ((n : Notice) → is_barring s n ≡ false)
      → ((is : List PushItem) → items_after e is ≡ is) → ((ws vs : List Waiting) → active_after e ws vs ≡ vs) → ((vs : List Waiting) (n : ℕ) → written_after e vs n ≡ n) → PushesAgree j s e
  pushes_left other not_ready not_barring same_items same_active same_written = record {
    items = waiting_items-other j s waits other ∙ (ap (λ is. waiting_items j ++ is) (none_added not_ready not_barring) ∙ (append-nil (waiting_items j) ∙ sym (same_items (waiting_items j))));
    active = active-left j s waits may other not_barring ∙ sym (same_active (all_kept j) (all_active j));
    written = ap in_64_bits (none_written j s waits may (λ u m. no_removal u m s.event other)) ∙ sym (same_written (all_active j) (in_64_bits (removals_written j)));
  }

  -- an event that makes notices ready
  pub pushes_readied : is_push_turn s.event ≡ false → ((n : Notice) → is_barring s n ≡ false) → (pushes : List PushKey) → map item_of pushes ≡ items_made j s → ((is : List PushItem) → items_after e is ≡ is ++ map item_of pushes)
      → ((ws vs : List Waiting) → active_after e ws vs ≡ vs) → ((vs : List Waiting) (n : ℕ) → written_after e vs n ≡ n) → PushesAgree j s e
  pushes_readied other not_barring pushes fits more same_active same_written = record {
    items = waiting_items-other j s waits other ∙ (ap (λ is. waiting_items j ++ is) (sym (fits ∙ items_by-last j s)) ∙ sym (more (waiting_items j)));
    active = active-left j s waits may other not_barring ∙ sym (same_active (all_kept j) (all_active j));
    written = ap in_64_bits (none_written j s waits may (λ u m. no_removal u m s.event other)) ∙ sym (same_written (all_active j) (in_64_bits (removals_written j)));
  }

  pub pushes_calm : IsCalm s → ((is : List PushItem) → items_after e is ≡ is) → ((ws vs : List Waiting) → active_after e ws vs ≡ vs) → ((vs : List Waiting) (n : ℕ) → written_after e vs n ≡ n) → PushesAgree j s e
  pushes_calm calm same_items same_active same_written = pushes_left calm.other calm.not_ready (unbarring s calm.no_read calm.no_deletion) same_items same_active same_written

-- a request that is no read and no deletion is nothing to a notice that waits
pub calm_asked : (at : ℕ) (r : Request) → ((u : UserId) (m : MessageId) → reads u m (Asked r) ≡ false) → ((m : MessageId) → deletes m (Asked r) ≡ false) → IsCalm (record { at = at; event = Asked r })
calm_asked at r no_read no_deletion = record { other = refl; never = no_request r; not_ready = λ u k online. refl; not_cleared = λ u k. refl; not_dealt = λ k. refl; no_read = no_read; no_deletion = no_deletion }

-- a message behind the others
pub one_sent : (f : SentMessage → Bool) (ms : List SentMessage) (m : SentMessage) (n : ℕ) → option_map_or f (option_or (numbered n ms) (cond (n == length ms + 1) (Some m) None)) false ≡ cond (length ms + 1 == n) (f m) (option_map_or f (numbered n ms) false)
one_sent f ms m n = by (length ms + 1 == n) refl
  where
    turned : (a b : ℕ) → (a == b) ≡ (b == a)
    turned a b = grind (arith, nat_tests)

    is : (a b : ℕ) → (a == b) ≡ true → a ≡ b
    is a b h = grind (arith, nat_tests)

    none : (o : Option SentMessage) → option_or o None ≡ o
    none None = refl
    none (Some x) = refl

    past : (xs : List SentMessage) → slice_get xs (length xs) ≡ None
    past [] = refl
    past (x ∷ xs) = past xs

    next : (k : ℕ) → k + 1 ≡ suc k
    next k = omega arith

    by : (b : Bool) → (length ms + 1 == n) ≡ b → option_map_or f (option_or (numbered n ms) (cond (n == length ms + 1) (Some m) None)) false ≡ cond b (f m) (option_map_or f (numbered n ms) false)
    by true h =
        (λ i. option_map_or f (option_or (numbered n ms) (cond ((turned n (length ms + 1) ∙ h) i) (Some m) None)) false)
        ∙ ap (λ o. option_map_or f (option_or o (Some m)) false) (ap (λ k. numbered k ms) (sym (is (length ms + 1) n h) ∙ next (length ms)) ∙ past ms)
    by false h =
        (λ i. option_map_or f (option_or (numbered n ms) (cond ((turned n (length ms + 1) ∙ h) i) (Some m) None)) false)
        ∙ ap (λ o. option_map_or f o false) (none (numbered n ms))

-- whether two causes are the same, whichever is first
pub same_cause_swap : (a b : Cause) → same_cause a b ≡ same_cause b a
same_cause_swap Read Read = refl
same_cause_swap Read Deleted = refl
same_cause_swap Read SwitchedOff = refl
same_cause_swap Deleted Read = refl
same_cause_swap Deleted Deleted = refl
same_cause_swap Deleted SwitchedOff = refl
same_cause_swap SwitchedOff Read = refl
same_cause_swap SwitchedOff Deleted = refl
same_cause_swap SwitchedOff SwitchedOff = refl

-- a sum in 64 bits
pub both_counted : (n m : ℕ) → in_64_bits (n + m) ≡ min (in_64_bits n + in_64_bits m) (2 ^ 64 - 1)
both_counted n m = omega arith
