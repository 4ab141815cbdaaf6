-- What look-ups in tables that stand for a journal give.
use Rattle.std.proofs.Common.{◌≡◌, ℕ, zero, suc, ◌+◌, Bool, ◌&&◌, ◌||◌, cond, List, [], ◌∷◌, length, refl, sym, ap, ◌∙◌}
use Rattle.std.specs.Prelude.{Option, Some, None, option_map, is_some, unwrap_or, filter, slice_get, count_by}
use Rattle.std.specs.Str.{str_eq_ignore_ascii_case}
use Rattle.std.specs.Option.{option_map_or}
use Rattle.std.specs.List.{list_all, list_any}
use Rattle.std.proofs.lemmas.List.{length-map}
use Rattle.chat_model.specs.declared.event.Stamped.{Stamped}
use Rattle.chat_model.specs.declared.ids.UserId.{UserId}
use Rattle.chat_model.specs.declared.ids.ChannelId.{ChannelId}
use Rattle.chat_model.specs.declared.ids.GroupId.{GroupId}
use Rattle.chat_model.specs.declared.mentions.UserName.{UserName}
use Rattle.chat_model.specs.declared.mentions.GroupName.{GroupName}
use Rattle.notice_ledger.specs.Past.Values.{numbered, Person, people, named_from, user_names, user_name, users, is_user, messages, deal_count, named_groups_from, groups, group_names, group_name, is_group, is_member, member_count, channels, subscribed, subscriber_count}
use Rattle.notice_ledger.specs.Past.Refusals.{is_taken}
use Rattle.chat_model.specs.declared.counts.Counts.{Counts}
use Rattle.notice_ledger.specs.Past.Audit.{counts_of, in_64_bits, owed_with, removals_waiting}
use Rattle.notice_ledger.specs.declared.accounts.Account.TheVariants.{LiveQueue}
use Rattle.notice_ledger.proofs.Sent.{deal_count-messages}
use Rattle.chat_model.specs.declared.row.Stage.{Stage}
use Rattle.chat_model.specs.declared.row.Stage.TheVariants as stage
use Rattle.notice_ledger.proofs.Sums.{sum_by_same}
use Rattle.book_tables.specs.declared.tables.Tables.{Tables}
use Rattle.book_tables.specs.UserSets.{has_in, size_in}
use Rattle.book_tables.specs.Tables.{Holds, message_kept}
use Rattle.book_tables.specs.Notices.{is_at_stage, is_barred}
use Rattle.book_tables.proofs.Kept.{account_at, holds-kept, stages-owed, cleared-owed, revoked-waits}
use Rattle.book_tables.proofs.SetSizes.{size_in-counted}

-- ---- lists

is_some-map : {A B : Type 0} (f : A → B) (o : Option A) → is_some (option_map f o) ≡ is_some o
is_some-map f None = refl
is_some-map f (Some x) = refl

or-map : {A B C : Type 0} (f : B → C) (g : A → B) (o : Option A) (d : C) → option_map_or f (option_map g o) d ≡ option_map_or (λ x. f (g x)) o d
or-map f g None d = refl
or-map f g (Some x) d = refl

unwrap-map : {A B : Type 0} (f : A → B) (o : Option A) (d : B) → unwrap_or (option_map f o) d ≡ option_map_or f o d
unwrap-map f None d = refl
unwrap-map f (Some x) d = refl

-- ---- users

name_at : (n : ℕ) (ps : List Person) (k : ℕ) → option_map (λ (u : UserName). u.name) (slice_get (named_from n ps) k) ≡ option_map (λ (p : Person). p.name) (slice_get ps k)
name_at n [] k = refl
name_at n (p ∷ ps) zero = refl
name_at n (p ∷ ps) (suc k) = name_at (n + 1) ps k

name_numbered : (j : List Stamped) (n : ℕ) → option_map (λ (u : UserName). u.name) (numbered n (user_names j)) ≡ option_map (λ (p : Person). p.name) (numbered n (people j))
name_numbered j zero = refl
name_numbered j (suc n) = name_at 1 (people j) n

-- ---- groups

group_at : (n : ℕ) (names : List (List ℕ)) (k : ℕ) → option_map (λ (g : GroupName). g.name) (slice_get (named_groups_from n names) k) ≡ slice_get names k
group_at n [] k = refl
group_at n (name ∷ names) zero = refl
group_at n (name ∷ names) (suc k) = group_at (n + 1) names k

group_numbered : (j : List Stamped) (n : ℕ) → option_map (λ (g : GroupName). g.name) (numbered n (group_names j)) ≡ numbered n (groups j)
group_numbered j zero = refl
group_numbered j (suc n) = group_at 1 (groups j) n

taken_from : (n : ℕ) (names : List (List ℕ)) (name : List ℕ) → list_any (λ (g : GroupName). str_eq_ignore_ascii_case name g.name) (named_groups_from n names) ≡ list_any (str_eq_ignore_ascii_case name) names
taken_from n [] name = refl
taken_from n (other ∷ names) name = ap (λ b. str_eq_ignore_ascii_case name other || b) (taken_from (n + 1) names name)

count_same : (p q : UserId → Bool) → ((u : UserId) → p u ≡ q u) → (us : List UserId) → count_by p us ≡ count_by q us
count_same p q same us = sum_by_same (λ u. cond (p u) 1 0) (λ u. cond (q u) 1 0) (λ u. ap (λ b. cond b 1 0) (same u)) us

-- the counts by what the tables keep
abbrev pub counted : Tables → Counts
counted t = record {
  flight = in_64_bits (length (filter (is_at_stage stage.Flight) t.waiting.items));
  held = in_64_bits (length (filter (is_at_stage stage.Held) t.waiting.items));
  ready = in_64_bits (length (filter (is_at_stage stage.Ready) t.waiting.items));
  handed = t.handed;
  read = t.read;
  deleted = t.gone;
  off = t.off;
  live = in_64_bits (length t.cleared.items);
  entries = in_64_bits (length t.outbox.items);
  waiting = in_64_bits (length (filter is_barred t.active.items));
  written = t.written;
}

module _ (t : Tables) (past : List Stamped) (holds : Holds t past) where
  pub user-there : (u : UserId) → is_some (numbered u.0 t.names.items) ≡ is_user past u
  user-there u =
      ap (λ ns. is_some (numbered u.0 ns)) holds.names
      ∙ (sym (is_some-map (λ (n : UserName). n.name) (numbered u.0 (user_names past))) ∙ (ap is_some (name_numbered past u.0) ∙ is_some-map (λ (p : Person). p.name) (numbered u.0 (people past))))

  pub group-there : (g : GroupId) → is_some (numbered g.0 t.groups.items) ≡ is_group past g
  group-there g =
      ap (λ gs. is_some (numbered g.0 gs)) holds.groups
      ∙ (sym (is_some-map (λ (n : GroupName). n.name) (numbered g.0 (group_names past))) ∙ ap is_some (group_numbered past g.0))

  pub name-there : (u : UserId) → option_map_or (λ (n : UserName). n.name) (numbered u.0 t.names.items) [] ≡ user_name past u
  name-there u =
      ap (λ ns. option_map_or (λ (n : UserName). n.name) (numbered u.0 ns) []) holds.names
      ∙ (sym (unwrap-map (λ (n : UserName). n.name) (numbered u.0 (user_names past)) []) ∙ (ap (λ o. unwrap_or o []) (name_numbered past u.0) ∙ unwrap-map (λ (p : Person). p.name) (numbered u.0 (people past)) []))

  pub group_name-there : (g : GroupId) → option_map_or (λ (n : GroupName). n.name) (numbered g.0 t.groups.items) [] ≡ group_name past g
  group_name-there g =
      ap (λ gs. option_map_or (λ (n : GroupName). n.name) (numbered g.0 gs) []) holds.groups
      ∙ (sym (unwrap-map (λ (n : GroupName). n.name) (numbered g.0 (group_names past)) []) ∙ ap (λ o. unwrap_or o []) (group_numbered past g.0))

  -- a group is as large as the journal says
  pub members-counted : (g : GroupId) → size_in t.members.items g.0 ≡ member_count past g
  unfolding member_count
  members-counted g =
      size_in-counted (length (groups past)) (length (people past)) t.members.items g.0 holds.member_sets
      ∙ count_same (λ u. has_in t.members.items g.0 u) (is_member past g) (holds.members g) (users past)

  -- and a channel
  pub subscribers-counted : (c : ChannelId) → size_in t.subscribers.items c.0 ≡ subscriber_count past c
  unfolding subscriber_count
  subscribers-counted c =
      size_in-counted (length (channels past)) (length (people past)) t.subscribers.items c.0 holds.subscriber_sets
      ∙ count_same (λ u. has_in t.subscribers.items c.0 u) (λ u. subscribed past u c) (holds.subscribers c) (users past)

  pub group-taken : (name : List ℕ) → list_any (λ (g : GroupName). str_eq_ignore_ascii_case name g.name) t.groups.items ≡ is_taken (groups past) name
  unfolding is_taken
  group-taken name = ap (list_any (λ (g : GroupName). str_eq_ignore_ascii_case name g.name)) holds.groups ∙ taken_from 1 (groups past) name

  pub channel-taken : (name : List ℕ) → list_any (str_eq_ignore_ascii_case name) t.channels.items ≡ is_taken (channels past) name
  unfolding is_taken
  channel-taken name = ap (list_any (str_eq_ignore_ascii_case name)) holds.channels

  pub users-there : (us : List UserId) → list_all (λ (u : UserId). is_some (numbered u.0 t.names.items)) us ≡ list_all (is_user past) us
  users-there [] = refl
  users-there (u ∷ us) = ap (λ b. b && list_all (λ (v : UserId). is_some (numbered v.0 t.names.items)) us) (user-there u) ∙ ap (λ b. is_user past u && b) (users-there us)

  pub some-member : (gs : List GroupId) (u : UserId) → list_any (λ (g : GroupId). has_in t.members.items g.0 u) gs ≡ list_any (λ g. is_member past g u) gs
  some-member [] u = refl
  some-member (g ∷ gs) u = ap (λ b. b || list_any (λ (h : GroupId). has_in t.members.items h.0 u) gs) (holds.members g u) ∙ ap (λ b. is_member past g u || b) (some-member gs u)

  -- how many notices wait at a stage
  pub stage-there : (g : Stage) → length (filter (is_at_stage g) t.waiting.items) ≡ owed_with past (account_at g)
  stage-there g = ap (λ ws. length (filter (is_at_stage g) ws)) (holds-kept t past holds) ∙ stages-owed g past

  -- how many a live queue cleared
  pub cleared-there : length t.cleared.items ≡ owed_with past LiveQueue
  cleared-there = ap length holds.cleared ∙ cleared-owed past

  -- how many revoked pushes have their removal waiting
  pub revoked-there : length (filter is_barred t.active.items) ≡ removals_waiting past
  revoked-there = ap (λ ws. length (filter is_barred ws)) holds.active ∙ revoked-waits past

  pub counts-there : counted t ≡ counts_of past
  counts-there = (λ i. record {
    flight = in_64_bits (stage-there stage.Flight i);
    held = in_64_bits (stage-there stage.Held i);
    ready = in_64_bits (stage-there stage.Ready i);
    handed = holds.handed i;
    read = holds.read i;
    deleted = holds.gone i;
    off = holds.off i;
    live = in_64_bits (cleared-there i);
    entries = in_64_bits (length (holds.outbox i));
    waiting = in_64_bits (revoked-there i);
    written = holds.written i;
  })

  -- ---- how many there are

  pub names_long : length t.names.items ≡ length (people past)
  names_long = ap length holds.names ∙ long 1 (people past)
    where
      long : (n : ℕ) (ps : List Person) → length (named_from n ps) ≡ length ps
      long n [] = refl
      long n (p ∷ ps) = ap suc (long (n + 1) ps)

  pub groups_long : length t.groups.items ≡ length (groups past)
  groups_long = ap length holds.groups ∙ long 1 (groups past)
    where
      long : (n : ℕ) (names : List (List ℕ)) → length (named_groups_from n names) ≡ length names
      long n [] = refl
      long n (name ∷ names) = ap suc (long (n + 1) names)

  pub messages_long : length t.messages.items ≡ length (messages past)
  messages_long = ap length holds.messages ∙ length-map (messages past) message_kept

  pub messages_dealt : length t.messages.items ≡ deal_count past
  messages_dealt = messages_long ∙ sym (deal_count-messages past)
