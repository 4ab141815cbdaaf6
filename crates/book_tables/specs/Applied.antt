-- What an effect leaves in the tables.
use Rattle.std.specs.Prelude.{◌≡◌, ◌≢◌, ℕ, ◌+◌, ◌-◌, ◌^◌, ◌≤◌, Bool, true, false, not, ◌&&◌, List, [], ◌∷◌, ◌++◌, Option, Some, None, length, filter, map, drop, min, option_to_list, if◌then◌else◌}
use Rattle.chat_model.specs.declared.entry.Entry.{Entry}
use Rattle.chat_model.specs.declared.deal.Deal.{Deal}
use Rattle.chat_model.specs.declared.ids.DealNo.{DealNo}
use Rattle.chat_model.specs.declared.ids.MessageId.{MessageId}
use Rattle.chat_model.specs.declared.ids.UserId.{UserId}
use Rattle.chat_model.specs.declared.mentions.UserName.{UserName}
use Rattle.chat_model.specs.declared.mentions.GroupName.{GroupName}
use Rattle.chat_model.specs.declared.push_item.PushItem.{PushItem}
use Rattle.chat_model.specs.declared.row.Cause.{Cause}
use Rattle.chat_model.specs.declared.row.Cause.TheVariants as causes
use Rattle.chat_model.specs.declared.trigger.Way.TheVariants as way
use Rattle.notice_ledger.specs.Past.Audit.{same_cause}
use Rattle.notice_ledger.specs.Limits.{longest_period}
use Rattle.book_tables.specs.declared.pushes.PushKey.{PushKey}
use Rattle.book_tables.specs.declared.tables.Message.{Message}
use Rattle.book_tables.specs.declared.tables.Waiting.{Waiting}
use Rattle.book_tables.specs.declared.tables.Tables.{Tables}
use Rattle.book_tables.specs.declared.prepared.Effect.{Effect}
use Rattle.book_tables.specs.declared.prepared.Effect.TheVariants as effect
use Rattle.book_tables.specs.UserSets.{users_in, users_after, changed_numbered}
use Rattle.book_tables.specs.Notices.{is_ready_mail_to, is_ready_of, is_undecided, is_named, of_deal, moved, put_all_in_order, readied, readied_if, dealt_to, IsInOrder}
use Rattle.book_tables.specs.declared.preferences.Preference.{Preference}
use Rattle.book_tables.specs.Preferences.{Preferred, preferred, preferred_in, default_preferred, preferred_after}
use Rattle.book_tables.specs.Pushes.{item_of}
use Rattle.book_tables.specs.Bars.{is_one_of_pairs, is_pushed_pair, is_removed, barred_where, revoked_where}
use Rattle.mail_batches.specs.Batches.{shifted, settled}
use Rattle.book_tables.specs.Batched.{BatchesAfter, period_in, WithNotices}

-- the number of starts after an effect
abbrev pub starts_after : Effect → ℕ → ℕ
starts_after (effect.Start pushes) starts = min (starts + 1) (2 ^ 64 - 1)
starts_after _ starts = starts

-- the named users after an effect
abbrev pub names_after : Effect → List UserName → List UserName
names_after (effect.User user bot) names = names ++ user ∷ []
names_after _ names = names

-- which users are bots after an effect
abbrev pub bots_after : Effect → List Bool → List Bool
bots_after (effect.User user bot) bots = bots ++ bot ∷ []
bots_after _ bots = bots

-- what users prefer after an effect
abbrev pub preferences_after : Effect → List Preferred → List Preferred
preferences_after (effect.User user bot) all = all ++ default_preferred ∷ []
preferences_after (effect.Preference user change) all = changed_numbered user.0 (preferred_after change) all
preferences_after _ all = all

-- the groups after an effect
abbrev pub groups_after : Effect → List GroupName → List GroupName
groups_after (effect.Group group members) groups = groups ++ group ∷ []
groups_after _ groups = groups

-- the members of the groups after an effect
abbrev pub members_after : Effect → List (List UserId) → List (List UserId)
members_after (effect.Group group members) all = all ++ users_in members ∷ []
members_after (effect.Membership group user on) all = changed_numbered group.0 (users_after user on) all
members_after _ all = all

-- the names of the channels after an effect
abbrev pub channels_after : Effect → List (List ℕ) → List (List ℕ)
channels_after (effect.Channel name) channels = channels ++ name ∷ []
channels_after _ channels = channels

-- the subscribers of the channels after an effect
abbrev pub subscribers_after : Effect → List (List UserId) → List (List UserId)
subscribers_after (effect.Channel name) all = all ++ [] ∷ []
subscribers_after (effect.Subscription channel user on) all = changed_numbered channel.0 (users_after user on) all
subscribers_after _ all = all

-- the messages after an effect
abbrev pub messages_after : Effect → List Message → List Message
messages_after (effect.Message message addressees waiting deal) messages = messages ++ message ∷ []
messages_after _ messages = messages

-- to whom messages go after an effect
abbrev pub addressees_after : Effect → List (List UserId) → List (List UserId)
addressees_after (effect.Message message addressees waiting deal) all = all ++ users_in addressees ∷ []
addressees_after _ all = all

-- which messages are deleted, where this one comes to be
abbrev pub deleted_with : Option MessageId → List Bool → List Bool
deleted_with (Some m) marks = changed_numbered m.0 (λ mark. true) marks
deleted_with None marks = marks

-- which messages are deleted after an effect
abbrev pub deleted_after : Effect → List Bool → List Bool
deleted_after (effect.Message message addressees waiting deal) marks = marks ++ false ∷ []
deleted_after (effect.Barred cause deleted pairs cancelled removals) marks = deleted_with deleted marks
deleted_after _ marks = marks

-- a user's undecided notices of these deals
abbrev pub is_cleared : UserId → List DealNo → Waiting → Bool
is_cleared user deals w = is_named user deals w && is_undecided w

-- the notices that wait after an effect
abbrev pub waiting_after : Effect → List Waiting → List Waiting
waiting_after (effect.Start pushes) waiting = map readied waiting
waiting_after (effect.Message message addressees new deal) waiting = waiting ++ new.items
waiting_after (effect.Dealt deal idle live pushes) waiting = map (λ w. if of_deal deal w then dealt_to (users_in idle) (users_in live) w else w) waiting
waiting_after (effect.Cleared user deals) waiting = filter (λ w. not (is_cleared user deals w)) waiting
waiting_after (effect.Missed user deals pushes) waiting = map (λ w. readied_if (is_named user deals w) w) waiting
waiting_after (effect.Mailed user entries handed off) waiting = filter (λ w. not (is_ready_mail_to user w)) waiting
waiting_after (effect.Pushed user message entry off) waiting = filter (λ w. not (is_ready_of user message way.Push w)) waiting
waiting_after (effect.Barred cause deleted pairs cancelled removals) waiting = barred_where (is_one_of_pairs pairs.items) cause waiting
waiting_after _ waiting = waiting

-- the push items that wait after an effect
abbrev pub items_after : Effect → List PushItem → List PushItem
items_after (effect.Start pushes) items = items ++ map item_of pushes.items
items_after (effect.Dealt deal idle live pushes) items = items ++ map item_of pushes.items
items_after (effect.Missed user deals pushes) items = items ++ map item_of pushes.items
items_after (effect.Pushed user message entry off) items = drop 1 items
items_after (effect.Barred cause deleted pairs cancelled removals) items = items ++ removals.items
items_after (effect.Removed user messages entry) items = drop 1 items
items_after _ items = items

-- the active pushes after an effect, with the notices that waited before it
abbrev pub active_after : Effect → List Waiting → List Waiting → List Waiting
active_after (effect.Pushed user message (Some entry) off) waiting active = put_all_in_order (filter (is_ready_of user message way.Push) waiting) active
active_after (effect.Barred cause deleted pairs cancelled removals) waiting active = revoked_where (is_pushed_pair pairs.items) cause active
active_after (effect.Removed user messages entry) waiting active = filter (λ w. not (is_removed user messages w)) active
active_after _ waiting active = active

-- the notices that a live queue cleared after an effect, with the notices that waited before it
abbrev pub cleared_after : Effect → List Waiting → List Waiting → List Waiting
cleared_after (effect.Cleared user deals) waiting cleared = put_all_in_order (map (moved false) (filter (is_cleared user deals) waiting)) cleared
cleared_after (effect.Barred cause deleted pairs cancelled removals) waiting cleared = filter (λ w. not (is_one_of_pairs pairs.items w)) cleared
cleared_after _ waiting cleared = cleared

-- the deals after an effect
abbrev pub deals_after : Effect → List Deal → List Deal
deals_after (effect.Message message addressees waiting deal) deals = deals ++ deal ∷ []
deals_after _ deals = deals

-- the outbox after an effect
abbrev pub outbox_after : Effect → List Entry → List Entry
outbox_after (effect.Mailed user entries handed off) outbox = outbox ++ entries.items
outbox_after (effect.Pushed user message entry off) outbox = outbox ++ option_to_list entry
outbox_after (effect.Removed user messages entry) outbox = outbox ++ entry ∷ []
outbox_after _ outbox = outbox

-- how many notices were handed over after an effect
abbrev pub handed_after : Effect → ℕ → ℕ
handed_after (effect.Mailed user entries handed off) before = min (before + handed) (2 ^ 64 - 1)
handed_after (effect.Pushed user message (Some entry) off) before = min (before + 1) (2 ^ 64 - 1)
handed_after _ before = before

-- the count of one cause, where so many more are cancelled for another, or for this one
abbrev pub counted_for : Cause → Cause → ℕ → ℕ → ℕ
counted_for cause counted more before = if same_cause cause counted then min (before + more) (2 ^ 64 - 1) else before

-- how many notices were switched off after an effect
abbrev pub off_after : Effect → ℕ → ℕ
off_after (effect.Mailed user entries handed off) before = min (before + off) (2 ^ 64 - 1)
off_after (effect.Pushed user message entry off) before = min (before + off) (2 ^ 64 - 1)
off_after (effect.Barred cause deleted pairs cancelled removals) before = counted_for cause causes.SwitchedOff cancelled before
off_after _ before = before

-- how many notices a read, and how many a deletion, cancelled after an effect
abbrev pub read_after : Effect → ℕ → ℕ
read_after (effect.Barred cause deleted pairs cancelled removals) before = counted_for cause causes.Read cancelled before
read_after _ before = before

abbrev pub gone_after : Effect → ℕ → ℕ
gone_after (effect.Barred cause deleted pairs cancelled removals) before = counted_for cause causes.Deleted cancelled before
gone_after _ before = before

-- how many revoked pushes have their removal written after an effect, with the pushes that were active before it
abbrev pub written_after : Effect → List Waiting → ℕ → ℕ
written_after (effect.Removed user messages entry) active before = min (before + length (filter (is_removed user messages) active)) (2 ^ 64 - 1)
written_after _ active before = before

-- after a change of what a user prefers the period isn't above the longest, and a push turn takes an item that waits
abbrev pub Fits : Tables → Effect → Type 0
Fits t (effect.Preference user change) = (preferred_after change (preferred_in t.preferences.items user.0)).settings.period ≤ longest_period
Fits t (effect.Pushed user message entry off) = t.pushes.items ≢ []
Fits t (effect.Removed user messages entry) = t.pushes.items ≢ []
Fits t _ = Unit {0}

-- the tables after an effect at a stamp, the last stamp aside; they held what events leave
pub record IsApplied (old new : Tables) (at : ℕ) (e : Effect) : Type 0 where
  pub starts : new.starts ≡ starts_after e old.starts
  pub names : new.names.items ≡ names_after e old.names.items
  pub bots : new.bots.items ≡ bots_after e old.bots.items
  pub preferences : map preferred new.preferences.items ≡ preferences_after e (map preferred old.preferences.items)
  pub groups : new.groups.items ≡ groups_after e old.groups.items
  pub members : map users_in new.members.items ≡ members_after e (map users_in old.members.items)
  pub channels : new.channels.items ≡ channels_after e old.channels.items
  pub subscribers : map users_in new.subscribers.items ≡ subscribers_after e (map users_in old.subscribers.items)
  pub messages : new.messages.items ≡ messages_after e old.messages.items
  pub addressees : map users_in new.addressees.items ≡ addressees_after e (map users_in old.addressees.items)
  pub deleted : new.deleted.items ≡ deleted_after e old.deleted.items
  pub waiting : new.waiting.items ≡ waiting_after e old.waiting.items
  pub cleared : new.cleared.items ≡ cleared_after e old.waiting.items old.cleared.items
  pub batches : BatchesAfter (period_in old.preferences.items) (period_in new.preferences.items) new.waiting.items at e old.batches new.batches
  pub items : new.pushes.items ≡ items_after e old.pushes.items
  pub active : new.active.items ≡ active_after e old.waiting.items old.active.items
  pub deals : new.deals.items ≡ deals_after e old.deals.items
  pub outbox : new.outbox.items ≡ outbox_after e old.outbox.items
  pub handed : new.handed ≡ handed_after e old.handed
  pub off : new.off ≡ off_after e old.off
  pub read : new.read ≡ read_after e old.read
  pub gone : new.gone ≡ gone_after e old.gone
  pub written : new.written ≡ written_after e old.active.items old.written

-- the tables after a user's undecided notices of these deals moved to those that a live queue cleared
pub record IsCleared (old new : Tables) (user : UserId) (deals : List DealNo) : Type 0 where
  pub rest : new ≡ record old { waiting = new.waiting; cleared = new.cleared }
  pub waiting : IsInOrder old.waiting.items → new.waiting.items ≡ filter (λ w. not (is_cleared user deals w)) old.waiting.items
  pub cleared : IsInOrder old.waiting.items → IsInOrder old.cleared.items → new.cleared.items ≡ cleared_after (effect.Cleared user deals) old.waiting.items old.cleared.items

-- the tables after a user's preference was changed
pub record IsChanged (old new : Tables) (user : UserId) (change : Preference) : Type 0 where
  pub rest : new ≡ record old { preferences = new.preferences; batches = new.batches }
  pub preferences : map preferred new.preferences.items ≡ changed_numbered user.0 (preferred_after change) (map preferred old.preferences.items)
  pub batches : new.batches ≡ shifted old.batches user (period_in old.preferences.items user) (period_in new.preferences.items user)

-- the tables after a user's batch rows were taken out
pub record IsSettled (old new : Tables) (user : UserId) : Type 0 where
  pub rest : WithNotices old new
  pub waiting : new.waiting.items ≡ filter (λ w. not (is_ready_mail_to user w)) old.waiting.items
  pub batches : new.batches ≡ settled old.batches user

-- the tables after the turn of the item that waited longest
pub record HadTurn (old new : Tables) (user : UserId) (message : MessageId) (entry : Option Entry) (switched : ℕ) : Type 0 where
  pub rest : new ≡ record old { waiting = new.waiting; pushes = new.pushes; active = new.active; outbox = new.outbox; handed = new.handed; off = new.off }
  pub waiting : new.waiting.items ≡ waiting_after (effect.Pushed user message entry switched) old.waiting.items
  pub items : new.pushes.items ≡ drop 1 old.pushes.items
  pub active : new.active.items ≡ active_after (effect.Pushed user message entry switched) old.waiting.items old.active.items
  pub outbox : new.outbox.items ≡ old.outbox.items ++ option_to_list entry
  pub handed : new.handed ≡ handed_after (effect.Pushed user message entry switched) old.handed
  pub off : new.off ≡ off_after (effect.Pushed user message entry switched) old.off

-- the tables after the turn of a removal, which waited longest
pub record HadRemoval (old new : Tables) (user : UserId) (messages : List MessageId) (entry : Entry) : Type 0 where
  pub rest : new ≡ record old { pushes = new.pushes; active = new.active; outbox = new.outbox; written = new.written }
  pub items : new.pushes.items ≡ drop 1 old.pushes.items
  pub active : new.active.items ≡ active_after (effect.Removed user messages entry) old.waiting.items old.active.items
  pub outbox : new.outbox.items ≡ old.outbox.items ++ entry ∷ []
  pub written : new.written ≡ written_after (effect.Removed user messages entry) old.active.items old.written

-- the tables after the notices of these pairs were barred for a cause and this message, if there is one, came to be deleted
pub record AreBarred (old new : Tables) (cause : Cause) (deleted : Option MessageId) (pairs : List PushKey) : Type 0 where
  pub rest : new ≡ record old { deleted = new.deleted; waiting = new.waiting; cleared = new.cleared; active = new.active }
  pub marks : new.deleted.items ≡ deleted_with deleted old.deleted.items
  pub waiting : new.waiting.items ≡ barred_where (is_one_of_pairs pairs) cause old.waiting.items
  pub cleared : new.cleared.items ≡ filter (λ w. not (is_one_of_pairs pairs w)) old.cleared.items
  pub active : new.active.items ≡ revoked_where (is_pushed_pair pairs) cause old.active.items

-- the tables hold the same
pub record HoldTheSame (old new : Tables) : Type 0 where
  pub last : new.last ≡ old.last
  pub starts : new.starts ≡ old.starts
  pub names : new.names.items ≡ old.names.items
  pub bots : new.bots.items ≡ old.bots.items
  pub preferences : map preferred new.preferences.items ≡ map preferred old.preferences.items
  pub groups : new.groups.items ≡ old.groups.items
  pub members : map users_in new.members.items ≡ map users_in old.members.items
  pub channels : new.channels.items ≡ old.channels.items
  pub subscribers : map users_in new.subscribers.items ≡ map users_in old.subscribers.items
  pub messages : new.messages.items ≡ old.messages.items
  pub addressees : map users_in new.addressees.items ≡ map users_in old.addressees.items
  pub deleted : new.deleted.items ≡ old.deleted.items
  pub waiting : new.waiting.items ≡ old.waiting.items
  pub cleared : new.cleared.items ≡ old.cleared.items
  pub batches : new.batches.batches ≡ old.batches.batches
  pub items : new.pushes.items ≡ old.pushes.items
  pub active : new.active.items ≡ old.active.items
  pub deals : new.deals.items ≡ old.deals.items
  pub outbox : new.outbox.items ≡ old.outbox.items
  pub handed : new.handed ≡ old.handed
  pub off : new.off ≡ old.off
  pub read : new.read ≡ old.read
  pub gone : new.gone ≡ old.gone
  pub written : new.written ≡ old.written
