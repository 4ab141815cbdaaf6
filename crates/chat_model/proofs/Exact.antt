-- `==` tells whether two values are the same.
use Rattle.std.proofs.Common.{◌≡◌, ◌↔◌, IsTrue, ℕ, Bool, true, false, ◌&&◌, List, refl, sym, ap, ◌∙◌, subst, arith}
use Rattle.std.specs.Prelude.{nat_eq}
use Rattle.std.specs.Bool.{Decides}
use Rattle.std.specs.Cmp.Lexicographic.{pointwise}
use Rattle.std.specs.contracts.prelude.BoolPartialEq.TheImpl as bool_eq
use Rattle.std.proofs.lemmas.Bool.{and_parts, and_from, eqb-true, eq-eqb}
use Rattle.std.proofs.lemmas.Grind.{common_steps}
use Rattle.std.proofs.lemmas.Slice.Eq.{bytes_eq-Decides, slice_eq-Decides}
use Rattle.chat_model.specs.declared.ids.UserId.{UserId}
use Rattle.chat_model.specs.declared.settings.Settings.{Settings}
use Rattle.chat_model.specs.declared.mentions.UserName.{UserName}
use Rattle.chat_model.specs.declared.mentions.GroupName.{GroupName}
use Rattle.chat_model.specs.declared.request.Request.{Request}
use Rattle.chat_model.specs.declared.request.Request.TheVariants.{AddUser, AddGroup, Member, AddChannel, Subscribe, Set, SetChannel, SetPolicy, Mute, Send, Direct, Delete, Read}
use Rattle.chat_model.specs.declared.settings.SettingChange.{SettingChange}
use Rattle.chat_model.specs.declared.settings.SettingChange.TheVariants.{MailMentions, PushMentions, PushOnline, ChannelMail, ChannelPush, Wildcards, FollowedMail, FollowedPush, FollowedWildcards, Period}
use Rattle.chat_model.specs.declared.policy.SpecificChange.{SpecificChange}
use Rattle.chat_model.specs.declared.policy.SpecificChange.TheVariants as specific
use Rattle.chat_model.specs.declared.ids.DealNo.{DealNo}
use Rattle.chat_model.specs.declared.deal.UserVerdict.{UserVerdict}
use Rattle.chat_model.specs.declared.deal.Outcome.{Outcome}
use Rattle.chat_model.specs.declared.deal.Outcome.TheVariants.{Dealt, Cleared, Missed}
use Rattle.chat_model.specs.declared.event.Event.{Event}
use Rattle.chat_model.specs.declared.event.Event.TheVariants.{Restart, Asked, Absorbed, MailTurn, PushTurn}
use Rattle.chat_model.specs.declared.event.Stamped.{Stamped}
use Rattle.chat_model.specs.declared.entry.Item.{Item}
use Rattle.chat_model.specs.declared.entry.Conversation.{Conversation}
use Rattle.chat_model.specs.declared.entry.Conversation.TheVariants as conversation
use Rattle.chat_model.specs.declared.entry.Entry.{Entry}
use Rattle.chat_model.specs.declared.entry.Entry.TheVariants as entry
use Rattle.chat_model.specs.declared.ids.MessageId.{MessageId}
use Rattle.chat_model.specs.declared.push_item.PushItem.{PushItem}
use Rattle.chat_model.specs.declared.push_item.PushItem.TheVariants as push
use Rattle.chat_model.specs.declared.row.Row.{Row}
use Rattle.chat_model.specs.declared.row.Row.TheVariants as row
use Rattle.chat_model.specs.declared.row.RowKey.{RowKey}
use Rattle.chat_model.specs.declared.row.RowKey.TheVariants as key
use Rattle.chat_model.specs.declared.row.RowChange.{RowChange}
use Rattle.chat_model.specs.declared.row.RowChange.TheVariants.{Put, Remove}
use Rattle.chat_model.specs.contracts.text.TextPartialEq.TheImpl as text_eq
use Rattle.chat_model.specs.contracts.ids.UserIdPartialEq.TheImpl as user_eq
use Rattle.chat_model.specs.contracts.settings.SettingsPartialEq.TheImpl as settings_eq
use Rattle.chat_model.specs.contracts.settings.SettingChangePartialEq.TheImpl as setting_change_eq
use Rattle.chat_model.specs.contracts.policy.SpecificChangePartialEq.TheImpl as specific_change_eq
use Rattle.chat_model.specs.contracts.mentions.UserNamePartialEq.TheImpl as user_name_eq
use Rattle.chat_model.specs.contracts.mentions.GroupNamePartialEq.TheImpl as group_name_eq
use Rattle.chat_model.specs.contracts.request.RequestPartialEq.TheImpl as request_eq
use Rattle.chat_model.specs.contracts.ids.DealNoPartialEq.TheImpl as deal_no_eq
use Rattle.chat_model.specs.contracts.ids.MessageIdPartialEq.TheImpl as message_eq
use Rattle.chat_model.specs.contracts.push_item.PushItemPartialEq.TheImpl as push_item_eq
use Rattle.chat_model.specs.contracts.deal.UserVerdictPartialEq.TheImpl as user_verdict_eq
use Rattle.chat_model.specs.contracts.deal.OutcomePartialEq.TheImpl as outcome_eq
use Rattle.chat_model.specs.contracts.event.EventPartialEq.TheImpl as event_eq
use Rattle.chat_model.specs.contracts.event.StampedPartialEq.TheImpl as stamped_eq
use Rattle.chat_model.specs.contracts.entry.ItemPartialEq.TheImpl as item_eq
use Rattle.chat_model.specs.contracts.entry.ConversationPartialEq.TheImpl as conversation_eq
use Rattle.chat_model.specs.contracts.entry.EntryPartialEq.TheImpl as entry_eq
use Rattle.chat_model.specs.contracts.row.RowPartialEq.TheImpl as row_eq
use Rattle.chat_model.specs.contracts.row.RowKeyPartialEq.TheImpl as row_key_eq
use Rattle.chat_model.specs.contracts.row.RowChangePartialEq.TheImpl as row_change_eq

pub text_exact : (a b : List ℕ) → Decides ((text_eq.ghosts).eq a b) (a ≡ b)
text_exact a b = bytes_eq-Decides a b

user_exact : (a b : UserId) → Decides ((user_eq.ghosts).eq a b) (a ≡ b)
user_exact a b = (λ h. grind (arith, common_steps), λ h. grind (arith, common_steps))

users_exact : (a b : List UserId) → Decides (pointwise (user_eq.ghosts).eq a b) (a ≡ b)
users_exact a b = slice_eq-Decides user_exact a b (pointwise (user_eq.ghosts).eq a b) refl

bool_exact : (a b : Bool) → (bool_eq.ghosts).eq a b ≡ true → a ≡ b
bool_exact a b h = grind (arith, common_steps)

bool_itself : (b : Bool) → (bool_eq.ghosts).eq b b ≡ true
bool_itself true = refl
bool_itself false = refl

-- what `==` of settings tests from each field on
abbrev from_period : Settings → Settings → Bool
from_period a b = nat_eq a.period b.period

abbrev from_followed_wildcards : Settings → Settings → Bool
from_followed_wildcards a b = (bool_eq.ghosts).eq a.followed_wildcards b.followed_wildcards && from_period a b

abbrev from_followed_push : Settings → Settings → Bool
from_followed_push a b = (bool_eq.ghosts).eq a.followed_push b.followed_push && from_followed_wildcards a b

abbrev from_followed_mail : Settings → Settings → Bool
from_followed_mail a b = (bool_eq.ghosts).eq a.followed_mail b.followed_mail && from_followed_push a b

abbrev from_wildcards : Settings → Settings → Bool
from_wildcards a b = (bool_eq.ghosts).eq a.wildcards b.wildcards && from_followed_mail a b

abbrev from_channel_push : Settings → Settings → Bool
from_channel_push a b = (bool_eq.ghosts).eq a.channel_push b.channel_push && from_wildcards a b

abbrev from_channel_mail : Settings → Settings → Bool
from_channel_mail a b = (bool_eq.ghosts).eq a.channel_mail b.channel_mail && from_channel_push a b

abbrev from_push_online : Settings → Settings → Bool
from_push_online a b = (bool_eq.ghosts).eq a.push_online b.push_online && from_channel_mail a b

abbrev from_push_mentions : Settings → Settings → Bool
from_push_mentions a b = (bool_eq.ghosts).eq a.push_mentions b.push_mentions && from_push_online a b

settings_same : (a b : Settings) → (settings_eq.ghosts).eq a b ≡ true → a ≡ b
settings_same a b h0 =
    let h1 = and_parts ((bool_eq.ghosts).eq a.mail_mentions b.mail_mentions) (from_push_mentions a b) h0 in
    let e1 = bool_exact a.mail_mentions b.mail_mentions h1.0 in
    let h2 = and_parts ((bool_eq.ghosts).eq a.push_mentions b.push_mentions) (from_push_online a b) h1.1 in
    let e2 = bool_exact a.push_mentions b.push_mentions h2.0 in
    let h3 = and_parts ((bool_eq.ghosts).eq a.push_online b.push_online) (from_channel_mail a b) h2.1 in
    let e3 = bool_exact a.push_online b.push_online h3.0 in
    let h4 = and_parts ((bool_eq.ghosts).eq a.channel_mail b.channel_mail) (from_channel_push a b) h3.1 in
    let e4 = bool_exact a.channel_mail b.channel_mail h4.0 in
    let h5 = and_parts ((bool_eq.ghosts).eq a.channel_push b.channel_push) (from_wildcards a b) h4.1 in
    let e5 = bool_exact a.channel_push b.channel_push h5.0 in
    let h6 = and_parts ((bool_eq.ghosts).eq a.wildcards b.wildcards) (from_followed_mail a b) h5.1 in
    let e6 = bool_exact a.wildcards b.wildcards h6.0 in
    let h7 = and_parts ((bool_eq.ghosts).eq a.followed_mail b.followed_mail) (from_followed_push a b) h6.1 in
    let e7 = bool_exact a.followed_mail b.followed_mail h7.0 in
    let h8 = and_parts ((bool_eq.ghosts).eq a.followed_push b.followed_push) (from_followed_wildcards a b) h7.1 in
    let e8 = bool_exact a.followed_push b.followed_push h8.0 in
    let h9 = and_parts ((bool_eq.ghosts).eq a.followed_wildcards b.followed_wildcards) (from_period a b) h8.1 in
    let e9 = bool_exact a.followed_wildcards b.followed_wildcards h9.0 in
    let e10 = eqb-true a.period b.period h9.1 in
    (λ n. record { mail_mentions = e1 n; push_mentions = e2 n; push_online = e3 n; channel_mail = e4 n; channel_push = e5 n; wildcards = e6 n; followed_mail = e7 n; followed_push = e8 n; followed_wildcards = e9 n; period = e10 n })

settings_itself : (s : Settings) → (settings_eq.ghosts).eq s s ≡ true
settings_itself s =
    and_from ((bool_eq.ghosts).eq s.mail_mentions s.mail_mentions) (from_push_mentions s s) (bool_itself s.mail_mentions)
    (and_from ((bool_eq.ghosts).eq s.push_mentions s.push_mentions) (from_push_online s s) (bool_itself s.push_mentions)
    (and_from ((bool_eq.ghosts).eq s.push_online s.push_online) (from_channel_mail s s) (bool_itself s.push_online)
    (and_from ((bool_eq.ghosts).eq s.channel_mail s.channel_mail) (from_channel_push s s) (bool_itself s.channel_mail)
    (and_from ((bool_eq.ghosts).eq s.channel_push s.channel_push) (from_wildcards s s) (bool_itself s.channel_push)
    (and_from ((bool_eq.ghosts).eq s.wildcards s.wildcards) (from_followed_mail s s) (bool_itself s.wildcards)
    (and_from ((bool_eq.ghosts).eq s.followed_mail s.followed_mail) (from_followed_push s s) (bool_itself s.followed_mail)
    (and_from ((bool_eq.ghosts).eq s.followed_push s.followed_push) (from_followed_wildcards s s) (bool_itself s.followed_push)
    (and_from ((bool_eq.ghosts).eq s.followed_wildcards s.followed_wildcards) (from_period s s) (bool_itself s.followed_wildcards)
    (eq-eqb s.period s.period refl)))))))))

pub settings_exact : (a b : Settings) → Decides ((settings_eq.ghosts).eq a b) (a ≡ b)
settings_exact a b = (settings_same a b, λ h. subst (λ x. (settings_eq.ghosts).eq a x ≡ true) h (settings_itself a))

pub user_name_exact : (a b : UserName) → Decides ((user_name_eq.ghosts).eq a b) (a ≡ b)
user_name_exact a b = (λ h. grind (arith, common_steps, text_exact), λ h. grind (arith, common_steps, text_exact))

pub group_name_exact : (a b : GroupName) → Decides ((group_name_eq.ghosts).eq a b) (a ≡ b)
group_name_exact a b = (λ h. grind (arith, common_steps, text_exact), λ h. grind (arith, common_steps, text_exact))

setting_change_exact : (a b : SettingChange) → Decides ((setting_change_eq.ghosts).eq a b) (a ≡ b)
setting_change_exact (MailMentions on) (MailMentions on') = (λ h. grind (arith, common_steps), λ h. grind (arith, common_steps))
setting_change_exact (PushMentions on) (PushMentions on') = (λ h. grind (arith, common_steps), λ h. grind (arith, common_steps))
setting_change_exact (PushOnline on) (PushOnline on') = (λ h. grind (arith, common_steps), λ h. grind (arith, common_steps))
setting_change_exact (ChannelMail on) (ChannelMail on') = (λ h. grind (arith, common_steps), λ h. grind (arith, common_steps))
setting_change_exact (ChannelPush on) (ChannelPush on') = (λ h. grind (arith, common_steps), λ h. grind (arith, common_steps))
setting_change_exact (Wildcards on) (Wildcards on') = (λ h. grind (arith, common_steps), λ h. grind (arith, common_steps))
setting_change_exact (FollowedMail on) (FollowedMail on') = (λ h. grind (arith, common_steps), λ h. grind (arith, common_steps))
setting_change_exact (FollowedPush on) (FollowedPush on') = (λ h. grind (arith, common_steps), λ h. grind (arith, common_steps))
setting_change_exact (FollowedWildcards on) (FollowedWildcards on') = (λ h. grind (arith, common_steps), λ h. grind (arith, common_steps))
setting_change_exact (Period n) (Period m) = (λ h. grind (arith, common_steps), λ h. grind (arith, common_steps))
setting_change_exact _ _ = (λ h. cc, λ h. cc)

specific_change_exact : (a b : SpecificChange) → Decides ((specific_change_eq.ghosts).eq a b) (a ≡ b)
specific_change_exact (specific.Muted on) (specific.Muted on') = (λ h. grind (arith, common_steps), λ h. grind (arith, common_steps))
specific_change_exact (specific.Mail on) (specific.Mail on') = (λ h. grind (arith, common_steps), λ h. grind (arith, common_steps))
specific_change_exact (specific.Push on) (specific.Push on') = (λ h. grind (arith, common_steps), λ h. grind (arith, common_steps))
specific_change_exact (specific.Wildcards on) (specific.Wildcards on') = (λ h. grind (arith, common_steps), λ h. grind (arith, common_steps))
specific_change_exact _ _ = (λ h. cc, λ h. cc)

message_id_exact : (a b : MessageId) → Decides ((message_eq.ghosts).eq a b) (a ≡ b)
message_id_exact a b = (λ h. grind (arith, common_steps), λ h. grind (arith, common_steps))

message_ids_exact : (a b : List MessageId) → Decides (pointwise (message_eq.ghosts).eq a b) (a ≡ b)
message_ids_exact a b = slice_eq-Decides message_id_exact a b (pointwise (message_eq.ghosts).eq a b) refl

pub request_exact : (a b : Request) → Decides ((request_eq.ghosts).eq a b) (a ≡ b)
request_exact (AddUser name bot) (AddUser other bot') = (λ h. grind (arith, common_steps, text_exact), λ h. grind (arith, common_steps, text_exact))
request_exact (AddGroup name members) (AddGroup other members') = (λ h. grind (arith, common_steps, text_exact, users_exact), λ h. grind (arith, common_steps, text_exact, users_exact))
request_exact (Member group user on) (Member group' user' on') = (λ h. grind (arith, common_steps), λ h. grind (arith, common_steps))
request_exact (AddChannel name) (AddChannel other) = (λ h. grind (arith, common_steps, text_exact), λ h. grind (arith, common_steps, text_exact))
request_exact (Subscribe user channel on) (Subscribe user' channel' on') = (λ h. grind (arith, common_steps), λ h. grind (arith, common_steps))
request_exact (Set user change) (Set user' change') = (λ h. grind (arith, common_steps, setting_change_exact), λ h. grind (arith, common_steps, setting_change_exact))
request_exact (SetChannel user channel change) (SetChannel user' channel' change') = (λ h. grind (arith, common_steps, specific_change_exact), λ h. grind (arith, common_steps, specific_change_exact))
request_exact (SetPolicy user channel topic policy) (SetPolicy user' channel' topic' policy') = (λ h. grind (arith, common_steps, text_exact), λ h. grind (arith, common_steps, text_exact))
request_exact (Mute user other on) (Mute user' other' on') = (λ h. grind (arith, common_steps), λ h. grind (arith, common_steps))
request_exact (Direct sender to text) (Direct sender' to' text') = (λ h. grind (arith, common_steps, text_exact, users_exact), λ h. grind (arith, common_steps, text_exact, users_exact))
request_exact (Delete user message) (Delete user' message') = (λ h. grind (arith, common_steps), λ h. grind (arith, common_steps))
request_exact (Read user messages) (Read user' messages') = (λ h. grind (arith, common_steps, message_ids_exact), λ h. grind (arith, common_steps, message_ids_exact))
request_exact (Send sender channel topic text) (Send sender' channel' topic' text') = (λ h. grind (arith, common_steps, text_exact), λ h. grind (arith, common_steps, text_exact))
request_exact _ _ = (λ h. cc, λ h. cc)

deal_no_exact : (a b : DealNo) → Decides ((deal_no_eq.ghosts).eq a b) (a ≡ b)
deal_no_exact a b = (λ h. grind (arith, common_steps), λ h. grind (arith, common_steps))

deals_exact : (a b : List DealNo) → Decides (pointwise (deal_no_eq.ghosts).eq a b) (a ≡ b)
deals_exact a b = slice_eq-Decides deal_no_exact a b (pointwise (deal_no_eq.ghosts).eq a b) refl

user_verdict_exact : (a b : UserVerdict) → Decides ((user_verdict_eq.ghosts).eq a b) (a ≡ b)
user_verdict_exact a b = (λ h. grind (arith, common_steps), λ h. grind (arith, common_steps))

verdicts_exact : (a b : List UserVerdict) → Decides (pointwise (user_verdict_eq.ghosts).eq a b) (a ≡ b)
verdicts_exact a b = slice_eq-Decides user_verdict_exact a b (pointwise (user_verdict_eq.ghosts).eq a b) refl

pub outcome_exact : (a b : Outcome) → Decides ((outcome_eq.ghosts).eq a b) (a ≡ b)
outcome_exact (Dealt k verdicts) (Dealt k' verdicts') = (λ h. grind (arith, common_steps, verdicts_exact), λ h. grind (arith, common_steps, verdicts_exact))
outcome_exact (Cleared u deals queue) (Cleared u' deals' queue') = (λ h. grind (arith, common_steps, deals_exact), λ h. grind (arith, common_steps, deals_exact))
outcome_exact (Missed u deals) (Missed u' deals') = (λ h. grind (arith, common_steps, deals_exact), λ h. grind (arith, common_steps, deals_exact))
outcome_exact _ _ = (λ h. cc, λ h. cc)

pub push_item_exact : (a b : PushItem) → Decides ((push_item_eq.ghosts).eq a b) (a ≡ b)
push_item_exact (push.Notify u m) (push.Notify v n) = (λ h. grind (arith, common_steps), λ h. grind (arith, common_steps))
push_item_exact (push.Remove u ms) (push.Remove v ns) = (λ h. grind (arith, common_steps, message_ids_exact), λ h. grind (arith, common_steps, message_ids_exact))
push_item_exact _ _ = (λ h. cc, λ h. cc)

pub event_exact : (a b : Event) → Decides ((event_eq.ghosts).eq a b) (a ≡ b)
event_exact Restart Restart = (λ h. refl, λ h. refl)
event_exact (Asked r) (Asked q) = (λ h. ap Asked ((request_exact r q).0 h), λ h. (request_exact r q).1 cc)
event_exact (Absorbed o) (Absorbed p) = (λ h. ap Absorbed ((outcome_exact o p).0 h), λ h. (outcome_exact o p).1 cc)
event_exact (MailTurn u) (MailTurn v) = (λ h. ap MailTurn ((user_exact u v).0 h), λ h. (user_exact u v).1 cc)
event_exact (PushTurn i) (PushTurn j) = (λ h. ap PushTurn ((push_item_exact i j).0 h), λ h. (push_item_exact i j).1 cc)
event_exact _ _ = (λ h. cc, λ h. cc)

pub stamped_exact : (a b : Stamped) → Decides ((stamped_eq.ghosts).eq a b) (a ≡ b)
stamped_exact a b = (λ h. grind (arith, common_steps, event_exact), λ h. grind (arith, common_steps, event_exact))

pub item_exact : (a b : Item) → Decides ((item_eq.ghosts).eq a b) (a ≡ b)
item_exact a b = (λ h. grind (arith, common_steps, text_exact, group_name_exact), λ h. grind (arith, common_steps, text_exact, group_name_exact))

items_exact : (a b : List Item) → Decides (pointwise (item_eq.ghosts).eq a b) (a ≡ b)
items_exact a b = slice_eq-Decides item_exact a b (pointwise (item_eq.ghosts).eq a b) refl

pub conversation_exact : (a b : Conversation) → Decides ((conversation_eq.ghosts).eq a b) (a ≡ b)
conversation_exact (conversation.Channel c n t) (conversation.Channel d m s) = (λ h. grind (arith, common_steps, text_exact), λ h. grind (arith, common_steps, text_exact))
conversation_exact (conversation.Direct us u) (conversation.Direct vs v) = (λ h. grind (arith, common_steps, users_exact), λ h. grind (arith, common_steps, users_exact))
conversation_exact _ _ = (λ h. cc, λ h. cc)

pub entry_exact : (a b : Entry) → Decides ((entry_eq.ghosts).eq a b) (a ≡ b)
entry_exact (entry.Mail u n at c items) (entry.Mail v m at' d items') = (λ h. grind (arith, common_steps, text_exact, conversation_exact, items_exact), λ h. grind (arith, common_steps, text_exact, conversation_exact, items_exact))
entry_exact (entry.Push u n at c i) (entry.Push v m at' d j) = (λ h. grind (arith, common_steps, text_exact, conversation_exact, item_exact), λ h. grind (arith, common_steps, text_exact, conversation_exact, item_exact))
entry_exact (entry.Remove u n at ms) (entry.Remove v m at' ms') = (λ h. grind (arith, common_steps, text_exact, message_ids_exact), λ h. grind (arith, common_steps, text_exact, message_ids_exact))
entry_exact _ _ = (λ h. cc, λ h. cc)

user_row_same : (i j : UserId) (n m : List ℕ) (c d : Bool) (s t : Settings) → ((user_eq.ghosts).eq i j && ((text_eq.ghosts).eq n m && ((bool_eq.ghosts).eq c d && (settings_eq.ghosts).eq s t))) ≡ true → row.User i n c s ≡ row.User j m d t
user_row_same i j n m c d s t h =
    let ids = and_parts ((user_eq.ghosts).eq i j) ((text_eq.ghosts).eq n m && ((bool_eq.ghosts).eq c d && (settings_eq.ghosts).eq s t)) h in
    let names = and_parts ((text_eq.ghosts).eq n m) ((bool_eq.ghosts).eq c d && (settings_eq.ghosts).eq s t) ids.1 in
    let bots = and_parts ((bool_eq.ghosts).eq c d) ((settings_eq.ghosts).eq s t) names.1 in
    let e1 = (user_exact i j).0 ids.0 in let e2 = (text_exact n m).0 names.0 in let e3 = bool_exact c d bots.0 in let e4 = (settings_exact s t).0 bots.1 in
    cc

user_row_itself : (i j : UserId) (n m : List ℕ) (c d : Bool) (s t : Settings) → i ≡ j → n ≡ m → c ≡ d → s ≡ t → ((user_eq.ghosts).eq i j && ((text_eq.ghosts).eq n m && ((bool_eq.ghosts).eq c d && (settings_eq.ghosts).eq s t))) ≡ true
user_row_itself i j n m c d s t ei en ec es =
    and_from ((user_eq.ghosts).eq i j) ((text_eq.ghosts).eq n m && ((bool_eq.ghosts).eq c d && (settings_eq.ghosts).eq s t)) ((user_exact i j).1 ei)
    (and_from ((text_eq.ghosts).eq n m) ((bool_eq.ghosts).eq c d && (settings_eq.ghosts).eq s t) ((text_exact n m).1 en)
    (and_from ((bool_eq.ghosts).eq c d) ((settings_eq.ghosts).eq s t) (subst (λ x. (bool_eq.ghosts).eq c x ≡ true) ec (bool_itself c)) ((settings_exact s t).1 es)))

pub row_exact : (a b : Row) → Decides ((row_eq.ghosts).eq a b) (a ≡ b)
row_exact (row.User i n c s) (row.User j m d t) = (user_row_same i j n m c d s t, λ h. user_row_itself i j n m c d s t (cc) (cc) (cc) (cc))
row_exact (row.Message i u t d) (row.Message j v s e) = (λ h. grind (arith, common_steps, text_exact), λ h. grind (arith, common_steps, text_exact))
row_exact (row.Pending u m w t d s) (row.Pending u' m' w' t' d' s') = (λ h. grind (arith, common_steps), λ h. grind (arith, common_steps))
row_exact (row.Active u m) (row.Active u' m') = (λ h. grind (arith, common_steps), λ h. grind (arith, common_steps))
row_exact (row.Outbox n e s) (row.Outbox k f t) = (λ h. grind (arith, common_steps, entry_exact), λ h. grind (arith, common_steps, entry_exact))
row_exact _ _ = (λ h. cc, λ h. cc)

row_key_exact : (a b : RowKey) → Decides ((row_key_eq.ghosts).eq a b) (a ≡ b)
row_key_exact (key.User i) (key.User j) = (λ h. grind (arith, common_steps), λ h. grind (arith, common_steps))
row_key_exact (key.Message i) (key.Message j) = (λ h. grind (arith, common_steps), λ h. grind (arith, common_steps))
row_key_exact (key.Pending u m w) (key.Pending v n x) = (λ h. grind (arith, common_steps), λ h. grind (arith, common_steps))
row_key_exact (key.Active u m) (key.Active v n) = (λ h. grind (arith, common_steps), λ h. grind (arith, common_steps))
row_key_exact (key.Outbox i) (key.Outbox j) = (λ h. grind (arith, common_steps), λ h. grind (arith, common_steps))
row_key_exact _ _ = (λ h. cc, λ h. cc)

pub row_change_exact : (a b : RowChange) → Decides ((row_change_eq.ghosts).eq a b) (a ≡ b)
row_change_exact (Put r) (Put q) = (λ h. ap Put ((row_exact r q).0 h), λ h. (row_exact r q).1 cc)
row_change_exact (Remove k) (Remove q) = (λ h. ap Remove ((row_key_exact k q).0 h), λ h. (row_key_exact k q).1 cc)
row_change_exact _ _ = (λ h. cc, λ h. cc)

-- what a call answers that compares as `==` does
pub told : (r e : Bool) (P : Type 0) → r ≡ e → Decides e P → IsTrue r ↔ P
told r e P h d = (λ t. d.0 (sym h ∙ t), λ p. h ∙ d.1 p)
