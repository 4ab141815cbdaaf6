-- Which rule of a request is broken.
use Rattle.std.specs.Prelude.{ℕ, Bool, false, ◌&&◌, ◌||◌, ◌==◌, not, nat_lt, List, [], ◌∷◌, length, Option, Some, None, if◌then◌else◌}
use Rattle.std.specs.List.{list_all, list_any}
use Rattle.std.specs.Option.{option_map_or}
use Rattle.std.specs.Str.{str_eq_ignore_ascii_case}
use Rattle.chat_model.specs.declared.event.Stamped.{Stamped}
use Rattle.chat_model.specs.declared.ids.MessageId.{MessageId}
use Rattle.chat_model.specs.declared.ids.UserId.{UserId}
use Rattle.chat_model.specs.declared.request.Request.{Request}
use Rattle.chat_model.specs.declared.request.Request.TheVariants.{AddUser, AddGroup, Member, AddChannel, Subscribe, Set, SetChannel, SetPolicy, Mute, Send, Direct, Delete, Read}
use Rattle.chat_model.specs.declared.request.Refusal.{Refusal}
use Rattle.chat_model.specs.declared.request.Refusal.TheVariants.{NoUser, NoChannel, NoMessage, NoGroup, Exists, NotSender, NotSubscribed, EmptyText, TextTooLong, TopicTooLong, BadPeriod, TooMany, NameTooLong, BadName}
use Rattle.chat_model.specs.declared.settings.SettingChange.{SettingChange}
use Rattle.chat_model.specs.declared.settings.SettingChange.TheVariants.{Period}
use Rattle.notice_ledger.specs.Texts.{is_longer_than, is_blank, is_bad_name}
use Rattle.notice_ledger.specs.Limits.{longest_text, longest_topic, longest_name, most_items, shortest_period, longest_period}
use Rattle.notice_ledger.specs.Past.Values.{SentMessage, is_user, is_group, groups, is_channel, channels, subscribed, subscriber_count, message, is_message}
use Rattle.notice_ledger.specs.Past.Triggers.{is_recipient}

-- one of the names is this one without ASCII case
unfoldable pub is_taken : List (List ℕ) → List ℕ → Bool
is_taken names name = list_any (str_eq_ignore_ascii_case name) names

-- the refusal that a rule gives where it is broken
pub record Rule : Type 0 where
  pub broken : Bool
  pub refusal : Refusal

abbrev pub rule : Bool → Refusal → Rule
rule broken refusal = record { broken = broken; refusal = refusal }

-- the first of these rules that is broken
abbrev pub first_broken : List Rule → Option Refusal
first_broken [] = None
first_broken (r ∷ rules) = if r.broken then Some r.refusal else first_broken rules

-- the rules on the name of what a request makes
abbrev pub name_rules : List ℕ → List Rule
name_rules name = rule (is_longer_than longest_name name) NameTooLong ∷ rule (is_bad_name name) BadName ∷ []

-- a change of settings sets a period outside its bounds
abbrev pub is_bad_period : SettingChange → Bool
is_bad_period (Period seconds) = nat_lt seconds shortest_period || nat_lt longest_period seconds
is_bad_period _ = false

-- the user sent the message
abbrev pub is_sender : UserId → SentMessage → Bool
is_sender u m = m.sender.0 == u.0

-- there is the message, and the user sent or received it
abbrev pub may_read : List Stamped → UserId → MessageId → Bool
may_read j u m = is_message j m && option_map_or (λ sent. is_sender u sent || is_recipient sent u) (message j m) false

-- the rules that concern a request after a journal, in the order of the refusals' numbers
abbrev pub rules_of : List Stamped → Request → List Rule
rules_of j (AddUser name bot) = name_rules name
rules_of j (AddGroup name members) =
    rule (not (list_all (is_user j) members)) NoUser
    ∷ rule (is_taken (groups j) name) Exists
    ∷ rule (nat_lt most_items (length members)) (TooMany most_items)
    ∷ name_rules name
rules_of j (Member group user on) =
    rule (not (is_user j user)) NoUser
    ∷ rule (not (is_group j group)) NoGroup
    ∷ []
rules_of j (AddChannel name) =
    rule (is_taken (channels j) name) Exists
    ∷ name_rules name
rules_of j (Subscribe user channel on) =
    rule (not (is_user j user)) NoUser
    ∷ rule (not (is_channel j channel)) NoChannel
    ∷ []
rules_of j (Set user change) =
    rule (not (is_user j user)) NoUser
    ∷ rule (is_bad_period change) BadPeriod
    ∷ []
rules_of j (SetChannel user channel change) =
    rule (not (is_user j user)) NoUser
    ∷ rule (not (is_channel j channel)) NoChannel
    ∷ []
rules_of j (SetPolicy user channel topic policy) =
    rule (not (is_user j user)) NoUser
    ∷ rule (not (is_channel j channel)) NoChannel
    ∷ rule (is_longer_than longest_topic topic) TopicTooLong
    ∷ []
rules_of j (Mute user other on) = rule (not (is_user j user && is_user j other)) NoUser ∷ []
rules_of j (Send sender channel topic text) =
    rule (not (is_user j sender)) NoUser
    ∷ rule (not (is_channel j channel)) NoChannel
    ∷ rule (not (subscribed j sender channel)) NotSubscribed
    ∷ rule (is_blank text) EmptyText
    ∷ rule (is_longer_than longest_text text) TextTooLong
    ∷ rule (is_longer_than longest_topic topic) TopicTooLong
    ∷ rule (nat_lt most_items (subscriber_count j channel)) (TooMany most_items)
    ∷ []
rules_of j (Direct sender to text) =
    rule (not (is_user j sender && list_all (is_user j) to)) NoUser
    ∷ rule (is_blank text) EmptyText
    ∷ rule (is_longer_than longest_text text) TextTooLong
    ∷ rule (nat_lt most_items (length to)) (TooMany most_items)
    ∷ []
rules_of j (Delete user m) =
    rule (not (is_user j user)) NoUser
    ∷ rule (not (is_message j m)) NoMessage
    ∷ rule (not (option_map_or (is_sender user) (message j m) false)) NotSender
    ∷ []
rules_of j (Read user ms) =
    rule (not (is_user j user)) NoUser
    ∷ rule (not (list_all (may_read j user) ms)) NoMessage
    ∷ rule (nat_lt most_items (length ms)) (TooMany most_items)
    ∷ []

-- the refusal of a request after a journal: the first, by number, whose rule is broken
unfoldable pub refusal : List Stamped → Request → Option Refusal
refusal j request = first_broken (rules_of j request)
