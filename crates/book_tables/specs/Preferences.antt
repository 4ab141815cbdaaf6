-- What users set, and what changes of it give.
use Rattle.std.specs.Prelude.{ℕ, ◌<◌, Bool, false, ◌&&◌, ◌==◌, List, unwrap_or, vec_len, vec_capacity, if◌then◌else◌}
use Rattle.std.specs.Option.{option_map_or}
use Rattle.std.specs.HashMap.{HashMap, get_by, spare}
use Rattle.std.specs.Str.{str_eq_ignore_ascii_case}
use Rattle.chat_model.specs.declared.event.Stamped.{Stamped}
use Rattle.chat_model.specs.declared.ids.ChannelId.{ChannelId}
use Rattle.chat_model.specs.declared.ids.UserId.{UserId}
use Rattle.chat_model.specs.declared.policy.Policy.{Policy}
use Rattle.chat_model.specs.declared.policy.Policy.TheVariants.{Inherit}
use Rattle.chat_model.specs.declared.policy.Specific.{Specific}
use Rattle.chat_model.specs.declared.settings.Settings.{Settings}
use Rattle.chat_model.specs.Settings.{default_settings, changed_settings, default_specific, changed_specific}
use Rattle.notice_ledger.specs.Past.Values.{numbered, is_one_of, settings, specific, policy, has_muted}
use Rattle.book_tables.specs.declared.topic_key.TopicKey.{TopicKey}
use Rattle.book_tables.specs.declared.preferences.Preferences.{Preferences}
use Rattle.book_tables.specs.declared.preferences.Preference.{Preference}
use Rattle.book_tables.specs.declared.preferences.Preference.TheVariants as preference
use Rattle.book_tables.specs.TopicKeys.{same_topic}

-- what is kept for the channel, else the default
abbrev pub specific_in : {S : Type 0} → HashMap ChannelId Specific S → ChannelId → Specific
specific_in kept c = unwrap_or (get_by (λ d. c.0 == d.0) kept) default_specific

-- what is kept for the topic of a channel, without ASCII case, else the default
abbrev pub policy_in : {S : Type 0} → HashMap TopicKey Policy S → TopicKey → Policy
policy_in kept key = unwrap_or (get_by (same_topic key) kept) Inherit

-- what a user prefers: the settings, who is muted, and what holds for each channel and each topic
pub record Preferred : Type 0 where
  pub settings : Settings
  pub muted : UserId → Bool
  pub specific : ChannelId → Specific
  pub policy : ChannelId → List ℕ → Policy

-- what a user prefers who set nothing
abbrev pub default_preferred : Preferred
default_preferred = record { settings = default_settings; muted = λ v. false; specific = λ c. default_specific; policy = λ c topic. Inherit }

-- what is preferred by what is kept
abbrev pub preferred : Preferences → Preferred
preferred p = record { settings = p.settings; muted = λ v. is_one_of p.muted.users.items v; specific = λ c. specific_in p.channels c; policy = λ c topic. policy_in p.topics (record { channel = c; topic = topic }) }

-- what the user of a number prefers
abbrev pub preferred_in : List Preferences → ℕ → Preferred
preferred_in all n = option_map_or preferred (numbered n all) default_preferred

-- what a user prefers after these events
abbrev pub preferred_by : List Stamped → UserId → Preferred
preferred_by past u = record { settings = settings past u; muted = λ v. has_muted past u v; specific = λ c. specific past u c; policy = λ c topic. policy past u c topic }

-- what is preferred after a change
abbrev pub preferred_after : Preference → Preferred → Preferred
preferred_after (preference.Setting change) p = record p { settings = changed_settings change p.settings }
preferred_after (preference.Specific channel change) p = record p { specific = λ c. if channel.0 == c.0 then changed_specific change (p.specific c) else p.specific c }
preferred_after (preference.Policy channel topic policy) p = record p { policy = λ c other. if channel.0 == c.0 && str_eq_ignore_ascii_case other topic then policy else p.policy c other }
preferred_after (preference.Mute other on) p = record p { muted = λ v. if other.0 == v.0 then on else p.muted v }

-- there is room for a change
abbrev pub HasPlaceFor : Preference → Preferences → Type 0
HasPlaceFor (preference.Setting change) p = Unit {0}
HasPlaceFor (preference.Specific channel change) p = 0 < spare p.channels
HasPlaceFor (preference.Policy channel topic policy) p = 0 < spare p.topics
HasPlaceFor (preference.Mute other on) p = vec_len p.muted.users < vec_capacity p.muted.users
