-- What users set, at a journal with one more event.
use Rattle.std.proofs.Common.{◌≡◌, ℕ, Bool, false, List, [], ◌∷◌, ◌++◌, refl, ◌∙◌}
use Rattle.std.specs.Prelude.{Option, Some, None, option_and_then, unwrap_or}
use Rattle.std.specs.Option.{option_map_or}
use Rattle.chat_model.specs.declared.event.Stamped.{Stamped}
use Rattle.chat_model.specs.declared.ids.UserId.{UserId}
use Rattle.chat_model.specs.declared.ids.ChannelId.{ChannelId}
use Rattle.chat_model.specs.declared.policy.Policy.TheVariants.{Inherit}
use Rattle.chat_model.specs.declared.policy.Specific.{Specific}
use Rattle.chat_model.specs.declared.policy.SpecificChange.{SpecificChange}
use Rattle.chat_model.specs.declared.policy.SpecificChange.TheVariants as specifics
use Rattle.chat_model.specs.declared.settings.Settings.{Settings}
use Rattle.chat_model.specs.declared.settings.SettingChange.{SettingChange}
use Rattle.chat_model.specs.declared.settings.SettingChange.TheVariants.{MailMentions, PushMentions, PushOnline, ChannelMail, ChannelPush, Wildcards, FollowedMail, FollowedPush, FollowedWildcards, Period}
use Rattle.chat_model.specs.Settings.{default_settings, changed_settings, given_mail_mentions, given_push_mentions, given_push_online, given_channel_mail, given_channel_push, given_wildcards, given_followed_mail, given_followed_push, given_followed_wildcards, given_period, default_specific, changed_specific, given_muted, given_specific_mail, given_specific_push, given_specific_wildcards}
use Rattle.notice_ledger.specs.Past.Journal.{occurrences}
use Rattle.notice_ledger.specs.Past.Values.{setting_change, settings, specific_change, specific, policy_change, policy, mute_change, has_muted}
use Rattle.notice_ledger.proofs.Appended.{last_given-append}

-- ---- settings

-- each setting with what a change gives to it
abbrev given_settings : Option SettingChange → Settings → Settings
given_settings c s = record {
  mail_mentions = unwrap_or (option_and_then given_mail_mentions c) s.mail_mentions;
  push_mentions = unwrap_or (option_and_then given_push_mentions c) s.push_mentions;
  push_online = unwrap_or (option_and_then given_push_online c) s.push_online;
  channel_mail = unwrap_or (option_and_then given_channel_mail c) s.channel_mail;
  channel_push = unwrap_or (option_and_then given_channel_push c) s.channel_push;
  wildcards = unwrap_or (option_and_then given_wildcards c) s.wildcards;
  followed_mail = unwrap_or (option_and_then given_followed_mail c) s.followed_mail;
  followed_push = unwrap_or (option_and_then given_followed_push c) s.followed_push;
  followed_wildcards = unwrap_or (option_and_then given_followed_wildcards c) s.followed_wildcards;
  period = unwrap_or (option_and_then given_period c) s.period;
}

given-changed : (c : Option SettingChange) (s : Settings) → given_settings c s ≡ option_map_or (λ d. changed_settings d s) c s
given-changed None s = refl
given-changed (Some (MailMentions on)) s = refl
given-changed (Some (PushMentions on)) s = refl
given-changed (Some (PushOnline on)) s = refl
given-changed (Some (ChannelMail on)) s = refl
given-changed (Some (ChannelPush on)) s = refl
given-changed (Some (Wildcards on)) s = refl
given-changed (Some (FollowedMail on)) s = refl
given-changed (Some (FollowedPush on)) s = refl
given-changed (Some (FollowedWildcards on)) s = refl
given-changed (Some (Period seconds)) s = refl

-- an event changes a setting of a user, or none
pub settings-append : (j : List Stamped) (s : Stamped) (u : UserId) → settings (j ++ s ∷ []) u ≡ option_map_or (λ c. changed_settings c (settings j u)) (setting_change u s.event) (settings j u)
unfolding settings
settings-append j s u =
    let last = λ (given : SettingChange → Option Bool) (start : Bool). last_given-append (λ o. option_and_then given (setting_change u o.event)) start j s in
    let same : settings (j ++ s ∷ []) u ≡ given_settings (setting_change u s.event) (settings j u) = λ i. record {
      mail_mentions = last given_mail_mentions default_settings.mail_mentions i;
      push_mentions = last given_push_mentions default_settings.push_mentions i;
      push_online = last given_push_online default_settings.push_online i;
      channel_mail = last given_channel_mail default_settings.channel_mail i;
      channel_push = last given_channel_push default_settings.channel_push i;
      wildcards = last given_wildcards default_settings.wildcards i;
      followed_mail = last given_followed_mail default_settings.followed_mail i;
      followed_push = last given_followed_push default_settings.followed_push i;
      followed_wildcards = last given_followed_wildcards default_settings.followed_wildcards i;
      period = last_given-append (λ o. option_and_then given_period (setting_change u o.event)) default_settings.period j s i;
    } in
    same ∙ given-changed (setting_change u s.event) (settings j u)

pub settings-nil : (u : UserId) → settings [] u ≡ default_settings
unfolding settings occurrences
settings-nil u = refl

-- ---- settings for a channel

abbrev given_specific : Option SpecificChange → Specific → Specific
given_specific c s = record {
  muted = unwrap_or (option_and_then given_muted c) s.muted;
  mail = unwrap_or (option_and_then given_specific_mail c) s.mail;
  push = unwrap_or (option_and_then given_specific_push c) s.push;
  wildcards = unwrap_or (option_and_then given_specific_wildcards c) s.wildcards;
}

given-specific : (c : Option SpecificChange) (s : Specific) → given_specific c s ≡ option_map_or (λ d. changed_specific d s) c s
given-specific None s = refl
given-specific (Some (specifics.Muted on)) s = refl
given-specific (Some (specifics.Mail on)) s = refl
given-specific (Some (specifics.Push on)) s = refl
given-specific (Some (specifics.Wildcards on)) s = refl

-- an event changes a setting of a user for a channel, or none
pub specific-append : (j : List Stamped) (s : Stamped) (u : UserId) (c : ChannelId) → specific (j ++ s ∷ []) u c ≡ option_map_or (λ d. changed_specific d (specific j u c)) (specific_change u c s.event) (specific j u c)
unfolding specific
specific-append j s u c =
    let switch = λ (given : SpecificChange → Option (Option Bool)) (start : Option Bool). last_given-append (λ o. option_and_then given (specific_change u c o.event)) start j s in
    let same : specific (j ++ s ∷ []) u c ≡ given_specific (specific_change u c s.event) (specific j u c) = λ i. record {
      muted = last_given-append (λ o. option_and_then given_muted (specific_change u c o.event)) default_specific.muted j s i;
      mail = switch given_specific_mail default_specific.mail i;
      push = switch given_specific_push default_specific.push i;
      wildcards = switch given_specific_wildcards default_specific.wildcards i;
    } in
    same ∙ given-specific (specific_change u c s.event) (specific j u c)

pub specific-nil : (u : UserId) (c : ChannelId) → specific [] u c ≡ default_specific
unfolding specific occurrences
specific-nil u c = refl

-- ---- policies and mutes

pub policy-append : (j : List Stamped) (s : Stamped) (u : UserId) (c : ChannelId) (topic : List ℕ) → policy (j ++ s ∷ []) u c topic ≡ unwrap_or (policy_change u c topic s.event) (policy j u c topic)
unfolding policy
policy-append j s u c topic = last_given-append (λ o. policy_change u c topic o.event) Inherit j s

pub policy-nil : (u : UserId) (c : ChannelId) (topic : List ℕ) → policy [] u c topic ≡ Inherit
unfolding policy occurrences
policy-nil u c topic = refl

pub has_muted-append : (j : List Stamped) (s : Stamped) (u v : UserId) → has_muted (j ++ s ∷ []) u v ≡ unwrap_or (mute_change u v s.event) (has_muted j u v)
unfolding has_muted
has_muted-append j s u v = last_given-append (λ o. mute_change u v o.event) false j s

pub has_muted-nil : (u v : UserId) → has_muted [] u v ≡ false
unfolding has_muted occurrences
has_muted-nil u v = refl
