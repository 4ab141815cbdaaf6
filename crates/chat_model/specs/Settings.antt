-- The settings of a new user, what changes of settings give, and the switch of a push turn.
use Rattle.std.specs.Prelude.{ℕ, Bool, true, false, ◌||◌, Option, Some, None}
use Rattle.chat_model.specs.declared.settings.Settings.{Settings}
use Rattle.chat_model.specs.declared.settings.SettingChange.{SettingChange}
use Rattle.chat_model.specs.declared.settings.SettingChange.TheVariants.{MailMentions, PushMentions, PushOnline, ChannelMail, ChannelPush, Wildcards, FollowedMail, FollowedPush, FollowedWildcards, Period}
use Rattle.chat_model.specs.declared.policy.Specific.{Specific}
use Rattle.chat_model.specs.declared.policy.SpecificChange.{SpecificChange}
use Rattle.chat_model.specs.declared.policy.SpecificChange.TheVariants as specific

-- the switches for mentions, wildcards and followed topics are on, the others off, and the period is two minutes
abbrev pub default_settings : Settings
default_settings = record {
  mail_mentions = true;
  push_mentions = true;
  push_online = false;
  channel_mail = false;
  channel_push = false;
  wildcards = true;
  followed_mail = true;
  followed_push = true;
  followed_wildcards = true;
  period = 120;
}

-- a push is handed over where the user wants pushes of mentions, or pushes while online
abbrev pub push_switch : Settings → Bool
push_switch s = s.push_mentions || s.push_online

-- what a change gives to each switch and to the period, if it gives it a value
abbrev pub given_mail_mentions : SettingChange → Option Bool
given_mail_mentions (MailMentions on) = Some on
given_mail_mentions _ = None

abbrev pub given_push_mentions : SettingChange → Option Bool
given_push_mentions (PushMentions on) = Some on
given_push_mentions _ = None

abbrev pub given_push_online : SettingChange → Option Bool
given_push_online (PushOnline on) = Some on
given_push_online _ = None

abbrev pub given_channel_mail : SettingChange → Option Bool
given_channel_mail (ChannelMail on) = Some on
given_channel_mail _ = None

abbrev pub given_channel_push : SettingChange → Option Bool
given_channel_push (ChannelPush on) = Some on
given_channel_push _ = None

abbrev pub given_wildcards : SettingChange → Option Bool
given_wildcards (Wildcards on) = Some on
given_wildcards _ = None

abbrev pub given_followed_mail : SettingChange → Option Bool
given_followed_mail (FollowedMail on) = Some on
given_followed_mail _ = None

abbrev pub given_followed_push : SettingChange → Option Bool
given_followed_push (FollowedPush on) = Some on
given_followed_push _ = None

abbrev pub given_followed_wildcards : SettingChange → Option Bool
given_followed_wildcards (FollowedWildcards on) = Some on
given_followed_wildcards _ = None

abbrev pub given_period : SettingChange → Option ℕ
given_period (Period seconds) = Some seconds
given_period _ = None

-- the settings with a switch or the period set
abbrev pub changed_settings : SettingChange → Settings → Settings
changed_settings (MailMentions on) s = record s { mail_mentions = on }
changed_settings (PushMentions on) s = record s { push_mentions = on }
changed_settings (PushOnline on) s = record s { push_online = on }
changed_settings (ChannelMail on) s = record s { channel_mail = on }
changed_settings (ChannelPush on) s = record s { channel_push = on }
changed_settings (Wildcards on) s = record s { wildcards = on }
changed_settings (FollowedMail on) s = record s { followed_mail = on }
changed_settings (FollowedPush on) s = record s { followed_push = on }
changed_settings (FollowedWildcards on) s = record s { followed_wildcards = on }
changed_settings (Period seconds) s = record s { period = seconds }

-- a user's settings for a channel at first: not muted, and else what the user's own settings say
abbrev pub default_specific : Specific
default_specific = record { muted = false; mail = None; push = None; wildcards = None }

-- what a change gives to each setting for a channel, if it gives it a value
abbrev pub given_muted : SpecificChange → Option Bool
given_muted (specific.Muted on) = Some on
given_muted _ = None

abbrev pub given_specific_mail : SpecificChange → Option (Option Bool)
given_specific_mail (specific.Mail on) = Some on
given_specific_mail _ = None

abbrev pub given_specific_push : SpecificChange → Option (Option Bool)
given_specific_push (specific.Push on) = Some on
given_specific_push _ = None

abbrev pub given_specific_wildcards : SpecificChange → Option (Option Bool)
given_specific_wildcards (specific.Wildcards on) = Some on
given_specific_wildcards _ = None

-- the settings for a channel with one of them set
abbrev pub changed_specific : SpecificChange → Specific → Specific
changed_specific (specific.Muted on) s = record s { muted = on }
changed_specific (specific.Mail on) s = record s { mail = on }
changed_specific (specific.Push on) s = record s { push = on }
changed_specific (specific.Wildcards on) s = record s { wildcards = on }
