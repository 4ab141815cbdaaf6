-- What a text mentions.
use Rattle.std.specs.Prelude.{ℕ, ◌+◌, ◌-◌, Bool, false, ◌&&◌, ◌||◌, ◌==◌, not, List, map, filter, count_by, length, codes, slice_range, if◌then◌else◌}
use Rattle.std.specs.List.{list_any, before_last, after_last}
use Rattle.std.specs.Option.{option_map_or}
use Rattle.std.specs.Str.{byte, bytes_eq, str_eq_ignore_ascii_case}
use Rattle.chat_model.specs.declared.mentions.Mentions.{Mentions}
use Rattle.chat_model.specs.declared.mentions.UserName.{UserName}
use Rattle.chat_model.specs.declared.mentions.GroupName.{GroupName}
use Rattle.chat_model.specs.Ascending.{ascending_once_by}
use Rattle.chat_model.specs.Number.{number_of}
use Rattle.mention_scan.specs.declared.span.Span.{Span}
use Rattle.mention_scan.specs.Division.{spans_of}

-- ---- the words of a span

-- the Inner of a span of the text that is not silent: it lies between `@**` and `**`, a group's between `@*` and `*`
abbrev pub inner_of : List ℕ → Span → List ℕ
inner_of text span =
    if span.group then slice_range text (span.start + 2) (span.end - 1) else slice_range text (span.start + 3) (span.end - 2)

-- the span is a user's and not silent
abbrev pub is_user_span : Span → Bool
is_user_span span = not span.silent && not span.group

-- the span is a group's and not silent
abbrev pub is_group_span : Span → Bool
is_group_span span = not span.silent && span.group

-- ---- wildcards

-- the Inner is a word for all of a channel, in just these letters
abbrev pub is_channel_wildcard : List ℕ → Bool
is_channel_wildcard inner =
    bytes_eq inner (codes "all") || bytes_eq inner (codes "everyone") || bytes_eq inner (codes "channel") || bytes_eq inner (codes "stream")

-- the Inner is the word for all of a topic, in just these letters
abbrev pub is_topic_wildcard : List ℕ → Bool
is_topic_wildcard inner = bytes_eq inner (codes "topic")

abbrev pub is_wildcard : List ℕ → Bool
is_wildcard inner = is_channel_wildcard inner || is_topic_wildcard inner

-- ---- users

abbrev pub is_bar : ℕ → Bool
is_bar b = b == byte "|"

-- the Inner has a `|`
abbrev pub has_bar : List ℕ → Bool
has_bar inner = list_any is_bar inner

-- what follows the last `|`
abbrev pub after_bar : List ℕ → List ℕ
after_bar inner = after_last is_bar inner

-- what precedes the last `|`
abbrev pub before_bar : List ℕ → List ℕ
before_bar inner = before_last is_bar inner

-- the user has this name without ASCII case
abbrev pub is_named : List ℕ → UserName → Bool
is_named name user = str_eq_ignore_ascii_case name user.name

-- what follows the last `|` is the user's number, and what precedes it is empty or the user's name
abbrev pub is_numbered : List ℕ → UserName → Bool
is_numbered inner user =
    option_map_or (λ number. number == user.id.0) (number_of (after_bar inner)) false
    && (length (before_bar inner) == 0 || is_named (before_bar inner) user)

-- exactly one of the users has this name
abbrev pub is_unshared : List UserName → List ℕ → Bool
is_unshared users name = count_by (is_named name) users == 1

-- the Inner can mention one of the users: it is no wildcard, and it has a `|` or is the name of exactly one
abbrev pub may_name : List UserName → List ℕ → Bool
may_name users inner = not (is_wildcard inner) && (has_bar inner || is_unshared users inner)

-- the user is the one of whom the Inner speaks: by the number behind its last `|`, or where it has none by the name
abbrev pub speaks_of : List ℕ → UserName → Bool
speaks_of inner user = if has_bar inner then is_numbered inner user else is_named inner user

-- the Inner mentions this one of the users, by the first case that applies
abbrev pub inner_mentions : List UserName → List ℕ → UserName → Bool
inner_mentions users inner user = may_name users inner && speaks_of inner user

-- some span of the text mentions this one of the users
abbrev pub is_mentioned : List ℕ → List UserName → UserName → Bool
is_mentioned text users user =
    list_any (λ span. is_user_span span && inner_mentions users (inner_of text span) user) (spans_of text)

-- ---- groups

-- the group has this name without ASCII case
abbrev pub is_group_named : List ℕ → GroupName → Bool
is_group_named name group = str_eq_ignore_ascii_case name group.name

-- some span of the text mentions the group
abbrev pub is_group_mentioned : List ℕ → GroupName → Bool
is_group_mentioned text group =
    list_any (λ span. is_group_span span && is_group_named (inner_of text span) group) (spans_of text)

-- ---- texts

-- some user span of the text has an Inner of this kind
abbrev pub has_inner : (List ℕ → Bool) → List ℕ → Bool
has_inner test text = list_any (λ span. is_user_span span && test (inner_of text span)) (spans_of text)

-- what a text mentions: of these users and groups those that a span mentions, ascending by number, once each, and the wildcards
abbrev pub mentions : List ℕ → List UserName → List GroupName → Mentions
mentions text users groups =
    record {
      users = ascending_once_by (λ id. id.0) (map (λ user. user.id) (filter (is_mentioned text users) users));
      groups = ascending_once_by (λ id. id.0) (map (λ group. group.id) (filter (is_group_mentioned text) groups));
      channel_wildcard = has_inner is_channel_wildcard text;
      topic_wildcard = has_inner is_topic_wildcard text;
    }
