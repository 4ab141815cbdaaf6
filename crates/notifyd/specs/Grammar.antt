-- The lines of a script: what the bytes of a line read as.
use Rattle.std.specs.Prelude.{ℕ, ◌+◌, ◌-◌, ◌==◌, ◌&&◌, ◌||◌, Bool, true, false, IsTrue, List, length, take, slice_index, nat_lt, if◌then◌else◌, Result, Ok, Err, codes, bytes_eq}
use Rattle.std.specs.List.{list_all}
use Rattle.std.specs.Str.Lossy.{utf8_valid_len}
use Rattle.chat_model.specs.declared.request.Request.TheVariants.{AddUser, AddGroup, Member, AddChannel, Subscribe, Set, SetChannel, SetPolicy, Mute, Send, Direct, Delete, Read}
use Rattle.chat_model.specs.Number.{number_of}
use Rattle.notifyd.specs.declared.line.Line.{Line}
use Rattle.notifyd.specs.declared.line.Line.TheVariants.{Nothing, At, Asked, Mail, Push, Audit, Register, Beat, Ack, Leave, Sweep, Deal, Absorb}
use Rattle.notifyd.specs.Field.{column_of, is_space, field_start, word_end, word_at, word_field, moment_of, switch_of, queue_of, upto_of, list_of, numbers_of, string_field, line_end}
use Rattle.notifyd.specs.Keys.{setting_key_of, setting_of, specific_key_of, specific_of, policy_of}
use Rattle.notifyd.specs.Listed.{users_of, messages_of}

-- what a part of a line reads as, or the column at which the line is bad
infixl 10 ◌>>=◌
-- a reading, and what is read behind it where it is no bad column
abbrev pub ◌>>=◌ : {A B : Type 0} → Result A ℕ → (A → Result B ℕ) → Result B ℕ
Ok value >>= next = next value
Err column >>= next = Err column

-- `at MOMENT`
unfoldable pub at_line : List ℕ → ℕ → Result Line ℕ
at_line line place = do
  moment ← word_field moment_of line place
  end ← line_end line moment.1
  Ok (At moment.0)

-- `user STR`
unfoldable pub user_line : List ℕ → ℕ → Result Line ℕ
user_line line place = do
  name ← string_field line place
  end ← line_end line name.1
  Ok (Asked (AddUser name.0 false))

-- `bot STR`
unfoldable pub bot_line : List ℕ → ℕ → Result Line ℕ
bot_line line place = do
  name ← string_field line place
  end ← line_end line name.1
  Ok (Asked (AddUser name.0 true))

-- `group STR LISTE`: name, members
unfoldable pub group_line : List ℕ → ℕ → Result Line ℕ
group_line line place = do
  name ← string_field line place
  members ← word_field list_of line name.1
  end ← line_end line members.1
  Ok (Asked (AddGroup name.0 (users_of members.0)))

-- `member ID ID BOOL`: group, user
unfoldable pub member_line : List ℕ → ℕ → Result Line ℕ
member_line line place = do
  group ← word_field number_of line place
  user ← word_field number_of line group.1
  on ← word_field switch_of line user.1
  end ← line_end line on.1
  Ok (Asked (Member (record { 0 = group.0 }) (record { 0 = user.0 }) on.0))

-- `channel STR`
unfoldable pub channel_line : List ℕ → ℕ → Result Line ℕ
channel_line line place = do
  name ← string_field line place
  end ← line_end line name.1
  Ok (Asked (AddChannel name.0))

-- `sub ID ID BOOL`: user, channel
unfoldable pub subscribe_line : List ℕ → ℕ → Result Line ℕ
subscribe_line line place = do
  user ← word_field number_of line place
  channel ← word_field number_of line user.1
  on ← word_field switch_of line channel.1
  end ← line_end line on.1
  Ok (Asked (Subscribe (record { 0 = user.0 }) (record { 0 = channel.0 }) on.0))

-- `send ID ID STR STR`: sender, channel, topic, text
unfoldable pub send_line : List ℕ → ℕ → Result Line ℕ
send_line line place = do
  sender ← word_field number_of line place
  channel ← word_field number_of line sender.1
  topic ← string_field line channel.1
  text ← string_field line topic.1
  end ← line_end line text.1
  Ok (Asked (Send (record { 0 = sender.0 }) (record { 0 = channel.0 }) topic.0 text.0))

-- `dm ID LIST STR`: sender, users, text
unfoldable pub direct_line : List ℕ → ℕ → Result Line ℕ
direct_line line place = do
  sender ← word_field number_of line place
  to ← word_field numbers_of line sender.1
  text ← string_field line to.1
  end ← line_end line text.1
  Ok (Asked (Direct (record { 0 = sender.0 }) (users_of to.0) text.0))

-- `delete ID ID`: user, message
unfoldable pub delete_line : List ℕ → ℕ → Result Line ℕ
delete_line line place = do
  user ← word_field number_of line place
  message ← word_field number_of line user.1
  end ← line_end line message.1
  Ok (Asked (Delete (record { 0 = user.0 }) (record { 0 = message.0 })))

-- `read ID LIST`: user, messages
unfoldable pub read_line : List ℕ → ℕ → Result Line ℕ
read_line line place = do
  user ← word_field number_of line place
  messages ← word_field numbers_of line user.1
  end ← line_end line messages.1
  Ok (Asked (Read (record { 0 = user.0 }) (messages_of messages.0)))

-- `set ID KEY BOOL`, `set ID period NUM`: user, setting, value
unfoldable pub set_line : List ℕ → ℕ → Result Line ℕ
set_line line place = do
  user ← word_field number_of line place
  key ← word_field setting_key_of line user.1
  change ← word_field (setting_of key.0) line key.1
  end ← line_end line change.1
  Ok (Asked (Set (record { 0 = user.0 }) change.0))

-- `chan ID ID muted BOOL`, `chan ID ID mail TRI` and so on: user, channel, setting, value
unfoldable pub specific_line : List ℕ → ℕ → Result Line ℕ
specific_line line place = do
  user ← word_field number_of line place
  channel ← word_field number_of line user.1
  key ← word_field specific_key_of line channel.1
  change ← word_field (specific_of key.0) line key.1
  end ← line_end line change.1
  Ok (Asked (SetChannel (record { 0 = user.0 }) (record { 0 = channel.0 }) change.0))

-- `policy ID ID STR POLICY`: user, channel, topic, policy
unfoldable pub policy_line : List ℕ → ℕ → Result Line ℕ
policy_line line place = do
  user ← word_field number_of line place
  channel ← word_field number_of line user.1
  topic ← string_field line channel.1
  policy ← word_field policy_of line topic.1
  end ← line_end line policy.1
  Ok (Asked (SetPolicy (record { 0 = user.0 }) (record { 0 = channel.0 }) topic.0 policy.0))

-- `mute ID ID BOOL`: user, other
unfoldable pub mute_line : List ℕ → ℕ → Result Line ℕ
mute_line line place = do
  user ← word_field number_of line place
  other ← word_field number_of line user.1
  on ← word_field switch_of line other.1
  end ← line_end line on.1
  Ok (Asked (Mute (record { 0 = user.0 }) (record { 0 = other.0 }) on.0))

-- `mail`
unfoldable pub mail_line : List ℕ → ℕ → Result Line ℕ
mail_line line place = do
  end ← line_end line place
  Ok Mail

-- `push`
unfoldable pub push_line : List ℕ → ℕ → Result Line ℕ
push_line line place = do
  end ← line_end line place
  Ok Push

-- `audit`
unfoldable pub audit_line : List ℕ → ℕ → Result Line ℕ
audit_line line place = do
  end ← line_end line place
  Ok Audit

-- `register ID`
unfoldable pub register_line : List ℕ → ℕ → Result Line ℕ
register_line line place = do
  user ← word_field number_of line place
  end ← line_end line user.1
  Ok (Register (record { 0 = user.0 }))

-- `beat ID`
unfoldable pub beat_line : List ℕ → ℕ → Result Line ℕ
beat_line line place = do
  user ← word_field number_of line place
  end ← line_end line user.1
  Ok (Beat (record { 0 = user.0 }))

-- `ack ID QUEUE UPTO`
unfoldable pub ack_line : List ℕ → ℕ → Result Line ℕ
ack_line line place = do
  user ← word_field number_of line place
  queue ← word_field queue_of line user.1
  upto ← word_field upto_of line queue.1
  end ← line_end line upto.1
  Ok (Ack (record { 0 = user.0 }) queue.0 upto.0)

-- `leave ID QUEUE`
unfoldable pub leave_line : List ℕ → ℕ → Result Line ℕ
leave_line line place = do
  user ← word_field number_of line place
  queue ← word_field queue_of line user.1
  end ← line_end line queue.1
  Ok (Leave (record { 0 = user.0 }) queue.0)

-- `sweep`
unfoldable pub sweep_line : List ℕ → ℕ → Result Line ℕ
sweep_line line place = do
  end ← line_end line place
  Ok Sweep

-- `deal`
unfoldable pub deal_line : List ℕ → ℕ → Result Line ℕ
deal_line line place = do
  end ← line_end line place
  Ok Deal

-- `absorb`
unfoldable pub absorb_line : List ℕ → ℕ → Result Line ℕ
absorb_line line place = do
  end ← line_end line place
  Ok Absorb

-- a line of the hub: its first word says which fields follow, and another first word is a bad field
unfoldable pub hub_reading : List ℕ → Result Line ℕ
hub_reading line =
    let start = field_start line 0 in
    let word = word_at line start in
    let place = word_end line start in
    if bytes_eq word (codes "register") then register_line line place
    else (if bytes_eq word (codes "beat") then beat_line line place
    else (if bytes_eq word (codes "ack") then ack_line line place
    else (if bytes_eq word (codes "leave") then leave_line line place
    else (if bytes_eq word (codes "sweep") then sweep_line line place
    else (if bytes_eq word (codes "deal") then deal_line line place
    else (if bytes_eq word (codes "absorb") then absorb_line line place
    else Err (column_of start)))))))

-- a line that is no request: its first word says which fields follow, or else it is one of the hub
unfoldable pub step_reading : List ℕ → Result Line ℕ
step_reading line =
    let start = field_start line 0 in
    let word = word_at line start in
    let place = word_end line start in
    if bytes_eq word (codes "at") then at_line line place
    else (if bytes_eq word (codes "mail") then mail_line line place
    else (if bytes_eq word (codes "push") then push_line line place
    else (if bytes_eq word (codes "audit") then audit_line line place
    else hub_reading line)))

-- a line by which a user sets something, or else one that is no request
unfoldable pub preference_reading : List ℕ → Result Line ℕ
preference_reading line =
    let start = field_start line 0 in
    let word = word_at line start in
    let place = word_end line start in
    if bytes_eq word (codes "set") then set_line line place
    else (if bytes_eq word (codes "chan") then specific_line line place
    else (if bytes_eq word (codes "policy") then policy_line line place
    else (if bytes_eq word (codes "mute") then mute_line line place
    else step_reading line)))

-- a line by which a message is sent, deleted or read, or else one that adds nothing
unfoldable pub message_reading : List ℕ → Result Line ℕ
message_reading line =
    let start = field_start line 0 in
    let word = word_at line start in
    let place = word_end line start in
    if bytes_eq word (codes "send") then send_line line place
    else (if bytes_eq word (codes "dm") then direct_line line place
    else (if bytes_eq word (codes "delete") then delete_line line place
    else (if bytes_eq word (codes "read") then read_line line place
    else preference_reading line)))

-- a line of fields: its first word says which fields follow. It is one of who is there and who belongs where, or else
-- another one
unfoldable pub fields_reading : List ℕ → Result Line ℕ
fields_reading line =
    let start = field_start line 0 in
    let word = word_at line start in
    let place = word_end line start in
    if bytes_eq word (codes "user") then user_line line place
    else (if bytes_eq word (codes "bot") then bot_line line place
    else (if bytes_eq word (codes "group") then group_line line place
    else (if bytes_eq word (codes "member") then member_line line place
    else (if bytes_eq word (codes "channel") then channel_line line place
    else (if bytes_eq word (codes "sub") then subscribe_line line place
    else message_reading line)))))

-- a line that is empty, has only spaces, or whose first byte is `#`
unfoldable pub is_nothing : List ℕ → Bool
is_nothing line = list_all is_space line || slice_index line 0 == 35

-- the last byte is this one
abbrev pub ends_in : ℕ → List ℕ → Bool
ends_in byte bytes = nat_lt 0 (length bytes) && slice_index bytes (length bytes - 1) == byte

-- the bytes without a last one that is this one
unfoldable pub without_last : ℕ → List ℕ → List ℕ
without_last byte bytes = if ends_in byte bytes then take (length bytes - 1) bytes else bytes

-- a line without its line feed
abbrev pub body_of : List ℕ → List ℕ
body_of bytes = without_last 10 bytes

-- a line without its line feed and without a carriage return before it
unfoldable pub content_of : List ℕ → List ℕ
content_of bytes = if ends_in 10 bytes then without_last 13 (body_of bytes) else bytes

-- the most bytes that a line may have without its line feed
abbrev pub max_line : ℕ
max_line = 131072

-- what a line reads as, given without what ends it
unfoldable pub content_reading : List ℕ → Result Line ℕ
content_reading line = if is_nothing line then Ok Nothing else fields_reading line

-- what a line reads as, given with its line feed where it has one; else the column at which it is bad:
-- where it is too long, else where it stops being UTF-8, else where its fields are bad
unfoldable pub reading : List ℕ → Result Line ℕ
reading bytes =
    let body = body_of bytes in
    if nat_lt max_line (length body) then Err (max_line + 1)
    else (if nat_lt (utf8_valid_len body) (length body) then Err (column_of (utf8_valid_len body))
    else content_reading (content_of bytes))

-- the line is a request
abbrev pub is_request : Line → Bool
is_request (Asked request) = true
is_request _ = false

abbrev pub IsRequest : Line → Type 0
IsRequest line = IsTrue (is_request line)
