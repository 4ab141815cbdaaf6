-- What a read or a deletion makes of the notices of some users and messages, as the tables keep them.
use Rattle.std.specs.Prelude.{ℕ, ◌+◌, ◌-◌, ◌^◌, Bool, not, ◌&&◌, ◌==◌, List, [], ◌∷◌, length, map, filter, min, if◌then◌else◌}
use Rattle.std.specs.List.{flat_map, list_any}
use Rattle.chat_model.specs.declared.ids.MessageId.{MessageId}
use Rattle.chat_model.specs.declared.ids.UserId.{UserId}
use Rattle.chat_model.specs.declared.row.Cause.{Cause}
use Rattle.chat_model.specs.declared.trigger.Way.{Way}
use Rattle.chat_model.specs.declared.trigger.Way.TheVariants.{Mail, Push}
use Rattle.book_tables.specs.declared.pushes.PushKey.{PushKey}
use Rattle.book_tables.specs.declared.tables.Waiting.{Waiting}
use Rattle.book_tables.specs.Notices.{rank, is_barred, is_undecided, barred_by}
use Rattle.book_tables.specs.Pushes.{has_push}

-- ---- which notices

-- the user with each of these messages
abbrev pub pairs_read : UserId → List MessageId → List PushKey
pairs_read user messages = map (λ m. record { user = user; message = m }) messages

-- each of these users with the message
abbrev pub pairs_gone : List UserId → MessageId → List PushKey
pairs_gone users message = map (λ u. record { user = u; message = message }) users

-- the notice of a pair by a way
abbrev pub is_of_pair : PushKey → Way → Waiting → Bool
is_of_pair p way w = w.message.0 == p.message.0 && (w.user.0 == p.user.0 && rank w.way == rank way)

-- and nothing bars it
abbrev pub is_unbarred_of : PushKey → Way → Waiting → Bool
is_unbarred_of p way w = is_of_pair p way w && not (is_barred w)

-- a notice of one of these pairs
abbrev pub is_one_of_pairs : List PushKey → Waiting → Bool
is_one_of_pairs pairs w = has_push pairs w.user w.message

-- a push of one of these pairs
abbrev pub is_pushed_pair : List PushKey → Waiting → Bool
is_pushed_pair pairs w = is_one_of_pairs pairs w && rank w.way == 1

-- the tests of which the notices of these pairs that nothing bars pass one
abbrev pub unbarred_tests : List PushKey → List (Waiting → Bool)
unbarred_tests pairs = flat_map (λ p. is_unbarred_of p Mail ∷ is_unbarred_of p Push ∷ []) pairs

-- the user's push of one of these messages
abbrev pub is_removed : UserId → List MessageId → Waiting → Bool
is_removed user messages w = w.user.0 == user.0 && (rank w.way == 1 && list_any (λ m. m.0 == w.message.0) messages)

-- ---- what becomes of them

-- those that pass the test are barred: an undecided one leaves, and a ready one stays
abbrev pub barred_where : (Waiting → Bool) → Cause → List Waiting → List Waiting
barred_where test cause ws = map (λ w. if test w then barred_by cause w else w) (filter (λ w. not (test w && is_undecided w)) ws)

-- those that pass the test are revoked
abbrev pub revoked_where : (Waiting → Bool) → Cause → List Waiting → List Waiting
revoked_where test cause ws = map (λ w. if test w then barred_by cause w else w) ws

-- how many notices of a pair by a way a bar cancels: those that wait and nothing bars, and those that a live queue cleared
abbrev pub cancelled_of_pair : List Waiting → List Waiting → PushKey → Way → ℕ
cancelled_of_pair waiting cleared p way = length (filter (is_unbarred_of p way) waiting) + length (filter (is_of_pair p way) cleared)

-- how many notices of these pairs it cancels
abbrev pub cancelled_of_pairs : List Waiting → List Waiting → List PushKey → ℕ
cancelled_of_pairs waiting cleared [] = 0
cancelled_of_pairs waiting cleared (p ∷ ps) =
    (cancelled_of_pair waiting cleared p Mail + cancelled_of_pair waiting cleared p Push) + cancelled_of_pairs waiting cleared ps

-- the same in 64 bits
abbrev pub cancelled_by : List Waiting → List Waiting → List PushKey → ℕ
cancelled_by waiting cleared pairs = min (cancelled_of_pairs waiting cleared pairs) (2 ^ 64 - 1)

-- those of these messages whose push to the user is active and not revoked
abbrev pub revoked_in : List Waiting → UserId → List MessageId → List MessageId
revoked_in active user messages = filter (λ m. list_any (is_unbarred_of (record { user = user; message = m }) Push) active) messages
