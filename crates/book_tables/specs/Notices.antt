-- The notices that wait, as the tables keep them: which one is sought, in which order they stand, and how one moves on.
use Rattle.std.specs.Prelude.{◌≡◌, ℕ, zero, suc, ◌+◌, ◌-◌, Bool, true, false, not, ◌&&◌, ◌||◌, ◌==◌, nat_lt, List, [], ◌∷◌, Option, Some, None, is_some, take, drop, if◌then◌else◌}
use Rattle.std.specs.Option.{option_or}
use Rattle.std.specs.List.{AllByRecursion, flat_map, list_any}
use Rattle.chat_model.specs.declared.ids.DealNo.{DealNo}
use Rattle.chat_model.specs.declared.ids.MessageId.{MessageId}
use Rattle.chat_model.specs.declared.ids.UserId.{UserId}
use Rattle.chat_model.specs.declared.trigger.Way.{Way}
use Rattle.chat_model.specs.declared.trigger.Way.TheVariants.{Mail, Push}
use Rattle.chat_model.specs.Outcomes.{has_deal}
use Rattle.notice_ledger.specs.Past.Values.{is_one_of}
use Rattle.chat_model.specs.declared.row.Cause.{Cause}
use Rattle.chat_model.specs.declared.row.Stage.{Stage}
use Rattle.chat_model.specs.declared.row.Stage.TheVariants.{Flight, Held, Ready}
use Rattle.book_tables.specs.declared.tables.Waiting.{Waiting}

-- ---- one notice

abbrev pub is_ready_stage : Stage → Bool
is_ready_stage Ready = true
is_ready_stage _ = false

abbrev pub is_ready : Waiting → Bool
is_ready w = is_ready_stage w.stage

-- in flight or held
abbrev pub is_undecided : Waiting → Bool
is_undecided w = not (is_ready w)

abbrev pub same_stage : Stage → Stage → Bool
same_stage Flight Flight = true
same_stage Held Held = true
same_stage Ready Ready = true
same_stage _ _ = false

-- something bars it
abbrev pub is_barred : Waiting → Bool
is_barred w = is_some w.barred

-- it has come this far and no further, and nothing bars it
abbrev pub is_at_stage : Stage → Waiting → Bool
is_at_stage g w = not (is_barred w) && same_stage w.stage g

-- a user's mail notice stands before the push
abbrev pub rank : Way → ℕ
rank Mail = 0
rank Push = 1

-- a mail notice of the user
abbrev pub is_mail_to : UserId → Waiting → Bool
is_mail_to u w = w.user.0 == u.0 && rank w.way == 0

-- and ready
abbrev pub is_ready_mail_to : UserId → Waiting → Bool
is_ready_mail_to u w = is_mail_to u w && is_ready w

-- a mail notice, and undecided
abbrev pub is_undecided_mail : Waiting → Bool
is_undecided_mail w = rank w.way == 0 && is_undecided w

-- a push, and undecided
abbrev pub is_undecided_push : Waiting → Bool
is_undecided_push w = rank w.way == 1 && is_undecided w

-- ---- which one

-- a notice of the deal
abbrev pub of_deal : DealNo → Waiting → Bool
of_deal k w = w.deal.0 == k.0

-- the notice of a deal to a user by a way
abbrev pub is_at : DealNo → UserId → Way → Waiting → Bool
is_at k u way w = w.deal.0 == k.0 && (w.user.0 == u.0 && rank w.way == rank way)

abbrev pub is_undecided_at : DealNo → UserId → Way → Waiting → Bool
is_undecided_at k u way w = is_at k u way w && is_undecided w

abbrev pub is_undecided_of : DealNo → Waiting → Bool
is_undecided_of k w = of_deal k w && is_undecided w

-- the user's notice of a message by a way, and ready
abbrev pub is_ready_of : UserId → MessageId → Way → Waiting → Bool
is_ready_of u m way w = ((w.user.0 == u.0 && rank w.way == rank way) && is_ready w) && w.message.0 == m.0

-- the user's batch row of a message
abbrev pub is_batch_row : UserId → MessageId → Waiting → Bool
is_batch_row u m w = is_ready_of u m Mail w

-- and of one of these messages
abbrev pub is_one_batch_row : UserId → List MessageId → Waiting → Bool
is_one_batch_row u ms w = is_ready_mail_to u w && list_any (λ m. w.message.0 == m.0) ms

-- a user's notice of one of these deals
abbrev pub is_named : UserId → List DealNo → Waiting → Bool
is_named u deals w = w.user.0 == u.0 && has_deal deals w.deal

-- the tests of which a user's undecided notices of these deals pass one
abbrev pub named_by : UserId → List DealNo → List (Waiting → Bool)
named_by u deals = flat_map (λ k. is_undecided_at k u Mail ∷ is_undecided_at k u Push ∷ []) deals

-- ---- the order

-- it stands before the notice of a deal to a user by a way: by deal, then by user, then mail before push
abbrev pub is_before : DealNo → UserId → Way → Waiting → Bool
is_before k u way w = nat_lt w.deal.0 k.0 || (w.deal.0 == k.0 && (nat_lt w.user.0 u.0 || (w.user.0 == u.0 && nat_lt (rank w.way) (rank way))))

abbrev pub Precedes : Waiting → Waiting → Type 0
Precedes v w = is_before w.deal w.user w.way v ≡ true

-- each stands before those after it
abbrev pub IsInOrder : List Waiting → Type 0
IsInOrder [] = Unit {0}
IsInOrder (w ∷ ws) = AllByRecursion (Precedes w) ws × IsInOrder ws

-- none stands before one in front of it
abbrev pub AreSorted : List Waiting → Type 0
AreSorted [] = Unit {0}
AreSorted (w ∷ ws) = AllByRecursion (λ v. is_before w.deal w.user w.way v ≡ false) ws × AreSorted ws

-- a notice before those that don't stand before it
abbrev pub put_in_order : Waiting → List Waiting → List Waiting
put_in_order w [] = w ∷ []
put_in_order w (v ∷ vs) = if is_before w.deal w.user w.way v then v ∷ put_in_order w vs else w ∷ v ∷ vs

-- and so each of these
abbrev pub put_all_in_order : List Waiting → List Waiting → List Waiting
put_all_in_order [] vs = vs
put_all_in_order (w ∷ ws) vs = put_all_in_order ws (put_in_order w vs)

-- each is of the message of its deal: each send makes one
abbrev pub AreNumbered : List Waiting → Type 0
AreNumbered ws = AllByRecursion (λ w. w.message.0 ≡ w.deal.0 + 1) ws

-- no notice passes the test
abbrev pub NonePasses : (Waiting → Bool) → List Waiting → Type 0
NonePasses test ws = AllByRecursion (λ w. test w ≡ false) ws

-- the notice at the place passes the test, and no other does
abbrev pub IsOnly : (Waiting → Bool) → List Waiting → ℕ → Type 0
IsOnly test [] i = ⊥
IsOnly test (w ∷ ws) zero = (test w ≡ true) × NonePasses test ws
IsOnly test (w ∷ ws) (suc i) = (test w ≡ false) × IsOnly test ws i

-- what a search for the one notice that passes the test found
abbrev pub IsFound : (Waiting → Bool) → List Waiting → Option ℕ → Type 0
IsFound test ws None = NonePasses test ws
IsFound test ws (Some i) = IsOnly test ws i

-- those from one place up to another pass the test, and no others
pub record IsStretchOf (test : Waiting → Bool) (from to : ℕ) (ws : List Waiting) : Type 0 where
  pub before : NonePasses test (take from ws)
  pub at : AllByRecursion (λ w. test w ≡ true) (take (to - from) (drop from ws))
  pub behind : NonePasses test (drop to ws)

-- ---- how one moves on

-- an undecided one becomes ready, where it does
abbrev pub ready_if : Bool → Stage → Stage
ready_if true g = Ready
ready_if false g = g

abbrev pub readied_if : Bool → Waiting → Waiting
readied_if readies w = record w { stage = ready_if readies w.stage }

abbrev pub readied : Waiting → Waiting
readied w = readied_if true w

-- it becomes ready, or is held at least
abbrev pub dealt_by : Bool → Stage → Stage
dealt_by true g = Ready
dealt_by false Flight = Held
dealt_by false g = g

abbrev pub moved : Bool → Waiting → Waiting
moved readies w = record w { stage = dealt_by readies w.stage }

-- its user was found idle, or live while it is a push that goes to who is online
abbrev pub goes_ready : List UserId → List UserId → Waiting → Bool
goes_ready idle live w = is_one_of idle w.user || (w.online && is_one_of live w.user)

-- what barred it first counts
abbrev pub barred_by : Cause → Waiting → Waiting
barred_by cause w = record w { barred = option_or w.barred (Some cause) }

-- where its deal is dealt
abbrev pub dealt_to : List UserId → List UserId → Waiting → Waiting
dealt_to idle live w = moved (goes_ready idle live w) w
