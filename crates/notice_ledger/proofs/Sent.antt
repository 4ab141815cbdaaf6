-- Each notice is of a message of the journal, and each message makes a deal.
use Rattle.std.proofs.Common.{◌≡◌, ℕ, zero, suc, ◌+◌, Bool, true, false, ◌&&◌, ◌||◌, ◌==◌, List, [], ◌∷◌, ◌++◌, length, refl, sym, ap, ◌∙◌, subst, add-one, arith, length-append}
use Rattle.std.specs.Prelude.{Option, Some, None, option_map, option_to_list, slice_get, cond, is_some, not, MatchOption}
use Rattle.std.specs.Option.{option_map_or}
use Rattle.std.specs.List.{AllByRecursion, filter_map}
use Rattle.chat_model.specs.declared.event.Stamped.{Stamped}
use Rattle.chat_model.specs.declared.event.Event.{Event}
use Rattle.chat_model.specs.declared.ids.ChannelId.{ChannelId}
use Rattle.chat_model.specs.declared.ids.MessageId.{MessageId}
use Rattle.chat_model.specs.declared.ids.UserId.{UserId}
use Rattle.chat_model.specs.declared.trigger.Way.{Way}
use Rattle.chat_model.specs.declared.trigger.Way.TheVariants.{Mail, Push}
use Rattle.chat_model.specs.declared.trigger.Trigger.{Trigger}
use Rattle.notice_ledger.specs.Past.Journal.{Occurrence, occurrence}
use Rattle.notice_ledger.specs.Past.Values.{numbered, SentMessage, Sending, sending_of, sent_by, message_of, messages, users, makes_deal, deal_count, deletes, is_deleted, is_to_topic, takes_part_by, some_from, is_participant}
use Rattle.notice_ledger.specs.Past.Triggers.{trigger, came_by}
use Rattle.notice_ledger.specs.Past.Owed.{Notice, notice_of, owed_of, owed_by, notices, account_of, is_pending, waiting}
use Rattle.notice_ledger.proofs.Lists.{AllByRecursion-append, AllByRecursion-weaker, AllByRecursion-filter_map, AllByRecursion-flat_map, by_appending, AllByRecursion-filter}
use Rattle.notice_ledger.proofs.Appended.{notices-nil, notices-append, messages-nil, messages-append, is_deleted-append, deal_count-nil, deal_count-append}

-- the notice's message stands at the notice's number
abbrev pub IsOfMessage : List Stamped → Notice → Type 0
IsOfMessage j n = numbered n.number.0 (messages j) ≡ Some n.message

slice_get-longer : {A : Type 0} (xs ys : List A) (n : ℕ) (x : A) → slice_get xs n ≡ Some x → slice_get (xs ++ ys) n ≡ Some x
slice_get-longer [] ys n x h = absurd (cc)
slice_get-longer (y ∷ xs) ys zero x h = h
slice_get-longer (y ∷ xs) ys (suc n) x h = slice_get-longer xs ys n x h

numbered-longer : {A : Type 0} (n : ℕ) (xs ys : List A) (x : A) → numbered n xs ≡ Some x → numbered n (xs ++ ys) ≡ Some x
numbered-longer zero xs ys x h = absurd (cc)
numbered-longer (suc n) xs ys x h = slice_get-longer xs ys n x h

slice_get-last : {A : Type 0} (xs : List A) (x : A) → slice_get (xs ++ x ∷ []) (length xs) ≡ Some x
slice_get-last [] x = refl
slice_get-last (y ∷ xs) x = slice_get-last xs x

-- the last of a list is the one of its length
pub numbered-last : {A : Type 0} (xs : List A) (x : A) → numbered (length xs + 1) (xs ++ x ∷ []) ≡ Some x
numbered-last xs x = rw add-one (slice_get-last xs x)

-- what a send owes has its number and its message
pub record HasMessage (o : Occurrence) (m : SentMessage) (n : Notice) : Type 0 where
  pub number : n.number.0 ≡ length (messages o.past) + 1
  pub message : n.message ≡ m

notice_from : (o : Occurrence) (m : SentMessage) (u : UserId) (w : Way) (t : Option Trigger) (n : Notice) → option_map (λ (t : Trigger). let n : Notice = record {
  user = u;
  number = record { 0 = length (messages o.past) + 1 };
  way = w;
  message = m;
  trigger = t;
  via = came_by o.past m.text u t;
  deal = record { 0 = deal_count o.past };
  owing = o;
} in n) t ≡ Some n → HasMessage o m n
notice_from o m u w None n e = absurd (cc)
notice_from o m u w (Some t) n e =
    let P : Option Notice → Type 0 = λ x. MatchOption x (Unit {0}) (HasMessage o m) in
    subst P e (record { number = refl; message = refl })

owed_of-each : (o : Occurrence) (m : SentMessage) → AllByRecursion (HasMessage o m) (owed_of o m)
owed_of-each o m = AllByRecursion-flat_map (HasMessage o m) (λ u. filter_map (notice_of o m u) (Mail ∷ Push ∷ [])) (λ u.
    AllByRecursion-filter_map (HasMessage o m) (notice_of o m u) (λ w n e. notice_from o m u w (trigger o.past m m.text u w) n e) (Mail ∷ Push ∷ [])) (users o.past)

owed_by-messages : (j : List Stamped) (s : Stamped) (m : Option SentMessage) → message_of (occurrence j s) ≡ m → AllByRecursion (IsOfMessage (j ++ s ∷ [])) (option_map_or (owed_of (occurrence j s)) m [])
owed_by-messages j s None e = tt
owed_by-messages j s (Some m) e =
    AllByRecursion-weaker (HasMessage (occurrence j s) m) (IsOfMessage (j ++ s ∷ [])) (λ n h.
    ap (λ k. numbered k (messages (j ++ s ∷ []))) h.number
    ∙ (ap (numbered (length (messages j) + 1)) (messages-append j s ∙ ap (λ o. messages j ++ option_to_list o) e)
    ∙ (numbered-last (messages j) m ∙ ap Some (sym h.message)))) (owed_of (occurrence j s) m) (owed_of-each (occurrence j s) m)

-- each notice's message stands at its number
pub notices-messages : (j : List Stamped) → AllByRecursion (IsOfMessage j) (notices j)
notices-messages = by_appending (λ j. AllByRecursion (IsOfMessage j) (notices j)) (rw notices-nil tt) (λ j s h.
    rw (notices-append j s) (AllByRecursion-append (IsOfMessage (j ++ s ∷ [])) (notices j) (owed_by (occurrence j s))
    (AllByRecursion-weaker (IsOfMessage j) (IsOfMessage (j ++ s ∷ [])) (λ n at. ap (numbered n.number.0) (messages-append j s) ∙ numbered-longer n.number.0 (messages j) (option_to_list (message_of (occurrence j s))) n.message at) (notices j) h)
    (owed_by-messages j s (message_of (occurrence j s)) refl)))

pub waiting-messages : (j : List Stamped) → AllByRecursion (IsOfMessage j) (waiting j)
unfolding waiting
waiting-messages j = AllByRecursion-filter (IsOfMessage j) (λ n. is_pending (account_of j n)) (notices j) (notices-messages j)

one_each : (past : List Stamped) (e : Event) → cond (makes_deal e) 1 0 ≡ length (option_to_list (sent_by past e))
one_each past e = by (sending_of e)
  where
    by : (o : Option Sending) → cond (is_some o) 1 0 ≡ length (option_to_list (option_map (λ (s : Sending). let m : SentMessage = record { past = past; sender = s.sender; to = s.to; text = s.text } in m) o))
    by None = refl
    by (Some s) = refl

-- each message makes a deal
pub deal_count-messages : (j : List Stamped) → deal_count j ≡ length (messages j)
deal_count-messages = by_appending (λ j. deal_count j ≡ length (messages j)) (deal_count-nil ∙ sym (ap length messages-nil)) (λ j s h.
    deal_count-append j s
    ∙ (ap (λ n. n + cond (makes_deal s.event) 1 0) h
    ∙ (ap (λ n. length (messages j) + n) (one_each j s.event)
    ∙ (sym (length-append (messages j) (option_to_list (message_of (occurrence j s)))) ∙ ap length (sym (messages-append j s))))))

-- ---- who takes part in a topic

pub some_from-append : (test : ℕ → SentMessage → Bool) (n : ℕ) (xs ys : List SentMessage) → some_from test n (xs ++ ys) ≡ (some_from test n xs || some_from test (n + length xs) ys)
some_from-append test n [] ys = ap (λ k. some_from test k ys) (omega arith)
some_from-append test n (m ∷ xs) ys =
    let e : (n + 1) + length xs ≡ n + length (m ∷ xs) = omega arith in
    ap (λ b. test n m || b) (some_from-append test (n + 1) xs ys ∙ ap (λ k. some_from test (n + 1) xs || some_from test k ys) e)
    ∙ either (test n m) (some_from test (n + 1) xs) (some_from test (n + length (m ∷ xs)) ys)
  where
    either : (a b c : Bool) → (a || (b || c)) ≡ ((a || b) || c)
    either true b c = refl
    either false b c = refl

some_from-same : (test other : ℕ → SentMessage → Bool) → ((n : ℕ) (m : SentMessage) → test n m ≡ other n m) → (n : ℕ) (ms : List SentMessage) → some_from test n ms ≡ some_from other n ms
some_from-same test other same n [] = refl
some_from-same test other same n (m ∷ ms) = (λ i. same n m i || some_from-same test other same (n + 1) ms i)

-- where the event deletes nothing, and the next message isn't deleted yet, the one who sends to the topic takes part in it too
pub is_participant-append : (j : List Stamped) (s : Stamped) (u : UserId) (c : ChannelId) (topic : List ℕ) → ((m : MessageId) → deletes m s.event ≡ false)
    → is_deleted j (record { 0 = length (messages j) + 1 }) ≡ false
    → is_participant (j ++ s ∷ []) u c topic ≡ (is_participant j u c topic || option_map_or (λ m. m.sender.0 == u.0 && is_to_topic c topic m.to) (sending_of s.event) false)
unfolding is_participant
is_participant-append j s u c topic no_deletion new =
    let here = takes_part_by j u c topic in
    ap (some_from (takes_part_by (j ++ s ∷ []) u c topic) 1) (messages-append j s)
    ∙ (some_from-same (takes_part_by (j ++ s ∷ []) u c topic) here (λ n m. ap (λ b. m.sender.0 == u.0 && is_to_topic c topic m.to && not b) (deleted_before (record { 0 = n }))) 1 (messages j ++ option_to_list (message_of (occurrence j s)))
    ∙ (some_from-append here 1 (messages j) (option_to_list (message_of (occurrence j s)))
    ∙ ap (λ b. some_from here 1 (messages j) || b) (one_more (sending_of s.event))))
  where
    deleted_before : (m : MessageId) → is_deleted (j ++ s ∷ []) m ≡ is_deleted j m
    deleted_before m = is_deleted-append j s m ∙ (ap (λ b. is_deleted j m || b) (no_deletion m) ∙ or_no (is_deleted j m))
      where
        or_no : (b : Bool) → (b || false) ≡ b
        or_no true = refl
        or_no false = refl

    undeleted : is_deleted j (record { 0 = 1 + length (messages j) }) ≡ false
    undeleted = let e : 1 + length (messages j) ≡ length (messages j) + 1 = omega arith in ap (λ n. is_deleted j (record { 0 = n })) e ∙ new

    whole : (a b d : Bool) → d ≡ false → (((a && b) && not d) || false) ≡ (a && b)
    whole true true d e = ap (λ x. not x || false) e
    whole true false d e = refl
    whole false b d e = refl

    one_more : (o : Option Sending) → some_from (takes_part_by j u c topic) (1 + length (messages j)) (option_to_list (option_map (λ (s : Sending). let m : SentMessage = record { past = j; sender = s.sender; to = s.to; text = s.text } in m) o))
        ≡ option_map_or (λ (s : Sending). s.sender.0 == u.0 && is_to_topic c topic s.to) o false
    one_more None = refl
    one_more (Some sent) = whole (sent.sender.0 == u.0) (is_to_topic c topic sent.to) (is_deleted j (record { 0 = 1 + length (messages j) })) undeleted

pub is_participant-nil : (u : UserId) (c : ChannelId) (topic : List ℕ) → is_participant [] u c topic ≡ false
unfolding is_participant
is_participant-nil u c topic = ap (some_from (takes_part_by [] u c topic) 1) messages-nil
