-- What the slow computation finds of messages.
use Rattle.std.proofs.Common.{◌≡◌, ℕ, zero, suc, ◌+◌, ◌<◌, ◌≤◌, Bool, true, false, ◌&&◌, ◌||◌, ◌==◌, cond, List, [], ◌∷◌, ◌++◌, length, take, drop, get_or, refl, sym, ap, ◌∙◌, arith}
use Rattle.std.specs.Prelude.{Option, Some, None, option_map, option_to_list, is_some, not, count_by}
use Rattle.std.specs.Option.{option_map_or, option_or}
use Rattle.std.proofs.lemmas.Bool.{and_parts}
use Rattle.std.proofs.lemmas.Bool.Decides.{nat_tests}
use Rattle.std.proofs.lemmas.List.{append-nil, append_assoc, take-append-drop, take_all}
use Rattle.chat_model.specs.declared.event.Stamped.{Stamped}
use Rattle.chat_model.specs.declared.ids.ChannelId.{ChannelId}
use Rattle.chat_model.specs.declared.ids.MessageId.{MessageId}
use Rattle.chat_model.specs.declared.ids.UserId.{UserId}
use Rattle.notice_ledger.specs.Past.Journal.{occurrence}
use Rattle.notice_ledger.specs.Past.Values.{SentMessage, Sending, deal_count, is_deleted, is_participant, is_to_topic, message_of, some_from, takes_part_by, makes_deal, message, messages, numbered, sending_of, sent_by}
use Rattle.notice_ledger.proofs.Lists.{take_next}
use Rattle.notice_ledger.proofs.Appended.{messages-nil, messages-append, message-append}
use Rattle.notice_ledger.proofs.Sent.{deal_count-messages, some_from-append}

-- each send is of one message
pub sends_counted : (j : List Stamped) → count_by (λ s. makes_deal s.event) j ≡ length (messages j)
unfolding deal_count
sends_counted j = deal_count-messages j

-- an event behind these sends the message
abbrev pub is_send : List Stamped → MessageId → Stamped → Bool
is_send past m s = makes_deal s.event && length (messages past) + 1 == m.0

turned : (a b : ℕ) → (a == b) ≡ (b == a)
turned a b = grind (arith, nat_tests)

-- no events send no message
pub none-numbered : (m : MessageId) → message [] m ≡ None
none-numbered m = ap (numbered m.0) messages-nil ∙ by m.0
  where
    by : (n : ℕ) → ◌≡◌ {A = Option SentMessage} (numbered n []) None
    by zero = refl
    by (suc n) = refl

-- a message that is there stays there when more events come
message-longer : (j k : List Stamped) (m : MessageId) (x : SentMessage) → message j m ≡ Some x → message (j ++ k) m ≡ Some x
message-longer j [] m x e = ap (λ l. message l m) (append-nil j) ∙ e
message-longer j (s ∷ k) m x e =
    ap (λ l. message l m) (sym (append_assoc j (s ∷ []) k))
    ∙ message-longer (j ++ s ∷ []) k m x (message-append j s m ∙ ap (λ o. option_or o (cond (m.0 == length (messages j) + 1) (sent_by j s.event) None)) e)

-- where there was none of the number, an event that sends another message brings none
pub none-sent : (j : List Stamped) (i : ℕ) (s : Stamped) (m : MessageId) → i < length j → s ≡ get_or j i s → message (take i j) m ≡ None → is_send (take i j) m s ≡ false → message (take (i + 1) j) m ≡ None
none-sent j i s m lt at before other =
    let past = take i j in
    ap (λ k. message k m) (take_next j i s lt at)
    ∙ (message-append past s m
    ∙ (ap (λ o. option_or o (cond (m.0 == length (messages past) + 1) (sent_by past s.event) None)) before
    ∙ (ap (λ b. cond b (sent_by past s.event) None) (turned m.0 (length (messages past) + 1))
    ∙ by past (sending_of s.event) (length (messages past) + 1 == m.0) other)))
  where
    by : (past : List Stamped) (o : Option Sending) (b : Bool) → (is_some o && b) ≡ false → cond b (option_map (λ (s : Sending). let m : SentMessage = record { past = past; sender = s.sender; to = s.to; text = s.text } in m) o) None ≡ None
    by past None true e = refl
    by past None false e = refl
    by past (Some s) true e = absurd (cc)
    by past (Some s) false e = refl

-- where there was none of the number, the event that sends it gives the message of the whole list
pub message-found : (j : List Stamped) (i : ℕ) (s : Stamped) (m : MessageId) → i < length j → s ≡ get_or j i s → message (take i j) m ≡ None → is_send (take i j) m s ≡ true → message j m ≡ sent_by (take i j) s.event
message-found j i s m lt at before sends =
    let parts = and_parts (makes_deal s.event) (length (messages (take i j)) + 1 == m.0) sends in
    by (sending_of s.event) refl parts.0 (first parts.1)
  where
    as_sent : Sending → SentMessage
    as_sent o = record { past = take i j; sender = o.sender; to = o.to; text = o.text }

    first : (length (messages (take i j)) + 1 == m.0) ≡ true → message (take i j ++ s ∷ []) m ≡ sent_by (take i j) s.event
    first number =
        message-append (take i j) s m
        ∙ (ap (λ o. option_or o (cond (m.0 == length (messages (take i j)) + 1) (sent_by (take i j) s.event) None)) before
        ∙ ap (λ b. cond b (sent_by (take i j) s.event) None) (turned m.0 (length (messages (take i j)) + 1) ∙ number))

    by : (o : Option Sending) → sending_of s.event ≡ o → makes_deal s.event ≡ true → message (take i j ++ s ∷ []) m ≡ sent_by (take i j) s.event → message j m ≡ sent_by (take i j) s.event
    by None e made one = let no : false ≡ true = ap is_some (sym e) ∙ made in absurd (cc)
    by (Some o) e made one =
        let sent : sent_by (take i j) s.event ≡ Some (as_sent o) = ap (λ x. option_map as_sent x) e in
        ap (λ k. message k m) (sym (take-append-drop (i + 1) j) ∙ ap (λ k. k ++ drop (i + 1) j) (take_next j i s lt at))
        ∙ (message-longer (take i j ++ s ∷ []) (drop (i + 1) j) m (as_sent o) (one ∙ sent) ∙ sym sent)

-- ---- who takes part in a topic

or-false : (b : Bool) → (b || false) ≡ b
or-false true = refl
or-false false = refl

-- a message that passes a test still does when more events come
passes-longer : (test : ℕ → SentMessage → Bool) (k r : List Stamped) → some_from test 1 (messages k) ≡ true → some_from test 1 (messages (k ++ r)) ≡ true
passes-longer test k [] e = ap (λ l. some_from test 1 (messages l)) (append-nil k) ∙ e
passes-longer test k (s ∷ r) e =
    ap (λ l. some_from test 1 (messages l)) (sym (append_assoc k (s ∷ []) r))
    ∙ passes-longer test (k ++ s ∷ []) r
    (ap (some_from test 1) (messages-append k s)
    ∙ (some_from-append test 1 (messages k) (option_to_list (message_of (occurrence k s)))
    ∙ ap (λ b. b || some_from test (1 + length (messages k)) (option_to_list (message_of (occurrence k s)))) e))

-- an event sends to the topic
abbrev pub is_to : UserId → ChannelId → List ℕ → Stamped → Bool
is_to u c topic s = option_map_or (λ m. m.sender.0 == u.0 && is_to_topic c topic m.to) (sending_of s.event) false

-- where no event before took part, this one does where it sends to the topic a message that isn't deleted
pub part-next : (j : List Stamped) (u : UserId) (c : ChannelId) (topic : List ℕ) (i : ℕ) (s : Stamped) (b : Bool) → i < length j → s ≡ get_or j i s
    → some_from (takes_part_by j u c topic) 1 (messages (take i j)) ≡ false
    → (is_to u c topic s && not (is_deleted j (record { 0 = length (messages (take i j)) + 1 }))) ≡ b
    → some_from (takes_part_by j u c topic) 1 (messages (take (i + 1) j)) ≡ b
part-next j u c topic i s b lt at before told =
    let test = takes_part_by j u c topic in let k = take i j in
    let e : 1 + length (messages k) ≡ length (messages k) + 1 = omega arith in
    ap (λ l. some_from test 1 (messages l)) (take_next j i s lt at)
    ∙ (ap (some_from test 1) (messages-append k s)
    ∙ (some_from-append test 1 (messages k) (option_to_list (message_of (occurrence k s)))
    ∙ (ap (λ x. x || some_from test (1 + length (messages k)) (option_to_list (message_of (occurrence k s)))) before
    ∙ (ap (λ n. some_from test n (option_to_list (message_of (occurrence k s)))) e ∙ (one k (length (messages k) + 1) (sending_of s.event) ∙ told)))))
  where
    one : (k : List Stamped) (n : ℕ) (o : Option Sending) → some_from (takes_part_by j u c topic) n (option_to_list (option_map (λ (s : Sending). let m : SentMessage = record { past = k; sender = s.sender; to = s.to; text = s.text } in m) o))
        ≡ (option_map_or (λ (m : Sending). m.sender.0 == u.0 && is_to_topic c topic m.to) o false && not (is_deleted j (record { 0 = n })))
    one k n None = refl
    one k n (Some m) = or-false ((m.sender.0 == u.0 && is_to_topic c topic m.to) && not (is_deleted j (record { 0 = n })))

pub part-found : (j : List Stamped) (u : UserId) (c : ChannelId) (topic : List ℕ) (i : ℕ) → some_from (takes_part_by j u c topic) 1 (messages (take (i + 1) j)) ≡ true → is_participant j u c topic ≡ true
unfolding is_participant
part-found j u c topic i e =
    let test = takes_part_by j u c topic in
    ap (λ l. some_from test 1 (messages l)) (sym (take-append-drop (i + 1) j)) ∙ passes-longer test (take (i + 1) j) (drop (i + 1) j) e

pub part-none : (j : List Stamped) (u : UserId) (c : ChannelId) (topic : List ℕ) (i : ℕ) → length j ≤ i → some_from (takes_part_by j u c topic) 1 (messages (take i j)) ≡ false → is_participant j u c topic ≡ false
unfolding is_participant
part-none j u c topic i le e = ap (λ l. some_from (takes_part_by j u c topic) 1 (messages l)) (sym (take_all i j le)) ∙ e
