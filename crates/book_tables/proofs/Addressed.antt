-- What a message owes those to whom it goes is what it owes all users in turn.
use Rattle.std.proofs.Common.{◌≡◌, ◌≢◌, ℕ, zero, suc, ◌+◌, ◌<◌, ◌≤◌, Bool, true, false, ◌&&◌, ◌||◌, ◌==◌, cond, not, List, [], ◌∷◌, ◌++◌, length, map, get_or, refl, sym, ap, ◌∙◌, arith, ⊎_elim}
use Rattle.std.specs.Prelude.{Option, None, is_some, filter, slice_get, if◌then◌else◌}
use Rattle.std.specs.Option.{option_map_or}
use Rattle.std.specs.List.{list_any, flat_map, range_with_len, AllByRecursion}
use Rattle.std.proofs.Math.Bool.{and-true, and-false}
use Rattle.std.proofs.lemmas.Bool.{eq-eqb}
use Rattle.std.proofs.lemmas.Bool.Decides.{nat_tests, eqb_tells}
use Rattle.chat_model.specs.declared.event.Stamped.{Stamped}
use Rattle.chat_model.specs.declared.ids.ChannelId.{ChannelId}
use Rattle.chat_model.specs.declared.ids.UserId.{UserId}
use Rattle.chat_model.specs.declared.mentions.UserName.{UserName}
use Rattle.chat_model.specs.declared.policy.Policy.TheVariants.{Inherit}
use Rattle.chat_model.proofs.OnceEach.{ascending-below, ascending_once-ascending}
use Rattle.mention_scan.specs.Mentions.{is_mentioned}
use Rattle.notice_ledger.proofs.InOrder.{ascending-rest}
use Rattle.notice_ledger.specs.InOrder.{is_ascending}
use Rattle.notice_ledger.specs.declared.destination.Destination.{Destination}
use Rattle.notice_ledger.specs.declared.destination.Destination.TheVariants as destination
use Rattle.notice_ledger.specs.Past.Journal.{occurrence}
use Rattle.notice_ledger.specs.Past.Values.{numbered, people, user_names, users, is_user, is_one_of, messages, SentMessage, is_to_topic, takes_part_by, some_from, is_participant, policy}
use Rattle.notice_ledger.specs.Past.Triggers.{goes_to, mentions_of, policy_for}
use Rattle.notice_ledger.specs.Past.Owed.{owed_by}
use Rattle.book_tables.specs.declared.tables.Message.{Message}
use Rattle.book_tables.specs.declared.tables.Tables.{Tables}
use Rattle.book_tables.specs.declared.topic_key.TopicKey.{TopicKey}
use Rattle.book_tables.specs.Tables.{Holds, message_kept, in_flight, send_of, owed_user}
use Rattle.book_tables.specs.Gathered.{topic_of, took_part_from, owed_there}
use Rattle.book_tables.proofs.Numbered.{slice_get-past}
use Rattle.book_tables.proofs.Following.{owed-none, owed-users}

abbrev id_of : ℕ → UserId
id_of k = record { 0 = k }

-- so many users from a number on
abbrev ids : ℕ → ℕ → List UserId
ids start len = map id_of (range_with_len start len)

-- ---- ascending users

-- an item of a list is one of it
pub item_there : (us : List UserId) (i : ℕ) (d : UserId) → i < length us → is_one_of us (get_or us i d) ≡ true
item_there [] i d lt = absurd (omega arith)
item_there (u ∷ us) zero d lt = ap (λ b. b || is_one_of us u) (eq-eqb u.0 u.0 refl)
item_there (u ∷ us) (suc i) d lt = either (u.0 == (get_or us i d).0) (is_one_of us (get_or us i d)) (item_there us i d (omega arith))
  where
    either : (a b : Bool) → b ≡ true → (a || b) ≡ true
    either true b h = refl
    either false b h = h

raised : (low k : ℕ) (us : List UserId) → low ≤ k → AllByRecursion (λ u. k < u.0) us → AllByRecursion (λ u. low + 1 ≤ u.0) us
raised low k [] le all = tt
raised low k (u ∷ us) le all = let above : k < u.0 = all.0 in (omega arith, raised low k us le all.1)

none_of : (k : ℕ) (us : List UserId) → AllByRecursion (λ u. k + 1 ≤ u.0) us → is_one_of us (id_of k) ≡ false
none_of k [] all = refl
none_of k (u ∷ us) all =
    let above : k + 1 ≤ u.0 = all.0 in let apart : (u.0 == k) ≡ false = grind (arith, nat_tests) in
    ap (λ b. b || is_one_of us (id_of k)) apart ∙ none_of k us all.1

-- what is given for some users, ascending, is what is given for all from a number on, where others give nothing
over_some : {A : Type 0} (f : UserId → List A) (start len end : ℕ) → end ≡ start + len → ((u : UserId) → end ≤ u.0 → f u ≡ []) → (us : List UserId) → is_ascending us ≡ true → AllByRecursion (λ u. start ≤ u.0) us → ((u : UserId) → start ≤ u.0 → is_one_of us u ≡ false → f u ≡ [])
    → flat_map f us ≡ flat_map f (ids start len)
over_some {A} f start zero end e past us up low others = none us low
  where
    none : (vs : List UserId) → AllByRecursion (λ v. start ≤ v.0) vs → flat_map f vs ≡ []
    none [] all = refl
    none (v ∷ vs) all =
        let above : start ≤ v.0 = all.0 in let behind : end ≤ v.0 = omega arith in
        ap (λ xs. xs ++ flat_map f vs) (past v behind) ∙ none vs all.1
over_some f start (suc len) end e past [] up low others =
    let next : end ≡ (start + 1) + len = omega arith in let here : start ≤ start = omega arith in
    over_some f (start + 1) len end next past [] refl tt (λ u h out. others u (omega arith) out)
    ∙ sym (ap (λ xs. xs ++ flat_map f (ids (start + 1) len)) (others (id_of start) here refl))
over_some f start (suc len) end e past (u ∷ us) up low others =
    let next : end ≡ (start + 1) + len = omega arith in let here : start ≤ start = omega arith in let first : start ≤ u.0 = low.0 in
    let below = ascending-below (λ (v : UserId). v.0) u us up in
    ⊎_elim
    (λ h.
    let at : u.0 ≡ start = h.1 in
    ap (λ k. f (id_of k) ++ flat_map f us) at
    ∙ ap (λ xs. f (id_of start) ++ xs)
    (over_some f (start + 1) len end next past us (ascending-rest u us up) (raised start u.0 us first below)
    (λ v more out. let other : (u.0 == v.0) ≡ false = grind (arith, nat_tests) in others v (omega arith) (ap (λ b. b || is_one_of us v) other ∙ out))))
    (λ h.
    let apart : u.0 ≢ start = h.1 in let above : start + 1 ≤ u.0 = omega arith in
    let all : AllByRecursion (λ (v : UserId). start + 1 ≤ v.0) (u ∷ us) = (above, raised start u.0 us first below) in
    over_some f (start + 1) len end next past (u ∷ us) up all (λ v more out. others v (omega arith) out)
    ∙ sym (ap (λ xs. xs ++ flat_map f (ids (start + 1) len)) (others (id_of start) here (none_of start (u ∷ us) all))))
    (eqb_tells u.0 start)

-- ---- users who are there

gotten : {A : Type 0} (xs : List A) (n : ℕ) → n < length xs → is_some (slice_get xs n) ≡ true
gotten [] n lt = absurd (omega arith)
gotten (x ∷ xs) zero lt = refl
gotten (x ∷ xs) (suc n) lt = gotten xs n (omega arith)

numbered_there : {A : Type 0} (xs : List A) (n : ℕ) → 1 ≤ n → n < 1 + length xs → is_some (numbered n xs) ≡ true
numbered_there xs zero low high = absurd (omega arith)
numbered_there xs (suc n) low high = gotten xs n (omega arith)

numbered_past : {A : Type 0} (xs : List A) (n : ℕ) → 1 + length xs ≤ n → numbered n xs ≡ None
numbered_past xs zero h = absurd (omega arith)
numbered_past xs (suc n) h = slice_get-past n xs (omega arith)

over_there : {A : Type 0} (f : UserId → List A) (there : UserId → Bool) (start len : ℕ) → ((u : UserId) → start ≤ u.0 → u.0 < start + len → there u ≡ true) → flat_map (λ u. if there u then f u else []) (ids start len) ≡ flat_map f (ids start len)
over_there f there start zero inside = refl
over_there f there start (suc len) inside =
    let here : start ≤ start = omega arith in let within : start < start + suc len = omega arith in
    ap (λ b. (if b then f (id_of start) else []) ++ flat_map (λ u. if there u then f u else []) (ids (start + 1) len)) (inside (id_of start) here within)
    ∙ ap (λ xs. f (id_of start) ++ xs) (over_there f there (start + 1) len (λ u low high. inside u (omega arith) (omega arith)))

-- ---- whom a message concerns

-- those whom a text mentions ascend
pub mentioned-ascend : (past : List Stamped) (text : List ℕ) → is_ascending (mentions_of past text).users ≡ true
unfolding mentions_of
mentioned-ascend past text = ascending_once-ascending (λ (u : UserId). u.0) (map (λ (user : UserName). user.id) (filter (is_mentioned text (user_names past)) (user_names past)))

nothing : {A : Type 0} (b : Bool) (xs : List A) → xs ≡ [] → (if b then xs else []) ≡ []
nothing true xs e = e
nothing false xs e = refl

module _ (t : Tables) (past : List Stamped) (holds : Holds t past) where
  -- what the message owes those to whom it goes, one after another, is what it owes
  pub owed-addressed : (at : ℕ) (k : Message) (us : List UserId) → is_ascending us ≡ true → ((u : UserId) → is_one_of us u ≡ goes_to past k.to u) → flat_map (owed_there past at k) us ≡ map in_flight (owed_by (occurrence past (send_of at k)))
  owed-addressed at k us up goes =
      let many = length (people past) in let long : suc many ≡ 0 + suc many = omega arith in
      let behind : (u : UserId) → suc many ≤ u.0 → owed_there past at k u ≡ [] = λ u high. ap (λ b. if b then owed_user past at k u else []) (ap is_some (numbered_past (people past) u.0 (omega arith))) in
      let others : (u : UserId) → 0 ≤ u.0 → is_one_of us u ≡ false → owed_there past at k u ≡ [] = λ u low out.
      nothing (is_user past u) (owed_user past at k u) (owed-none past at k u (ap (λ b. b && not (u.0 == k.sender.0)) (sym (goes u) ∙ out))) in
      over_some (owed_there past at k) 0 (suc many) (suc many) long behind us up (from_zero us) others
      ∙ (over_there (owed_user past at k) (is_user past) 1 many (λ u low high. numbered_there (people past) u.0 low high)
      ∙ owed-users t past holds at k (users past) refl)
    where
      from_zero : (vs : List UserId) → AllByRecursion (λ v. 0 ≤ v.0) vs
      from_zero [] = tt
      from_zero (v ∷ vs) = (omega arith, from_zero vs)

  -- the senders of the messages to a topic that aren't deleted take part in it
  pub senders-take_part : (u : UserId) (channel : ChannelId) (topic : List ℕ) → took_part_from t.deleted.items u channel topic 1 t.messages.items ≡ is_participant past u channel topic
  unfolding is_participant
  senders-take_part u channel topic = ap (took_part_from t.deleted.items u channel topic 1) holds.messages ∙ by 1 (messages past)
    where
      by : (n : ℕ) (ms : List SentMessage) → took_part_from t.deleted.items u channel topic n (map message_kept ms) ≡ some_from (takes_part_by past u channel topic) n ms
      by n [] = refl
      by n (m ∷ ms) = (λ i. (m.sender.0 == u.0 && is_to_topic channel topic m.to && not (holds.deleted (record { 0 = n }) i)) || by (n + 1) ms i)

-- the policy for the topic to which a message goes, read by its key
pub policy_for-key : (past : List Stamped) (to : Destination) (u : UserId) (key : Option TopicKey) → key ≡ topic_of to → option_map_or (λ (k : TopicKey). policy past u k.channel k.topic) key Inherit ≡ policy_for past to u
policy_for-key past to u key is = ap (λ (o : Option TopicKey). option_map_or (λ k. policy past u k.channel k.topic) o Inherit) is ∙ by to
  where
    by : (to : Destination) → option_map_or (λ (k : TopicKey). policy past u k.channel k.topic) (topic_of to) Inherit ≡ policy_for past to u
    by (destination.Channel channel topic) = refl
    by (destination.Direct users) = refl
