-- What the slow computation finds owed is what is owed.
use Rattle.std.proofs.Common.{◌≡◌, ℕ, suc, zero, ◌+◌, false, ◌&&◌, ◌==◌, not, List, [], ◌∷◌, ◌++◌, length, map, refl, sym, ap, ◌∙◌}
use Rattle.std.specs.Prelude.{Option, Some, None, option_map, option_to_list, unwrap_or, is_some, slice_get, if◌then◌else◌}
use Rattle.std.specs.Option.{option_map_or}
use Rattle.std.specs.List.{filter_map, flat_map, cons_option, range_with_len}
use Rattle.std.proofs.lemmas.List.{append_assoc, append-nil, map-append}
use Rattle.std.proofs.lemmas.Grind.{flat_map-append}
use Rattle.chat_model.specs.declared.event.Stamped.{Stamped}
use Rattle.chat_model.specs.declared.ids.UserId.{UserId}
use Rattle.chat_model.specs.declared.ids.MessageId.{MessageId}
use Rattle.chat_model.specs.declared.ids.DealNo.{DealNo}
use Rattle.chat_model.specs.declared.mentions.UserName.{UserName}
use Rattle.chat_model.specs.declared.trigger.Trigger.{Trigger}
use Rattle.chat_model.specs.declared.trigger.Way.{Way}
use Rattle.chat_model.specs.declared.trigger.Way.TheVariants.{Mail, Push}
use Rattle.notice_ledger.specs.declared.owed.Owed.{Owed}
use Rattle.notice_ledger.specs.declared.facts.Heard.{Heard}
use Rattle.chat_model.specs.Triggers.{trigger_of}
use Rattle.notice_ledger.specs.Past.Journal.{occurrence}
use Rattle.notice_ledger.specs.Past.Values.{numbered, Person, people, named_from, user_names, users, is_bot, messages, deal_count, SentMessage, settings, has_muted}
use Rattle.notice_ledger.specs.Past.Triggers.{goes_to, is_direct, mentions_of, is_participant_of, policy_for, specific_for, facts_of, trigger, came_by}
use Rattle.notice_ledger.specs.Past.Owed.{Notice, same_way, notice_of, owed_of}
use Rattle.notice_ledger.specs.Plain.{owed_kept, is_mentioned_in, facts_heard, owed_to, owed_to_all}

-- ---- lists

slice_get-map : {A B : Type 0} (f : A → B) (xs : List A) (n : ℕ) → slice_get (map f xs) n ≡ option_map f (slice_get xs n)
slice_get-map f [] n = refl
slice_get-map f (x ∷ xs) zero = refl
slice_get-map f (x ∷ xs) (suc n) = slice_get-map f xs n

pub numbered-map : {A B : Type 0} (f : A → B) (n : ℕ) (xs : List A) → numbered n (map f xs) ≡ option_map f (numbered n xs)
numbered-map f zero xs = refl
numbered-map f (suc n) xs = slice_get-map f xs n

unwrap-map : {A B : Type 0} (f : A → B) (o : Option A) (d : B) → unwrap_or (option_map f o) d ≡ option_map_or f o d
unwrap-map f None d = refl
unwrap-map f (Some x) d = refl

map-filter_map : {A B C : Type 0} (f : B → C) (h : A → Option B) (g : A → Option C) → ((x : A) → option_map f (h x) ≡ g x) → (xs : List A) → map f (filter_map h xs) ≡ filter_map g xs
map-filter_map f h g same [] = refl
map-filter_map {A} {B} {C} f h g same (x ∷ xs) = by (h x) (same x) ∙ ap (cons_option (g x)) (map-filter_map f h g same xs)
  where
    by : (o : Option B) → option_map f o ≡ g x → map f (cons_option o (filter_map h xs)) ≡ cons_option (g x) (map f (filter_map h xs))
    by None e = ap (λ o. cons_option o (map f (filter_map h xs))) e
    by (Some y) e = ap (λ o. cons_option o (map f (filter_map h xs))) e

map-flat_map : {A B C D : Type 0} (f : B → C) (h : A → List B) (k : D → A) (g : D → List C) → ((x : D) → map f (h (k x)) ≡ g x) → (xs : List D) → map f (flat_map h (map k xs)) ≡ flat_map g xs
map-flat_map f h k g same [] = refl
map-flat_map f h k g same (x ∷ xs) =
    map-append f (h (k x)) (flat_map h (map k xs)) ∙ (ap (λ ys. ys ++ map f (flat_map h (map k xs))) (same x) ∙ ap (λ ys. g x ++ ys) (map-flat_map f h k g same xs))

-- two that are added one after another
pub both_added : (owed : List Owed) (f : Way → Option Owed) → (owed ++ option_to_list (f Mail)) ++ option_to_list (f Push) ≡ owed ++ filter_map f (Mail ∷ Push ∷ [])
both_added owed f = append_assoc owed (option_to_list (f Mail)) (option_to_list (f Push)) ∙ ap (λ ns. owed ++ ns) (by (f Mail) (f Push))
  where
    by : (a b : Option Owed) → option_to_list a ++ option_to_list b ≡ cons_option a (cons_option b [])
    by None None = refl
    by None (Some y) = refl
    by (Some x) None = refl
    by (Some x) (Some y) = refl

-- one more user
pub owed_to_all-more : (past : List Stamped) (m : Heard) (names : List UserName) (name : UserName) → owed_to_all past m names ++ filter_map (owed_to past m name.id) (Mail ∷ Push ∷ []) ≡ owed_to_all past m (names ++ name ∷ [])
owed_to_all-more past m names name =
    let each = λ (u : UserName). filter_map (owed_to past m u.id) (Mail ∷ Push ∷ []) in
    sym (flat_map-append each names (name ∷ []) ∙ ap (λ ns. flat_map each names ++ ns) (append-nil (each name)))

-- ---- a message

ids_from : (n : ℕ) (ps : List Person) → map (λ (u : UserName). u.id) (named_from n ps) ≡ map (λ k. let u : UserId = record { 0 = k } in u) (range_with_len n (length ps))
ids_from n [] = refl
ids_from n (p ∷ ps) = ap (λ us. record { 0 = n } ∷ us) (ids_from (n + 1) ps)

pub ids-user_names : (j : List Stamped) → map (λ (u : UserName). u.id) (user_names j) ≡ users j
ids-user_names j = ids_from 1 (people j)

-- what was heard of the message that is sent behind these events
pub record IsHeard (j : List Stamped) (text : List ℕ) (h : Heard) : Type 0 where
  pub number : h.number.0 ≡ length (messages j) + 1
  pub deal : h.deal.0 ≡ deal_count j
  pub mentioned : h.mentioned ≡ mentions_of j text
  pub bots : h.bots.items ≡ map (λ (p : Person). p.bot) (people j)

-- the message
abbrev pub message_heard : List Stamped → Heard → List ℕ → SentMessage
message_heard j h text = record { past = j; sender = h.sender; to = h.to; text = text }

module _ (j : List Stamped) (s : Stamped) (h : Heard) (text : List ℕ) (heard : IsHeard j text h) where
  bot_heard : (u : UserId) → unwrap_or (numbered u.0 h.bots.items) false ≡ is_bot j u
  bot_heard u =
      ap (λ bs. unwrap_or (numbered u.0 bs) false) heard.bots
      ∙ (ap (λ o. unwrap_or o false) (numbered-map (λ (p : Person). p.bot) u.0 (people j)) ∙ unwrap-map (λ (p : Person). p.bot) (numbered u.0 (people j)) false)

  -- what is so of a user, as it was heard
  facts-heard : (u : UserId) → facts_heard j h u ≡ facts_of j (message_heard j h text) text u
  unfolding facts_heard facts_of
  facts-heard u = λ i. record {
    own = u.0 == h.sender.0;
    bot = bot_heard u i;
    sender_muted = has_muted j u h.sender;
    recipient = goes_to j h.to u && not (u.0 == h.sender.0);
    direct = is_direct h.to;
    mentioned = is_mentioned_in j (heard.mentioned i) u;
    channel_wildcard = (heard.mentioned i).channel_wildcard && not (is_direct h.to);
    topic_wildcard = (heard.mentioned i).topic_wildcard && not (is_direct h.to);
    participant = is_participant_of j h.to u;
    policy = policy_for j h.to u;
    specific = specific_for j h.to u;
    settings = settings j u;
  }

  trigger_heard : (u : UserId) (w : Way) → trigger j (message_heard j h text) text u w ≡ trigger_of (facts_heard j h u) w
  unfolding trigger
  trigger_heard u w = ap (λ f. trigger_of f w) (sym (facts-heard u))

  number_heard : let n : MessageId = record { 0 = length (messages j) + 1 } in h.number ≡ n
  number_heard = ap (λ k. let n : MessageId = record { 0 = k } in n) heard.number

  deal_heard : let k : DealNo = record { 0 = deal_count j } in h.deal ≡ k
  deal_heard = ap (λ n. let k : DealNo = record { 0 = n } in k) heard.deal

  owed_heard : (u : UserId) (w : Way) → option_map owed_kept (notice_of (occurrence j s) (message_heard j h text) u w) ≡ owed_to j h u w
  unfolding facts_heard
  owed_heard u w =
      ap (λ t. option_map owed_kept (of_trigger t)) (trigger_heard u w) ∙ by (trigger_of (facts_heard j h u) w)
    where
      of_trigger : Option Trigger → Option Notice
      of_trigger t = option_map (λ (t : Trigger). let n : Notice = record {
        user = u;
        number = record { 0 = length (messages j) + 1 };
        way = w;
        message = message_heard j h text;
        trigger = t;
        via = came_by j text u t;
        deal = record { 0 = deal_count j };
        owing = occurrence j s;
      } in n) t

      by : (t : Option Trigger) → option_map owed_kept (of_trigger t) ≡ (if is_some t then Some (record { user = u; message = h.number; way = w; deal = h.deal; online = same_way w Push && (settings j u).push_online; place = length j }) else None)
      by (Some t) = λ i. Some (record { user = u; message = sym number_heard i; way = w; deal = sym deal_heard i; online = same_way w Push && (settings j u).push_online; place = length j })
      by None = refl

  -- what the send of the message owes
  pub owed_of_heard : map owed_kept (owed_of (occurrence j s) (message_heard j h text)) ≡ owed_to_all j h (user_names j)
  owed_of_heard =
      let o = occurrence j s in let m = message_heard j h text in
      let to_user = λ (u : UserId). filter_map (notice_of o m u) (Mail ∷ Push ∷ []) in
      let heard_by = λ (name : UserName). filter_map (owed_to j h name.id) (Mail ∷ Push ∷ []) in
      ap (λ us. map owed_kept (flat_map to_user us)) (sym (ids-user_names j))
      ∙ map-flat_map owed_kept to_user (λ (u : UserName). u.id) heard_by (λ name. map-filter_map owed_kept (notice_of o m name.id) (owed_to j h name.id) (owed_heard name.id) (Mail ∷ Push ∷ [])) (user_names j)
