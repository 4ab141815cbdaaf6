-- What there is, event by event: users, groups and channels with their names.
use Rattle.std.proofs.Common.{◌≡◌, ℕ, zero, suc, ◌+◌, Bool, false, ◌&&◌, ◌||◌, cond, add-one, zero-add, List, [], ◌∷◌, ◌++◌, Some, None, length, map, refl, sym, ap, ◌∙◌, arith, length-append}
use Rattle.std.specs.Prelude.{Option, option_map, option_to_list, is_some, nat_lt, nat_le, slice_get, count_by}
use Rattle.std.specs.Option.{option_map_or}
use Rattle.std.specs.List.{list_any, filter_map, cons_option, range_with_len}
use Rattle.std.proofs.lemmas.List.Sums.{sum_by-append}
use Rattle.std.specs.Str.{str_eq_ignore_ascii_case}
use Rattle.std.proofs.lemmas.Bool.{lt-ltb}
use Rattle.std.proofs.lemmas.Bool.Decides.{nat_tests}
use Rattle.std.proofs.lemmas.List.{append-nil, map-append}
use Rattle.chat_model.specs.declared.event.Stamped.{Stamped}
use Rattle.chat_model.specs.declared.ids.UserId.{UserId}
use Rattle.chat_model.specs.declared.ids.ChannelId.{ChannelId}
use Rattle.chat_model.specs.declared.mentions.UserName.{UserName}
use Rattle.chat_model.specs.declared.mentions.GroupName.{GroupName}
use Rattle.notice_ledger.specs.Past.Values.{numbered, users, Person, person_of, people, named_from, user_names, group_of, groups, named_groups_from, group_names, channel_of, channels, subscribed, subscriber_count}
use Rattle.notice_ledger.specs.Past.Refusals.{is_taken}
use Rattle.notice_ledger.proofs.Lists.{count_by-filter_map}
use Rattle.notice_ledger.proofs.Appended.{people-nil, people-append, groups-nil, groups-append, channels-append}

-- ---- users

pub named_from-append : (n : ℕ) (ps qs : List Person) → named_from n (ps ++ qs) ≡ named_from n ps ++ named_from (n + length ps) qs
named_from-append n [] qs = ap (λ k. named_from k qs) (omega arith)
named_from-append n (p ∷ ps) qs =
    let e : (n + 1) + length ps ≡ n + length (p ∷ ps) = omega arith in
    ap (λ ns. record { id = record { 0 = n }; name = p.name } ∷ ns) (named_from-append (n + 1) ps qs ∙ ap (λ k. named_from (n + 1) ps ++ named_from k qs) e)

named_from-length : (n : ℕ) (ps : List Person) → length (named_from n ps) ≡ length ps
named_from-length n [] = refl
named_from-length n (p ∷ ps) = let e = named_from-length (n + 1) ps in omega arith

pub user_names-length : (j : List Stamped) → length (user_names j) ≡ length (people j)
user_names-length j = named_from-length 1 (people j)

pub user_names-nil : user_names [] ≡ []
user_names-nil = ap (named_from 1) people-nil

next_number : (a b : ℕ) → a ≡ b → 1 + b ≡ a + 1
next_number a b e = omega arith

-- one more user
pub user_names-more : (j : List Stamped) (s : Stamped) (names : List UserName) (name : List ℕ) → names ≡ user_names j → Some name ≡ option_map (λ (p : Person). p.name) (person_of s.event) → names ++ record { id = record { 0 = length names + 1 }; name = name } ∷ [] ≡ user_names (j ++ s ∷ [])
user_names-more j s names name so_far added = by (person_of s.event) refl added
  where
    by : (o : Option Person) → person_of s.event ≡ o → Some name ≡ option_map (λ (p : Person). p.name) o → names ++ record { id = record { 0 = length names + 1 }; name = name } ∷ [] ≡ user_names (j ++ s ∷ [])
    by None e a = absurd (cc)
    by (Some p) e a =
        let called : name ≡ p.name = cc in
        let long : 1 + length (people j) ≡ length names + 1 = next_number (length names) (length (people j)) (ap length so_far ∙ user_names-length j) in
        ap (λ ns. ns ++ record { id = record { 0 = length names + 1 }; name = name } ∷ []) so_far
        ∙ (ap (λ n. user_names j ++ record { id = record { 0 = length names + 1 }; name = n } ∷ []) called
        ∙ (ap (λ k. user_names j ++ record { id = record { 0 = k }; name = p.name } ∷ []) (sym long)
        ∙ (sym (named_from-append 1 (people j) (p ∷ [])) ∙ ap (named_from 1) (sym (people-append j s ∙ ap (λ o. people j ++ option_to_list o) e)))))

-- no more users
pub people-same : (j : List Stamped) (s : Stamped) → {B : Type 0} (f : Person → B) → None ≡ option_map f (person_of s.event) → people (j ++ s ∷ []) ≡ people j
people-same j s {B} f none = people-append j s ∙ (ap (λ o. people j ++ option_to_list o) (by (person_of s.event) none) ∙ append-nil (people j))
  where
    by : (o : Option Person) → None ≡ option_map f o → o ≡ None
    by None e = refl
    by (Some p) e = absurd (cc)

pub user_names-same : (j : List Stamped) (s : Stamped) (names : List UserName) → names ≡ user_names j → None ≡ option_map (λ (p : Person). p.name) (person_of s.event) → names ≡ user_names (j ++ s ∷ [])
user_names-same j s names so_far none = so_far ∙ ap (named_from 1) (sym (people-same j s (λ (p : Person). p.name) none))

-- ---- which of them are bots

pub bots-more : (j : List Stamped) (s : Stamped) (bots : List Bool) (bot : Bool) → bots ≡ map (λ (p : Person). p.bot) (people j) → Some bot ≡ option_map (λ (p : Person). p.bot) (person_of s.event) → bots ++ bot ∷ [] ≡ map (λ (p : Person). p.bot) (people (j ++ s ∷ []))
bots-more j s bots bot so_far added = by (person_of s.event) refl added
  where
    by : (o : Option Person) → person_of s.event ≡ o → Some bot ≡ option_map (λ (p : Person). p.bot) o → bots ++ bot ∷ [] ≡ map (λ (p : Person). p.bot) (people (j ++ s ∷ []))
    by None e a = absurd (cc)
    by (Some p) e a =
        let called : bot ≡ p.bot = cc in
        ap (λ bs. bs ++ bot ∷ []) so_far
        ∙ (ap (λ b. map (λ (q : Person). q.bot) (people j) ++ b ∷ []) called
        ∙ (sym (map-append (λ (q : Person). q.bot) (people j) (p ∷ [])) ∙ ap (map (λ (q : Person). q.bot)) (sym (people-append j s ∙ ap (λ o. people j ++ option_to_list o) e))))

pub bots-same : (j : List Stamped) (s : Stamped) (bots : List Bool) → bots ≡ map (λ (p : Person). p.bot) (people j) → None ≡ option_map (λ (p : Person). p.bot) (person_of s.event) → bots ≡ map (λ (p : Person). p.bot) (people (j ++ s ∷ []))
bots-same j s bots so_far none = so_far ∙ ap (map (λ (p : Person). p.bot)) (sym (people-same j s (λ (p : Person). p.bot) none))

-- ---- groups

pub named_groups_from-append : (n : ℕ) (xs ys : List (List ℕ)) → named_groups_from n (xs ++ ys) ≡ named_groups_from n xs ++ named_groups_from (n + length xs) ys
named_groups_from-append n [] ys = ap (λ k. named_groups_from k ys) (omega arith)
named_groups_from-append n (x ∷ xs) ys =
    let e : (n + 1) + length xs ≡ n + length (x ∷ xs) = omega arith in
    ap (λ ns. record { id = record { 0 = n }; name = x } ∷ ns) (named_groups_from-append (n + 1) xs ys ∙ ap (λ k. named_groups_from (n + 1) xs ++ named_groups_from k ys) e)

named_groups_from-length : (n : ℕ) (xs : List (List ℕ)) → length (named_groups_from n xs) ≡ length xs
named_groups_from-length n [] = refl
named_groups_from-length n (x ∷ xs) = let e = named_groups_from-length (n + 1) xs in omega arith

pub group_names-length : (j : List Stamped) → length (group_names j) ≡ length (groups j)
group_names-length j = named_groups_from-length 1 (groups j)

pub group_names-nil : group_names [] ≡ []
group_names-nil = ap (named_groups_from 1) groups-nil

pub group_names-more : (j : List Stamped) (s : Stamped) (names : List GroupName) (name : List ℕ) → names ≡ group_names j → Some name ≡ group_of s.event → names ++ record { id = record { 0 = length names + 1 }; name = name } ∷ [] ≡ group_names (j ++ s ∷ [])
group_names-more j s names name so_far added =
    let long : 1 + length (groups j) ≡ length names + 1 = next_number (length names) (length (groups j)) (ap length so_far ∙ group_names-length j) in
    ap (λ ns. ns ++ record { id = record { 0 = length names + 1 }; name = name } ∷ []) so_far
    ∙ (ap (λ k. group_names j ++ record { id = record { 0 = k }; name = name } ∷ []) (sym long)
    ∙ (sym (named_groups_from-append 1 (groups j) (name ∷ [])) ∙ ap (named_groups_from 1) (sym (groups-append j s ∙ ap (λ o. groups j ++ option_to_list o) (sym added)))))

pub group_names-same : (j : List Stamped) (s : Stamped) (names : List GroupName) → names ≡ group_names j → None ≡ group_of s.event → names ≡ group_names (j ++ s ∷ [])
group_names-same j s names so_far none =
    so_far ∙ ap (named_groups_from 1) (sym (groups-append j s ∙ (ap (λ o. groups j ++ option_to_list o) (sym none) ∙ append-nil (groups j))))

-- ---- channels

pub channels-more : (j : List Stamped) (s : Stamped) (names : List (List ℕ)) (name : List ℕ) → names ≡ channels j → Some name ≡ channel_of s.event → names ++ name ∷ [] ≡ channels (j ++ s ∷ [])
channels-more j s names name so_far added =
    ap (λ ns. ns ++ name ∷ []) so_far ∙ (ap (λ o. channels j ++ option_to_list o) added ∙ sym (channels-append j s))

pub channels-same : (j : List Stamped) (s : Stamped) (names : List (List ℕ)) → names ≡ channels j → None ≡ channel_of s.event → names ≡ channels (j ++ s ∷ [])
channels-same j s names so_far none =
    so_far ∙ (sym (append-nil (channels j)) ∙ (ap (λ o. channels j ++ option_to_list o) none ∙ sym (channels-append j s)))

-- ---- how many there are, and whether one has a number or a name

pub numbered-some : {A : Type 0} (n : ℕ) (xs : List A) → is_some (numbered n xs) ≡ (nat_lt 0 n && nat_le n (length xs))
numbered-some zero xs = refl
numbered-some {A} (suc n) xs = from n xs ∙ ap (λ b. b && nat_le (suc n) (length xs)) (sym (lt-ltb 0 (suc n) (omega arith)))
  where
    from : (n : ℕ) (xs : List A) → is_some (slice_get xs n) ≡ nat_le (suc n) (length xs)
    from n [] = grind (arith, nat_tests)
    from zero (x ∷ xs) = grind (arith, nat_tests)
    from (suc n) (x ∷ xs) = from n xs ∙ grind (arith, nat_tests)

pub people_counted : (j : List Stamped) → count_by (λ s. is_some (person_of s.event)) j ≡ length (people j)
unfolding people
people_counted j = count_by-filter_map (λ s. person_of s.event) j

pub groups_counted : (j : List Stamped) → count_by (λ s. is_some (group_of s.event)) j ≡ length (groups j)
unfolding groups
groups_counted j = count_by-filter_map (λ s. group_of s.event) j

pub channels_counted : (j : List Stamped) → count_by (λ s. is_some (channel_of s.event)) j ≡ length (channels j)
unfolding channels
channels_counted j = count_by-filter_map (λ s. channel_of s.event) j

any_given : {A B : Type 0} (p : B → Bool) (h : A → Option B) (xs : List A) → list_any (λ x. option_map_or p (h x) false) xs ≡ list_any p (filter_map h xs)
any_given p h [] = refl
any_given {A} {B} p h (x ∷ xs) = ap (λ b. option_map_or p (h x) false || b) (any_given p h xs) ∙ by (h x)
  where
    by : (o : Option B) → (option_map_or p o false || list_any p (filter_map h xs)) ≡ list_any p (cons_option o (filter_map h xs))
    by None = refl
    by (Some y) = refl

pub groups_taken : (j : List Stamped) (name : List ℕ) → list_any (λ s. option_map_or (str_eq_ignore_ascii_case name) (group_of s.event) false) j ≡ is_taken (groups j) name
unfolding groups is_taken
groups_taken j name = any_given (str_eq_ignore_ascii_case name) (λ (s : Stamped). group_of s.event) j

pub channels_taken : (j : List Stamped) (name : List ℕ) → list_any (λ s. option_map_or (str_eq_ignore_ascii_case name) (channel_of s.event) false) j ≡ is_taken (channels j) name
unfolding channels is_taken
channels_taken j name = any_given (str_eq_ignore_ascii_case name) (λ (s : Stamped). channel_of s.event) j

-- ---- users by their numbers

-- the first so many users
abbrev pub users_to : ℕ → List UserId
users_to n = map (λ k. record { 0 = k }) (range_with_len 1 n)

pub range-more : (a n : ℕ) → range_with_len a (n + 1) ≡ range_with_len a n ++ (a + n) ∷ []
range-more a n = rw add-one (from a n)
  where
    from : (a n : ℕ) → range_with_len a (suc n) ≡ range_with_len a n ++ (a + n) ∷ []
    from a zero = ap (λ k. k ∷ []) (omega arith)
    from a (suc n) = ap (λ ks. a ∷ ks) (from (a + 1) n ∙ ap (λ k. range_with_len (a + 1) n ++ k ∷ []) (omega arith))

pub users_to-more : (n : ℕ) → users_to (n + 1) ≡ users_to n ++ record { 0 = n + 1 } ∷ []
users_to-more n =
    let e : 1 + n ≡ n + 1 = omega arith in
    ap (map (λ k. let u : UserId = record { 0 = k } in u)) (range-more 1 n ∙ ap (λ k. range_with_len 1 n ++ k ∷ []) e)
    ∙ map-append (λ k. let u : UserId = record { 0 = k } in u) (range_with_len 1 n) ((n + 1) ∷ [])

pub count_more : (p : UserId → Bool) (n : ℕ) (b : Bool) → p (record { 0 = n + 1 }) ≡ b → count_by p (users_to (n + 1)) ≡ count_by p (users_to n) + cond b 1 0
count_more p n b e =
    ap (count_by p) (users_to-more n)
    ∙ (sum_by-append (λ u. cond (p u) 1 0) (users_to n) (record { 0 = n + 1 } ∷ []) ∙ ap (λ k. count_by p (users_to n) + k) (zero-add (cond (p (record { 0 = n + 1 })) 1 0) ∙ ap (λ c. cond c 1 0) e))

pub subscribers_counted : (j : List Stamped) (c : ChannelId) → count_by (λ u. subscribed j u c) (users_to (length (people j))) ≡ subscriber_count j c
unfolding subscriber_count
subscribers_counted j c = refl

-- the user that an event adds behind these, if it adds one
abbrev pub added_user : List Stamped → Stamped → Option UserId
added_user j s = option_map (λ p. record { 0 = length (people j) + 1 }) (person_of s.event)

-- one more user, or none
pub users-append : (j : List Stamped) (s : Stamped) → users (j ++ s ∷ []) ≡ users j ++ option_to_list (added_user j s)
users-append j s = ap (λ (ps : List Person). users_to (length ps)) (people-append j s) ∙ by (person_of s.event)
  where
    by : (o : Option Person) → users_to (length (people j ++ option_to_list o)) ≡ users_to (length (people j)) ++ option_to_list (option_map (λ (p : Person). let u : UserId = record { 0 = length (people j) + 1 } in u) o)
    by None = ap (λ ps. users_to (length ps)) (append-nil (people j)) ∙ sym (append-nil (users_to (length (people j))))
    by (Some p) = ap users_to (length-append (people j) (p ∷ [])) ∙ users_to-more (length (people j))
