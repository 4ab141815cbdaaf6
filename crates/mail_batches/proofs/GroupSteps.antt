-- What one more item, behind all others, changes in the groups of items that ascend.
use Rattle.std.proofs.Common.{◌≡◌, ℕ, suc, ◌+◌, ◌<◌, ◌≤◌, Bool, true, false, not, ◌&&◌, ◌||◌, cond, List, [], ◌∷◌, ◌++◌, length, map, filter, get_or, set, Option, Some, None, unwrap_or, refl, sym, ap, ◌∙◌, subst, arith, append_assoc}
use Rattle.std.specs.Prelude.{nat_le, nat_lt, position, is_some}
use Rattle.std.specs.List.{list_all, list_any, position_or_len}
use Rattle.std.proofs.lemmas.Bool.{and_from, and_parts, false≢true, ltb-false, ltb-true}
use Rattle.std.proofs.lemmas.Bool.Decides.{nat_tests}
use Rattle.std.proofs.lemmas.List.{map-append, append-nil}
use Rattle.std.proofs.lemmas.List.Folds.{list_all-append, list_any-append}
use Rattle.chat_model.specs.declared.entry.Item.{Item}
use Rattle.chat_model.specs.Ascending.{is_ascending_by}
use Rattle.chat_model.proofs.OnceEach.{ascending-rest}
use Rattle.mail_batches.specs.declared.grouping.ReadyItem.{ReadyItem}
use Rattle.mail_batches.specs.declared.grouping.Group.{Group}
use Rattle.mail_batches.specs.Conversations.{same_conversation}
use Rattle.mail_batches.specs.Entries.{message_of, together, begins}
use Rattle.mail_batches.specs.Groups.{group_of, groups_of}
use Rattle.mail_batches.proofs.SameConversation.{same-itself, same-turned, same-through}

-- ---- tests

or_second : {b : Bool} (a : Bool) → b ≡ true → (a || b) ≡ true
or_second true k = refl
or_second false k = k

or_first_case : (a b : Bool) → a ≡ true → (a || b) ≡ true
or_first_case true b k = refl
or_first_case false b k = absurd (false≢true k)

same_bool : (a b : Bool) → (a ≡ true → b ≡ true) → (b ≡ true → a ≡ true) → a ≡ b
same_bool true b to from = sym (to refl)
same_bool false true to from = from refl
same_bool false false to from = refl

not_true : (a : Bool) → (a ≡ true → false ≡ true) → a ≡ false
not_true true h = sym (h refl)
not_true false h = refl

all_weaker : {A : Type 0} (p q : A → Bool) → ((x : A) → p x ≡ true → q x ≡ true) → (xs : List A) → list_all p xs ≡ true → list_all q xs ≡ true
all_weaker p q gives [] h = refl
all_weaker p q gives (x ∷ xs) h = let parts = and_parts (p x) (list_all p xs) h in and_from (q x) (list_all q xs) (gives x parts.0) (all_weaker p q gives xs parts.1)

filter-joined : {A : Type 0} (p : A → Bool) (xs ys : List A) → filter p (xs ++ ys) ≡ filter p xs ++ filter p ys
filter-joined p [] ys = refl
filter-joined p (x ∷ xs) ys =
    elim (p x) as (λ b. cond b (x ∷ filter p (xs ++ ys)) (filter p (xs ++ ys)) ≡ cond b (x ∷ filter p xs) (filter p xs) ++ filter p ys) [
      | true ↦ ap (λ zs. x ∷ zs) (filter-joined p xs ys)
      | false ↦ filter-joined p xs ys
    ]

less_not_above : (a b : ℕ) → nat_lt a b ≡ true → nat_le a b ≡ true
less_not_above a b h = grind (arith, nat_tests)

above_not_up_to : (a b : ℕ) → nat_lt a b ≡ true → nat_le b a ≡ false
above_not_up_to a b h = grind (arith, nat_tests)

up_to_itself : (a : ℕ) → nat_le a a ≡ true
up_to_itself a = grind (arith, nat_tests)

less_farther : (a b c : ℕ) → nat_lt a b ≡ true → nat_lt b c ≡ true → nat_lt a c ≡ true
less_farther a b c h k = grind (arith, nat_tests)

-- ---- items that ascend

-- all items have lower messages
abbrev pub Behind : ReadyItem → List ReadyItem → Type 0
Behind x xs = list_all (λ k. nat_lt (message_of k) (message_of x)) xs ≡ true

pub above-all : (x : ReadyItem) (xs : List ReadyItem) → is_ascending_by message_of (x ∷ xs) ≡ true → list_all (λ k. nat_lt (message_of x) (message_of k)) xs ≡ true
above-all x [] h = refl
above-all x (y ∷ ys) h =
    let parts = and_parts (nat_lt (message_of x) (message_of y)) (is_ascending_by message_of (y ∷ ys)) h in
    and_from (nat_lt (message_of x) (message_of y)) (list_all (λ k. nat_lt (message_of x) (message_of k)) ys) parts.0
    (all_weaker (λ k. nat_lt (message_of y) (message_of k)) (λ k. nat_lt (message_of x) (message_of k)) (λ k lt. less_farther (message_of x) (message_of y) (message_of k) parts.0 lt) ys (above-all y ys parts.1))

pub ascends-front : (xs ys : List ReadyItem) → is_ascending_by message_of (xs ++ ys) ≡ true → is_ascending_by message_of xs ≡ true
ascends-front [] ys h = refl
ascends-front (a ∷ []) ys h = refl
ascends-front (a ∷ b ∷ xs) ys h =
    let parts = and_parts (nat_lt (message_of a) (message_of b)) (is_ascending_by message_of (b ∷ xs ++ ys)) h in
    and_from (nat_lt (message_of a) (message_of b)) (is_ascending_by message_of (b ∷ xs)) parts.0 (ascends-front (b ∷ xs) ys parts.1)

back-ascends : (xs ys : List ReadyItem) → is_ascending_by message_of (xs ++ ys) ≡ true → is_ascending_by message_of ys ≡ true
back-ascends [] ys h = h
back-ascends (x ∷ xs) ys h = back-ascends xs ys (ascending-rest message_of x (xs ++ ys) h)

last-behind : (xs : List ReadyItem) (x : ReadyItem) → is_ascending_by message_of (xs ++ x ∷ []) ≡ true → Behind x xs
last-behind [] x h = refl
last-behind (a ∷ ys) x h =
    let all = and_parts (list_all (λ k. nat_lt (message_of a) (message_of k)) ys) (nat_lt (message_of a) (message_of x) && true) (sym (list_all-append (λ k. nat_lt (message_of a) (message_of k)) ys (x ∷ [])) ∙ above-all a (ys ++ x ∷ []) h) in
    and_from (nat_lt (message_of a) (message_of x)) (list_all (λ k. nat_lt (message_of k) (message_of x)) ys) (and_parts (nat_lt (message_of a) (message_of x)) true all.1).0 (last-behind ys x (ascending-rest message_of a (ys ++ x ∷ []) h))

-- ---- which items begin

begins-append : (xs : List ReadyItem) (x y : ReadyItem) → nat_lt (message_of y) (message_of x) ≡ true → begins (xs ++ x ∷ []) y ≡ begins xs y
begins-append xs x y lt =
    let p : ReadyItem → Bool = λ k. not (together y k) || nat_le (message_of y) (message_of k) in
    list_all-append p xs (x ∷ []) ∙ (ap (λ b. begins xs y && (b && true)) (or_second (not (together y x)) (less_not_above (message_of y) (message_of x) lt)) ∙ and_true (begins xs y))
  where
    and_true : (a : Bool) → (a && (true && true)) ≡ a
    and_true true = refl
    and_true false = refl

begins-none : (x : ReadyItem) (xs : List ReadyItem) → Behind x xs → list_all (λ k. not (together x k) || nat_le (message_of x) (message_of k)) xs ≡ not (list_any (together x) xs)
begins-none x [] h = refl
begins-none x (k ∷ ks) h =
    let parts = and_parts (nat_lt (message_of k) (message_of x)) (list_all (λ j. nat_lt (message_of j) (message_of x)) ks) h in
    ap (λ b. (not (together x k) || b) && list_all (λ j. not (together x j) || nat_le (message_of x) (message_of j)) ks) (above_not_up_to (message_of k) (message_of x) parts.0)
    ∙ (ap (λ b. (not (together x k) || false) && b) (begins-none x ks parts.1)
    ∙ none (together x k) (list_any (together x) ks))
  where
    none : (a b : Bool) → ((not a || false) && not b) ≡ not (a || b)
    none true b = refl
    none false b = refl

begins-last : (xs : List ReadyItem) (x : ReadyItem) → Behind x xs → begins (xs ++ x ∷ []) x ≡ not (list_any (together x) xs)
begins-last xs x h =
    let p : ReadyItem → Bool = λ k. not (together x k) || nat_le (message_of x) (message_of k) in
    list_all-append p xs (x ∷ [])
    ∙ (ap (λ b. list_all p xs && (b && true)) (or_second (not (together x x)) (up_to_itself (message_of x)))
    ∙ (and_true (list_all p xs) ∙ begins-none x xs h))
  where
    and_true : (a : Bool) → (a && (true && true)) ≡ a
    and_true true = refl
    and_true false = refl

front-begins : (xs : List ReadyItem) (x : ReadyItem) (ys : List ReadyItem) → Behind x ys → filter (begins (xs ++ x ∷ [])) ys ≡ filter (begins xs) ys
front-begins xs x [] h = refl
front-begins xs x (y ∷ ys) h =
    let parts = and_parts (nat_lt (message_of y) (message_of x)) (list_all (λ k. nat_lt (message_of k) (message_of x)) ys) h in
    ap (λ b. cond b (y ∷ filter (begins (xs ++ x ∷ [])) ys) (filter (begins (xs ++ x ∷ [])) ys)) (begins-append xs x y parts.0)
    ∙ ap (λ zs. cond (begins xs y) (y ∷ zs) zs) (front-begins xs x ys parts.1)

-- ---- the first item of a conversation begins

-- a list at the first item that passes a test
record FirstAt (p : ReadyItem → Bool) (xs : List ReadyItem) : Type 0 where
  before : List ReadyItem
  here : ReadyItem
  later : List ReadyItem
  is : xs ≡ before ++ here ∷ later
  passes : p here ≡ true
  none : list_all (λ k. not (p k)) before ≡ true

first_at : (p : ReadyItem → Bool) (xs : List ReadyItem) → list_any p xs ≡ true → FirstAt p xs
first_at p [] h = absurd (false≢true h)
first_at p (x ∷ xs) h = at (p x) refl h (first_at p xs)
  where
    at : (b : Bool) → p x ≡ b → (b || list_any p xs) ≡ true → (list_any p xs ≡ true → FirstAt p xs) → FirstAt p (x ∷ xs)
    at true e k rest = record { before = []; here = x; later = xs; is = refl; passes = e; none = refl }
    at false e k rest =
        let r = rest k in
        record { before = x ∷ r.before; here = r.here; later = r.later; is = ap (λ ys. x ∷ ys) r.is; passes = r.passes; none = and_from (not (p x)) (list_all (λ j. not (p j)) r.before) (ap not e) r.none }

-- of the items of the conversation of another, the first begins
first-begins : (x : ReadyItem) (xs : List ReadyItem) → is_ascending_by message_of xs ≡ true → (f : FirstAt (λ k. together k x) xs) → begins xs f.here ≡ true
first-begins x xs h f =
    let k = f.here in
    let q : ReadyItem → Bool = λ j. not (together k j) || nat_le (message_of k) (message_of j) in
    let ascends : is_ascending_by message_of (k ∷ f.later) ≡ true = back-ascends f.before (k ∷ f.later) (sym (ap (is_ascending_by message_of) f.is) ∙ h) in
    ap (list_all q) f.is
    ∙ (list_all-append q f.before (k ∷ f.later)
    ∙ and_from (list_all q f.before) (q k && list_all q f.later)
    (all_weaker (λ j. not (together j x)) q (λ j apart. or_first_case (not (together k j)) (nat_le (message_of k) (message_of j)) (other j apart)) f.before f.none)
    (and_from (q k) (list_all q f.later) (or_second (not (together k k)) (up_to_itself (message_of k)))
    (all_weaker (λ j. nat_lt (message_of k) (message_of j)) q (λ j lt. or_second (not (together k j)) (less_not_above (message_of k) (message_of j) lt)) f.later (above-all k f.later ascends))))
  where
    no_longer : (b : Bool) → not b ≡ true → b ≡ true → false ≡ true
    no_longer true n y = n
    no_longer false n y = y

    other : (j : ReadyItem) → not (together j x) ≡ true → not (together f.here j) ≡ true
    other j apart =
        ap not (not_true (together f.here j) (λ with.
        no_longer (together j x) apart (same-through j.conversation f.here.conversation x.conversation (same-turned f.here.conversation j.conversation with) f.passes)))

kept-any : {A : Type 0} (p q : A → Bool) (xs ys : List A) (k : A) → p k ≡ true → q k ≡ true → list_any p (filter q (xs ++ k ∷ ys)) ≡ true
kept-any p q xs ys k pk qk =
    ap (list_any p) (filter-joined q xs (k ∷ ys))
    ∙ (list_any-append p (filter q xs) (filter q (k ∷ ys))
    ∙ or_second (list_any p (filter q xs)) (ap (λ b. list_any p (cond b (k ∷ filter q ys) (filter q ys))) qk ∙ or_first_case (p k) (list_any p (filter q ys)) pk))

filter-any : {A : Type 0} (p q : A → Bool) (xs : List A) → list_any p (filter q xs) ≡ true → list_any p xs ≡ true
filter-any p q [] h = h
filter-any p q (x ∷ xs) h = at (q x) h (filter-any p q xs)
  where
    at : (b : Bool) → list_any p (cond b (x ∷ filter q xs) (filter q xs)) ≡ true → (list_any p (filter q xs) ≡ true → list_any p xs ≡ true) → (p x || list_any p xs) ≡ true
    at true k rest = or_either (p x) k rest
      where
        or_either : (a : Bool) → (a || list_any p (filter q xs)) ≡ true → (list_any p (filter q xs) ≡ true → list_any p xs ≡ true) → (a || list_any p xs) ≡ true
        or_either true k rest = refl
        or_either false k rest = rest k
    at false k rest = or_second (p x) (rest k)

-- some item is of the conversation where one that begins is
any-begins : (x : ReadyItem) (xs : List ReadyItem) → is_ascending_by message_of xs ≡ true → list_any (λ k. together k x) (filter (begins xs) xs) ≡ list_any (λ k. together k x) xs
any-begins x xs h =
    same_bool (list_any (λ k. together k x) (filter (begins xs) xs)) (list_any (λ k. together k x) xs)
    (filter-any (λ k. together k x) (begins xs) xs)
    (λ some.
    let f = first_at (λ k. together k x) xs some in
    ap (λ ys. list_any (λ k. together k x) (filter (begins xs) ys)) f.is
    ∙ kept-any (λ k. together k x) (begins xs) f.before f.later f.here f.passes (first-begins x xs h f))

any-turned : (x : ReadyItem) (xs : List ReadyItem) → list_any (together x) xs ≡ list_any (λ k. together k x) xs
any-turned x [] = refl
any-turned x (k ∷ ks) =
    ap (λ b. b || list_any (together x) ks) (same_bool (together x k) (together k x) (same-turned x.conversation k.conversation) (same-turned k.conversation x.conversation))
    ∙ ap (λ b. together k x || b) (any-turned x ks)

-- ---- of the items that begin, one at most is of a conversation

abbrev Once : (ReadyItem → Bool) → List ReadyItem → Type 0
Once p [] = Unit {0}
Once p (f ∷ fs) = (p f ≡ true → list_any p fs ≡ false) × Once p fs

no_other : (x : ReadyItem) (front : List ReadyItem) (y : ReadyItem) (back zs : List ReadyItem) → together y x ≡ true → list_all (λ k. nat_lt (message_of y) (message_of k)) zs ≡ true → list_any (λ k. together k x) (filter (begins (front ++ y ∷ back)) zs) ≡ false
no_other x front y back [] here above = refl
no_other x front y back (z ∷ zs) here above =
    let parts = and_parts (nat_lt (message_of y) (message_of z)) (list_all (λ k. nat_lt (message_of y) (message_of k)) zs) above in
    at (begins (front ++ y ∷ back) z) refl parts.0 (no_other x front y back zs here parts.1)
  where
    p : ReadyItem → Bool
    p k = together k x

    apart : (a b : Bool) → (not a || b) ≡ true → a ≡ true → b ≡ false → false ≡ true
    apart true b k t e = sym e ∙ k
    apart false b k t e = t

    at : (b : Bool) → begins (front ++ y ∷ back) z ≡ b → nat_lt (message_of y) (message_of z) ≡ true → list_any (λ k. together k x) (filter (begins (front ++ y ∷ back)) zs) ≡ false →
        list_any (λ k. together k x) (cond b (z ∷ filter (begins (front ++ y ∷ back)) zs) (filter (begins (front ++ y ∷ back)) zs)) ≡ false
    at false e lt rest = rest
    at true e lt rest =
        let q : ReadyItem → Bool = λ j. not (together z j) || nat_le (message_of z) (message_of j) in
        let in_back = and_parts (list_all q front) (q y && list_all q back) (sym (list_all-append q front (y ∷ back)) ∙ e) in
        let at_y = (and_parts (q y) (list_all q back) in_back.1).0 in
        let other : together z x ≡ false = not_true (together z x) (λ with.
        apart (together z y) (nat_le (message_of z) (message_of y)) at_y (same-through z.conversation x.conversation y.conversation with (same-turned y.conversation x.conversation here)) (above_not_up_to (message_of y) (message_of z) lt)) in
        ap (λ b. b || list_any (λ k. together k x) (filter (begins (front ++ y ∷ back)) zs)) other ∙ rest

once-begins : (x : ReadyItem) (before ys : List ReadyItem) → is_ascending_by message_of ys ≡ true → Once (λ k. together k x) (filter (begins (before ++ ys)) ys)
once-begins x before [] h = tt
once-begins x before (y ∷ ys) h =
    let joined : (before ++ y ∷ []) ++ ys ≡ before ++ y ∷ ys = simp append_assoc in
    let rest = subst (λ (zs : List ReadyItem). Once (λ k. together k x) (filter (begins zs) ys)) joined (once-begins x (before ++ y ∷ []) ys (ascending-rest message_of y ys h)) in
    at (begins (before ++ y ∷ ys) y) rest
  where
    at : (b : Bool) → Once (λ k. together k x) (filter (begins (before ++ y ∷ ys)) ys) → Once (λ k. together k x) (cond b (y ∷ filter (begins (before ++ y ∷ ys)) ys) (filter (begins (before ++ y ∷ ys)) ys))
    at true rest = (λ here. no_other x before y ys ys here (above-all y ys h), rest)
    at false rest = rest

-- ---- the groups with one more item

abbrev pub grow : Item → Group → Group
grow item g = record { conversation = g.conversation; items = g.items ++ item ∷ [] }

-- the first group that passes a test grows
abbrev pub grown : (Group → Bool) → Item → List Group → List Group
grown p item [] = []
grown p item (g ∷ gs) = cond (p g) (grow item g ∷ gs) (g ∷ grown p item gs)

abbrev pub is_of : ReadyItem → Group → Bool
is_of x g = same_conversation g.conversation x.conversation

set-first : (p : Group → Bool) (item : Item) (d : Group) (gs : List Group) → position_or_len p gs < length gs → set gs (position_or_len p gs) (grow item (get_or gs (position_or_len p gs) d)) ≡ grown p item gs
set-first p item d [] lt = absurd (omega arith)
set-first p item d (g ∷ gs) lt = at (p g) (set-first p item d gs) lt
  where
    at : (b : Bool) → (position_or_len p gs < length gs → set gs (position_or_len p gs) (grow item (get_or gs (position_or_len p gs) d)) ≡ grown p item gs) → cond (not b) (1 + position_or_len p gs) 0 < length (g ∷ gs) →
        set (g ∷ gs) (cond (not b) (1 + position_or_len p gs) 0) (grow item (get_or (g ∷ gs) (cond (not b) (1 + position_or_len p gs) 0) d)) ≡ cond b (grow item g ∷ gs) (g ∷ grown p item gs)
    at true rest le = refl
    at false rest le =
        let next : 1 + position_or_len p gs ≡ suc (position_or_len p gs) = omega arith in
        ap (λ n. set (g ∷ gs) n (grow item (get_or (g ∷ gs) n d))) next ∙ ap (λ hs. g ∷ hs) (rest (omega arith))

none-passes : (p : Group → Bool) (gs : List Group) → length gs ≤ position_or_len p gs → list_any p gs ≡ false
none-passes p [] le = refl
none-passes p (g ∷ gs) le = at (p g) (none-passes p gs) le
  where
    at : (b : Bool) → (length gs ≤ position_or_len p gs → list_any p gs ≡ false) → length (g ∷ gs) ≤ cond (not b) (1 + position_or_len p gs) 0 → (b || list_any p gs) ≡ false
    at true rest k = absurd (omega arith)
    at false rest k = rest (omega arith)

some-passes : (p : Group → Bool) (gs : List Group) → position_or_len p gs < length gs → list_any p gs ≡ true
some-passes p [] lt = absurd (omega arith)
some-passes p (g ∷ gs) lt = at (p g) (some-passes p gs) lt
  where
    at : (b : Bool) → (position_or_len p gs < length gs → list_any p gs ≡ true) → cond (not b) (1 + position_or_len p gs) 0 < length (g ∷ gs) → (b || list_any p gs) ≡ true
    at true rest k = refl
    at false rest k = rest (omega arith)

-- what a search answers
pub at_some : (p : Group → Bool) (gs : List Group) (i : ℕ) → position p gs ≡ Some i → (i ≡ position_or_len p gs) × (position_or_len p gs < length gs)
at_some p gs i e = at (nat_lt (position_or_len p gs) (length gs)) refl e
  where
    at : (b : Bool) → nat_lt (position_or_len p gs) (length gs) ≡ b → cond b (Some (position_or_len p gs)) None ≡ Some i → (i ≡ position_or_len p gs) × (position_or_len p gs < length gs)
    at true lt k = (ap (λ (o : Option ℕ). unwrap_or o i) (sym k), ltb-true (position_or_len p gs) (length gs) lt)
    at false lt k = absurd (false≢true (ap is_some k))

pub at_none : (p : Group → Bool) (gs : List Group) → position p gs ≡ None → length gs ≤ position_or_len p gs
at_none p gs e = at (nat_lt (position_or_len p gs) (length gs)) refl e
  where
    at : (b : Bool) → nat_lt (position_or_len p gs) (length gs) ≡ b → cond b (Some (position_or_len p gs)) None ≡ None → length gs ≤ position_or_len p gs
    at true lt k = absurd (false≢true (sym (ap is_some k)))
    at false lt k = ltb-false (position_or_len p gs) (length gs) lt

-- what a group has of the items with one more
group-grows : (xs : List ReadyItem) (x f : ReadyItem) (b : Bool) → together f x ≡ b → group_of (xs ++ x ∷ []) f ≡ cond b (grow x.item (group_of xs f)) (group_of xs f)
group-grows xs x f b e =
    ap (λ is. record { conversation = f.conversation; items = is }) (ap (map (λ k. k.item)) (filter-joined (together f) xs (x ∷ []) ∙ ap (λ t. filter (together f) xs ++ cond t (x ∷ []) []) e))
    ∙ at b
  where
    at : (c : Bool) → ◌≡◌ {A = Group} (record { conversation = f.conversation; items = map (λ k. k.item) (filter (together f) xs ++ cond c (x ∷ []) []) }) (cond c (grow x.item (group_of xs f)) (group_of xs f))
    at true = ap (λ is. record { conversation = f.conversation; items = is }) (map-append (λ k. k.item) (filter (together f) xs) (x ∷ []))
    at false = ap (λ ks. record { conversation = f.conversation; items = map (λ k. k.item) ks }) (append-nil (filter (together f) xs))

groups-stay : (xs : List ReadyItem) (x : ReadyItem) (fs : List ReadyItem) → list_any (λ k. together k x) fs ≡ false → map (group_of (xs ++ x ∷ [])) fs ≡ map (group_of xs) fs
groups-stay xs x [] h = refl
groups-stay xs x (f ∷ fs) h = at (together f x) refl h (groups-stay xs x fs)
  where
    at : (b : Bool) → together f x ≡ b → (b || list_any (λ k. together k x) fs) ≡ false → (list_any (λ k. together k x) fs ≡ false → map (group_of (xs ++ x ∷ [])) fs ≡ map (group_of xs) fs) → group_of (xs ++ x ∷ []) f ∷ map (group_of (xs ++ x ∷ [])) fs ≡ group_of xs f ∷ map (group_of xs) fs
    at true e k rest = absurd (false≢true (sym k))
    at false e k rest = ap (λ g. g ∷ map (group_of (xs ++ x ∷ [])) fs) (group-grows xs x f false e) ∙ ap (λ gs. group_of xs f ∷ gs) (rest k)

groups-grow : (xs : List ReadyItem) (x : ReadyItem) (fs : List ReadyItem) → Once (λ k. together k x) fs → grown (is_of x) x.item (map (group_of xs) fs) ≡ map (group_of (xs ++ x ∷ [])) fs
groups-grow xs x [] once = refl
groups-grow xs x (f ∷ fs) once = at (together f x) refl once.0 (groups-grow xs x fs once.1)
  where
    at : (b : Bool) → together f x ≡ b → (together f x ≡ true → list_any (λ k. together k x) fs ≡ false) → grown (is_of x) x.item (map (group_of xs) fs) ≡ map (group_of (xs ++ x ∷ [])) fs →
        cond (together f x) (grow x.item (group_of xs f) ∷ map (group_of xs) fs) (group_of xs f ∷ grown (is_of x) x.item (map (group_of xs) fs)) ≡ group_of (xs ++ x ∷ []) f ∷ map (group_of (xs ++ x ∷ [])) fs
    at true e others rest =
        ap (λ b. cond b (grow x.item (group_of xs f) ∷ map (group_of xs) fs) (group_of xs f ∷ grown (is_of x) x.item (map (group_of xs) fs))) e
        ∙ (ap (λ gs. grow x.item (group_of xs f) ∷ gs) (sym (groups-stay xs x fs (others e)))
        ∙ ap (λ g. g ∷ map (group_of (xs ++ x ∷ [])) fs) (sym (group-grows xs x f true e)))
    at false e others rest =
        ap (λ b. cond b (grow x.item (group_of xs f) ∷ map (group_of xs) fs) (group_of xs f ∷ grown (is_of x) x.item (map (group_of xs) fs))) e
        ∙ (ap (λ gs. group_of xs f ∷ gs) rest
        ∙ ap (λ g. g ∷ map (group_of (xs ++ x ∷ [])) fs) (sym (group-grows xs x f false e)))

any-map : (x : ReadyItem) (xs fs : List ReadyItem) → list_any (is_of x) (map (group_of xs) fs) ≡ list_any (λ k. together k x) fs
any-map x xs [] = refl
any-map x xs (f ∷ fs) = ap (λ b. together f x || b) (any-map x xs fs)

-- the items that begin, with one more
begins-more : (xs : List ReadyItem) (x : ReadyItem) → is_ascending_by message_of (xs ++ x ∷ []) ≡ true → (b : Bool) → list_any (λ k. together k x) xs ≡ b → filter (begins (xs ++ x ∷ [])) (xs ++ x ∷ []) ≡ filter (begins xs) xs ++ cond b [] (x ∷ [])
begins-more xs x h b e =
    let behind = last-behind xs x h in
    filter-joined (begins (xs ++ x ∷ [])) xs (x ∷ [])
    ∙ (ap (λ fs. fs ++ cond (begins (xs ++ x ∷ []) x) (x ∷ []) []) (front-begins xs x xs behind)
    ∙ (ap (λ c. filter (begins xs) xs ++ cond c (x ∷ []) []) (begins-last xs x behind ∙ ap not (any-turned x xs ∙ e))
    ∙ at b))
  where
    at : (c : Bool) → filter (begins xs) xs ++ cond (not c) (x ∷ []) [] ≡ filter (begins xs) xs ++ cond c [] (x ∷ [])
    at true = refl
    at false = refl

-- the groups with one more item of a conversation that is there
pub joined-groups : (xs : List ReadyItem) (x : ReadyItem) → is_ascending_by message_of (xs ++ x ∷ []) ≡ true → list_any (λ k. together k x) xs ≡ true → grown (is_of x) x.item (groups_of xs) ≡ groups_of (xs ++ x ∷ [])
joined-groups xs x h some =
    groups-grow xs x (filter (begins xs) xs) (once-begins x [] xs (ascends-front xs (x ∷ []) h))
    ∙ sym (ap (map (group_of (xs ++ x ∷ []))) (begins-more xs x h true some ∙ append-nil (filter (begins xs) xs)))

-- and of one that isn't there yet
pub started-groups : (xs : List ReadyItem) (x : ReadyItem) → is_ascending_by message_of (xs ++ x ∷ []) ≡ true → list_any (λ k. together k x) xs ≡ false → groups_of xs ++ record { conversation = x.conversation; items = x.item ∷ [] } ∷ [] ≡ groups_of (xs ++ x ∷ [])
started-groups xs x h none =
    let none_begin : list_any (λ k. together k x) (filter (begins xs) xs) ≡ false = any-begins x xs (ascends-front xs (x ∷ []) h) ∙ none in
    let new : group_of (xs ++ x ∷ []) x ≡ record { conversation = x.conversation; items = x.item ∷ [] } =
    group-grows xs x x true (same-itself x.conversation) ∙ ap (λ ks. record { conversation = x.conversation; items = map (λ k. k.item) ks ++ x.item ∷ [] }) (filter-none (together x) xs (any-turned x xs ∙ none)) in
    sym (ap (map (group_of (xs ++ x ∷ []))) (begins-more xs x h false none)
    ∙ (map-append (group_of (xs ++ x ∷ [])) (filter (begins xs) xs) (x ∷ [])
    ∙ (ap (λ hs. hs ++ group_of (xs ++ x ∷ []) x ∷ []) (groups-stay xs x (filter (begins xs) xs) none_begin)
    ∙ ap (λ g. groups_of xs ++ g ∷ []) new)))
  where
    filter-none : (p : ReadyItem → Bool) (ks : List ReadyItem) → list_any p ks ≡ false → filter p ks ≡ []
    filter-none p [] k = refl
    filter-none p (j ∷ js) k = one (p j) k (filter-none p js)
      where
        one : (b : Bool) → (b || list_any p js) ≡ false → (list_any p js ≡ false → filter p js ≡ []) → cond b (j ∷ filter p js) (filter p js) ≡ []
        one true n rest = absurd (false≢true (sym n))
        one false n rest = rest n

-- a group is of the conversation where an item is
pub some-group : (xs : List ReadyItem) (x : ReadyItem) → is_ascending_by message_of xs ≡ true → list_any (is_of x) (groups_of xs) ≡ list_any (λ k. together k x) xs
some-group xs x h = any-map x xs (filter (begins xs) xs) ∙ any-begins x xs h

-- one more item of a conversation that is there
pub joins : (xs : List ReadyItem) (x : ReadyItem) (d : Group) (gs : List Group) → is_ascending_by message_of (xs ++ x ∷ []) ≡ true → gs ≡ groups_of xs → position_or_len (is_of x) gs < length gs →
    set gs (position_or_len (is_of x) gs) (grow x.item (get_or gs (position_or_len (is_of x) gs) d)) ≡ groups_of (xs ++ x ∷ [])
joins xs x d gs h e lt =
    let some : list_any (λ k. together k x) xs ≡ true = sym (some-group xs x (ascends-front xs (x ∷ []) h)) ∙ (sym (ap (list_any (is_of x)) e) ∙ some-passes (is_of x) gs lt) in
    set-first (is_of x) x.item d gs lt ∙ (ap (grown (is_of x) x.item) e ∙ joined-groups xs x h some)

-- one more item of a conversation that isn't there yet
pub starts : (xs : List ReadyItem) (x : ReadyItem) (gs : List Group) → is_ascending_by message_of (xs ++ x ∷ []) ≡ true → gs ≡ groups_of xs → length gs ≤ position_or_len (is_of x) gs →
    gs ++ record { conversation = x.conversation; items = x.item ∷ [] } ∷ [] ≡ groups_of (xs ++ x ∷ [])
starts xs x gs h e le =
    let none : list_any (λ k. together k x) xs ≡ false = sym (some-group xs x (ascends-front xs (x ∷ []) h)) ∙ (sym (ap (list_any (is_of x)) e) ∙ none-passes (is_of x) gs le) in
    ap (λ hs. hs ++ record { conversation = x.conversation; items = x.item ∷ [] } ∷ []) e ∙ started-groups xs x h none
