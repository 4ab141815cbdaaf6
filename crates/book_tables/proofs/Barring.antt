-- The notices of some pairs of a user and a message among notices in order: what a search finds, what a bar makes of those that
-- wait, that were cleared and that are active, and how many it cancels.
use Rattle.std.proofs.Common.{◌≡◌, ℕ, zero, suc, ◌+◌, ◌-◌, ◌^◌, ◌<◌, ◌≤◌, Bool, true, false, ◌&&◌, ◌||◌, ◌==◌, not, cond, List, [], ◌∷◌, ◌++◌, length, map, take, drop, get_or, set, Some, None, refl, sym, ap, ◌∙◌, arith}
use Rattle.std.specs.Prelude.{Option, is_some, filter, option_to_list, min}
use Rattle.std.specs.Option.{option_or}
use Rattle.std.specs.List.{AllByRecursion, flat_map, list_any}
use Rattle.std.proofs.lemmas.Bool.Decides.{nat_tests}
use Rattle.std.proofs.lemmas.List.{append-nil, append_assoc}
use Rattle.chat_model.specs.declared.ids.DealNo.{DealNo}
use Rattle.chat_model.specs.declared.ids.MessageId.{MessageId}
use Rattle.chat_model.specs.declared.ids.UserId.{UserId}
use Rattle.chat_model.specs.declared.row.Cause.{Cause}
use Rattle.chat_model.specs.declared.trigger.Way.{Way}
use Rattle.chat_model.specs.declared.trigger.Way.TheVariants.{Mail, Push}
use Rattle.notice_ledger.proofs.Lists.{AllByRecursion-weaker, filter-filter}
use Rattle.notice_ledger.proofs.Lists.{filter_same}
use Rattle.book_tables.specs.declared.pushes.PushKey.{PushKey}
use Rattle.book_tables.specs.declared.tables.Waiting.{Waiting}
use Rattle.book_tables.specs.Notices.{rank, is_at, is_barred, is_undecided, barred_by, AreNumbered, NonePasses, IsOnly, IsFound, IsInOrder}
use Rattle.book_tables.specs.Pushes.{has_push}
use Rattle.book_tables.specs.Bars.{is_of_pair, is_unbarred_of, is_one_of_pairs, is_pushed_pair, unbarred_tests, is_removed, barred_where, revoked_where, cancelled_of_pair, cancelled_of_pairs, revoked_in}
use Rattle.book_tables.proofs.Sought.{none-same, only-same, none-both, only-both, none-second, none-gone, none-changed, set-only, remove-only, filter-none, filter-only, order-map, order-filter, numbered-filter}

-- ---- the search for the notice of a pair

pair-at : (k : DealNo) (p : PushKey) (way : Way) (w : Waiting) → p.message.0 ≡ k.0 + 1 → w.message.0 ≡ w.deal.0 + 1 → is_at k p.user way w ≡ is_of_pair p way w
pair-at k p way w next numbered = ap (λ b. b && (w.user.0 == p.user.0 && rank w.way == rank way)) (same w.deal.0 w.message.0 k.0 p.message.0 next numbered)
  where
    same : (d n k m : ℕ) → m ≡ k + 1 → n ≡ d + 1 → (d == k) ≡ (n == m)
    same d n k m e f = grind (arith, nat_tests)

pub pairs-at : (k : DealNo) (p : PushKey) (way : Way) (ws : List Waiting) → p.message.0 ≡ k.0 + 1 → AreNumbered ws → AllByRecursion (λ w. is_at k p.user way w ≡ is_of_pair p way w) ws
pairs-at k p way ws next numbered = AllByRecursion-weaker (λ w. w.message.0 ≡ w.deal.0 + 1) (λ w. is_at k p.user way w ≡ is_of_pair p way w) (λ w h. pair-at k p way w next h) ws numbered

-- no notice is of message 0
pub pairs-none : (p : PushKey) (way : Way) (ws : List Waiting) → p.message.0 ≡ 0 → AreNumbered ws → NonePasses (is_of_pair p way) ws
pairs-none p way ws none numbered =
    AllByRecursion-weaker (λ w. w.message.0 ≡ w.deal.0 + 1) (λ w. is_of_pair p way w ≡ false) (λ w h. ap (λ b. b && (w.user.0 == p.user.0 && rank w.way == rank way)) (apart w.deal.0 w.message.0 p.message.0 none h)) ws numbered
  where
    apart : (d n m : ℕ) → m ≡ 0 → n ≡ d + 1 → (n == m) ≡ false
    apart d n m e f = grind (arith, nat_tests)

-- tests that agree on all find the same
pub found-same : (p q : Waiting → Bool) (ws : List Waiting) (o : Option ℕ) → AllByRecursion (λ w. p w ≡ q w) ws → IsFound p ws o → IsFound q ws o
found-same p q ws None same found = none-same p q ws same found
found-same p q ws (Some i) same found = only-same p q ws i same found

-- how many notices a search finds
pub found-long : (test : Waiting → Bool) (ws : List Waiting) (o : Option ℕ) → IsFound test ws o → length (filter test ws) ≡ cond (is_some o) 1 0
found-long test ws None found = ap length (filter-none test ws found)
found-long test [] (Some i) found = absurd found
found-long test (w ∷ ws) (Some i) found = ap length (filter-only test (w ∷ ws) i w found)

pub some-long : {X : Type 0} (o : Option X) (xs : List X) → option_to_list o ≡ xs → length xs ≡ cond (is_some o) 1 0
some-long None xs same = ap length (sym same)
some-long (Some x) xs same = ap length (sym same)

-- whether one passes a test
pub some-passes : (test : Waiting → Bool) (ws : List Waiting) (o : Option Waiting) → option_to_list o ≡ filter test ws → is_some o ≡ list_any test ws
some-passes test ws o same = by o ∙ (ap any same ∙ filtered ws)
  where
    any : List Waiting → Bool
    any [] = false
    any (v ∷ vs) = true

    by : (o : Option Waiting) → is_some o ≡ any (option_to_list o)
    by None = refl
    by (Some v) = refl

    one : (b : Bool) (v : Waiting) (vs : List Waiting) (c : Bool) → any vs ≡ c → any (cond b (v ∷ vs) vs) ≡ (b || c)
    one true v vs c e = refl
    one false v vs c e = e

    filtered : (vs : List Waiting) → any (filter test vs) ≡ list_any test vs
    filtered [] = refl
    filtered (v ∷ vs) = one (test v) v (filter test vs) (list_any test vs) (filtered vs)

-- what stands at the place of the only one that passes, with whatever default
pub only-at : (test : Waiting → Bool) (ws : List Waiting) (i : ℕ) (x y : Waiting) → IsOnly test ws i → x ≡ get_or ws i x → get_or ws i y ≡ x
only-at test [] i x y only is = absurd only
only-at test (w ∷ ws) zero x y only is = sym is
only-at test (w ∷ ws) (suc i) x y only is = only-at test ws i x y only.1 is

pub only-got : (test : Waiting → Bool) (ws : List Waiting) (i : ℕ) (d : Waiting) → IsOnly test ws i → get_or ws i d ≡ get_or ws i (get_or ws i d)
only-got test [] i d only = absurd only
only-got test (w ∷ ws) zero d only = refl
only-got test (w ∷ ws) (suc i) d only = only-got test ws i d only.1

-- ---- one pair more

or-none : (b : Bool) → (b || false) ≡ b
or-none true = refl
or-none false = refl

or-group : (a b c : Bool) → (a || (b || c)) ≡ ((a || b) || c)
or-group true b c = refl
or-group false b c = refl

pub any-more : {X : Type 0} (test : X → Bool) (xs : List X) (x : X) → list_any test (xs ++ x ∷ []) ≡ (list_any test xs || test x)
any-more test [] x = or-none (test x)
any-more test (y ∷ xs) x = ap (λ b. test y || b) (any-more test xs x) ∙ or-group (test y) (list_any test xs) (test x)

same_number : (a b : ℕ) → (a == b) ≡ (b == a)
same_number a b = grind (arith, nat_tests)

one-pair : (p : PushKey) (w : Waiting) → (p.user.0 == w.user.0 && p.message.0 == w.message.0) ≡ (w.message.0 == p.message.0 && w.user.0 == p.user.0)
one-pair p w = ap (λ b. b && p.message.0 == w.message.0) (same_number p.user.0 w.user.0) ∙ (ap (λ b. w.user.0 == p.user.0 && b) (same_number p.message.0 w.message.0) ∙ swap (w.user.0 == p.user.0) (w.message.0 == p.message.0))
  where
    swap : (a b : Bool) → (a && b) ≡ (b && a)
    swap true true = refl
    swap true false = refl
    swap false true = refl
    swap false false = refl

-- by mail and by push
pub pairs-more : (ps : List PushKey) (p : PushKey) (w : Waiting) → ((is_one_of_pairs ps w || is_of_pair p Mail w) || is_of_pair p Push w) ≡ is_one_of_pairs (ps ++ p ∷ []) w
pairs-more ps p w =
    by (is_one_of_pairs ps w) (w.message.0 == p.message.0) (w.user.0 == p.user.0) w.way
    ∙ (ap (λ b. is_one_of_pairs ps w || b) (sym (one-pair p w)) ∙ sym (any-more (λ q. q.user.0 == w.user.0 && q.message.0 == w.message.0) ps p))
  where
    by : (a m u : Bool) (way : Way) → ((a || (m && (u && rank way == 0))) || (m && (u && rank way == 1))) ≡ (a || (m && u))
    by true m u way = refl
    by false true true Mail = refl
    by false true true Push = refl
    by false true false way = refl
    by false false u way = refl

pub pushes-more : (ps : List PushKey) (p : PushKey) (w : Waiting) → (is_pushed_pair ps w || is_of_pair p Push w) ≡ is_pushed_pair (ps ++ p ∷ []) w
pushes-more ps p w =
    by (is_one_of_pairs ps w) (w.message.0 == p.message.0) (w.user.0 == p.user.0) (rank w.way == 1)
    ∙ ap (λ b. b && rank w.way == 1) (ap (λ b. is_one_of_pairs ps w || b) (sym (one-pair p w)) ∙ sym (any-more (λ q. q.user.0 == w.user.0 && q.message.0 == w.message.0) ps p))
  where
    by : (a m u r : Bool) → ((a && r) || (m && (u && r))) ≡ ((a || (m && u)) && r)
    by true m u true = refl
    by true true true false = refl
    by true true false false = refl
    by true false u false = refl
    by false true u r = refl
    by false false u r = refl

pub removed-more : (u : UserId) (ms : List MessageId) (m : MessageId) (w : Waiting) → (is_removed u ms w || is_of_pair (record { user = u; message = m }) Push w) ≡ is_removed u (ms ++ m ∷ []) w
removed-more u ms m w =
    ap (λ b. is_removed u ms w || (b && (w.user.0 == u.0 && rank w.way == 1))) (same_number w.message.0 m.0)
    ∙ (by (w.user.0 == u.0) (rank w.way == 1) (list_any (λ k. k.0 == w.message.0) ms) (m.0 == w.message.0)
    ∙ ap (λ b. w.user.0 == u.0 && (rank w.way == 1 && b)) (sym (any-more (λ k. k.0 == w.message.0) ms m)))
  where
    by : (a r l n : Bool) → ((a && (r && l)) || (n && (a && r))) ≡ (a && (r && (l || n)))
    by true true true n = refl
    by true true false true = refl
    by true true false false = refl
    by true false l true = refl
    by true false l false = refl
    by false r l true = refl
    by false r l false = refl

-- ---- what waits

-- one notice in front of others that were barred
abbrev pub bars_one : Bool → Bool → Cause → Waiting → List Waiting → List Waiting
bars_one a u c w rest = cond (not (a && u)) (cond a (barred_by c w) w ∷ rest) rest

pub barred-cons : (test : Waiting → Bool) (c : Cause) (w : Waiting) (ws : List Waiting) → barred_where test c (w ∷ ws) ≡ bars_one (test w) (is_undecided w) c w (barred_where test c ws)
barred-cons test c w ws =
    elim (test w && is_undecided w) as (λ b. map (λ v. cond (test v) (barred_by c v) v) (cond (not b) (w ∷ filter (λ v. not (test v && is_undecided v)) ws) (filter (λ v. not (test v && is_undecided v)) ws))
    ≡ cond (not b) (cond (test w) (barred_by c w) w ∷ barred_where test c ws) (barred_where test c ws)) [ true ↦ refl | false ↦ refl ]

barred-twice : (c : Cause) (w : Waiting) → barred_by c (barred_by c w) ≡ barred_by c w
barred-twice c w = (λ n. record w { barred = first w.barred n })
  where
    first : (o : Option Cause) → option_or (option_or o (Some c)) (Some c) ≡ option_or o (Some c)
    first None = refl
    first (Some d) = refl

-- what is barred for one test and then for another is for either, where the bar doesn't change the other test
pub barred-next : (p q : Waiting → Bool) (c : Cause) → ((w : Waiting) → q (barred_by c w) ≡ q w) → (ws : List Waiting) → barred_where q c (barred_where p c ws) ≡ barred_where (λ w. p w || q w) c ws
barred-next p q c stays [] = refl
barred-next p q c stays (w ∷ ws) =
    ap (barred_where q c) (barred-cons p c w ws)
    ∙ (by (p w) (is_undecided w) refl
    ∙ (ap (bars_one (p w || q w) (is_undecided w) c w) (barred-next p q c stays ws) ∙ sym (barred-cons (λ v. p v || q v) c w ws)))
  where
    more : (b : Bool) → bars_one b false c (barred_by c w) (barred_where q c (barred_where p c ws)) ≡ barred_by c w ∷ barred_where q c (barred_where p c ws)
    more true = ap (λ v. v ∷ barred_where q c (barred_where p c ws)) (barred-twice c w)
    more false = refl

    by : (a u : Bool) → is_undecided w ≡ u → barred_where q c (bars_one a u c w (barred_where p c ws)) ≡ bars_one (a || q w) u c w (barred_where q c (barred_where p c ws))
    by true true e = refl
    by true false e =
        barred-cons q c (barred_by c w) (barred_where p c ws)
        ∙ (ap (λ u. bars_one (q (barred_by c w)) u c (barred_by c w) (barred_where q c (barred_where p c ws))) e ∙ more (q (barred_by c w)))
    by false u e = barred-cons q c w (barred_where p c ws) ∙ ap (λ u. bars_one (q w) u c w (barred_where q c (barred_where p c ws))) e

barred-same : (p q : Waiting → Bool) (c : Cause) → ((w : Waiting) → p w ≡ q w) → (ws : List Waiting) → barred_where p c ws ≡ barred_where q c ws
barred-same p q c same [] = refl
barred-same p q c same (w ∷ ws) =
    barred-cons p c w ws
    ∙ (ap (λ b. bars_one b (is_undecided w) c w (barred_where p c ws)) (same w)
    ∙ (ap (bars_one (q w) (is_undecided w) c w) (barred-same p q c same ws) ∙ sym (barred-cons q c w ws)))

-- none is barred
pub barred-none : (test : Waiting → Bool) (c : Cause) (ws : List Waiting) → NonePasses test ws → barred_where test c ws ≡ ws
barred-none test c [] none = refl
barred-none test c (w ∷ ws) none = barred-cons test c w ws ∙ (ap (λ b. bars_one b (is_undecided w) c w (barred_where test c ws)) none.0 ∙ ap (λ vs. w ∷ vs) (barred-none test c ws none.1))

-- the only one that passes is ready, or goes
pub barred-ready : (test : Waiting → Bool) (c : Cause) (ws : List Waiting) (i : ℕ) (x v : Waiting) → IsOnly test ws i → x ≡ get_or ws i x → is_undecided x ≡ false → v ≡ barred_by c x → set ws i v ≡ barred_where test c ws
barred-ready test c ws i x v only at ready is =
    set-only test (barred_by c) ws i x v only at is
    ∙ ap (map (λ w. cond (test w) (barred_by c w) w)) (sym (none-gone (λ w. test w && is_undecided w) ws (none-second test is_undecided ws i x only (ap is_undecided (sym at) ∙ ready))))

pub barred-undecided : (test : Waiting → Bool) (c : Cause) (ws : List Waiting) (i : ℕ) (x : Waiting) → IsOnly test ws i → x ≡ get_or ws i x → is_undecided x ≡ true → take i ws ++ drop (i + 1) ws ≡ barred_where test c ws
barred-undecided test c [] i x only at undecided = absurd only
barred-undecided test c (w ∷ ws) zero x only at undecided =
    sym (barred-cons test c w ws ∙ (ap (λ b. bars_one b (is_undecided w) c w (barred_where test c ws)) only.0
    ∙ (ap (λ u. bars_one true u c w (barred_where test c ws)) (ap is_undecided (sym at) ∙ undecided) ∙ barred-none test c ws only.1)))
barred-undecided test c (w ∷ ws) (suc i) x only at undecided =
    let e : suc i + 1 ≡ suc (i + 1) = omega arith in
    ap (λ n. take (suc i) (w ∷ ws) ++ drop n (w ∷ ws)) e
    ∙ (ap (λ vs. w ∷ vs) (barred-undecided test c ws i x only.1 at undecided)
    ∙ sym (barred-cons test c w ws ∙ ap (λ b. bars_one b (is_undecided w) c w (barred_where test c ws)) only.0))

pub nobody-barred : (c : Cause) (ws : List Waiting) → barred_where (is_one_of_pairs []) c ws ≡ ws
nobody-barred c ws = barred-none (is_one_of_pairs []) c ws (each ws)
  where
    each : (vs : List Waiting) → NonePasses (is_one_of_pairs []) vs
    each [] = tt
    each (v ∷ vs) = (refl, each vs)

-- one pair more, by mail and by push
pub bar-next : (ps : List PushKey) (p : PushKey) (c : Cause) (ws : List Waiting)
    → barred_where (is_of_pair p Push) c (barred_where (is_of_pair p Mail) c (barred_where (is_one_of_pairs ps) c ws)) ≡ barred_where (is_one_of_pairs (ps ++ p ∷ [])) c ws
bar-next ps p c ws =
    ap (barred_where (is_of_pair p Push) c) (barred-next (is_one_of_pairs ps) (is_of_pair p Mail) c (λ w. refl) ws)
    ∙ (barred-next (λ w. is_one_of_pairs ps w || is_of_pair p Mail w) (is_of_pair p Push) c (λ w. refl) ws
    ∙ barred-same (λ w. (is_one_of_pairs ps w || is_of_pair p Mail w) || is_of_pair p Push w) (is_one_of_pairs (ps ++ p ∷ [])) c (pairs-more ps p) ws)

-- the order stays
pub order-barred : (test : Waiting → Bool) (c : Cause) (ws : List Waiting) → IsInOrder ws → IsInOrder (barred_where test c ws)
order-barred test c ws order =
    order-map (λ w. cond (test w) (barred_by c w) w) (λ w. deal (test w) w) (λ w. user (test w) w) (λ w. way (test w) w) (filter (λ w. not (test w && is_undecided w)) ws)
    (order-filter (λ w. not (test w && is_undecided w)) ws order)
  where
    deal : (b : Bool) (w : Waiting) → (cond b (barred_by c w) w).deal ≡ w.deal
    deal true w = refl
    deal false w = refl

    user : (b : Bool) (w : Waiting) → (cond b (barred_by c w) w).user ≡ w.user
    user true w = refl
    user false w = refl

    way : (b : Bool) (w : Waiting) → (cond b (barred_by c w) w).way ≡ w.way
    way true w = refl
    way false w = refl

numbered-one : (c : Cause) (b : Bool) (w : Waiting) → w.message.0 ≡ w.deal.0 + 1 → (cond b (barred_by c w) w).message.0 ≡ (cond b (barred_by c w) w).deal.0 + 1
numbered-one c true w h = h
numbered-one c false w h = h

pub numbered-revoked : (test : Waiting → Bool) (c : Cause) (ws : List Waiting) → AreNumbered ws → AreNumbered (revoked_where test c ws)
numbered-revoked test c [] numbered = tt
numbered-revoked test c (w ∷ ws) numbered = (numbered-one c (test w) w numbered.0, numbered-revoked test c ws numbered.1)

pub numbered-barred : (test : Waiting → Bool) (c : Cause) (ws : List Waiting) → AreNumbered ws → AreNumbered (barred_where test c ws)
numbered-barred test c ws numbered = numbered-revoked test c (filter (λ w. not (test w && is_undecided w)) ws) (numbered-filter (λ w. not (test w && is_undecided w)) ws numbered)

pub order-revoked : (test : Waiting → Bool) (c : Cause) (ws : List Waiting) → IsInOrder ws → IsInOrder (revoked_where test c ws)
order-revoked test c ws order = order-map (λ w. cond (test w) (barred_by c w) w) (λ w. deal (test w) w) (λ w. user (test w) w) (λ w. way (test w) w) ws order
  where
    deal : (b : Bool) (w : Waiting) → (cond b (barred_by c w) w).deal ≡ w.deal
    deal true w = refl
    deal false w = refl

    user : (b : Bool) (w : Waiting) → (cond b (barred_by c w) w).user ≡ w.user
    user true w = refl
    user false w = refl

    way : (b : Bool) (w : Waiting) → (cond b (barred_by c w) w).way ≡ w.way
    way true w = refl
    way false w = refl

-- ---- what is taken out

pub either-taken : (p q : Waiting → Bool) (ws : List Waiting) → filter (λ w. not (q w)) (filter (λ w. not (p w)) ws) ≡ filter (λ w. not (p w || q w)) ws
either-taken p q ws = filter-filter (λ w. not (q w)) (λ w. not (p w)) ws ∙ filter_same (λ w. not (p w) && not (q w)) (λ w. not (p w || q w)) (λ w. by (p w) (q w)) ws
  where
    by : (a b : Bool) → (not a && not b) ≡ not (a || b)
    by true b = refl
    by false b = refl

pub take-pair : (ps : List PushKey) (p : PushKey) (ws : List Waiting)
    → filter (λ w. not (is_of_pair p Push w)) (filter (λ w. not (is_of_pair p Mail w)) (filter (λ w. not (is_one_of_pairs ps w)) ws)) ≡ filter (λ w. not (is_one_of_pairs (ps ++ p ∷ []) w)) ws
take-pair ps p ws =
    ap (filter (λ w. not (is_of_pair p Push w))) (either-taken (is_one_of_pairs ps) (is_of_pair p Mail) ws)
    ∙ (either-taken (λ w. is_one_of_pairs ps w || is_of_pair p Mail w) (is_of_pair p Push) ws
    ∙ filter_same (λ w. not ((is_one_of_pairs ps w || is_of_pair p Mail w) || is_of_pair p Push w)) (λ w. not (is_one_of_pairs (ps ++ p ∷ []) w)) (λ w. ap not (pairs-more ps p w)) ws)

pub no-pair : (ws : List Waiting) → filter (λ w. not (is_one_of_pairs [] w)) ws ≡ ws
no-pair ws = none-gone (is_one_of_pairs []) ws (each ws)
  where
    each : (vs : List Waiting) → NonePasses (is_one_of_pairs []) vs
    each [] = tt
    each (v ∷ vs) = (refl, each vs)

pub take-removal : (u : UserId) (ms : List MessageId) (m : MessageId) (ws : List Waiting)
    → filter (λ w. not (is_of_pair (record { user = u; message = m }) Push w)) (filter (λ w. not (is_removed u ms w)) ws) ≡ filter (λ w. not (is_removed u (ms ++ m ∷ []) w)) ws
take-removal u ms m ws =
    either-taken (is_removed u ms) (is_of_pair (record { user = u; message = m }) Push) ws
    ∙ filter_same (λ w. not (is_removed u ms w || is_of_pair (record { user = u; message = m }) Push w)) (λ w. not (is_removed u (ms ++ m ∷ []) w)) (λ w. ap not (removed-more u ms m w)) ws

pub no-removal : (u : UserId) (ws : List Waiting) → filter (λ w. not (is_removed u [] w)) ws ≡ ws
no-removal u ws = none-gone (is_removed u []) ws (each ws)
  where
    no : (a b : Bool) → (a && (b && false)) ≡ false
    no true true = refl
    no true false = refl
    no false b = refl

    each : (vs : List Waiting) → NonePasses (is_removed u []) vs
    each [] = tt
    each (v ∷ vs) = (no (v.user.0 == u.0) (rank v.way == 1), each vs)

-- ---- what is revoked

revoked-next : (p q : Waiting → Bool) (c : Cause) → ((w : Waiting) → q (barred_by c w) ≡ q w) → (ws : List Waiting) → revoked_where q c (revoked_where p c ws) ≡ revoked_where (λ w. p w || q w) c ws
revoked-next p q c stays [] = refl
revoked-next p q c stays (w ∷ ws) = (λ n. one (p w) n ∷ revoked-next p q c stays ws n)
  where
    again : (b : Bool) → cond b (barred_by c (barred_by c w)) (barred_by c w) ≡ barred_by c w
    again true = barred-twice c w
    again false = refl

    one : (a : Bool) → cond (q (cond a (barred_by c w) w)) (barred_by c (cond a (barred_by c w) w)) (cond a (barred_by c w) w) ≡ cond (a || q w) (barred_by c w) w
    one true = again (q (barred_by c w))
    one false = refl

revoked-same : (p q : Waiting → Bool) (c : Cause) → ((w : Waiting) → p w ≡ q w) → (ws : List Waiting) → revoked_where p c ws ≡ revoked_where q c ws
revoked-same p q c same [] = refl
revoked-same p q c same (w ∷ ws) = (λ n. cond (same w n) (barred_by c w) w ∷ revoked-same p q c same ws n)

pub revoke-next : (ps : List PushKey) (p : PushKey) (c : Cause) (ws : List Waiting) → revoked_where (is_of_pair p Push) c (revoked_where (is_pushed_pair ps) c ws) ≡ revoked_where (is_pushed_pair (ps ++ p ∷ [])) c ws
revoke-next ps p c ws =
    revoked-next (is_pushed_pair ps) (is_of_pair p Push) c (λ w. refl) ws
    ∙ revoked-same (λ w. is_pushed_pair ps w || is_of_pair p Push w) (is_pushed_pair (ps ++ p ∷ [])) c (pushes-more ps p) ws

pub nobody-revoked : (c : Cause) (ws : List Waiting) → revoked_where (is_pushed_pair []) c ws ≡ ws
nobody-revoked c ws = none-changed (is_pushed_pair []) (barred_by c) ws (each ws)
  where
    each : (vs : List Waiting) → NonePasses (is_pushed_pair []) vs
    each [] = tt
    each (v ∷ vs) = (refl, each vs)

-- ---- how many

-- one pair more
pub cancelled-more : (waiting cleared : List Waiting) (ps : List PushKey) (p : PushKey)
    → cancelled_of_pairs waiting cleared (ps ++ p ∷ []) ≡ cancelled_of_pairs waiting cleared ps + (cancelled_of_pair waiting cleared p Mail + cancelled_of_pair waiting cleared p Push)
cancelled-more waiting cleared [] p = sum (cancelled_of_pair waiting cleared p Mail + cancelled_of_pair waiting cleared p Push)
  where
    sum : (a : ℕ) → a + 0 ≡ 0 + a
    sum a = omega arith
cancelled-more waiting cleared (q ∷ ps) p =
    let first = cancelled_of_pair waiting cleared q Mail + cancelled_of_pair waiting cleared q Push in
    let last = cancelled_of_pair waiting cleared p Mail + cancelled_of_pair waiting cleared p Push in
    ap (λ n. first + n) (cancelled-more waiting cleared ps p) ∙ group first (cancelled_of_pairs waiting cleared ps) last
  where
    group : (a b c : ℕ) → a + (b + c) ≡ (a + b) + c
    group a b c = omega arith

-- added one after the other with a greatest count
pub counted-twice : (before a b most : ℕ) → min (min (min before most + a) most + b) most ≡ min (before + (a + b)) most
counted-twice before a b most = omega arith

-- ---- rows

pub tests-more : (ps : List PushKey) (p : PushKey) → unbarred_tests (ps ++ p ∷ []) ≡ unbarred_tests ps ++ (is_unbarred_of p Mail ∷ is_unbarred_of p Push ∷ [])
tests-more [] p = refl
tests-more (q ∷ ps) p = ap (λ ts. is_unbarred_of q Mail ∷ is_unbarred_of q Push ∷ ts) (tests-more ps p)

pub unbarred-more : {X : Type 0} (f : (Waiting → Bool) → List X) (ps : List PushKey) (p : PushKey)
    → (flat_map f (unbarred_tests ps) ++ f (is_unbarred_of p Mail)) ++ f (is_unbarred_of p Push) ≡ flat_map f (unbarred_tests (ps ++ p ∷ []))
unbarred-more f ps p =
    append_assoc (flat_map f (unbarred_tests ps)) (f (is_unbarred_of p Mail)) (f (is_unbarred_of p Push))
    ∙ (ap (λ xs. flat_map f (unbarred_tests ps) ++ (f (is_unbarred_of p Mail) ++ xs)) (sym (append-nil (f (is_unbarred_of p Push))))
    ∙ (sym (flat_map-append f (unbarred_tests ps) (is_unbarred_of p Mail ∷ is_unbarred_of p Push ∷ [])) ∙ ap (flat_map f) (sym (tests-more ps p))))
  where
    flat_map-append : {X : Type 0} (f : (Waiting → Bool) → List X) (ss ts : List (Waiting → Bool)) → flat_map f (ss ++ ts) ≡ flat_map f ss ++ flat_map f ts
    flat_map-append f [] ts = refl
    flat_map-append f (s ∷ ss) ts = ap (λ xs. f s ++ xs) (flat_map-append f ss ts) ∙ sym (append_assoc (f s) (flat_map f ss) (flat_map f ts))

-- ---- revoked messages

pub revoked-more : (active : List Waiting) (u : UserId) (ms : List MessageId) (m : MessageId)
    → revoked_in active u (ms ++ m ∷ []) ≡ revoked_in active u ms ++ cond (list_any (is_unbarred_of (record { user = u; message = m }) Push) active) (m ∷ []) []
revoked-more active u [] m = refl
revoked-more active u (k ∷ ms) m =
    elim (list_any (is_unbarred_of (record { user = u; message = k }) Push) active) as (λ b. cond b (k ∷ revoked_in active u (ms ++ m ∷ [])) (revoked_in active u (ms ++ m ∷ []))
    ≡ cond b (k ∷ revoked_in active u ms) (revoked_in active u ms) ++ cond (list_any (is_unbarred_of (record { user = u; message = m }) Push) active) (m ∷ []) []) [
      | true ↦ ap (λ ns. k ∷ ns) (revoked-more active u ms m)
      | false ↦ revoked-more active u ms m
    ]
