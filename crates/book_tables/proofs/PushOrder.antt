-- Pushes by user, then message: what a sort and a removal of repeats leave, and that they are told by what they have.
use Rattle.std.proofs.Common.{◌≡◌, Bool, true, false, ◌&&◌, ◌||◌, ◌==◌, List, [], ◌∷◌, refl, sym, ap, ◌∙◌, subst, arith}
use Rattle.std.specs.Prelude.{nat_lt, if◌then◌else◌}
use Rattle.std.specs.List.{AllByRecursion, dedup, dedup_from}
use Rattle.std.specs.List.Retain.{DiffersFromLast, IsFiltered}
use Rattle.std.specs.List.Sorted.{IsPermutation, IsSorted, IsStrictlySortedBy}
use Rattle.std.specs.Cmp.{IsTotalOrder}
use Rattle.std.specs.Ordering.{eq_by_cmp}
use Rattle.std.specs.declared.cmp.Ordering.{Ordering}
use Rattle.std.specs.declared.cmp.Ordering.TheVariants.{Less, Equal, Greater}
use Rattle.std.proofs.lemmas.Bool.{cond_both, false≢true, eq-eqb, eqb-true, and_parts, or_left, or_from}
use Rattle.std.proofs.lemmas.Bool.Decides.{nat_tests}
use Rattle.std.proofs.lemmas.Cmp.{nat_cmp_total, on_total, then_total}
use Rattle.std.proofs.lemmas.List.Filters.{dedup_is}
use Rattle.std.proofs.lemmas.List.Kept.{IsStrictlySortedBy-dedup}
use Rattle.std.proofs.lemmas.List.Sorted.{list_any-IsPermutation}
use Rattle.chat_model.specs.declared.ids.MessageId.{MessageId}
use Rattle.chat_model.specs.declared.ids.UserId.{UserId}
use Rattle.notice_ledger.proofs.PushItems.{put_by, sort_by}
use Rattle.book_tables.specs.declared.pushes.PushKey.{PushKey}
use Rattle.book_tables.specs.Pushes.{push_cmp, has_push, IsOnceEach}

abbrev pub same_push : PushKey → PushKey → Bool
same_push p q = p.user.0 == q.user.0 && p.message.0 == q.message.0

push_cmp-total : IsTotalOrder push_cmp
push_cmp-total = then_total (on_total (λ (p : PushKey). p.user.0) nat_cmp_total) (on_total (λ (p : PushKey). p.message.0) nat_cmp_total)

same_push-ties : (p q : PushKey) → same_push p q ≡ eq_by_cmp push_cmp p q
same_push-ties p q = grind (arith, nat_tests)

same_push-same : (p q : PushKey) → same_push p q ≡ true → p ≡ q
same_push-same p q h =
    let parts = and_parts (p.user.0 == q.user.0) (p.message.0 == q.message.0) h in
    let users : p.user.0 ≡ q.user.0 = eqb-true p.user.0 q.user.0 parts.0 in
    let messages : p.message.0 ≡ q.message.0 = eqb-true p.message.0 q.message.0 parts.1 in
    (λ i. record { user = record { 0 = users i }; message = record { 0 = messages i } })

-- ---- a sort and a removal of repeats

or_twice : (a c : Bool) → (a || c) ≡ (a || (a || c))
or_twice true c = refl
or_twice false c = refl

module _ (u : UserId) (m : MessageId) where
  abbrev is_this : PushKey → Bool
  is_this p = p.user.0 == u.0 && p.message.0 == m.0

  dedup_from-has : (k : PushKey) (ps : List PushKey) → has_push (dedup_from same_push k ps) u m ≡ (is_this k || has_push ps u m)
  dedup_from-has k [] = refl
  dedup_from-has k (p ∷ ps) =
      cond_both (same_push p k) (dedup_from same_push k ps) (k ∷ dedup_from same_push p ps) (λ qs. has_push qs u m ≡ (is_this k || (is_this p || has_push ps u m)))
      (λ e. dedup_from-has k ps ∙ (or_twice (is_this k) (has_push ps u m) ∙ ap (λ (q : PushKey). is_this k || (is_this q || has_push ps u m)) (sym (same_push-same p k e))))
      (λ _. ap (λ b. is_this k || b) (dedup_from-has p ps))

  dedup-has : (ps : List PushKey) → has_push (dedup same_push ps) u m ≡ has_push ps u m
  dedup-has [] = refl
  dedup-has (p ∷ ps) = dedup_from-has p ps

-- pushes sorted, and then without repeats
pub sorted_once : (ps sorted kept : List PushKey) → IsPermutation ps sorted → IsSorted push_cmp sorted → IsFiltered (DiffersFromLast same_push) [] sorted kept → IsOnceEach ps kept
sorted_once ps sorted kept moved h filtered =
    let same : kept ≡ dedup same_push sorted = dedup_is same_push sorted kept filtered in
    record {
      order = subst (IsStrictlySortedBy push_cmp) (sym same) (IsStrictlySortedBy-dedup push_cmp-total same_push-ties sorted h);
      same = λ u m. ap (λ (qs : List PushKey). has_push qs u m) same ∙ (dedup-has u m sorted ∙ sym (list_any-IsPermutation (λ (p : PushKey). p.user.0 == u.0 && p.message.0 == m.0) ps sorted moved));
    }

-- ---- pushes by user, then message, are told by what they have

-- the push is below these
abbrev IsBelow : PushKey → List PushKey → Type 0
IsBelow p qs = AllByRecursion (λ q. push_cmp p q ≡ Less) qs

IsBelow-all : (p q : PushKey) (rs : List PushKey) → push_cmp p q ≡ Less → IsBelow q rs → IsBelow p rs
IsBelow-all p q [] lt below = tt
IsBelow-all p q (r ∷ rs) lt below = (push_cmp-total.trans p q r lt below.0, IsBelow-all p q rs lt below.1)

other_push : (p q : PushKey) → push_cmp p q ≡ Less → same_push q p ≡ false
other_push p q lt = grind (arith, nat_tests)

-- a push below these is none of them
not_among : (p : PushKey) (qs : List PushKey) → IsBelow p qs → has_push qs p.user p.message ≡ false
not_among p [] below = refl
not_among p (q ∷ qs) below = or_from (same_push q p) (has_push qs p.user p.message) (other_push p q below.0) (not_among p qs below.1)

has_first : (p : PushKey) (ps : List PushKey) → has_push (p ∷ ps) p.user p.message ≡ true
has_first p ps = or_left (same_push p p) (has_push ps p.user p.message) (itself p)
  where
    itself : (p : PushKey) → same_push p p ≡ true
    itself p = (λ i. eq-eqb p.user.0 p.user.0 refl i && eq-eqb p.message.0 p.message.0 refl i)

-- the first of pushes isn't below the first of others that have the same
not_below : (p q : PushKey) (ps qs : List PushKey) → IsBelow q qs → ((u : UserId) (m : MessageId) → has_push (p ∷ ps) u m ≡ has_push (q ∷ qs) u m) → push_cmp p q ≡ Less → ⊥
not_below p q ps qs below same lt =
    false≢true (sym (not_among p (q ∷ qs) (lt, IsBelow-all p q qs lt below)) ∙ (sym (same p.user p.message) ∙ has_first p ps))

turned : (p q : PushKey) → push_cmp p q ≡ Greater → push_cmp q p ≡ Less
turned p q e = grind (arith, nat_tests)

equal_push : (p q : PushKey) → push_cmp p q ≡ Equal → p ≡ q
equal_push p q e = same_push-same p q (same_push-ties p q ∙ ap tie e)
  where
    tie : Ordering → Bool
    tie Equal = true
    tie _ = false

same_rest : (p : PushKey) (ps qs : List PushKey) → IsBelow p ps → IsBelow p qs → ((u : UserId) (m : MessageId) → has_push (p ∷ ps) u m ≡ has_push (p ∷ qs) u m) → (u : UserId) (m : MessageId) → has_push ps u m ≡ has_push qs u m
same_rest p ps qs low high same u m = by (is_this u m p) refl
  where
    by : (b : Bool) → is_this u m p ≡ b → has_push ps u m ≡ has_push qs u m
    by true e =
        let key : p ≡ record { user = u; message = m } = same_push-same p (record { user = u; message = m }) e in
        subst (λ (k : PushKey). has_push ps k.user k.message ≡ has_push qs k.user k.message) key (not_among p ps low ∙ sym (not_among p qs high))
    by false e = sym (ap (λ b. b || has_push ps u m) e) ∙ (same u m ∙ ap (λ b. b || has_push qs u m) e)

pub told_pushes : (ps qs : List PushKey) → IsStrictlySortedBy push_cmp ps → IsStrictlySortedBy push_cmp qs → ((u : UserId) (m : MessageId) → has_push ps u m ≡ has_push qs u m) → ps ≡ qs
unfolding IsStrictlySortedBy
told_pushes [] [] hp hq same = refl
told_pushes [] (q ∷ qs) hp hq same = absurd (false≢true (same q.user q.message ∙ has_first q qs))
told_pushes (p ∷ ps) [] hp hq same = absurd (false≢true (sym (same p.user p.message) ∙ has_first p ps))
told_pushes (p ∷ ps) (q ∷ qs) hp hq same = by (push_cmp p q) refl (told_pushes ps qs hp.1 hq.1)
  where
    by : (o : Ordering) → push_cmp p q ≡ o → (((u : UserId) (m : MessageId) → has_push ps u m ≡ has_push qs u m) → ps ≡ qs) → p ∷ ps ≡ q ∷ qs
    by Less lt rest = absurd (not_below p q ps qs hq.0 same lt)
    by Greater gt rest = absurd (not_below q p qs ps hp.0 (λ u m. sym (same u m)) (turned p q gt))
    by Equal e rest =
        let first = equal_push p q e in
        let low = subst (λ (k : PushKey). IsBelow k qs) (sym first) hq.0 in
        let same_at_p = subst (λ (k : PushKey). (u : UserId) (m : MessageId) → has_push (p ∷ ps) u m ≡ has_push (k ∷ qs) u m) (sym first) same in
        ap (λ k. k ∷ ps) first ∙ ap (λ ks. q ∷ ks) (rest (same_rest p ps qs hp.0 low same_at_p))

-- ---- pushes that are sorted by insertion

-- the first of two pushes stands before the second
abbrev pub push_before : PushKey → PushKey → Bool
push_before p q = nat_lt p.user.0 q.user.0 || p.user.0 == q.user.0 && nat_lt p.message.0 q.message.0

before-Less : (p q : PushKey) → push_before p q ≡ true → push_cmp p q ≡ Less
before-Less p q h = grind (arith, nat_tests)

-- where the first doesn't stand before the second, and is another, the second stands before it
behind-Less : (p q : PushKey) → push_before p q ≡ false → same_push q p ≡ false → push_cmp q p ≡ Less
behind-Less p q h other = grind (arith, nat_tests)

or_swapped : (a b c : Bool) → (a || (b || c)) ≡ (b || (a || c))
or_swapped true true c = refl
or_swapped true false c = refl
or_swapped false b c = refl

put-has : (u : UserId) (m : MessageId) (p : PushKey) (ps : List PushKey) → has_push (put_by push_before p ps) u m ≡ (is_this u m p || has_push ps u m)
put-has u m p [] = refl
put-has u m p (q ∷ qs) = by (push_before p q) (put-has u m p qs)
  where
    by : (b : Bool) → has_push (put_by push_before p qs) u m ≡ (is_this u m p || has_push qs u m) → has_push (if b then p ∷ q ∷ qs else q ∷ put_by push_before p qs) u m ≡ (is_this u m p || (is_this u m q || has_push qs u m))
    by true e = refl
    by false e = ap (λ b. is_this u m q || b) e ∙ or_swapped (is_this u m q) (is_this u m p) (has_push qs u m)

pub sort-has : (u : UserId) (m : MessageId) (ps : List PushKey) → has_push (sort_by push_before ps) u m ≡ has_push ps u m
sort-has u m [] = refl
sort-has u m (p ∷ ps) = put-has u m p (sort_by push_before ps) ∙ ap (λ b. is_this u m p || b) (sort-has u m ps)

put-below : (r p : PushKey) (ps : List PushKey) → push_cmp r p ≡ Less → IsBelow r ps → IsBelow r (put_by push_before p ps)
put-below r p [] lt below = (lt, tt)
put-below r p (q ∷ qs) lt below = by (push_before p q) (put-below r p qs lt below.1)
  where
    by : (b : Bool) → IsBelow r (put_by push_before p qs) → IsBelow r (if b then p ∷ q ∷ qs else q ∷ put_by push_before p qs)
    by true rest = (lt, below)
    by false rest = (below.0, rest)

put-strict : (p : PushKey) (ps : List PushKey) → IsStrictlySortedBy push_cmp ps → has_push ps p.user p.message ≡ false → IsStrictlySortedBy push_cmp (put_by push_before p ps)
unfolding IsStrictlySortedBy
put-strict p [] h other = (tt, tt)
put-strict p (q ∷ qs) h other =
    let others = or_none (same_push q p) (has_push qs p.user p.message) other in
    by (push_before p q) refl others.0 (put-strict p qs h.1 others.1)
  where
    or_none : (a b : Bool) → (a || b) ≡ false → (a ≡ false) × (b ≡ false)
    or_none true b e = absurd (cc)
    or_none false b e = (refl, e)

    by : (b : Bool) → push_before p q ≡ b → same_push q p ≡ false → IsStrictlySortedBy push_cmp (put_by push_before p qs) → IsStrictlySortedBy push_cmp (if b then p ∷ q ∷ qs else q ∷ put_by push_before p qs)
    by true e apart rest = ((before-Less p q e, IsBelow-all p q qs (before-Less p q e) h.0), h)
    by false e apart rest = (put-below q p qs (behind-Less p q e apart) h.0, rest)

-- pushes of which none stands twice
abbrev pub AreApart : List PushKey → Type 0
AreApart [] = Unit {0}
AreApart (p ∷ ps) = (has_push ps p.user p.message ≡ false) × AreApart ps

pub sort-strict : (ps : List PushKey) → AreApart ps → IsStrictlySortedBy push_cmp (sort_by push_before ps)
unfolding IsStrictlySortedBy
sort-strict [] apart = tt
sort-strict (p ∷ ps) apart = put-strict p (sort_by push_before ps) (sort-strict ps apart.1) (sort-has p.user p.message ps ∙ apart.0)

-- pushes by user, then message, once each, that have what others have are those, sorted
pub sorted_same : (ps qs : List PushKey) → IsStrictlySortedBy push_cmp qs → AreApart ps → ((u : UserId) (m : MessageId) → has_push qs u m ≡ has_push ps u m) → qs ≡ sort_by push_before ps
sorted_same ps qs order apart same = told_pushes qs (sort_by push_before ps) order (sort-strict ps apart) (λ u m. same u m ∙ sym (sort-has u m ps))
