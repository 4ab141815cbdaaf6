-- Flags in a list, and the set of them.
use Rattle.std.proofs.Common.{◌≡◌, ℕ, Bool, true, false, not, ◌&&◌, ◌||◌, ◌==◌, cond, List, [], ◌∷◌, ◌++◌, map, filter, refl, sym, ap, ◌∙◌, inl, inr, arith}
use Rattle.std.specs.List.{list_any}
use Rattle.std.specs.Ordering.{nat_cmp, eq_by_cmp, is_eq}
use Rattle.std.specs.declared.cmp.Ordering.{Ordering}
use Rattle.std.specs.declared.cmp.Ordering.TheVariants.{Less, Equal, Greater}
use Rattle.std.specs.Cmp.Lexicographic.{slice_cmp, nat_list_cmp_total}
use Rattle.std.specs.FinSet as set
use Rattle.std.specs.FinSet.{nat_cmp-IsAntisymmetric, slice_cmp-IsAntisymmetric, contains-from_list, contains-remove, from_list_push, same_set}
use Rattle.std.proofs.lemmas.Bool.{false≢true}
use Rattle.std.proofs.lemmas.List.{map-append}
use Rattle.std.proofs.lemmas.Map.Views.{any-filter_same}
use Rattle.std.proofs.lemmas.Bool.Decides.{nat_tests}
use Rattle.chat_model.specs.declared.ids.UserId.{UserId}
use Rattle.chat_model.specs.declared.ids.MessageId.{MessageId}
use Rattle.push_state.specs.declared.queue.Flag.{Flag}
use Rattle.chat_model.specs.declared.push_item.PushItem.{PushItem}
use Rattle.push_state.specs.Pushes.{Pushes, flag}

-- the set of the flags in a list
abbrev pub keys : List Flag → List (List ℕ)
keys fs = map (λ f. flag f.user f.message) fs

abbrev pub flags_in : List Flag → set.FinSet (slice_cmp nat_cmp)
flags_in fs = set.from_list (keys fs)

abbrev pub queue_of : List PushItem → set.FinSet (slice_cmp nat_cmp) → ℕ → ℕ → Pushes
queue_of items flags item_room flag_room = record { items = items; flags = flags; item_room = item_room; flag_room = flag_room }

-- the flag is of this user and message
abbrev pub is_of : UserId → MessageId → Flag → Bool
is_of user message f = f.user.0 == user.0 && f.message.0 == message.0

number_ties : (a b : ℕ) → eq_by_cmp nat_cmp a b ≡ (b == a)
number_ties a b = grind (arith, nat_tests)

key_ties : (a b c d : ℕ) → eq_by_cmp (slice_cmp nat_cmp) (a ∷ b ∷ []) (c ∷ d ∷ []) ≡ (c == a && d == b)
key_ties a b c d = grind (arith, nat_tests)

-- a flag is in the set where it is in the list
keys-any : (user : UserId) (message : MessageId) (fs : List Flag) → list_any (eq_by_cmp (slice_cmp nat_cmp) (flag user message)) (keys fs) ≡ list_any (is_of user message) fs
keys-any user message [] = refl
keys-any user message (f ∷ fs) = ap (λ b. b || list_any (eq_by_cmp (slice_cmp nat_cmp) (flag user message)) (keys fs)) (key_ties user.0 message.0 f.user.0 f.message.0) ∙ ap (λ b. is_of user message f || b) (keys-any user message fs)

pub contains-flags_in : (user : UserId) (message : MessageId) (fs : List Flag) → set.contains (flags_in fs) (flag user message) ≡ list_any (is_of user message) fs
contains-flags_in user message fs = contains-from_list nat_list_cmp_total (keys fs) (flag user message) ∙ keys-any user message fs

-- one more flag
pub flags_in-push : (fs : List Flag) (f : Flag) → flags_in (fs ++ f ∷ []) ≡ set.insert (flags_in fs) (flag f.user f.message)
flags_in-push fs f = ap set.from_list (map-append (λ f. flag f.user f.message) fs (f ∷ [])) ∙ from_list_push nat_list_cmp_total (slice_cmp-IsAntisymmetric nat_cmp-IsAntisymmetric) (keys fs) (flag f.user f.message)

keys-test : (test : List ℕ → Bool) (fs : List Flag) → list_any test (keys fs) ≡ list_any (λ f. test (flag f.user f.message)) fs
keys-test test [] = refl
keys-test test (f ∷ fs) = ap (λ b. test (flag f.user f.message) || b) (keys-test test fs)

-- where a key ties with a flag's, it ties with the flag of a user and a message just where the flag is of these
ties_alike : (user : UserId) (message : MessageId) (q : List ℕ) (f : Flag) → eq_by_cmp (slice_cmp nat_cmp) q (flag f.user f.message) ≡ true → not (is_of user message f) ≡ not (eq_by_cmp (slice_cmp nat_cmp) q (flag user message))
ties_alike user message q f tie =
    let same : q ≡ flag f.user f.message = slice_cmp-IsAntisymmetric nat_cmp-IsAntisymmetric q (flag f.user f.message) (equal _ tie) in
    ap not (turned f.user.0 f.message.0 user.0 message.0 ∙ (sym (key_ties f.user.0 f.message.0 user.0 message.0) ∙ ap (λ k. eq_by_cmp (slice_cmp nat_cmp) k (flag user message)) (sym same)))
  where
    equal : (o : Ordering) → is_eq o ≡ true → o ≡ Equal
    equal Less e = absurd (false≢true e)
    equal Equal e = refl
    equal Greater e = absurd (false≢true e)

    turned : (a b c d : ℕ) → (a == c && b == d) ≡ (c == a && d == b)
    turned a b c d = grind (arith, nat_tests)

-- a key is found without a flag where it is found and isn't the flag's
keys-without : (user : UserId) (message : MessageId) (q : List ℕ) (fs : List Flag) →
    list_any (eq_by_cmp (slice_cmp nat_cmp) q) (keys (filter (λ f. not (is_of user message f)) fs)) ≡ (not (eq_by_cmp (slice_cmp nat_cmp) q (flag user message)) && list_any (eq_by_cmp (slice_cmp nat_cmp) q) (keys fs))
keys-without user message q fs =
    keys-test (eq_by_cmp (slice_cmp nat_cmp) q) (filter (λ f. not (is_of user message f)) fs)
    ∙ (any-filter_same (λ f. eq_by_cmp (slice_cmp nat_cmp) q (flag f.user f.message)) (λ f. not (is_of user message f)) (not (eq_by_cmp (slice_cmp nat_cmp) q (flag user message))) (ties_alike user message q) fs
    ∙ ap (λ b. not (eq_by_cmp (slice_cmp nat_cmp) q (flag user message)) && b) (sym (keys-test (eq_by_cmp (slice_cmp nat_cmp) q) fs)))

-- all flags but one
pub flags_in-without : (user : UserId) (message : MessageId) (fs : List Flag) → flags_in (filter (λ f. not (is_of user message f)) fs) ≡ set.remove (flags_in fs) (flag user message)
flags_in-without user message fs =
    same_set nat_list_cmp_total (slice_cmp-IsAntisymmetric nat_cmp-IsAntisymmetric) _ _ (λ q.
    contains-from_list nat_list_cmp_total (keys (filter (λ f. not (is_of user message f)) fs)) q
    ∙ (keys-without user message q fs
    ∙ (ap (λ b. not (eq_by_cmp (slice_cmp nat_cmp) q (flag user message)) && b) (sym (contains-from_list nat_list_cmp_total (keys fs) q))
    ∙ sym (contains-remove nat_list_cmp_total (flags_in fs) (flag user message) q))))
