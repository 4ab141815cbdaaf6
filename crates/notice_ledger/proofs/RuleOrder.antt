-- Rules stand in the order of their refusals' numbers, and so the first that is broken has the least number.
use Rattle.std.proofs.Common.{◌≡◌, ℕ, suc, ◌<◌, ◌≤◌, Bool, true, false, List, [], ◌∷◌, refl, arith}
use Rattle.std.specs.Prelude.{Option, Some, None, Any, nat_lt, if◌then◌else◌}
use Rattle.std.specs.List.{AllByRecursion}
use Rattle.std.proofs.lemmas.Bool.{and_parts, ltb-true}
use Rattle.std.proofs.lemmas.List.Elements.{All-nil, All-cons, All-from_recursion}
use Rattle.chat_model.specs.declared.event.Stamped.{Stamped}
use Rattle.chat_model.specs.declared.request.Request.{Request}
use Rattle.chat_model.specs.declared.request.Request.TheVariants.{AddUser, AddGroup, Member, AddChannel, Subscribe, Set, SetChannel, SetPolicy, Mute, Send, Direct, Delete, Read}
use Rattle.chat_model.specs.declared.request.Refusal.{Refusal}
use Rattle.chat_model.specs.Ascending.{is_ascending_by}
use Rattle.chat_model.specs.Refusals.{refusal_number}
use Rattle.notice_ledger.specs.Past.Refusals.{Rule, first_broken, rules_of, refusal}
use Rattle.notice_ledger.specs.Refusals.{IsLeastBroken}
use Rattle.notice_ledger.proofs.Lists.{AllByRecursion-weaker}

abbrev number : Rule → ℕ
number r = refusal_number r.refusal

pub rules_of-ascend : (j : List Stamped) (request : Request) → is_ascending_by number (rules_of j request) ≡ true
rules_of-ascend j (AddUser name bot) = refl
rules_of-ascend j (AddGroup name members) = refl
rules_of-ascend j (Member group user on) = refl
rules_of-ascend j (AddChannel name) = refl
rules_of-ascend j (Subscribe user channel on) = refl
rules_of-ascend j (Set user change) = refl
rules_of-ascend j (SetChannel user channel change) = refl
rules_of-ascend j (SetPolicy user channel topic policy) = refl
rules_of-ascend j (Mute user other on) = refl
rules_of-ascend j (Send sender channel topic text) = refl
rules_of-ascend j (Direct sender to text) = refl
rules_of-ascend j (Delete user message) = refl
rules_of-ascend j (Read user messages) = refl

-- no later rule has a lesser number
ascend-least : (r : Rule) (rules : List Rule) → is_ascending_by number (r ∷ rules) ≡ true → AllByRecursion (λ q. number r ≤ number q) rules
ascend-least r [] h = tt
ascend-least r (q ∷ rules) h =
    let parts = and_parts (nat_lt (number r) (number q)) (is_ascending_by number (q ∷ rules)) h in
    let below : number r < number q = ltb-true (number r) (number q) parts.0 in
    (omega arith, AllByRecursion-weaker (λ p. number q ≤ number p) (λ p. number r ≤ number p) (λ p le. omega arith) rules (ascend-least q rules parts.1))

ascend-rest : (r : Rule) (rules : List Rule) → is_ascending_by number (r ∷ rules) ≡ true → is_ascending_by number rules ≡ true
ascend-rest r [] h = refl
ascend-rest r (q ∷ rules) h = (and_parts (nat_lt (number r) (number q)) (is_ascending_by number (q ∷ rules)) h).1

any_here : {X : Type 0} (P : X → Type 0) (x : X) (xs : List X) → P x → Any P (x ∷ xs)
any_here P x xs p = (0, x, omega arith, refl, p)

any_later : {X : Type 0} (P : X → Type 0) (x : X) (xs : List X) → Any P xs → Any P (x ∷ xs)
any_later P x xs a = (suc a.0, a.1, omega arith, a.3, a.4)

unbroken_first : (r : Rule) (rules : List Rule) (found : Option Refusal) → r.broken ≡ false → IsLeastBroken rules found → IsLeastBroken (r ∷ rules) found
unbroken_first r rules None e h = All-cons (λ q. q.broken ≡ false) r rules e h
unbroken_first r rules (Some n) e h = (
  any_later (λ q. (q.broken ≡ true) × (q.refusal ≡ n)) r rules h.0,
  All-cons (λ q. q.broken ≡ true → refusal_number n ≤ number q) r rules (λ b. absurd (cc (e))) h.1,
)

first_broken-least : (rules : List Rule) → is_ascending_by number rules ≡ true → IsLeastBroken rules (first_broken rules)
first_broken-least [] h = All-nil (λ r. r.broken ≡ false)
first_broken-least (r ∷ rules) h = by r.broken refl (first_broken-least rules (ascend-rest r rules h))
  where
    by : (b : Bool) → r.broken ≡ b → IsLeastBroken rules (first_broken rules) → IsLeastBroken (r ∷ rules) (if b then Some r.refusal else first_broken rules)
    by true e rest = (
      any_here (λ q. (q.broken ≡ true) × (q.refusal ≡ r.refusal)) r rules (e, refl),
      All-from_recursion (λ q. q.broken ≡ true → number r ≤ number q) (r ∷ rules) (
        (λ _. omega arith),
        AllByRecursion-weaker (λ q. number r ≤ number q) (λ q. q.broken ≡ true → number r ≤ number q) (λ q le _. le) rules (ascend-least r rules h),
      ),
    )
    by false e rest = unbroken_first r rules (first_broken rules) e rest

-- the refusal of a request is that of its broken rule of the least number
pub refusal-least : (j : List Stamped) (request : Request) → IsLeastBroken (rules_of j request) (refusal j request)
unfolding refusal
refusal-least j request = first_broken-least (rules_of j request) (rules_of-ascend j request)
