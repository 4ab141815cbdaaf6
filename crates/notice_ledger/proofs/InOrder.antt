-- Users that ascend, and why a request that is not refused may stand once its lists are in order.
use Rattle.std.proofs.Common.{◌≡◌, ℕ, true, false, ◌&&◌, not, List, [], ◌∷◌, None, length, refl, ap, ◌∙◌, Bool, arith}
use Rattle.std.specs.Prelude.{nat_lt, is_none}
use Rattle.std.specs.List.{list_all}
use Rattle.std.proofs.lemmas.Bool.{and_parts, and_from, le-ltb, ltb-false, not-false, not_from_true}
use Rattle.chat_model.specs.declared.event.Stamped.{Stamped}
use Rattle.chat_model.specs.declared.event.Event.TheVariants.{Asked}
use Rattle.chat_model.specs.declared.ids.MessageId.{MessageId}
use Rattle.chat_model.specs.declared.ids.UserId.{UserId}
use Rattle.chat_model.specs.declared.request.Refusal.{Refusal}
use Rattle.chat_model.specs.declared.request.Refusal.TheVariants.{NoUser, NoMessage, Exists, EmptyText, TextTooLong, TooMany}
use Rattle.chat_model.specs.declared.request.Request.{Request}
use Rattle.chat_model.specs.declared.request.Request.TheVariants.{AddGroup, Direct, Read}
use Rattle.chat_model.specs.Ascending.{ascending_once_by}
use Rattle.chat_model.proofs.OnceEach as lists
use Rattle.notice_ledger.specs.InOrder.{in_order, is_ascending, is_in_order}
use Rattle.notice_ledger.specs.Past.Lawful.{may_stand}
use Rattle.notice_ledger.specs.Past.Refusals.{Rule, first_broken, is_taken, may_read, name_rules, refusal, rule}
use Rattle.notice_ledger.specs.Limits.{longest_text, most_items}
use Rattle.notice_ledger.specs.Texts.{is_blank, is_longer_than}
use Rattle.notice_ledger.specs.Past.Values.{groups, is_one_of, is_user}

-- ---- users that ascend

abbrev number : UserId → ℕ
number u = u.0

abbrev message_number : MessageId → ℕ
message_number m = m.0

abbrev ascending_once : List UserId → List UserId
ascending_once us = ascending_once_by number us

pub ascending-rest : (u : UserId) (us : List UserId) → is_ascending (u ∷ us) ≡ true → is_ascending us ≡ true
ascending-rest u us h = lists.ascending-rest number u us h

-- among ascending users each stands once
pub ascending-distinct : (u : UserId) (us : List UserId) → is_ascending (u ∷ us) ≡ true → is_one_of us u ≡ false
ascending-distinct u us h = lists.ascending-distinct number u us h

-- ---- a request whose lists are put in order

ascending_once-not_many : {A : Type 0} (number : A → ℕ) (most : ℕ) (xs : List A) → nat_lt most (length xs) ≡ false → nat_lt most (length (ascending_once_by number xs)) ≡ false
ascending_once-not_many number most xs h = le-ltb most (length (ascending_once_by number xs)) (omega (arith, ltb-false most (length xs) h, lists.ascending_once-length number xs))

unbroken : (broken : Bool) (why : Refusal) (rules : List Rule) → first_broken (rule broken why ∷ rules) ≡ None → (broken ≡ false) × (first_broken rules ≡ None)
unbroken true why rules h = absurd cc
unbroken false why rules h = (refl, h)

unbroken_from : (broken : Bool) (why : Refusal) (rules : List Rule) → broken ≡ false → first_broken rules ≡ None → first_broken (rule broken why ∷ rules) ≡ None
unbroken_from broken why rules e h = ap (λ b. first_broken (rule b why ∷ rules)) e ∙ h

-- a request that is not refused is not refused with its lists in order
pub in_order-not_refused : (j : List Stamped) (request : Request) → refusal j request ≡ None → refusal j (in_order request) ≡ None
unfolding refusal
in_order-not_refused j (AddGroup name members) h =
    let named = name_rules name in
    let few : List Rule = rule (nat_lt most_items (length members)) (TooMany most_items) ∷ named in
    let fresh : List Rule = rule (is_taken (groups j) name) Exists ∷ few in
    let users = unbroken (not (list_all (is_user j) members)) NoUser fresh h in
    let free = unbroken (is_taken (groups j) name) Exists few users.1 in
    let sized = unbroken (nat_lt most_items (length members)) (TooMany most_items) named free.1 in
    let users_still : list_all (is_user j) (ascending_once members) ≡ true = lists.ascending_once-all number (is_user j) members (not-false (list_all (is_user j) members) users.0) in
    let few_still : List Rule = rule (nat_lt most_items (length (ascending_once members))) (TooMany most_items) ∷ named in
    unbroken_from (not (list_all (is_user j) (ascending_once members))) NoUser (rule (is_taken (groups j) name) Exists ∷ few_still)
    (not_from_true (list_all (is_user j) (ascending_once members)) users_still)
    (unbroken_from (is_taken (groups j) name) Exists few_still free.0
    (unbroken_from (nat_lt most_items (length (ascending_once members))) (TooMany most_items) named (ascending_once-not_many number most_items members sized.0) sized.1))
in_order-not_refused j (Direct sender to text) h =
    let sized : List Rule = rule (nat_lt most_items (length to)) (TooMany most_items) ∷ [] in
    let short : List Rule = rule (is_longer_than longest_text text) TextTooLong ∷ sized in
    let users = unbroken (not (is_user j sender && list_all (is_user j) to)) NoUser (rule (is_blank text) EmptyText ∷ short) h in
    let some = unbroken (is_blank text) EmptyText short users.1 in
    let brief = unbroken (is_longer_than longest_text text) TextTooLong sized some.1 in
    let few = unbroken (nat_lt most_items (length to)) (TooMany most_items) [] brief.1 in
    let named = and_parts (is_user j sender) (list_all (is_user j) to) (not-false (is_user j sender && list_all (is_user j) to) users.0) in
    let users_still : (is_user j sender && list_all (is_user j) (ascending_once to)) ≡ true = and_from (is_user j sender) (list_all (is_user j) (ascending_once to)) named.0 (lists.ascending_once-all number (is_user j) to named.1) in
    let sized_still : List Rule = rule (nat_lt most_items (length (ascending_once to))) (TooMany most_items) ∷ [] in
    let short_still : List Rule = rule (is_longer_than longest_text text) TextTooLong ∷ sized_still in
    unbroken_from (not (is_user j sender && list_all (is_user j) (ascending_once to))) NoUser (rule (is_blank text) EmptyText ∷ short_still)
    (not_from_true (is_user j sender && list_all (is_user j) (ascending_once to)) users_still)
    (unbroken_from (is_blank text) EmptyText short_still some.0
    (unbroken_from (is_longer_than longest_text text) TextTooLong sized_still brief.0
    (unbroken_from (nat_lt most_items (length (ascending_once to))) (TooMany most_items) [] (ascending_once-not_many number most_items to few.0) refl)))
in_order-not_refused j (Read user messages) h =
    let sized : List Rule = rule (nat_lt most_items (length messages)) (TooMany most_items) ∷ [] in
    let readable : List Rule = rule (not (list_all (may_read j user) messages)) NoMessage ∷ sized in
    let there = unbroken (not (is_user j user)) NoUser readable h in
    let read = unbroken (not (list_all (may_read j user) messages)) NoMessage sized there.1 in
    let few = unbroken (nat_lt most_items (length messages)) (TooMany most_items) [] read.1 in
    let once = ascending_once_by message_number messages in
    let read_still : list_all (may_read j user) once ≡ true = lists.ascending_once-all message_number (may_read j user) messages (not-false (list_all (may_read j user) messages) read.0) in
    let sized_still : List Rule = rule (nat_lt most_items (length once)) (TooMany most_items) ∷ [] in
    unbroken_from (not (is_user j user)) NoUser (rule (not (list_all (may_read j user) once)) NoMessage ∷ sized_still) there.0
    (unbroken_from (not (list_all (may_read j user) once)) NoMessage sized_still (not_from_true (list_all (may_read j user) once) read_still)
    (unbroken_from (nat_lt most_items (length once)) (TooMany most_items) [] (ascending_once-not_many message_number most_items messages few.0) refl))
in_order-not_refused j request h = h

pub in_order-is_in_order : (request : Request) → is_in_order (in_order request) ≡ true
in_order-is_in_order (AddGroup name members) = lists.ascending_once-ascending number members
in_order-is_in_order (Direct sender to text) = lists.ascending_once-ascending number to
in_order-is_in_order (Read user messages) = lists.ascending_once-ascending message_number messages
in_order-is_in_order request = refl

-- a request that is not refused may stand next, once its lists are in order
pub in_order-may_stand : (j : List Stamped) (at : ℕ) (request : Request) → refusal j request ≡ None → may_stand j at (Asked (in_order request)) ≡ true
in_order-may_stand j at request h =
    and_from (is_none (refusal j (in_order request))) (is_in_order (in_order request)) (ap is_none (in_order-not_refused j request h)) (in_order-is_in_order request)
