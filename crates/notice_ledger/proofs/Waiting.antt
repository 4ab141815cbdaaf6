-- The notices that wait, event by event.
use Rattle.std.proofs.Common.{◌≡◌, ◌+◌, ◌<◌, ◌≤◌, Bool, true, false, ◌&&◌, cond, List, [], ◌∷◌, ◌++◌, length, map, refl, sym, ap, ◌∙◌, subst, arith}
use Rattle.std.specs.Prelude.{Option, Some, None, option_map, MatchOption, filter}
use Rattle.std.specs.List.{filter_map, cons_option, AllByRecursion}
use Rattle.std.specs.Option.{option_map_or}
use Rattle.std.proofs.lemmas.List.{length_push, map-append}
use Rattle.std.proofs.lemmas.List.Elements.{filter-append}
use Rattle.chat_model.specs.declared.event.Stamped.{Stamped}
use Rattle.chat_model.specs.declared.ids.UserId.{UserId}
use Rattle.chat_model.specs.declared.trigger.Way.{Way}
use Rattle.chat_model.specs.declared.trigger.Way.TheVariants.{Mail, Push}
use Rattle.chat_model.specs.declared.trigger.Trigger.{Trigger}
use Rattle.notice_ledger.specs.declared.accounts.Account.TheVariants.{Flight}
use Rattle.notice_ledger.specs.Past.Journal.{Occurrence, occurrence}
use Rattle.notice_ledger.specs.Past.Values.{SentMessage, message_of, messages, users, deal_count}
use Rattle.notice_ledger.specs.Past.Triggers.{trigger, came_by}
use Rattle.notice_ledger.specs.Past.Owed.{Notice, notice_of, owed_of, owed_by, notices, decided, account_of, is_pending, waiting}
use Rattle.notice_ledger.proofs.Lists.{AllByRecursion-append, AllByRecursion-weaker, AllByRecursion-filter, AllByRecursion-filter_map, AllByRecursion-flat_map, filter-passed, by_appending, filter_same_where, filter_all_where, filter-filter}
use Rattle.notice_ledger.proofs.Appended.{notices-nil, notices-append}
use Rattle.notice_ledger.proofs.Standing.{is_turn, is_readying, is_clearing, is_dealing, barring, moved, moved-pending, account_of-append, account_of-last}

-- what an event owes is of its own message and place
pub record IsOwedBy (o : Occurrence) (n : Notice) : Type 0 where
  pub owing : n.owing ≡ o
  pub number : n.number.0 ≡ length (messages o.past) + 1

notice_from : (o : Occurrence) (m : SentMessage) (u : UserId) (w : Way) (t : Option Trigger) (n : Notice) → option_map (λ (t : Trigger). let n : Notice = record {
  user = u;
  number = record { 0 = length (messages o.past) + 1 };
  way = w;
  message = m;
  trigger = t;
  via = came_by o.past m.text u t;
  deal = record { 0 = deal_count o.past };
  owing = o;
} in n) t ≡ Some n → IsOwedBy o n
notice_from o m u w None n e = absurd (cc)
notice_from o m u w (Some t) n e =
    let P : Option Notice → Type 0 = λ x. MatchOption x (Unit {0}) (IsOwedBy o) in
    subst P e (record { owing = refl; number = refl })

pub owed_by-each : (o : Occurrence) → AllByRecursion (IsOwedBy o) (owed_by o)
owed_by-each o =
    elim (message_of o) as (λ m. AllByRecursion (IsOwedBy o) (option_map_or (owed_of o) m [])) [
      | None ↦ tt
      | Some m ↦ AllByRecursion-flat_map (IsOwedBy o) (λ u. filter_map (notice_of o m u) (Mail ∷ Push ∷ [])) (λ u.
          AllByRecursion-filter_map (IsOwedBy o) (notice_of o m u) (λ w n e. notice_from o m u w (trigger o.past m m.text u w) n e) (Mail ∷ Push ∷ [])) (users o.past)
    ]

-- each notice's event stands in the journal
pub notices-placed : (j : List Stamped) → AllByRecursion (λ n. n.owing.place < length j) (notices j)
notices-placed = by_appending (λ j. AllByRecursion (λ n. n.owing.place < length j) (notices j)) (rw notices-nil tt) (λ j s h.
    rw (notices-append j s) (AllByRecursion-append (λ n. n.owing.place < length (j ++ s ∷ [])) (notices j) (owed_by (occurrence j s))
    (AllByRecursion-weaker (λ n. n.owing.place < length j) (λ n. n.owing.place < length (j ++ s ∷ [])) (λ n lt. omega (arith, length_push j s)) (notices j) h)
    (AllByRecursion-weaker (IsOwedBy (occurrence j s)) (λ n. n.owing.place < length (j ++ s ∷ [])) (λ n i. omega (arith, length_push j s, ap (λ o. o.place) i.owing)) (owed_by (occurrence j s)) (owed_by-each (occurrence j s)))))

-- what an event owes is owed at the journal's last place then
pub owed-last : (j : List Stamped) (s : Stamped) (n : Notice) → IsOwedBy (occurrence j s) n → length (j ++ s ∷ []) ≤ n.owing.place + 1
owed-last j s n owed = omega (arith, length_push j s, ap (λ o. o.place) owed.owing)

pub account_of-new : (j : List Stamped) (s : Stamped) (n : Notice) → IsOwedBy (occurrence j s) n → account_of (j ++ s ∷ []) n ≡ Flight
account_of-new j s n owed = account_of-last (j ++ s ∷ []) n (owed-last j s n owed)

-- the notice waits on after an event, by where it stood before
abbrev pub stays : List Stamped → Stamped → Notice → Bool
stays j s n = is_pending (moved j s n (account_of j n))

-- an event takes away the waiting notices that it leaves no longer pending, and adds those that it owes
pub waiting-append : (j : List Stamped) (s : Stamped) → waiting (j ++ s ∷ []) ≡ filter (stays j s) (waiting j) ++ owed_by (occurrence j s)
unfolding waiting
waiting-append j s =
    let later = λ (n : Notice). is_pending (account_of (j ++ s ∷ []) n) in
    ap (filter later) (notices-append j s)
    ∙ (filter-append later (notices j) (owed_by (occurrence j s))
    ∙ (ap (λ ns. filter later (notices j) ++ ns) (filter_all_where (IsOwedBy (occurrence j s)) later (λ n owed. ap is_pending (account_of-new j s n owed)) (owed_by (occurrence j s)) (owed_by-each (occurrence j s)))
    ∙ ap (λ ns. ns ++ owed_by (occurrence j s)) (
    filter_same_where (λ n. n.owing.place < length j) later (λ n. is_pending (account_of j n) && stays j s n)
    (λ n placed. ap is_pending (account_of-append j s n placed) ∙ moved-pending (is_turn s n) (is_readying s n) (is_clearing s n) (is_dealing s n) (barring j s n) (decided n (occurrence j s)) (account_of j n)) (notices j) (notices-placed j)
    ∙ sym (filter-filter (stays j s) (λ n. is_pending (account_of j n)) (notices j)))))

pub waiting-nil : waiting [] ≡ []
unfolding waiting
waiting-nil = ap (filter (λ n. is_pending (account_of [] n))) notices-nil

-- a waiting notice is pending, and owed by an event of the journal
pub waiting-pending : (j : List Stamped) → AllByRecursion (λ n. is_pending (account_of j n) ≡ true) (waiting j)
unfolding waiting
waiting-pending j = filter-passed (λ n. is_pending (account_of j n)) (notices j)

pub waiting-placed : (j : List Stamped) → AllByRecursion (λ n. n.owing.place < length j) (waiting j)
unfolding waiting
waiting-placed j = AllByRecursion-filter (λ n. n.owing.place < length j) (λ n. is_pending (account_of j n)) (notices j) (notices-placed j)

-- what is kept of each waiting notice, event by event: a step makes of what was kept of a notice what is kept of it now, or
-- nothing where it waits no more; and the notices that the event owes join
pub kept-append : {K : Type 0} (kept : List Stamped → Notice → K) (step : K → Option K) (j : List Stamped) (s : Stamped)
    → ((n : Notice) → n.owing.place < length j → is_pending (account_of j n) ≡ true → step (kept j n) ≡ cond (stays j s n) (Some (kept (j ++ s ∷ []) n)) None)
    → map (kept (j ++ s ∷ [])) (waiting (j ++ s ∷ [])) ≡ filter_map step (map (kept j) (waiting j)) ++ map (kept (j ++ s ∷ [])) (owed_by (occurrence j s))
kept-append {K} kept step j s steps =
    ap (map (kept (j ++ s ∷ []))) (waiting-append j s)
    ∙ (map-append (kept (j ++ s ∷ [])) (filter (stays j s) (waiting j)) (owed_by (occurrence j s))
    ∙ ap (λ ks. ks ++ map (kept (j ++ s ∷ [])) (owed_by (occurrence j s))) (each (waiting j) (waiting-placed j) (waiting-pending j)))
  where
    one : (n : Notice) (ns : List Notice) (b : Bool) → map (kept (j ++ s ∷ [])) (cond b (n ∷ ns) ns) ≡ cons_option (cond b (Some (kept (j ++ s ∷ []) n)) None) (map (kept (j ++ s ∷ [])) ns)
    one n ns true = refl
    one n ns false = refl

    each : (ns : List Notice) → AllByRecursion (λ n. n.owing.place < length j) ns → AllByRecursion (λ n. is_pending (account_of j n) ≡ true) ns → map (kept (j ++ s ∷ [])) (filter (stays j s) ns) ≡ filter_map step (map (kept j) ns)
    each [] placed pending = refl
    each (n ∷ ns) placed pending =
        one n (filter (stays j s) ns) (stays j s n)
        ∙ (ap (λ o. cons_option o (map (kept (j ++ s ∷ [])) (filter (stays j s) ns))) (sym (steps n placed.0 pending.0))
        ∙ ap (cons_option (step (kept j n))) (each ns placed.1 pending.1))
