-- How many owed notices have an account: the pending ones are among those that wait, and an event brings others to it.
use Rattle.std.proofs.Common.{◌≡◌, ℕ, ◌+◌, ◌<◌, Bool, true, false, ◌&&◌, ◌||◌, not, cond, List, ◌∷◌, [], ◌++◌, length, refl, sym, ap, ◌∙◌, arith}
use Rattle.std.specs.Prelude.{Option, Some, None, is_some, filter, sum_by, count_by, if◌then◌else◌}
use Rattle.std.specs.Option.{option_map_or}
use Rattle.std.proofs.lemmas.List.Sums.{length-filter, sum_by-append}
use Rattle.chat_model.specs.declared.event.Event.{Event}
use Rattle.chat_model.specs.declared.event.Event.TheVariants.{MailTurn, PushTurn}
use Rattle.chat_model.specs.declared.event.Stamped.{Stamped}
use Rattle.chat_model.specs.declared.ids.MessageId.{MessageId}
use Rattle.chat_model.specs.declared.ids.UserId.{UserId}
use Rattle.chat_model.specs.declared.row.Cause.{Cause}
use Rattle.chat_model.specs.declared.row.Cause.TheVariants.{Read, Deleted, SwitchedOff}
use Rattle.chat_model.specs.declared.trigger.Way.{Way}
use Rattle.chat_model.specs.declared.trigger.Way.TheVariants.{Mail, Push}
use Rattle.notice_ledger.specs.declared.accounts.Account.{Account}
use Rattle.notice_ledger.specs.declared.accounts.Account.TheVariants.{NotOwed, Flight, Held, Ready, Handed, Cancelled, LiveQueue}
use Rattle.notice_ledger.specs.Past.Audit.{same_cause, same_account, owed_with}
use Rattle.notice_ledger.specs.Past.Journal.{occurrence}
use Rattle.notice_ledger.specs.Past.Owed.{Notice, notices, owed_by, bar_cause, is_turn_of, switch_on, decided, account_of, is_pending, waiting}
use Rattle.notice_ledger.specs.Past.Values.{reads, deletes}
use Rattle.notice_ledger.proofs.Appended.{notices-append}
use Rattle.notice_ledger.proofs.Standing.{is_turn, is_readying, is_clearing, is_dealing, barring, barring-none, barred_or, moved_by, moved, account_of-append}
use Rattle.notice_ledger.proofs.Sums.{sum_by_same, sum_by_same_where, sum_by_none_where, sum_by_both_where, sum_by-filter, none_plus, plus_none}
use Rattle.notice_ledger.proofs.Waiting.{IsOwedBy, owed_by-each, notices-placed, account_of-new}

-- ---- the pending ones

same_pending : (a account : Account) → is_pending account ≡ true → same_account a account ≡ (is_pending a && same_account a account)
same_pending Flight account h = refl
same_pending Held account h = refl
same_pending Ready account h = refl
same_pending a Flight h = refl
same_pending a Held h = refl
same_pending a Ready h = refl
same_pending a NotOwed h = absurd (cc)
same_pending a Handed h = absurd (cc)
same_pending a (Cancelled cause) h = absurd (cc)
same_pending a LiveQueue h = absurd (cc)

and-cond : (b c : Bool) → ◌≡◌ {A = ℕ} (cond (b && c) 1 0) (cond b (cond c 1 0) 0)
and-cond true c = refl
and-cond false c = refl

-- they are among those that wait
pub owed_with-waiting : (j : List Stamped) (account : Account) → is_pending account ≡ true → owed_with j account ≡ count_by (λ n. same_account (account_of j n) account) (waiting j)
unfolding owed_with waiting
owed_with-waiting j account pending =
    sum_by_same (λ n. cond (same_account (account_of j n) account) 1 0) (λ n. cond (is_pending (account_of j n)) (cond (same_account (account_of j n) account) 1 0) 0)
    (λ n. ap (λ b. cond b 1 0) (same_pending (account_of j n) account pending) ∙ and-cond (is_pending (account_of j n)) (same_account (account_of j n) account)) (notices j)
    ∙ sym (sum_by-filter (λ n. cond (same_account (account_of j n) account) 1 0) (λ n. is_pending (account_of j n)) (notices j))

-- ---- what an event bars

-- a turn bars nothing
turn_bars_none : (u : UserId) (m : MessageId) (w : Way) (e : Event) → is_turn_of u m w e ≡ true → (reads u m e || deletes m e) ≡ false
turn_bars_none u m Mail (MailTurn v) h = refl
turn_bars_none u m Push (PushTurn item) h = refl
turn_bars_none u m Mail e h = absurd (cc)
turn_bars_none u m Push e h = absurd (cc)

pub turn-bars_none : (j : List Stamped) (s : Stamped) (n : Notice) → is_turn s n ≡ true → barring j s n ≡ None
turn-bars_none j s n turned = barring-none j s n (turn_bars_none n.user n.number n.way s.event turned)

-- no event bars a notice as a switch does
pub barring-not_off : (j : List Stamped) (s : Stamped) (n : Notice) → option_map_or (same_cause SwitchedOff) (barring j s n) false ≡ false
unfolding bar_cause
barring-not_off j s n = by (reads n.user n.number s.event) (deletes n.number s.event)
  where
    by : (r d : Bool) → option_map_or (same_cause SwitchedOff) (if r then Some Read else if d then Some Deleted else None) false ≡ false
    by true d = refl
    by false true = refl
    by false false = refl

-- ---- one more event

apart : (a account : Account) → is_pending a ≡ true → is_pending account ≡ false → same_account a account ≡ false
apart Flight Flight h k = absurd (cc)
apart Held Held h k = absurd (cc)
apart Ready Ready h k = absurd (cc)
apart Flight account h k = refl
apart Held account h k = refl
apart Ready account h k = refl
apart NotOwed account h k = absurd (cc)
apart Handed account h k = absurd (cc)
apart (Cancelled cause) account h k = absurd (cc)
apart LiveQueue account h k = absurd (cc)

-- where each notice adds what it brings, so do they all; what the event owes adds nothing
module _ (j : List Stamped) (s : Stamped) (account : Account) (new_other : same_account Flight account ≡ false) where
  later : Notice → ℕ
  later n = cond (same_account (account_of (j ++ s ∷ []) n) account) 1 0

  before : Notice → ℕ
  before n = cond (same_account (account_of j n) account) 1 0

  after_moving : Notice → ℕ
  after_moving n = cond (same_account (moved j s n (account_of j n)) account) 1 0

  all_later : owed_with (j ++ s ∷ []) account ≡ sum_by after_moving (notices j)
  unfolding owed_with later after_moving
  all_later =
      let new : sum_by later (owed_by (occurrence j s)) ≡ 0 =
      sum_by_none_where (IsOwedBy (occurrence j s)) later (λ n owed. ap (λ b. cond b 1 0) (ap (λ a. same_account a account) (account_of-new j s n owed) ∙ new_other)) (owed_by (occurrence j s)) (owed_by-each (occurrence j s)) in
      ap (sum_by later) (notices-append j s)
      ∙ (sum_by-append later (notices j) (owed_by (occurrence j s))
      ∙ (ap (λ n. sum_by later (notices j) + n) new
      ∙ (sym (plus_none (sum_by later (notices j)))
      ∙ sum_by_same_where (λ n. n.owing.place < length j) later after_moving (λ n placed. ap (λ a. cond (same_account a account) 1 0) (account_of-append j s n placed)) (notices j) (notices-placed j))))

one_more : (tn rd cl dl : Bool) (b : Option Cause) (decision a account : Account) → is_pending account ≡ false → same_account (barred_or b LiveQueue) account ≡ same_account LiveQueue account
    → ◌≡◌ {A = ℕ} (cond (same_account (moved_by tn rd cl dl b decision a) account) 1 0) (cond (same_account a account) 1 0 + cond (is_pending a) (cond (same_account (moved_by tn rd cl dl b decision a) account) 1 0) 0)
one_more tn rd cl dl b decision Flight account h live =
    none_plus (cond (same_account (moved_by tn rd cl dl b decision Flight) account) 1 0)
    ∙ ap (λ x. cond x 1 0 + cond (same_account (moved_by tn rd cl dl b decision Flight) account) 1 0) (sym (apart Flight account refl h))
one_more tn rd cl dl b decision Held account h live =
    none_plus (cond (same_account (moved_by tn rd cl dl b decision Held) account) 1 0)
    ∙ ap (λ x. cond x 1 0 + cond (same_account (moved_by tn rd cl dl b decision Held) account) 1 0) (sym (apart Held account refl h))
one_more tn rd cl dl b decision Ready account h live =
    none_plus (cond (same_account (moved_by tn rd cl dl b decision Ready) account) 1 0)
    ∙ ap (λ x. cond x 1 0 + cond (same_account (moved_by tn rd cl dl b decision Ready) account) 1 0) (sym (apart Ready account refl h))
one_more tn rd cl dl b decision LiveQueue account h live = ap (λ x. cond x 1 0) live ∙ plus_none (cond (same_account LiveQueue account) 1 0)
one_more tn rd cl dl b decision a account h live = plus_none (cond (same_account a account) 1 0)

-- an account that isn't pending and that a bar neither gives nor takes is that of more notices by those that wait and that the
-- event brings to it
pub owed_with-append : (j : List Stamped) (s : Stamped) (account : Account) → is_pending account ≡ false → ((n : Notice) → same_account (barred_or (barring j s n) LiveQueue) account ≡ same_account LiveQueue account)
    → owed_with (j ++ s ∷ []) account ≡ owed_with j account + count_by (λ n. same_account (moved j s n (account_of j n)) account) (waiting j)
unfolding owed_with waiting after_moving before
owed_with-append j s account other live =
    let now : Notice → ℕ = λ n. cond (same_account (moved j s n (account_of j n)) account) 1 0 in
    let before_it : Notice → ℕ = λ n. cond (same_account (account_of j n) account) 1 0 in
    let brought : Notice → ℕ = λ n. cond (is_pending (account_of j n)) (now n) 0 in
    all_later j s account (apart Flight account refl other)
    ∙ (sum_by_both_where (λ n. n.owing.place < length j) now before_it brought
    (λ n placed. one_more (is_turn s n) (is_readying s n) (is_clearing s n) (is_dealing s n) (barring j s n) (decided n (occurrence j s)) (account_of j n) account other (live n)) (notices j) (notices-placed j)
    ∙ ap (λ k. sum_by before_it (notices j) + k) (sym (sum_by-filter now (λ n. is_pending (account_of j n)) (notices j))))

-- ---- what an event cancels

-- it cancels the notice with the cause: one that is pending, and one that a live queue cleared
abbrev pub is_cancelled_now : List Stamped → Stamped → Cause → Notice → Bool
is_cancelled_now j s cause n = option_map_or (same_cause cause) (barring j s n) false && ((is_pending (account_of j n) && not (is_turn s n)) || same_account (account_of j n) LiveQueue)

turned_same : (c d : Cause) → same_cause c d ≡ same_cause d c
turned_same Read Read = refl
turned_same Read Deleted = refl
turned_same Read SwitchedOff = refl
turned_same Deleted Read = refl
turned_same Deleted Deleted = refl
turned_same Deleted SwitchedOff = refl
turned_same SwitchedOff Read = refl
turned_same SwitchedOff Deleted = refl
turned_same SwitchedOff SwitchedOff = refl

cancels_one : (tn rd cl dl on : Bool) (b : Option Cause) (a : Account) (cause : Cause) → same_cause SwitchedOff cause ≡ false → (tn ≡ true → b ≡ None)
    → ◌≡◌ {A = ℕ} (cond (same_account (moved_by tn rd cl dl b (if on then Handed else Cancelled SwitchedOff) a) (Cancelled cause)) 1 0)
    (cond (same_account a (Cancelled cause)) 1 0 + cond (option_map_or (same_cause cause) b false && ((is_pending a && not tn) || same_account a LiveQueue)) 1 0)
cancels_one tn rd cl dl on b a cause other turned = by tn b a turned
  where
    -- with no cause nothing is cancelled
    none : (tn : Bool) (a : Account) → ◌≡◌ {A = ℕ} (cond (same_account (moved_by tn rd cl dl None (if on then Handed else Cancelled SwitchedOff) a) (Cancelled cause)) 1 0) (cond (same_account a (Cancelled cause)) 1 0 + 0)
    none true Ready = decides on
      where
        decides : (on : Bool) → ◌≡◌ {A = ℕ} (cond (same_account (if on then Handed else Cancelled SwitchedOff) (Cancelled cause)) 1 0) 0
        decides true = refl
        decides false = ap (λ x. cond x 1 0) other
    none false Ready = refl
    none tn Held = stays rd cl
      where
        stays : (rd cl : Bool) → ◌≡◌ {A = ℕ} (cond (same_account (if rd then Ready else if cl then LiveQueue else Held) (Cancelled cause)) 1 0) 0
        stays true cl = refl
        stays false true = refl
        stays false false = refl
    none tn Flight = stays rd cl dl
      where
        stays : (rd cl dl : Bool) → ◌≡◌ {A = ℕ} (cond (same_account (if rd then Ready else if cl then LiveQueue else if dl then Held else Flight) (Cancelled cause)) 1 0) 0
        stays true cl dl = refl
        stays false true dl = refl
        stays false false true = refl
        stays false false false = refl
    none tn a = plus_none (cond (same_account a (Cancelled cause)) 1 0)

    one : (c : Cause) → ◌≡◌ {A = ℕ} (cond (same_cause c cause) 1 0) (0 + cond (same_cause cause c && true) 1 0)
    one c = ap (λ x. cond x 1 0) (turned_same c cause ∙ and_true (same_cause cause c)) ∙ none_plus (cond (same_cause cause c && true) 1 0)
      where
        and_true : (x : Bool) → x ≡ (x && true)
        and_true true = refl
        and_true false = refl

    not_more : (x : Bool) (k : ℕ) → k ≡ k + cond (x && false) 1 0
    not_more true k = plus_none k
    not_more false k = plus_none k

    by : (tn : Bool) (b : Option Cause) (a : Account) → (tn ≡ true → b ≡ None)
        → ◌≡◌ {A = ℕ} (cond (same_account (moved_by tn rd cl dl b (if on then Handed else Cancelled SwitchedOff) a) (Cancelled cause)) 1 0)
        (cond (same_account a (Cancelled cause)) 1 0 + cond (option_map_or (same_cause cause) b false && ((is_pending a && not tn) || same_account a LiveQueue)) 1 0)
    by tn None a h = none tn a
    by true (Some c) a h = let no : Some c ≡ None = h refl in absurd (cc)
    by false (Some c) Flight h = one c
    by false (Some c) Held h = one c
    by false (Some c) Ready h = one c
    by false (Some c) LiveQueue h = one c
    by false (Some c) NotOwed h = not_more (same_cause cause c) 0
    by false (Some c) Handed h = not_more (same_cause cause c) 0
    by false (Some c) (Cancelled d) h = not_more (same_cause cause c) (cond (same_cause d cause) 1 0)

-- a read or a deletion cancels with its cause the pending notices that it bars and those that a live queue cleared
pub owed_with-cancelled : (j : List Stamped) (s : Stamped) (cause : Cause) → same_cause SwitchedOff cause ≡ false → owed_with (j ++ s ∷ []) (Cancelled cause) ≡ owed_with j (Cancelled cause) + count_by (is_cancelled_now j s cause) (notices j)
unfolding owed_with after_moving
owed_with-cancelled j s cause other =
    let now : Notice → ℕ = λ n. cond (same_account (moved j s n (account_of j n)) (Cancelled cause)) 1 0 in
    all_later j s (Cancelled cause) refl
    ∙ sum_by_both_where (λ n. n.owing.place < length j) now (λ n. cond (same_account (account_of j n) (Cancelled cause)) 1 0) (λ n. cond (is_cancelled_now j s cause n) 1 0)
    (λ n placed. cancels_one (is_turn s n) (is_readying s n) (is_clearing s n) (is_dealing s n) (switch_on j n.user n.way) (barring j s n) (account_of j n) cause other (turn-bars_none j s n)) (notices j) (notices-placed j)

-- ---- live queues

-- how many notices a live queue cleared
abbrev pub cleared_live : List Stamped → ℕ
cleared_live j = owed_with j LiveQueue

-- an event clears a waiting notice
abbrev pub is_cleared_now : List Stamped → Stamped → Notice → Bool
is_cleared_now j s n = same_account (moved j s n (account_of j n)) LiveQueue

-- it cancels one that was cleared
abbrev pub is_recalled_now : List Stamped → Stamped → Notice → Bool
is_recalled_now j s n = same_account (account_of j n) LiveQueue && is_some (barring j s n)

pub cleared_live-append : (j : List Stamped) (s : Stamped) → cleared_live (j ++ s ∷ []) + count_by (is_recalled_now j s) (notices j) ≡ cleared_live j + length (filter (is_cleared_now j s) (waiting j))
unfolding owed_with waiting after_moving
cleared_live-append j s =
    let now : Notice → ℕ = λ n. cond (is_cleared_now j s n) 1 0 in
    let was : Notice → ℕ = λ n. cond (same_account (account_of j n) LiveQueue) 1 0 in
    let gone : Notice → ℕ = λ n. cond (is_recalled_now j s n) 1 0 in
    let brought : Notice → ℕ = λ n. cond (is_pending (account_of j n)) (now n) 0 in
    let later = all_later j s LiveQueue refl in
    let each : sum_by (λ n. now n + gone n) (notices j) ≡ sum_by was (notices j) + sum_by brought (notices j) =
    sum_by_both_where (λ n. n.owing.place < length j) (λ n. now n + gone n) was brought
    (λ n placed. one (is_turn s n) (is_readying s n) (is_clearing s n) (is_dealing s n) (switch_on j n.user n.way) (barring j s n) (account_of j n)) (notices j) (notices-placed j) in
    let parts : sum_by (λ n. now n + gone n) (notices j) ≡ sum_by now (notices j) + sum_by gone (notices j) =
    sum_by_both_where (λ n. n.owing.place < length j) (λ n. now n + gone n) now gone (λ n placed. refl) (notices j) (notices-placed j) in
    let among : sum_by now (filter (λ n. is_pending (account_of j n)) (notices j)) ≡ sum_by brought (notices j) = sum_by-filter now (λ n. is_pending (account_of j n)) (notices j) in
    let counted : length (filter (is_cleared_now j s) (filter (λ n. is_pending (account_of j n)) (notices j))) ≡ sum_by now (filter (λ n. is_pending (account_of j n)) (notices j)) = length-filter (is_cleared_now j s) (filter (λ n. is_pending (account_of j n)) (notices j)) in
    whole (owed_with (j ++ s ∷ []) LiveQueue) (sum_by now (notices j)) (sum_by gone (notices j)) (sum_by (λ n. now n + gone n) (notices j)) (sum_by was (notices j)) (sum_by brought (notices j)) (sum_by now (filter (λ n. is_pending (account_of j n)) (notices j))) (length (filter (is_cleared_now j s) (filter (λ n. is_pending (account_of j n)) (notices j)))) later parts each among counted
  where
    whole : (after now gone both was brought among counted : ℕ) → after ≡ now → both ≡ now + gone → both ≡ was + brought → among ≡ brought → counted ≡ among → after + gone ≡ was + counted
    whole after now gone both was brought among counted h1 h2 h3 h4 h5 = omega (arith, h1, h2, h3, h4, h5)

    one : (tn rd cl dl on : Bool) (b : Option Cause) (a : Account)
        → ◌≡◌ {A = ℕ} (cond (same_account (moved_by tn rd cl dl b (if on then Handed else Cancelled SwitchedOff) a) LiveQueue) 1 0 + cond (same_account a LiveQueue && is_some b) 1 0)
        (cond (same_account a LiveQueue) 1 0 + cond (is_pending a) (cond (same_account (moved_by tn rd cl dl b (if on then Handed else Cancelled SwitchedOff) a) LiveQueue) 1 0) 0)
    one tn rd cl dl on b Flight = round (cond (same_account (moved_by tn rd cl dl b (if on then Handed else Cancelled SwitchedOff) Flight) LiveQueue) 1 0)
      where
        round : (k : ℕ) → k + 0 ≡ 0 + k
        round k = omega arith
    one tn rd cl dl on b Held = round (cond (same_account (moved_by tn rd cl dl b (if on then Handed else Cancelled SwitchedOff) Held) LiveQueue) 1 0)
      where
        round : (k : ℕ) → k + 0 ≡ 0 + k
        round k = omega arith
    one tn rd cl dl on b Ready = round (cond (same_account (moved_by tn rd cl dl b (if on then Handed else Cancelled SwitchedOff) Ready) LiveQueue) 1 0)
      where
        round : (k : ℕ) → k + 0 ≡ 0 + k
        round k = omega arith
    one tn rd cl dl on None LiveQueue = refl
    one tn rd cl dl on (Some c) LiveQueue = refl
    one tn rd cl dl on b NotOwed = refl
    one tn rd cl dl on b Handed = refl
    one tn rd cl dl on b (Cancelled c) = refl
