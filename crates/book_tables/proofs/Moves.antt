-- How the notices that wait move on at an event: each by what the event is to it, and those that the event owes join.
use Rattle.std.proofs.Common.{◌≡◌, ℕ, ◌<◌, Bool, true, false, ◌&&◌, ◌||◌, ◌==◌, not, cond, List, [], ◌∷◌, ◌++◌, length, map, refl, sym, ap, ◌∙◌}
use Rattle.std.specs.Prelude.{Option, Some, None, option_map, option_and_then, is_some, filter, if◌then◌else◌}
use Rattle.std.specs.Option.{option_or}
use Rattle.std.specs.List.{AllByRecursion, filter_map, cons_option}
use Rattle.std.proofs.Math.Bool.{and-true, and-false}
use Rattle.chat_model.specs.Outcomes.{is_dealt, gives_live, gives_idle, has_deal}
use Rattle.chat_model.specs.declared.event.Stamped.{Stamped}
use Rattle.chat_model.specs.declared.event.Event.{Event}
use Rattle.chat_model.specs.declared.event.Event.TheVariants.{Restart, Asked, Absorbed, MailTurn, PushTurn}
use Rattle.chat_model.specs.declared.deal.Outcome.{Outcome}
use Rattle.chat_model.specs.declared.deal.Outcome.TheVariants.{Dealt, Cleared, Missed}
use Rattle.chat_model.specs.declared.deal.QueueId.{QueueId}
use Rattle.chat_model.specs.declared.deal.UserVerdict.{UserVerdict}
use Rattle.chat_model.specs.declared.ids.DealNo.{DealNo}
use Rattle.chat_model.specs.declared.ids.MessageId.{MessageId}
use Rattle.chat_model.specs.declared.ids.UserId.{UserId}
use Rattle.chat_model.specs.declared.push_item.PushItem.TheVariants.{Notify}
use Rattle.chat_model.specs.declared.request.Request.{Request}
use Rattle.chat_model.specs.declared.trigger.Way.{Way}
use Rattle.chat_model.specs.declared.trigger.Way.TheVariants.{Mail, Push}
use Rattle.chat_model.specs.declared.row.Cause.{Cause}
use Rattle.chat_model.specs.declared.row.Cause.TheVariants.{Read, Deleted}
use Rattle.notice_ledger.specs.declared.accounts.Account.{Account}
use Rattle.notice_ledger.specs.declared.accounts.Account.TheVariants as account
use Rattle.notice_ledger.specs.Past.Journal.{Occurrence, occurrence, absorbs}
use Rattle.notice_ledger.specs.Past.Values.{is_one_of, reads, deletes}
use Rattle.notice_ledger.specs.Past.Owed.{Notice, owed_by, readies, clears, ready, was_cleared, was_dealt, turn, is_turn_of, is_mail_turn_of, is_push_turn_of, bar_cause, cause_of_bar, decided, account_of, is_pending}
use Rattle.notice_ledger.proofs.Behind.{first_behind-past}
use Rattle.notice_ledger.proofs.Standing.{is_turn, is_readying, is_clearing, is_dealing, barring, moved, moved_by, ready-append, ready-last, was_dealt-append, cause_of_bar-append, bar-last}
use Rattle.notice_ledger.proofs.Queued.{is_queued, keeps, kept, IsKept, kept-moved, queued-ready, unqueued-unready}
use Rattle.std.proofs.lemmas.List.{map-append}
use Rattle.book_tables.specs.Bars.{barred_where}
use Rattle.book_tables.proofs.Barring.{bars_one, barred-cons}
use Rattle.book_tables.proofs.Kept.{all_kept, kept_unqueued, unqueued-account}
use Rattle.notice_ledger.proofs.Waiting.{IsOwedBy, owed_by-each, owed-last}
use Rattle.notice_ledger.proofs.Queued as ledger
use Rattle.std.proofs.lemmas.Bool.Decides.{nat_tests}
use Rattle.std.proofs.Common.{eqb, arith}
use Rattle.chat_model.specs.declared.row.Stage.{Stage}
use Rattle.chat_model.specs.declared.row.Stage.TheVariants.{Flight, Held, Ready}
use Rattle.book_tables.specs.declared.tables.Waiting.{Waiting}
use Rattle.book_tables.specs.Notices.{is_ready, is_undecided, is_mail_to, is_ready_mail_to, is_ready_of, of_deal, is_named, rank, goes_ready, ready_if, readied, readied_if, dealt_by, dealt_to}
use Rattle.book_tables.specs.Tables.{stage_by, notice_at, notice_kept, in_flight}

pub swapped : (a b : ℕ) → eqb a b ≡ eqb b a
swapped a b = grind (arith, nat_tests)

-- ---- one notice

-- how far a notice has come after an event, none where it waits no more: by whether the event is its turn, makes it ready,
-- clears it, absorbs its deal and bars it
abbrev pub next_by : Bool → Bool → Bool → Bool → Bool → Stage → Option Stage
next_by is_turn readies clears deals bars Ready = if is_turn then None else Some Ready
next_by is_turn readies clears deals bars Held = if readies then Some Ready else if bars || clears then None else Some Held
next_by is_turn readies clears deals bars Flight = if readies then Some Ready else if bars || clears then None else if deals then Some Held else Some Flight

-- why an event bars a notice that waits, if it does
abbrev pub barring_of : Stamped → Waiting → Option Cause
barring_of s w = bar_cause w.user w.message w.way (occurrence [] s)

abbrev stage_next : Stamped → Waiting → Option Stage
stage_next s w = next_by (is_turn_of w.user w.message w.way s.event) (readies w.user w.deal w.online s.event) (clears w.user w.deal s.event) (absorbs (is_dealt w.deal) s.event) (is_some (barring_of s w)) w.stage

-- the notice after an event: what barred it first counts
abbrev pub step : Stamped → Waiting → Option Waiting
step s w = option_map (λ g. let v : Waiting = record w { stage = g; barred = option_or w.barred (barring_of s w) } in v) (stage_next s w)

-- what an event bars is told by the event alone
pub barring-alone : (j : List Stamped) (s : Stamped) (n : Notice) → barring j s n ≡ bar_cause n.user n.number n.way (occurrence [] s)
unfolding bar_cause
barring-alone j s n = refl

-- an event that is no read and no deletion bars nothing
pub bars_none : (s : Stamped) → ((u : UserId) (m : MessageId) → reads u m s.event ≡ false) → ((m : MessageId) → deletes m s.event ≡ false) → (w : Waiting) → barring_of s w ≡ None
unfolding bar_cause
bars_none s no_read no_deletion w =
    (λ i. if no_read w.user w.message i then Some Read else if no_deletion w.message i then Some Deleted else None)

-- the steps agree with the definitions of the journal: of a notice that is queued
queued_step : (n : Notice) (o : Occurrence) (r : Occurrence) (b : Option Cause) (rd cl dl bars d : Bool) (more : Option Occurrence) (tn : Bool)
    → option_map (λ g. notice_at g b n) (next_by tn rd cl dl bars (stage_by d true)) ≡ cond (not tn) (Some (notice_at (stage_by (d || dl) (is_some (option_or (Some r) more))) b n)) None
queued_step n o r b rd cl dl bars d more true = refl
queued_step n o r b rd cl dl bars d more false = refl

-- and of one that is pending and not queued
unqueued_step : (n : Notice) (o : Occurrence) (b bar : Option Cause) (decision : Account) (d tn rd cl dl : Bool)
    → option_map (λ g. notice_at g b n) (next_by tn rd cl dl (is_some bar) (stage_by d false))
    ≡ cond (is_pending (moved_by tn rd cl dl bar decision (cond d account.Held account.Flight)) || rd) (Some (notice_at (stage_by (d || dl) (is_some (option_or None (cond (rd && not false) (Some o) None)))) b n)) None
unqueued_step n o b None decision true tn true cl dl = refl
unqueued_step n o b (Some c) decision true tn true cl dl = refl
unqueued_step n o b None decision true tn false true dl = refl
unqueued_step n o b None decision true tn false false dl = refl
unqueued_step n o b (Some c) decision true tn false cl dl = refl
unqueued_step n o b None decision false tn true cl dl = refl
unqueued_step n o b (Some c) decision false tn true cl dl = refl
unqueued_step n o b None decision false tn false true dl = refl
unqueued_step n o b None decision false tn false false true = refl
unqueued_step n o b None decision false tn false false false = refl
unqueued_step n o b (Some c) decision false tn false cl dl = refl

named_again : (n : Notice) (g : Stage) (c b : Option Cause) (o : Option Stage) → option_map (λ h. let v : Waiting = record (notice_at g c n) { stage = h; barred = b } in v) o ≡ option_map (λ h. notice_at h b n) o
named_again n g c b None = refl
named_again n g c b (Some h) = refl

kept_step : (j : List Stamped) (s : Stamped) (n : Notice) → IsKept j n → step s (notice_kept j n) ≡ cond (keeps j s n) (Some (notice_kept (j ++ s ∷ []) n)) None
kept_step j s n k =
    let tn = is_turn s n in let rd = is_readying s n in let cl = is_clearing s n in let dl = is_dealing s n in
    let d = was_dealt j n in
    named_again n (stage_by d (is_some (ready j n))) (cause_of_bar j n) (option_or (cause_of_bar j n) (barring_of s (notice_kept j n))) (stage_next s (notice_kept j n))
    ∙ ((λ i. option_map (λ g. notice_at g (option_or (cause_of_bar j n) (sym (barring-alone j s n) i)) n) (next_by tn rd cl dl (is_some (sym (barring-alone j s n) i)) (stage_by d (is_some (ready j n)))))
    ∙ (by (is_queued j n) refl
    ∙ sym (λ i. cond (keeps j s n) (Some (notice_at (stage_by (was_dealt-append j s n k.placed i) (is_some (ready-append j s n k.placed i))) (cause_of_bar-append j s n k.placed i) n)) None)))
  where
    by : (q : Bool) → is_queued j n ≡ q
        → option_map (λ g. notice_at g (option_or (cause_of_bar j n) (barring j s n)) n) (next_by (is_turn s n) (is_readying s n) (is_clearing s n) (is_dealing s n) (is_some (barring j s n)) (stage_by (was_dealt j n) (is_some (ready j n))))
        ≡ cond (keeps j s n) (Some (notice_at (stage_by (was_dealt j n || is_dealing s n) (is_some (option_or (ready j n) (cond (is_readying s n && not (was_cleared j n)) (Some (occurrence j s)) None)))) (option_or (cause_of_bar j n) (barring j s n)) n)) None
    by true q =
        let r = queued-ready j n q in let b = option_or (cause_of_bar j n) (barring j s n) in
        let more = cond (is_readying s n && not (was_cleared j n)) (Some (occurrence j s)) None in
        (λ i. option_map (λ g. notice_at g b n) (next_by (is_turn s n) (is_readying s n) (is_clearing s n) (is_dealing s n) (is_some (barring j s n)) (stage_by (was_dealt j n) (is_some (r.1 i)))))
        ∙ (queued_step n (occurrence j s) r.0 b (is_readying s n) (is_clearing s n) (is_dealing s n) (is_some (barring j s n)) (was_dealt j n) more (is_turn s n)
        ∙ sym (λ i. cond (if q i then not (is_turn s n) else (is_pending (moved j s n (account_of j n)) || is_readying s n)) (Some (notice_at (stage_by (was_dealt j n || is_dealing s n) (is_some (option_or (r.1 i) more))) b n)) None))
    by false q =
        let pending = kept_unqueued j n k.kept q in let u = unqueued-unready j n pending q in
        let b = option_or (cause_of_bar j n) (barring j s n) in
        (λ i. option_map (λ g. notice_at g b n) (next_by (is_turn s n) (is_readying s n) (is_clearing s n) (is_dealing s n) (is_some (barring j s n)) (stage_by (was_dealt j n) (is_some (u.no_event i)))))
        ∙ (unqueued_step n (occurrence j s) b (barring j s n) (decided n (occurrence j s)) (was_dealt j n) (is_turn s n) (is_readying s n) (is_clearing s n) (is_dealing s n)
        ∙ sym (λ i. cond (if q i then not (is_turn s n) else (is_pending (moved j s n (unqueued-account j n pending q i)) || is_readying s n))
        (Some (notice_at (stage_by (was_dealt j n || is_dealing s n) (is_some (option_or (u.no_event i) (cond (is_readying s n && not (u.not_cleared i)) (Some (occurrence j s)) None)))) b n)) None))

-- what the event owes is in flight
new_kept : (j : List Stamped) (s : Stamped) (ns : List Notice) → AllByRecursion (IsOwedBy (occurrence j s)) ns → map (notice_kept (j ++ s ∷ [])) ns ≡ map in_flight ns
new_kept j s [] all = refl
new_kept j s (n ∷ ns) all =
    let last = owed-last j s n all.0 in
    let not_dealt : was_dealt (j ++ s ∷ []) n ≡ false = ap is_some (first_behind-past n.owing.place (λ o. absorbs (is_dealt n.deal) o.event) (j ++ s ∷ []) last) in
    let not_ready = ready-last (j ++ s ∷ []) n last in
    let not_barred : cause_of_bar (j ++ s ∷ []) n ≡ None = ap (option_and_then (bar_cause n.user n.number n.way)) (bar-last (j ++ s ∷ []) n last) in
    (λ i. notice_at (stage_by (not_dealt i) (is_some (not_ready i))) (not_barred i) n ∷ new_kept j s ns all.1 i)

-- ---- all of them

moved_all : (j : List Stamped) (s : Stamped) (ns : List Notice) → AllByRecursion (IsKept j) ns → map (notice_kept (j ++ s ∷ [])) (filter (keeps j s) ns) ≡ filter_map (step s) (map (notice_kept j) ns)
moved_all j s [] all = refl
moved_all j s (n ∷ ns) all = by (keeps j s n) ∙ (λ i. cons_option (sym (kept_step j s n all.0) i) (moved_all j s ns all.1 i))
  where
    by : (b : Bool) → map (notice_kept (j ++ s ∷ [])) (cond b (n ∷ filter (keeps j s) ns) (filter (keeps j s) ns)) ≡ cons_option (cond b (Some (notice_kept (j ++ s ∷ []) n)) None) (map (notice_kept (j ++ s ∷ [])) (filter (keeps j s) ns))
    by true = refl
    by false = refl

pub kept-append : (j : List Stamped) (s : Stamped) → all_kept (j ++ s ∷ []) ≡ filter_map (step s) (all_kept j) ++ map in_flight (owed_by (occurrence j s))
kept-append j s =
    ap (map (notice_kept (j ++ s ∷ []))) (kept-moved j s)
    ∙ (map-append (notice_kept (j ++ s ∷ [])) (filter (keeps j s) (kept j)) (owed_by (occurrence j s))
    ∙ ((λ i. moved_all j s (kept j) (ledger.all_kept j) i ++ new_kept j s (owed_by (occurrence j s)) (owed_by-each (occurrence j s)) i)))

-- ---- steps that are the same for all

pub all_steps : {X Y : Type 0} (f g : X → Option Y) → ((x : X) → f x ≡ g x) → (xs : List X) → filter_map f xs ≡ filter_map g xs
all_steps f g same [] = refl
all_steps f g same (x ∷ xs) = (λ i. cons_option (same x i) (all_steps f g same xs i))

mapped : {X : Type 0} (f : X → X) (xs : List X) → filter_map (λ x. Some (f x)) xs ≡ map f xs
mapped f [] = refl
mapped f (x ∷ xs) = ap (λ ys. f x ∷ ys) (mapped f xs)

filtered : {X : Type 0} (p : X → Bool) (xs : List X) → filter_map (λ x. cond (p x) None (Some x)) xs ≡ filter (λ x. not (p x)) xs
filtered p [] = refl
filtered p (x ∷ xs) =
    elim (p x) as (λ b. cons_option (cond b None (Some x)) (filter_map (λ x. cond (p x) None (Some x)) xs) ≡ cond (not b) (x ∷ filter (λ x. not (p x)) xs) (filter (λ x. not (p x)) xs)) [
      | true ↦ filtered p xs
      | false ↦ ap (λ ys. x ∷ ys) (filtered p xs)
    ]

untouched : {X : Type 0} (xs : List X) → filter_map (λ x. Some x) xs ≡ xs
untouched [] = refl
untouched (x ∷ xs) = ap (λ ys. x ∷ ys) (untouched xs)

-- an event that is no turn
pub record IsNoTurn (e : Event) : Type 0 where
  pub mail : (u : UserId) → is_mail_turn_of u e ≡ false
  pub push : (u : UserId) (m : MessageId) → is_push_turn_of u m e ≡ false

pub never_turn : (e : Event) → IsNoTurn e → (u : UserId) (m : MessageId) (w : Way) → is_turn_of u m w e ≡ false
never_turn e never u m Mail = never.mail u
never_turn e never u m Push = never.push u m

-- nor is a start, a request, or an outcome that is absorbed
pub no_start : IsNoTurn Restart
no_start = record { mail = λ u. refl; push = λ u m. refl }

pub no_request : (r : Request) → IsNoTurn (Asked r)
no_request r = record { mail = λ u. refl; push = λ u m. refl }

pub no_outcome : (o : Outcome) → IsNoTurn (Absorbed o)
no_outcome o = record { mail = λ u. refl; push = λ u m. refl }

-- by each of the tests, where the event bars nothing
or_nothing : (o : Option Cause) → option_or o None ≡ o
or_nothing None = refl
or_nothing (Some c) = refl

by_tests : (w : Waiting) (b : Option Cause) → b ≡ None → (g : Stage) (tn rd cl dl tn' rd' cl' dl' : Bool) → tn ≡ tn' → rd ≡ rd' → cl ≡ cl' → dl ≡ dl'
    → option_map (λ g. let v : Waiting = record w { stage = g; barred = option_or w.barred b } in v) (next_by tn rd cl dl (is_some b) g) ≡ option_map (λ g. let v : Waiting = record w { stage = g } in v) (next_by tn' rd' cl' dl' false g)
by_tests w b none g tn rd cl dl tn' rd' cl' dl' e f h k =
    let same : option_or w.barred b ≡ w.barred = ap (option_or w.barred) none ∙ or_nothing w.barred in
    (λ i. option_map (λ g. let v : Waiting = record w { stage = g; barred = same i } in v) (next_by (e i) (f i) (h i) (k i) (is_some (none i)) g))

-- an event that is nothing to any notice
pub steps_left : (s : Stamped) → IsNoTurn s.event → ((w : Waiting) → barring_of s w ≡ None) → ((u : UserId) (k : DealNo) (online : Bool) → readies u k online s.event ≡ false) → ((u : UserId) (k : DealNo) → clears u k s.event ≡ false) → ((k : DealNo) → absorbs (is_dealt k) s.event ≡ false)
    → (ws : List Waiting) → filter_map (step s) ws ≡ ws
steps_left s never not_barred not_ready not_cleared not_dealt ws = all_steps (step s) (λ w. Some w) each ws ∙ untouched ws
  where
    same : (w : Waiting) (g : Stage) → option_map (λ g. let v : Waiting = record w { stage = g } in v) (next_by false false false false false g) ≡ Some (record w { stage = g })
    same w Flight = refl
    same w Held = refl
    same w Ready = refl

    each : (w : Waiting) → step s w ≡ Some w
    each w =
        by_tests w (barring_of s w) (not_barred w) w.stage (is_turn_of w.user w.message w.way s.event) (readies w.user w.deal w.online s.event) (clears w.user w.deal s.event) (absorbs (is_dealt w.deal) s.event) false false false false
        (never_turn s.event never w.user w.message w.way) (not_ready w.user w.deal w.online) (not_cleared w.user w.deal) (not_dealt w.deal)
        ∙ same w w.stage

-- a start makes all ready
pub step_start : (at : ℕ) (w : Waiting) → step (record { at = at; event = Restart }) w ≡ Some (readied w)
step_start at w =
    by_tests w (barring_of (record { at = at; event = Restart }) w) (bars_none (record { at = at; event = Restart }) (λ u m. refl) (λ m. refl) w) w.stage (is_turn_of w.user w.message w.way Restart) true false false false true false false (never_turn Restart no_start w.user w.message w.way) refl refl refl
    ∙ by w.stage
  where
    by : (g : Stage) → option_map (λ g. let v : Waiting = record w { stage = g } in v) (next_by false true false false false g) ≡ Some (record w { stage = ready_if true g })
    by Flight = refl
    by Held = refl
    by Ready = refl

pub steps_start : (at : ℕ) (ws : List Waiting) → filter_map (step (record { at = at; event = Restart })) ws ≡ map readied ws
steps_start at ws = all_steps (step (record { at = at; event = Restart })) (λ w. Some (readied w)) (step_start at) ws ∙ mapped readied ws

-- a mail turn takes the user's ready mails
pub step_mails : (at : ℕ) (u : UserId) (w : Waiting) → step (record { at = at; event = MailTurn u }) w ≡ cond (is_ready_mail_to u w) None (Some w)
step_mails at u w =
    by_tests w (barring_of (record { at = at; event = MailTurn u }) w) (bars_none (record { at = at; event = MailTurn u }) (λ u m. refl) (λ m. refl) w) w.stage (is_turn_of w.user w.message w.way (MailTurn u)) false false false (is_mail_to u w) false false false (turns w.user w.way) refl refl refl
    ∙ by (is_mail_to u w) w.stage
  where
    turns : (v : UserId) (way : Way) → is_turn_of v w.message way (MailTurn u) ≡ (v.0 == u.0 && rank way == 0)
    turns v Mail = swapped u.0 v.0 ∙ sym (and-true (v.0 == u.0))
    turns v Push = sym (and-false (v.0 == u.0))

    by : (m : Bool) (g : Stage) → option_map (λ g. let v : Waiting = record w { stage = g } in v) (next_by m false false false false g) ≡ cond (m && is_ready (record w { stage = g })) None (Some (record w { stage = g }))
    by m Flight = ap (λ b. cond b None (Some (record w { stage = Flight }))) (sym (and-false m))
    by m Held = ap (λ b. cond b None (Some (record w { stage = Held }))) (sym (and-false m))
    by true Ready = refl
    by false Ready = refl

pub steps_mails : (at : ℕ) (u : UserId) (ws : List Waiting) → filter_map (step (record { at = at; event = MailTurn u })) ws ≡ filter (λ w. not (is_ready_mail_to u w)) ws
steps_mails at u ws = all_steps (step (record { at = at; event = MailTurn u })) (λ w. cond (is_ready_mail_to u w) None (Some w)) (step_mails at u) ws ∙ filtered (is_ready_mail_to u) ws

-- a push turn takes the push of its user and message
pub step_push : (at : ℕ) (u : UserId) (m : MessageId) (w : Waiting) → step (record { at = at; event = PushTurn (Notify u m) }) w ≡ cond (is_ready_of u m Push w) None (Some w)
step_push at u m w =
    by_tests w (barring_of (record { at = at; event = PushTurn (Notify u m) }) w) (bars_none (record { at = at; event = PushTurn (Notify u m) }) (λ u m. refl) (λ m. refl) w) w.stage (is_turn_of w.user w.message w.way (PushTurn (Notify u m))) false false false (is_push w.way) false false false (turns w.way) refl refl refl
    ∙ (by (is_push w.way) w.stage ∙ ap (λ b. cond b None (Some w)) (parts (w.user.0 == u.0) (rank w.way == 1) (w.message.0 == m.0) (is_ready w)))
  where
    is_push : Way → Bool
    is_push way = (w.user.0 == u.0 && rank way == 1) && w.message.0 == m.0

    turns : (way : Way) → is_turn_of w.user w.message way (PushTurn (Notify u m)) ≡ ((w.user.0 == u.0 && rank way == 1) && w.message.0 == m.0)
    turns Mail = sym (ap (λ b. b && w.message.0 == m.0) (and-false (w.user.0 == u.0)))
    turns Push = (λ i. swapped u.0 w.user.0 i && swapped m.0 w.message.0 i) ∙ ap (λ b. b && w.message.0 == m.0) (sym (and-true (w.user.0 == u.0)))

    by : (p : Bool) (g : Stage) → option_map (λ g. let v : Waiting = record w { stage = g } in v) (next_by p false false false false g) ≡ cond (p && is_ready (record w { stage = g })) None (Some (record w { stage = g }))
    by p Flight = ap (λ b. cond b None (Some (record w { stage = Flight }))) (sym (and-false p))
    by p Held = ap (λ b. cond b None (Some (record w { stage = Held }))) (sym (and-false p))
    by true Ready = refl
    by false Ready = refl

    parts : (a b c d : Bool) → (((a && b) && c) && d) ≡ (((a && b) && d) && c)
    parts true true true true = refl
    parts true true true false = refl
    parts true true false true = refl
    parts true true false false = refl
    parts true false c d = refl
    parts false b c d = refl

pub steps_push : (at : ℕ) (u : UserId) (m : MessageId) (ws : List Waiting) → filter_map (step (record { at = at; event = PushTurn (Notify u m) })) ws ≡ filter (λ w. not (is_ready_of u m Push w)) ws
steps_push at u m ws = all_steps (step (record { at = at; event = PushTurn (Notify u m) })) (λ w. cond (is_ready_of u m Push w) None (Some w)) (step_push at u m) ws ∙ filtered (is_ready_of u m Push) ws

-- a cleared deal takes the user's undecided notices of it
pub step_cleared : (at : ℕ) (u : UserId) (deals : List DealNo) (q : QueueId) (w : Waiting) → step (record { at = at; event = Absorbed (Cleared u deals q) }) w ≡ cond (is_named u deals w && is_undecided w) None (Some w)
step_cleared at u deals q w =
    by_tests w (barring_of (record { at = at; event = Absorbed (Cleared u deals q) }) w) (bars_none (record { at = at; event = Absorbed (Cleared u deals q) }) (λ u m. refl) (λ m. refl) w) w.stage (is_turn_of w.user w.message w.way (Absorbed (Cleared u deals q))) (readies w.user w.deal w.online (Absorbed (Cleared u deals q))) (clears w.user w.deal (Absorbed (Cleared u deals q))) false
    false false (is_named u deals w) false (never_turn (Absorbed (Cleared u deals q)) (no_outcome (Cleared u deals q)) w.user w.message w.way) (none w.online) (ap (λ b. b && has_deal deals w.deal) (swapped u.0 w.user.0)) refl
    ∙ by (is_named u deals w) w.stage
  where
    none : (online : Bool) → readies w.user w.deal online (Absorbed (Cleared u deals q)) ≡ false
    none true = refl
    none false = refl

    by : (m : Bool) (g : Stage) → option_map (λ g. let v : Waiting = record w { stage = g } in v) (next_by false false m false false g) ≡ cond (m && is_undecided (record w { stage = g })) None (Some (record w { stage = g }))
    by true Flight = refl
    by false Flight = refl
    by true Held = refl
    by false Held = refl
    by true Ready = refl
    by false Ready = refl

pub steps_cleared : (at : ℕ) (u : UserId) (deals : List DealNo) (q : QueueId) (ws : List Waiting) → filter_map (step (record { at = at; event = Absorbed (Cleared u deals q) })) ws ≡ filter (λ w. not (is_named u deals w && is_undecided w)) ws
steps_cleared at u deals q ws =
    all_steps (step (record { at = at; event = Absorbed (Cleared u deals q) })) (λ w. cond (is_named u deals w && is_undecided w) None (Some w)) (step_cleared at u deals q) ws
    ∙ filtered (λ w. is_named u deals w && is_undecided w) ws

-- a missed deal makes the user's undecided notices of it ready
pub readies-missed : (u : UserId) (deals : List DealNo) (w : Waiting) → readies w.user w.deal w.online (Absorbed (Missed u deals)) ≡ is_named u deals w
readies-missed u deals w = missed w.online ∙ ap (λ b. b && has_deal deals w.deal) (swapped u.0 w.user.0)
  where
    missed : (online : Bool) → readies w.user w.deal online (Absorbed (Missed u deals)) ≡ (u.0 == w.user.0 && has_deal deals w.deal)
    missed true = refl
    missed false = refl

pub step_missed : (at : ℕ) (u : UserId) (deals : List DealNo) (w : Waiting) → step (record { at = at; event = Absorbed (Missed u deals) }) w ≡ Some (readied_if (is_named u deals w) w)
step_missed at u deals w =
    by_tests w (barring_of (record { at = at; event = Absorbed (Missed u deals) }) w) (bars_none (record { at = at; event = Absorbed (Missed u deals) }) (λ u m. refl) (λ m. refl) w) w.stage (is_turn_of w.user w.message w.way (Absorbed (Missed u deals))) (readies w.user w.deal w.online (Absorbed (Missed u deals))) false false
    false (is_named u deals w) false false (never_turn (Absorbed (Missed u deals)) (no_outcome (Missed u deals)) w.user w.message w.way) (readies-missed u deals w) refl refl
    ∙ by (is_named u deals w) w.stage
  where
    by : (m : Bool) (g : Stage) → option_map (λ g. let v : Waiting = record w { stage = g } in v) (next_by false m false false false g) ≡ Some (record w { stage = ready_if m g })
    by true Flight = refl
    by false Flight = refl
    by true Held = refl
    by false Held = refl
    by true Ready = refl
    by false Ready = refl

pub steps_missed : (at : ℕ) (u : UserId) (deals : List DealNo) (ws : List Waiting) → filter_map (step (record { at = at; event = Absorbed (Missed u deals) })) ws ≡ map (λ w. readied_if (is_named u deals w) w) ws
steps_missed at u deals ws = all_steps (step (record { at = at; event = Absorbed (Missed u deals) })) (λ w. Some (readied_if (is_named u deals w) w)) (step_missed at u deals) ws ∙ mapped (λ w. readied_if (is_named u deals w) w) ws

-- a dealt deal makes its undecided notices ready or held
pub readies-dealt : (k : DealNo) (verdicts : List UserVerdict) (idle live : List UserId) → ((u : UserId) → is_one_of idle u ≡ gives_idle verdicts u) → ((u : UserId) → is_one_of live u ≡ gives_live verdicts u)
    → (w : Waiting) → readies w.user w.deal w.online (Absorbed (Dealt k verdicts)) ≡ (of_deal k w && goes_ready idle live w)
readies-dealt k verdicts idle live are_idle are_live w =
    all_tests (k.0 == w.deal.0) (gives_idle verdicts w.user) w.online (gives_live verdicts w.user)
    ∙ (λ n. swapped k.0 w.deal.0 n && (sym (are_idle w.user) n || (w.online && sym (are_live w.user) n)))
  where
    all_tests : (q i o l : Bool) → (((q && i) || (o && (q && l))) || false) ≡ (q && (i || (o && l)))
    all_tests true true o l = refl
    all_tests true false true true = refl
    all_tests true false true false = refl
    all_tests true false false l = refl
    all_tests false i true l = refl
    all_tests false i false l = refl

pub step_dealt : (at : ℕ) (k : DealNo) (verdicts : List UserVerdict) (idle live : List UserId) → ((u : UserId) → is_one_of idle u ≡ gives_idle verdicts u) → ((u : UserId) → is_one_of live u ≡ gives_live verdicts u)
    → (w : Waiting) → step (record { at = at; event = Absorbed (Dealt k verdicts) }) w ≡ Some (if of_deal k w then dealt_to idle live w else w)
step_dealt at k verdicts idle live are_idle are_live w =
    by_tests w (barring_of (record { at = at; event = Absorbed (Dealt k verdicts) }) w) (bars_none (record { at = at; event = Absorbed (Dealt k verdicts) }) (λ u m. refl) (λ m. refl) w) w.stage (is_turn_of w.user w.message w.way (Absorbed (Dealt k verdicts))) (readies w.user w.deal w.online (Absorbed (Dealt k verdicts))) false (k.0 == w.deal.0)
    false (of_deal k w && goes_ready idle live w) false (of_deal k w) (never_turn (Absorbed (Dealt k verdicts)) (no_outcome (Dealt k verdicts)) w.user w.message w.way)
    (readies-dealt k verdicts idle live are_idle are_live w) refl (swapped k.0 w.deal.0)
    ∙ by (of_deal k w) (goes_ready idle live w) w.stage
  where
    by : (q r : Bool) (g : Stage) → option_map (λ g. let v : Waiting = record w { stage = g } in v) (next_by false (q && r) false q false g) ≡ Some (if q then record w { stage = dealt_by r g } else record w { stage = g })
    by true true Flight = refl
    by true false Flight = refl
    by true true Held = refl
    by true false Held = refl
    by true true Ready = refl
    by true false Ready = refl
    by false r Flight = refl
    by false r Held = refl
    by false r Ready = refl

pub steps_dealt : (at : ℕ) (k : DealNo) (verdicts : List UserVerdict) (idle live : List UserId) → ((u : UserId) → is_one_of idle u ≡ gives_idle verdicts u) → ((u : UserId) → is_one_of live u ≡ gives_live verdicts u)
    → (ws : List Waiting) → filter_map (step (record { at = at; event = Absorbed (Dealt k verdicts) })) ws ≡ map (λ w. if of_deal k w then dealt_to idle live w else w) ws
steps_dealt at k verdicts idle live are_idle are_live ws =
    all_steps (step (record { at = at; event = Absorbed (Dealt k verdicts) })) (λ w. Some (if of_deal k w then dealt_to idle live w else w)) (step_dealt at k verdicts idle live are_idle are_live) ws
    ∙ mapped (λ w. if of_deal k w then dealt_to idle live w else w) ws

-- a read or a deletion bars the notices that it is of, for one cause
barred_step : (c : Cause) (t : Bool) (w : Waiting) (rest : List Waiting) (b : Option Cause) → b ≡ cond t (Some c) None → (tn rd cl dl : Bool) → tn ≡ false → rd ≡ false → cl ≡ false → dl ≡ false
    → cons_option (option_map (λ g. let v : Waiting = record w { stage = g; barred = option_or w.barred b } in v) (next_by tn rd cl dl (is_some b) w.stage)) rest ≡ bars_one t (is_undecided w) c w rest
barred_step c t w rest b of_cause tn rd cl dl e f h k =
    (λ i. cons_option (option_map (λ g. let v : Waiting = record w { stage = g; barred = option_or w.barred (of_cause i) } in v) (next_by (e i) (f i) (h i) (k i) (is_some (of_cause i)) w.stage)) rest)
    ∙ by t w.stage
  where
    by : (t : Bool) (g : Stage) → cons_option (option_map (λ h. let v : Waiting = record w { stage = h; barred = option_or w.barred (cond t (Some c) None) } in v) (next_by false false false false (is_some (cond t (Some c) None)) g)) rest
        ≡ bars_one t (is_undecided (record w { stage = g })) c (record w { stage = g }) rest
    by true Flight = refl
    by true Held = refl
    by true Ready = refl
    by false Flight = (λ i. let v : Waiting = record w { stage = Flight; barred = or_nothing w.barred i } in v ∷ rest)
    by false Held = (λ i. let v : Waiting = record w { stage = Held; barred = or_nothing w.barred i } in v ∷ rest)
    by false Ready = (λ i. let v : Waiting = record w { stage = Ready; barred = or_nothing w.barred i } in v ∷ rest)

pub steps_barred : (j : List Stamped) (s : Stamped) (c : Cause) → IsNoTurn s.event → ((u : UserId) (k : DealNo) (online : Bool) → readies u k online s.event ≡ false) → ((u : UserId) (k : DealNo) → clears u k s.event ≡ false) → ((k : DealNo) → absorbs (is_dealt k) s.event ≡ false)
    → (test : Waiting → Bool) → ((n : Notice) → barring j s n ≡ cond (is_some (barring j s n)) (Some c) None) → (ns : List Notice) → AllByRecursion (λ n. test (notice_kept j n) ≡ is_some (barring j s n)) ns
    → filter_map (step s) (map (notice_kept j) ns) ≡ barred_where test c (map (notice_kept j) ns)
steps_barred j s c never not_ready not_cleared not_dealt test of_cause [] all = refl
steps_barred j s c never not_ready not_cleared not_dealt test of_cause (n ∷ ns) all =
    let w = notice_kept j n in
    ap (cons_option (step s w)) (steps_barred j s c never not_ready not_cleared not_dealt test of_cause ns all.1)
    ∙ (barred_step c (test w) w (barred_where test c (map (notice_kept j) ns)) (barring_of s w) (sym (barring-alone j s n) ∙ (of_cause n ∙ ap (λ t. cond t (Some c) None) (sym all.0)))
    (is_turn_of w.user w.message w.way s.event) (readies w.user w.deal w.online s.event) (clears w.user w.deal s.event) (absorbs (is_dealt w.deal) s.event)
    (never_turn s.event never w.user w.message w.way) (not_ready w.user w.deal w.online) (not_cleared w.user w.deal) (not_dealt w.deal)
    ∙ sym (barred-cons test c w (map (notice_kept j) ns)))
