-- Accounts, rows, due moments, members and subscribers at a journal with one more event.
use Rattle.std.proofs.Common.{◌≡◌, ℕ, ◌<◌, Bool, true, false, ◌&&◌, cond, not, List, [], ◌∷◌, ◌++◌, length, map, refl, sym, ap, ◌∙◌}
use Rattle.std.specs.Prelude.{Option, Some, None, option_map, option_and_then, option_to_list, unwrap_or, is_some, filter, find, count_by, if◌then◌else◌}
use Rattle.std.specs.Option.{option_map_or, option_or}
use Rattle.std.specs.List.{AllByRecursion, filter_map, cons_option, reduce}
use Rattle.std.proofs.lemmas.List.Elements.{filter_map-append}
use Rattle.std.proofs.lemmas.List.Folds.{find-append}
use Rattle.chat_model.specs.declared.event.Stamped.{Stamped}
use Rattle.chat_model.specs.declared.ids.UserId.{UserId}
use Rattle.chat_model.specs.declared.ids.MessageId.{MessageId}
use Rattle.chat_model.specs.declared.ids.ChannelId.{ChannelId}
use Rattle.chat_model.specs.declared.ids.GroupId.{GroupId}
use Rattle.chat_model.specs.declared.row.Row.{Row}
use Rattle.chat_model.specs.declared.row.Row.TheVariants as row
use Rattle.chat_model.specs.declared.row.Stage.{Stage}
use Rattle.chat_model.specs.declared.row.Stage.TheVariants as stage
use Rattle.chat_model.specs.declared.trigger.Way.{Way}
use Rattle.notice_ledger.specs.declared.accounts.Account.{Account}
use Rattle.notice_ledger.specs.declared.accounts.Account.TheVariants.{NotOwed, Flight, Held, Ready, Cancelled}
use Rattle.notice_ledger.specs.Past.Journal.{Occurrence, occurrence}
use Rattle.notice_ledger.specs.Past.Values.{users, is_member, membership_change, member_count, subscribed, subscription_change, subscriber_count}
use Rattle.notice_ledger.specs.Past.Owed.{Notice, is_of, notices, owed_by, ready, was_cleared, account_of, account, is_pending, waiting}
use Rattle.notice_ledger.specs.Past.Rows.{stage_of, pending_row}
use Rattle.notice_ledger.specs.Past.Due.{due_user, first_due, sooner}
use Rattle.notice_ledger.proofs.Appended.{notices-append, is_member-append, subscribed-append}
use Rattle.notice_ledger.proofs.Behind.{find_all}
use Rattle.notice_ledger.proofs.Standing.{is_turn, is_readying, is_clearing, is_dealing, is_barring, moved, ready-append, account_of-append, stage_after, stage_of-append, stage_after-same}
use Rattle.notice_ledger.proofs.Waiting.{IsOwedBy, owed_by-each, notices-placed, account_of-new}
use Rattle.notice_ledger.proofs.Queued.{is_queued, queued-account, ready-queued, pending-unbarred, unqueued-unready, queued-ready}
use Rattle.notice_ledger.proofs.Stamps.{ready_stamp}
use Rattle.notice_ledger.proofs.Sums.{sum_by_same}
use Rattle.notice_ledger.proofs.There.{added_user, users-append}

-- ---- accounts

-- a notice that was owed
pub account-append : (j : List Stamped) (s : Stamped) (u : UserId) (m : MessageId) (w : Way) (n : Notice) → find (is_of u m w) (notices j) ≡ Some n → account (j ++ s ∷ []) u m w ≡ moved j s n (account_of j n)
account-append j s u m w n found =
    ap (λ ns. option_map_or (account_of (j ++ s ∷ [])) (find (is_of u m w) ns) NotOwed) (notices-append j s)
    ∙ (ap (λ o. option_map_or (account_of (j ++ s ∷ [])) o NotOwed) (find-append (is_of u m w) (notices j) (owed_by (occurrence j s)) ∙ ap (λ o. option_or o (find (is_of u m w) (owed_by (occurrence j s)))) found)
    ∙ account_of-append j s n (find_all (λ n. n.owing.place < length j) (is_of u m w) (notices j) n (notices-placed j) found))

-- a notice that was not owed is in flight where the event owes it
pub account-append_new : (j : List Stamped) (s : Stamped) (u : UserId) (m : MessageId) (w : Way) → find (is_of u m w) (notices j) ≡ None
    → account (j ++ s ∷ []) u m w ≡ cond (is_some (find (is_of u m w) (owed_by (occurrence j s)))) Flight NotOwed
account-append_new j s u m w missing =
    ap (λ ns. option_map_or (account_of (j ++ s ∷ [])) (find (is_of u m w) ns) NotOwed) (notices-append j s)
    ∙ (ap (λ o. option_map_or (account_of (j ++ s ∷ [])) o NotOwed) (find-append (is_of u m w) (notices j) (owed_by (occurrence j s)) ∙ ap (λ o. option_or o (find (is_of u m w) (owed_by (occurrence j s)))) missing)
    ∙ by (find (is_of u m w) (owed_by (occurrence j s))) refl)
  where
    by : (o : Option Notice) → find (is_of u m w) (owed_by (occurrence j s)) ≡ o → option_map_or (account_of (j ++ s ∷ [])) o NotOwed ≡ cond (is_some o) Flight NotOwed
    by None e = refl
    by (Some n) e = account_of-new j s n (find_all (IsOwedBy (occurrence j s)) (is_of u m w) (owed_by (occurrence j s)) n (owed_by-each (occurrence j s)) e)

-- ---- rows of pending notices

-- a pending notice's row
abbrev pub row_at_stage : Notice → Stage → Row
row_at_stage n g = row.Pending n.user n.number n.way n.trigger n.deal g

-- the row of a notice after an event, none where it is pending no more
abbrev pub pending_row_after : List Stamped → Stamped → Notice → Option Row
pending_row_after j s n = option_map (row_at_stage n) (option_and_then (stage_after s n) (stage_of (account_of j n)))

pub pending_row-append : (j : List Stamped) (s : Stamped) (n : Notice) → n.owing.place < length j → pending_row (j ++ s ∷ []) n ≡ pending_row_after j s n
pending_row-append j s n placed = ap (option_map (row_at_stage n)) (stage_of-append j s n placed)

-- a notice to which an event is nothing keeps its row
pub pending_row-same : (j : List Stamped) (s : Stamped) (n : Notice) → n.owing.place < length j → is_turn s n ≡ false → is_readying s n ≡ false → is_clearing s n ≡ false → is_dealing s n ≡ false → is_barring s n ≡ false → pending_row (j ++ s ∷ []) n ≡ pending_row j n
pending_row-same j s n placed tn rd cl dl bars =
    pending_row-append j s n placed ∙ ap (option_map (row_at_stage n)) (by (stage_of (account_of j n)))
  where
    by : (o : Option Stage) → option_and_then (stage_after s n) o ≡ o
    by None = refl
    by (Some g) = stage_after-same s n g tn rd cl dl bars

filter_map_same_where : {X Y : Type 0} (P : X → Type 0) (f g : X → Option Y) → ((x : X) → P x → f x ≡ g x) → (xs : List X) → AllByRecursion P xs → filter_map f xs ≡ filter_map g xs
filter_map_same_where P f g h [] all = refl
filter_map_same_where P f g h (x ∷ xs) all = ap (λ o. cons_option o (filter_map f xs)) (h x all.0) ∙ ap (cons_option (g x)) (filter_map_same_where P f g h xs all.1)

map-filter_map_some : {X Y : Type 0} (P : X → Type 0) (f : X → Option Y) (g : X → Y) → ((x : X) → P x → f x ≡ Some (g x)) → (xs : List X) → AllByRecursion P xs → filter_map f xs ≡ map g xs
map-filter_map_some P f g h [] all = refl
map-filter_map_some P f g h (x ∷ xs) all = ap (λ o. cons_option o (filter_map f xs)) (h x all.0) ∙ ap (λ ys. g x ∷ ys) (map-filter_map_some P f g h xs all.1)

-- the rows of the pending notices: each moves on by what the event is to it, and those that the event owes are in flight
pub pending_rows-append : (j : List Stamped) (s : Stamped) → filter_map (pending_row (j ++ s ∷ [])) (notices (j ++ s ∷ [])) ≡ filter_map (pending_row_after j s) (notices j) ++ map (λ n. row_at_stage n stage.Flight) (owed_by (occurrence j s))
pending_rows-append j s =
    ap (filter_map (pending_row (j ++ s ∷ []))) (notices-append j s)
    ∙ (filter_map-append (pending_row (j ++ s ∷ [])) (notices j) (owed_by (occurrence j s))
    ∙ (ap (λ rs. rs ++ filter_map (pending_row (j ++ s ∷ [])) (owed_by (occurrence j s)))
    (filter_map_same_where (λ n. n.owing.place < length j) (pending_row (j ++ s ∷ [])) (pending_row_after j s) (pending_row-append j s) (notices j) (notices-placed j))
    ∙ ap (λ rs. filter_map (pending_row_after j s) (notices j) ++ rs)
    (map-filter_map_some (IsOwedBy (occurrence j s)) (pending_row (j ++ s ∷ [])) (λ n. row_at_stage n stage.Flight) (λ n owed. ap (λ a. option_map (row_at_stage n) (stage_of a)) (account_of-new j s n owed)) (owed_by (occurrence j s)) (owed_by-each (occurrence j s)))))

-- what has no row isn't among those that wait
pub pending_rows-waiting : (j : List Stamped) → filter_map (pending_row j) (notices j) ≡ filter_map (pending_row j) (waiting j)
unfolding waiting
pending_rows-waiting j = each (notices j)
  where
    one : (n : Notice) (a : Account) (rest : List Row) (others : List Notice) → rest ≡ filter_map (pending_row j) others → account_of j n ≡ a → cons_option (option_map (row_at_stage n) (stage_of a)) rest ≡ filter_map (pending_row j) (cond (is_pending a) (n ∷ others) others)
    one n Flight rest others e at = ap (cons_option (Some (row_at_stage n stage.Flight))) e ∙ ap (λ b. cons_option (option_map (row_at_stage n) (stage_of b)) (filter_map (pending_row j) others)) (sym at)
    one n Held rest others e at = ap (cons_option (Some (row_at_stage n stage.Held))) e ∙ ap (λ b. cons_option (option_map (row_at_stage n) (stage_of b)) (filter_map (pending_row j) others)) (sym at)
    one n Ready rest others e at = ap (cons_option (Some (row_at_stage n stage.Ready))) e ∙ ap (λ b. cons_option (option_map (row_at_stage n) (stage_of b)) (filter_map (pending_row j) others)) (sym at)
    one n a rest others e at = e

    each : (ns : List Notice) → filter_map (pending_row j) ns ≡ filter_map (pending_row j) (filter (λ n. is_pending (account_of j n)) ns)
    each [] = refl
    each (n ∷ ns) = one n (account_of j n) (filter_map (pending_row j) ns) (filter (λ n. is_pending (account_of j n)) ns) (each ns) refl

-- ---- due moments

-- the stamp of a notice's ready event, with one more event
pub ready_stamp-append : (j : List Stamped) (s : Stamped) (n : Notice) → n.owing.place < length j → ready_stamp (j ++ s ∷ []) n ≡ option_or (ready_stamp j n) (cond (is_readying s n && not (was_cleared j n)) (Some s.at) None)
ready_stamp-append j s n placed = ap (option_map (λ o. o.at)) (ready-append j s n placed) ∙ by (ready j n) (is_readying s n && not (was_cleared j n))
  where
    by : (r : Option Occurrence) (b : Bool) → option_map (λ o. o.at) (option_or r (cond b (Some (occurrence j s)) None)) ≡ option_or (option_map (λ o. o.at) r) (cond b (Some s.at) None)
    by None true = refl
    by None false = refl
    by (Some o) b = refl

-- the stamp at which a pending notice is ready after an event, by the stage and the stamp before it
abbrev pub stamp_by : Bool → ℕ → Stage → Option ℕ → Option ℕ
stamp_by readies at stage.Ready before = before
stamp_by readies at _ before = if readies then Some at else None

pub ready_stamp-stage : (j : List Stamped) (s : Stamped) (n : Notice) (g : Stage) → n.owing.place < length j → stage_of (account_of j n) ≡ Some g → ready_stamp (j ++ s ∷ []) n ≡ stamp_by (is_readying s n) s.at g (ready_stamp j n)
ready_stamp-stage j s n g placed at_stage =
    ready_stamp-append j s n placed ∙ by (is_queued j n) refl
  where
    -- what is pending stays behind a ready event at one stage
    at_ready : (a : Account) → (a ≡ Ready → ⊥) → stage_of a ≡ Some g → stage.Ready ≡ g → ⊥
    at_ready Flight other e same = let is : stage.Flight ≡ g = cc in cc
    at_ready Held other e same = let is : stage.Held ≡ g = cc in cc
    at_ready Ready other e same = other refl
    at_ready a other e same = cc

    pending : (a : Account) → stage_of a ≡ Some g → is_pending a ≡ true
    pending Flight e = refl
    pending Held e = refl
    pending Ready e = refl
    pending a e = absurd (cc)

    queued : (o : Occurrence) → ready j n ≡ Some o → stage.Ready ≡ g → option_or (ready_stamp j n) (cond (is_readying s n && not (was_cleared j n)) (Some s.at) None) ≡ stamp_by (is_readying s n) s.at g (ready_stamp j n)
    queued o e same = ap (λ (r : Option Occurrence). option_or (option_map (λ o. o.at) r) (cond (is_readying s n && not (was_cleared j n)) (Some s.at) None)) e ∙ (ap (λ h. stamp_by (is_readying s n) s.at h (Some o.at)) same ∙ ap (λ (r : Option Occurrence). stamp_by (is_readying s n) s.at g (option_map (λ o. o.at) r)) (sym e))

    unready : (h : Stage) (rd : Bool) → (stage.Ready ≡ h → ⊥) → cond (rd && true) (Some s.at) None ≡ stamp_by rd s.at h None
    unready stage.Flight true other = refl
    unready stage.Flight false other = refl
    unready stage.Held true other = refl
    unready stage.Held false other = refl
    unready stage.Ready rd other = absurd (other refl)

    by : (q : Bool) → is_queued j n ≡ q → option_or (ready_stamp j n) (cond (is_readying s n && not (was_cleared j n)) (Some s.at) None) ≡ stamp_by (is_readying s n) s.at g (ready_stamp j n)
    by true h =
        let found = queued-ready j n h in
        let at : account_of j n ≡ Ready = queued-account j n h ∙ ap (λ c. option_map_or Cancelled c Ready) (pending-unbarred j n (pending (account_of j n) at_stage)) in
        let same : Some stage.Ready ≡ Some g = sym (ap stage_of at) ∙ at_stage in
        queued found.0 found.1 (cc)
    by false h =
        let none = unqueued-unready j n (pending (account_of j n) at_stage) h in
        (λ i. option_or (option_map (λ o. o.at) (none.no_event i)) (cond (is_readying s n && not (none.not_cleared i)) (Some s.at) None))
        ∙ (unready g (is_readying s n) (at_ready (account_of j n) (λ at. let no : false ≡ true = sym h ∙ ready-queued j n at in cc) at_stage)
        ∙ ap (λ (r : Option Occurrence). stamp_by (is_readying s n) s.at g (option_map (λ o. o.at) r)) (sym none.no_event))

-- the least due moment is sought among the users of the journal and one that the event may add
pub first_due-append : (j : List Stamped) (s : Stamped) → first_due (j ++ s ∷ []) ≡ reduce sooner (filter_map (due_user (j ++ s ∷ [])) (users j ++ option_to_list (added_user j s)))
unfolding first_due
first_due-append j s = ap (λ us. reduce sooner (filter_map (due_user (j ++ s ∷ [])) us)) (users-append j s)

-- ---- members and subscribers

pub member_count-append : (j : List Stamped) (s : Stamped) (g : GroupId) → member_count (j ++ s ∷ []) g ≡ count_by (λ u. unwrap_or (membership_change g u j s.event) (is_member j g u)) (users j ++ option_to_list (added_user j s))
unfolding member_count
member_count-append j s g =
    ap (count_by (is_member (j ++ s ∷ []) g)) (users-append j s)
    ∙ sum_by_same (λ u. cond (is_member (j ++ s ∷ []) g u) 1 0) (λ u. cond (unwrap_or (membership_change g u j s.event) (is_member j g u)) 1 0) (λ u. ap (λ b. cond b 1 0) (is_member-append j s g u)) (users j ++ option_to_list (added_user j s))

pub subscriber_count-append : (j : List Stamped) (s : Stamped) (c : ChannelId) → subscriber_count (j ++ s ∷ []) c ≡ count_by (λ u. unwrap_or (subscription_change u c s.event) (subscribed j u c)) (users j ++ option_to_list (added_user j s))
unfolding subscriber_count
subscriber_count-append j s c =
    ap (count_by (λ u. subscribed (j ++ s ∷ []) u c)) (users-append j s)
    ∙ sum_by_same (λ u. cond (subscribed (j ++ s ∷ []) u c) 1 0) (λ u. cond (unwrap_or (subscription_change u c s.event) (subscribed j u c)) 1 0) (λ u. ap (λ b. cond b 1 0) (subscribed-append j s u c)) (users j ++ option_to_list (added_user j s))
