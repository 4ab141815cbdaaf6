-- Active pushes and their removals, event by event.
use Rattle.std.proofs.Common.{◌≡◌, ℕ, ◌<◌, Bool, true, false, ◌&&◌, ◌||◌, ◌==◌, not, cond, List, [], ◌∷◌, ◌++◌, length, drop, refl, sym, ap, ◌∙◌}
use Rattle.std.specs.Prelude.{Option, Some, None, find, filter, nat_lt, is_none, is_some}
use Rattle.std.specs.Option.{option_map_or, option_or}
use Rattle.std.specs.List.{AllByRecursion, list_any}
use Rattle.std.proofs.Math.Bool.{and-false, and-true, or-false}
use Rattle.std.proofs.lemmas.Bool.{and_parts, and_from, eq-eqb}
use Rattle.std.proofs.lemmas.List.{append-nil}
use Rattle.std.proofs.lemmas.List.Elements.{filter-append}
use Rattle.std.proofs.lemmas.List.Folds.{find-append, list_any-append}
use Rattle.chat_model.specs.declared.event.Stamped.{Stamped}
use Rattle.chat_model.specs.declared.event.Event.{Event}
use Rattle.chat_model.specs.declared.event.Event.TheVariants.{PushTurn}
use Rattle.chat_model.specs.declared.ids.UserId.{UserId}
use Rattle.chat_model.specs.declared.ids.MessageId.{MessageId}
use Rattle.chat_model.specs.declared.push_item.PushItem.TheVariants.{Notify, Remove}
use Rattle.chat_model.specs.declared.trigger.Way.{Way}
use Rattle.chat_model.specs.declared.trigger.Way.TheVariants.{Mail, Push}
use Rattle.notice_ledger.specs.declared.accounts.Account.{Account}
use Rattle.notice_ledger.specs.declared.accounts.Account.TheVariants.{Ready}
use Rattle.notice_ledger.specs.Past.Journal.{Occurrence, occurrence}
use Rattle.notice_ledger.specs.Past.Owed.{Notice, is_of, same_way, is_turn_of, is_push_turn_of, notices, notice_to, owed_by, bar, cause_of_bar, switch_on, account_of, is_handed}
use Rattle.notice_ledger.specs.Past.Audit.{same_account}
use Rattle.notice_ledger.specs.Past.Lawful.{may_stand}
use Rattle.notice_ledger.specs.Past.Pushes.{handed_at, is_revoked, is_removal_written, is_active, is_push_turn, waiting_items, removes}
use Rattle.notice_ledger.proofs.Apart.{Pairwise, Differ, notices-apart}
use Rattle.notice_ledger.proofs.Appended.{notices-append}
use Rattle.notice_ledger.proofs.Behind.{find_all}
use Rattle.notice_ledger.proofs.Found.{find-passes, of_parts}
use Rattle.notice_ledger.proofs.Lists.{filter_none, filter_same, filter_same_where, filter-filter}
use Rattle.notice_ledger.proofs.Parts.{any_removes-named}
use Rattle.notice_ledger.proofs.PushItems.{items_added}
use Rattle.notice_ledger.proofs.PushesWait.{PushesWait, added-unremoved, first_item, is_push_revoked, one-counted, removal-alone, removal-revoked, turned_first, unturned, unturned-removal, waiting_items-next, waiting_items-other}
use Rattle.notice_ledger.proofs.PushNotices.{IsQueuedPush, push_turn-at, push_turn-of}
use Rattle.notice_ledger.proofs.Queued.{ready-is}
use Rattle.notice_ledger.proofs.Revoked.{is_handed_now, handed_at-append, handed_at-handed, handed_at-last, handed_at-push, is_revoked-append, is_revoked_now, removals_added, removals_added-named, revoked-barred, revoked-once, revokes_now}
use Rattle.notice_ledger.proofs.Same.{same_user, same_message}
use Rattle.notice_ledger.proofs.Standing.{is_turn, barring}
use Rattle.notice_ledger.proofs.Waiting.{IsOwedBy, owed_by-each, owed-last, notices-placed}

-- ---- notices of the journal

-- the notice is the one of its user, message and way
abbrev pub IsOwed : List Stamped → Notice → Type 0
IsOwed j n = notice_to j n.user n.number n.way ≡ Some n

pub owed-placed : (j : List Stamped) (n : Notice) → IsOwed j n → n.owing.place < length j
owed-placed j n owed = find_all (λ n. n.owing.place < length j) (is_of n.user n.number n.way) (notices j) n (notices-placed j) owed

is_of-itself : (n : Notice) → is_of n.user n.number n.way n ≡ true
is_of-itself n = and_from (n.user.0 == n.user.0 && n.number.0 == n.number.0) (same_way n.way n.way) (and_from (n.user.0 == n.user.0) (n.number.0 == n.number.0) (eq-eqb n.user.0 n.user.0 refl) (eq-eqb n.number.0 n.number.0 refl)) (itself n.way)
  where
    itself : (w : Way) → same_way w w ≡ true
    itself Mail = refl
    itself Push = refl

-- two that differ do so both ways
differ-turned : (a b : Notice) → Differ a b → is_of b.user b.number b.way a ≡ false
differ-turned a b d = by (is_of b.user b.number b.way a) refl
  where
    by : (x : Bool) → is_of b.user b.number b.way a ≡ x → x ≡ false
    by false e = refl
    by true e =
        let same = of_parts b.user b.number b.way a e in
        let no : false ≡ true = sym d ∙ ((λ i. is_of (same.user i) (same.number i) (same.way i) b) ∙ is_of-itself b) in
        absurd (cc)

each-found : (ns : List Notice) → Pairwise Differ ns → AllByRecursion (λ n. find (is_of n.user n.number n.way) ns ≡ Some n) ns
each-found [] apart = tt
each-found (n ∷ ns) apart = (
  ap (λ b. cond b (Some n) (find (is_of n.user n.number n.way) ns)) (is_of-itself n),
  later ns (each-found ns apart.1) apart.0,
)
  where
    later : (ms : List Notice) → AllByRecursion (λ b. find (is_of b.user b.number b.way) ns ≡ Some b) ms → AllByRecursion (Differ n) ms → AllByRecursion (λ b. find (is_of b.user b.number b.way) (n ∷ ns) ≡ Some b) ms
    later [] found differ = tt
    later (b ∷ ms) found differ = (ap (λ t. cond t (Some n) (find (is_of b.user b.number b.way) ns)) (differ-turned n b differ.0) ∙ found.0, later ms found.1 differ.1)

pub notices-owed : (j : List Stamped) → AllByRecursion (IsOwed j) (notices j)
notices-owed j = each-found (notices j) (notices-apart j)

-- ---- what waits of the removals of a push

-- the event is the turn of an item that removes the push
abbrev pub is_removal_of : UserId → MessageId → Event → Bool
is_removal_of u m (PushTurn i) = removes u m i
is_removal_of u m _ = false

-- the items that a turn leaves remove a push of the user's message
abbrev pub left_removes : List Stamped → Event → UserId → MessageId → Bool
left_removes j e u m = list_any (removes u m) (drop (cond (is_push_turn e) 1 0) (waiting_items j))

-- the push was among the removals that waited where the turn's item removes it, or one of those behind it
pub left-removed : (j : List Stamped) (at : ℕ) (e : Event) (u : UserId) (m : MessageId) → may_stand j at e ≡ true → list_any (removes u m) (waiting_items j) ≡ (is_removal_of u m e || left_removes j e u m)
left-removed j at (PushTurn i) u m may = ap (list_any (removes u m)) (first_item (waiting_items j) i (turned_first j at i may))
left-removed j at e u m may = refl

-- what a turn removes was revoked, and nothing behind its item removes it
record IsRemovedAlone (j : List Stamped) (e : Event) (u : UserId) (m : MessageId) : Type 0 where
  alone : left_removes j e u m ≡ false
  revoked : is_push_revoked j u m ≡ true

removed-alone : (j : List Stamped) (at : ℕ) (e : Event) (u : UserId) (m : MessageId) → PushesWait j → may_stand j at e ≡ true → is_removal_of u m e ≡ true → IsRemovedAlone j e u m
removed-alone j at (PushTurn (Remove v ms)) u m h may removed =
    let parts = and_parts (v.0 == u.0) (list_any (λ n. n.0 == m.0) ms) removed in
    let user = same_user v u parts.0 in
    let first : waiting_items j ≡ Remove u ms ∷ drop 1 (waiting_items j) = first_item (waiting_items j) (Remove v ms) (turned_first j at (Remove v ms) may) ∙ ap (λ (x : UserId). Remove x ms ∷ drop 1 (waiting_items j)) user in
    record {
      alone = removal-alone j u ms (drop 1 (waiting_items j)) h first m parts.1;
      revoked = removal-revoked j u ms (drop 1 (waiting_items j)) h first m parts.1;
    }
removed-alone j at (PushTurn (Notify v k)) u m h may removed = absurd (cc)
removed-alone j at e u m h may removed = absurd (cc)

-- the removals that an event adds remove the push exactly where the event revokes it
added-removes : (j : List Stamped) (s : Stamped) (n : Notice) → IsOwed j n → n.way ≡ Push → list_any (removes n.user n.number) (removals_added j s) ≡ revokes_now j s n
added-removes j s n owed push =
    any_removes-named n.user n.number (removals_added j s)
    ∙ (ap (nat_lt 0) (removals_added-named j s n.user n.number ∙ one-counted j (is_revoked_now j s n.user) n.user n.number)
    ∙ (some (option_map_or (is_revoked_now j s n.user) (notice_to j n.user n.number Push) false)
    ∙ (ap (λ o. option_map_or (is_revoked_now j s n.user) o false) (ap (notice_to j n.user n.number) (sym push) ∙ owed)
    ∙ ap (λ b. b && revokes_now j s n) (eq-eqb n.user.0 n.user.0 refl))))
  where
    some : (b : Bool) → nat_lt 0 (cond b 1 0) ≡ b
    some true = refl
    some false = refl

pub removes-after : (j : List Stamped) (s : Stamped) (n : Notice) → PushesWait j → may_stand j s.at s.event ≡ true → IsOwed j n → n.way ≡ Push
    → list_any (removes n.user n.number) (waiting_items (j ++ s ∷ [])) ≡ (left_removes j s.event n.user n.number || revokes_now j s n)
removes-after j s n h may owed push =
    let test = removes n.user n.number in
    let left = drop (cond (is_push_turn s.event) 1 0) (waiting_items j) in
    ap (list_any test) (waiting_items-next j s h may)
    ∙ (list_any-append test left (items_added j s ++ removals_added j s)
    ∙ ap (λ b. list_any test left || b) (list_any-append test (items_added j s) (removals_added j s)
    ∙ (λ i. (any_removes-named n.user n.number (items_added j s) ∙ ap (nat_lt 0) (added-unremoved j s n.user n.number)) i || added-removes j s n owed push i)))

-- ---- active pushes

-- a push that is revoked, or that the event revokes, was handed over
revoked-was_handed : (j : List Stamped) (n : Notice) → is_revoked j n ≡ true → is_some (handed_at j n) ≡ true
revoked-was_handed j n h = (and_parts (is_some (handed_at j n)) (is_some (bar j n)) (sym (revoked-barred j n) ∙ h)).0

revokes-was_handed : (j : List Stamped) (s : Stamped) (n : Notice) → revokes_now j s n ≡ true → is_some (handed_at j n) ≡ true
revokes-was_handed j s n h = (and_parts (is_some (handed_at j n)) (is_none (bar j n) && is_some (barring j s n)) h).0

-- none is handed over again
handed-once : (j : List Stamped) (s : Stamped) (n : Notice) → n.way ≡ Push → is_handed_now j s n ≡ true → is_some (handed_at j n) ≡ false
handed-once j s n push now =
    let turned = and_parts (is_turn s n) (same_account (account_of j n) Ready && switch_on j n.user n.way) (and_parts (same_way n.way Push) (is_turn s n && (same_account (account_of j n) Ready && switch_on j n.user n.way)) now).1 in
    let at_ready = and_parts (same_account (account_of j n) Ready) (switch_on j n.user n.way) turned.1 in
    handed_at-handed j n (ap (λ (w : Way). same_way w Push) push) ∙ by (account_of j n) at_ready.0
  where
    by : (a : Account) → same_account a Ready ≡ true → is_handed a ≡ false
    by Ready e = refl
    by a e = absurd (cc)

-- what is told of a push before an event, and of the event
pub record IsStanding (handed revoked now revokes first left : Bool) : Type 0 where
  pub revoked_handed : revoked ≡ true → handed ≡ true
  pub revokes_handed : revokes ≡ true → handed ≡ true
  pub once : revoked ≡ true → revokes ≡ false
  pub handed_once : now ≡ true → handed ≡ false
  pub first_revoked : first ≡ true → revoked ≡ true
  pub first_alone : first ≡ true → left ≡ false

pub standing : (j : List Stamped) (s : Stamped) (n : Notice) → PushesWait j → may_stand j s.at s.event ≡ true → IsOwed j n → n.way ≡ Push
    → IsStanding (is_some (handed_at j n)) (is_revoked j n) (is_handed_now j s n) (revokes_now j s n) (is_removal_of n.user n.number s.event) (left_removes j s.event n.user n.number)
standing j s n h may owed push = record {
  revoked_handed = revoked-was_handed j n;
  revokes_handed = revokes-was_handed j s n;
  once = revoked-once j s n;
  handed_once = handed-once j s n push;
  first_revoked = λ first.
      ap (λ o. option_map_or (is_revoked j) o false) (sym owed ∙ ap (notice_to j n.user n.number) push) ∙ (removed-alone j s.at s.event n.user n.number h may first).revoked;
  first_alone = λ first. (removed-alone j s.at s.event n.user n.number h may first).alone;
}

one_more : (handed revoked now revokes first left : Bool) → IsStanding handed revoked now revokes first left
    → ((handed || now) && not ((revoked || revokes) && not (left || revokes))) ≡ (((handed && not (revoked && not (first || left))) && not first) || now)
one_more false true now revokes first left is = let no : false ≡ true = is.revoked_handed refl in absurd (cc)
one_more false false now true first left is = let no : false ≡ true = is.revokes_handed refl in absurd (cc)
one_more false false now false true left is = let no : false ≡ true = is.first_revoked refl in absurd (cc)
one_more false false true false false left is = refl
one_more false false false false false left is = refl
one_more true revoked true revokes first left is = let no : true ≡ false = is.handed_once refl in absurd (cc)
one_more true true false true first left is = let no : true ≡ false = is.once refl in absurd (cc)
one_more true true false false true true is = let no : true ≡ false = is.first_alone refl in absurd (cc)
one_more true true false false true false is = refl
one_more true true false false false true is = refl
one_more true true false false false false is = refl
one_more true false false revokes true left is = let no : false ≡ true = is.first_revoked refl in absurd (cc)
one_more true false false true false true is = refl
one_more true false false true false false is = refl
one_more true false false false false true is = refl
one_more true false false false false false is = refl

or_now : {A : Type 0} (o : Option A) (b : Bool) (x : A) → is_some (option_or o (cond b (Some x) None)) ≡ (is_some o || b)
or_now None true x = refl
or_now None false x = refl
or_now (Some y) b x = refl

-- no mail is handed over as a push
pub unpushed-unhanded : (j : List Stamped) (n : Notice) → n.way ≡ Mail → handed_at j n ≡ None
unpushed-unhanded j n mail = none (handed_at j n) (handed_at-push j n)
  where
    none : (o : Option Occurrence) → (is_some o ≡ true → same_way n.way Push ≡ true) → o ≡ None
    none None f = refl
    none (Some t) f = let no : false ≡ true = ap (λ (w : Way). same_way w Push) (sym mail) ∙ f refl in absurd (cc)

-- a push is active from the turn that hands it over until the turn of its removal
pub is_active-append : (j : List Stamped) (s : Stamped) (n : Notice) → PushesWait j → may_stand j s.at s.event ≡ true → IsOwed j n
    → is_active (j ++ s ∷ []) n ≡ ((is_active j n && not (is_removal_of n.user n.number s.event)) || is_handed_now j s n)
is_active-append j s n h may owed = by n.way refl
  where
    by : (w : Way) → n.way ≡ w → is_active (j ++ s ∷ []) n ≡ ((is_active j n && not (is_removal_of n.user n.number s.event)) || is_handed_now j s n)
    by Mail e =
        ap (λ o. is_some o && not (is_removal_written (j ++ s ∷ []) n)) (unpushed-unhanded (j ++ s ∷ []) n e)
        ∙ sym ((λ i. ((is_some (unpushed-unhanded j n e i) && not (is_removal_written j n)) && not (is_removal_of n.user n.number s.event)) || (same_way (e i) Push && (is_turn s n && (same_account (account_of j n) Ready && switch_on j n.user n.way)))))
    by Push e =
        let placed = owed-placed j n owed in
        (λ i. (ap is_some (handed_at-append j s n placed) ∙ or_now (handed_at j n) (is_handed_now j s n) (occurrence j s)) i
        && not (is_revoked-append j s n placed i && not (removes-after j s n h may owed e i)))
        ∙ (one_more (is_some (handed_at j n)) (is_revoked j n) (is_handed_now j s n) (revokes_now j s n) (is_removal_of n.user n.number s.event) (left_removes j s.event n.user n.number) (standing j s n h may owed e)
        ∙ ap (λ b. ((is_some (handed_at j n) && not (is_revoked j n && not b)) && not (is_removal_of n.user n.number s.event)) || is_handed_now j s n) (sym (left-removed j s.at s.event n.user n.number may)))

-- what an event owes is not active
pub is_active-new : (j : List Stamped) (s : Stamped) (n : Notice) → IsOwedBy (occurrence j s) n → is_active (j ++ s ∷ []) n ≡ false
is_active-new j s n owed = ap (λ o. is_some o && not (is_removal_written (j ++ s ∷ []) n)) (handed_at-last (j ++ s ∷ []) n (owed-last j s n owed))

-- the active pushes after an event, among the notices before it
abbrev pub stays_active : List Stamped → Stamped → Notice → Bool
stays_active j s n = (is_active j n && not (is_removal_of n.user n.number s.event)) || is_handed_now j s n

pub active-append : (j : List Stamped) (s : Stamped) → PushesWait j → may_stand j s.at s.event ≡ true → filter (is_active (j ++ s ∷ [])) (notices (j ++ s ∷ [])) ≡ filter (stays_active j s) (notices j)
active-append j s h may =
    let later = is_active (j ++ s ∷ []) in
    ap (filter later) (notices-append j s)
    ∙ (filter-append later (notices j) (owed_by (occurrence j s))
    ∙ ((λ i. filter_same_where (IsOwed j) later (stays_active j s) (λ n owed. is_active-append j s n h may owed) (notices j) (notices-owed j) i
    ++ (filter_same_where (IsOwedBy (occurrence j s)) later (λ n. false) (is_active-new j s) (owed_by (occurrence j s)) (owed_by-each (occurrence j s)) ∙ filter_none (λ n. false) (λ n. refl) (owed_by (occurrence j s))) i)
    ∙ append-nil (filter (stays_active j s) (notices j))))

-- an event that is no turn of a push hands none over
unturned_now : (j : List Stamped) (s : Stamped) (n : Notice) → (n.way ≡ Push → is_turn s n ≡ false) → is_handed_now j s n ≡ false
unturned_now j s n other = by n.way refl
  where
    by : (w : Way) → n.way ≡ w → is_handed_now j s n ≡ false
    by Mail e = ap (λ (w : Way). same_way w Push && (is_turn s n && (same_account (account_of j n) Ready && switch_on j n.user n.way))) e
    by Push e = ap (λ t. same_way n.way Push && (t && (same_account (account_of j n) Ready && switch_on j n.user n.way))) (other e) ∙ and-false (same_way n.way Push)

stays-unturned : (j : List Stamped) (s : Stamped) (n : Notice) → (n.way ≡ Push → is_turn s n ≡ false) → stays_active j s n ≡ (is_active j n && not (is_removal_of n.user n.number s.event))
stays-unturned j s n other =
    ap (λ b. (is_active j n && not (is_removal_of n.user n.number s.event)) || b) (unturned_now j s n other) ∙ or-false (is_active j n && not (is_removal_of n.user n.number s.event))

pub no_removal : (u : UserId) (m : MessageId) (e : Event) → is_push_turn e ≡ false → is_removal_of u m e ≡ false
no_removal u m (PushTurn i) h = absurd (cc)
no_removal u m e h = refl

no_turn : (u : UserId) (m : MessageId) (e : Event) → is_push_turn e ≡ false → is_push_turn_of u m e ≡ false
no_turn u m (PushTurn i) h = absurd (cc)
no_turn u m e h = refl

-- an event that is no push turn leaves them
pub active-same : (j : List Stamped) (s : Stamped) → PushesWait j → may_stand j s.at s.event ≡ true → is_push_turn s.event ≡ false → filter (is_active (j ++ s ∷ [])) (notices (j ++ s ∷ [])) ≡ filter (is_active j) (notices j)
active-same j s h may other =
    active-append j s h may
    ∙ filter_same (stays_active j s) (is_active j) (λ n.
    stays-unturned j s n (λ push. ap (λ (w : Way). is_turn_of n.user n.number w s.event) push ∙ no_turn n.user n.number s.event other)
    ∙ (ap (λ b. is_active j n && not b) (no_removal n.user n.number s.event other) ∙ and-true (is_active j n))) (notices j)

-- the turn of a removal takes those that it removes
pub active-removed : (j : List Stamped) (at : ℕ) (v : UserId) (ms : List MessageId) → PushesWait j → may_stand j at (PushTurn (Remove v ms)) ≡ true
    → filter (is_active (j ++ record { at = at; event = PushTurn (Remove v ms) } ∷ [])) (notices (j ++ record { at = at; event = PushTurn (Remove v ms) } ∷ []))
    ≡ filter (λ n. not (removes n.user n.number (Remove v ms))) (filter (is_active j) (notices j))
active-removed j at v ms h may =
    let s : Stamped = record { at = at; event = PushTurn (Remove v ms) } in
    active-append j s h may
    ∙ (filter_same (stays_active j s) (λ n. is_active j n && not (removes n.user n.number (Remove v ms))) (λ n. stays-unturned j s n (λ _. unturned-removal at v ms n)) (notices j)
    ∙ sym (filter-filter (λ n. not (removes n.user n.number (Remove v ms))) (is_active j) (notices j)))

-- the turn of a notice adds its push, where it has no bar and the switch is on
pub active-pushed : (j : List Stamped) (at : ℕ) (v : UserId) (k : MessageId) (n : Notice) → PushesWait j → may_stand j at (PushTurn (Notify v k)) ≡ true → IsQueuedPush j v k n
    → filter (is_active (j ++ record { at = at; event = PushTurn (Notify v k) } ∷ [])) (notices (j ++ record { at = at; event = PushTurn (Notify v k) } ∷ []))
    ≡ filter (λ b. is_active j b || (is_of v k Push b && (is_none (cause_of_bar j n) && switch_on j v Push))) (notices j)
active-pushed j at v k n h may queued =
    let s : Stamped = record { at = at; event = PushTurn (Notify v k) } in
    active-append j s h may
    ∙ filter_same_where (IsOwed j) (stays_active j s) (λ b. is_active j b || (is_of v k Push b && (is_none (cause_of_bar j n) && switch_on j v Push)))
    (λ b owed i. and-true (is_active j b) i || now b owed (is_of v k Push b) refl i) (notices j) (notices-owed j)
  where
    now : (b : Notice) → IsOwed j b → (it : Bool) → is_of v k Push b ≡ it → is_handed_now j (record { at = at; event = PushTurn (Notify v k) }) b ≡ (it && (is_none (cause_of_bar j n) && switch_on j v Push))
    now b owed false e = unturned_now j (record { at = at; event = PushTurn (Notify v k) }) b (λ _. push_turn-of at v k b ∙ e)
    now b owed true e =
        let is = of_parts v k Push b e in
        let same : b ≡ n = only b n (sym owed ∙ ((λ i. notice_to j (is.user i) (is.number i) (is.way i)) ∙ queued.notice)) in
        ap (λ x. is_handed_now j (record { at = at; event = PushTurn (Notify v k) }) x) same
        ∙ (λ i. same_way (queued.is.way i) Push && ((push_turn-of at v k n ∙ queued.is_of_it) i && ((ready-is j n ∙ ap (λ b. b && is_none (cause_of_bar j n)) queued.queued) i && switch_on j (queued.is.user i) (queued.is.way i))))
      where
        only : (x n : Notice) → Some x ≡ Some n → x ≡ n
        only x n e = cc

-- ---- the push of a user and a message

-- it is active
abbrev pub is_push_active : List Stamped → UserId → MessageId → Bool
is_push_active j u m = option_map_or (is_active j) (notice_to j u m Push) false

-- a notice that is found is the one of its user, message and way
pub found-owed : (j : List Stamped) (u : UserId) (m : MessageId) (w : Way) (n : Notice) → notice_to j u m w ≡ Some n → IsOwed j n
found-owed j u m w n found =
    let is = of_parts u m w n (find-passes (is_of u m w) (notices j) n found) in
    (λ i. notice_to j (is.user i) (is.number i) (is.way i)) ∙ found

push_active-append : (j : List Stamped) (s : Stamped) (u : UserId) (m : MessageId) → PushesWait j → may_stand j s.at s.event ≡ true → is_push_active (j ++ s ∷ []) u m ≡ option_map_or (stays_active j s) (notice_to j u m Push) false
push_active-append j s u m h may =
    ap (λ ns. option_map_or (is_active (j ++ s ∷ [])) (find (is_of u m Push) ns) false) (notices-append j s)
    ∙ (ap (λ o. option_map_or (is_active (j ++ s ∷ [])) o false) (find-append (is_of u m Push) (notices j) (owed_by (occurrence j s)))
    ∙ by (notice_to j u m Push) refl (find (is_of u m Push) (owed_by (occurrence j s))) refl)
  where
    by : (o : Option Notice) → notice_to j u m Push ≡ o → (new : Option Notice) → find (is_of u m Push) (owed_by (occurrence j s)) ≡ new
        → option_map_or (is_active (j ++ s ∷ [])) (option_or o new) false ≡ option_map_or (stays_active j s) o false
    by (Some n) e new f = is_active-append j s n h may (found-owed j u m Push n e)
    by None e None f = refl
    by None e (Some n) f = is_active-new j s n (find_all (IsOwedBy (occurrence j s)) (is_of u m Push) (owed_by (occurrence j s)) n (owed_by-each (occurrence j s)) f)

-- an event that hands no push over leaves those that it doesn't remove
unhanded : (j : List Stamped) (s : Stamped) (n : Notice) (first : Bool) → is_turn s n ≡ false → ((is_active j n && not first) || is_handed_now j s n) ≡ (is_active j n && not first)
unhanded j s n first other =
    ap (λ t. (is_active j n && not first) || (same_way n.way Push && (t && (same_account (account_of j n) Ready && switch_on j n.user n.way)))) other
    ∙ (ap (λ b. (is_active j n && not first) || b) (and-false (same_way n.way Push)) ∙ or-false (is_active j n && not first))

-- an event that is no push turn leaves them all
pub push_active-same : (j : List Stamped) (s : Stamped) (u : UserId) (m : MessageId) → PushesWait j → may_stand j s.at s.event ≡ true → is_push_turn s.event ≡ false → is_push_active (j ++ s ∷ []) u m ≡ is_push_active j u m
push_active-same j s u m h may other = push_active-append j s u m h may ∙ by (notice_to j u m Push) refl
  where
    by : (o : Option Notice) → notice_to j u m Push ≡ o → option_map_or (stays_active j s) o false ≡ option_map_or (is_active j) o false
    by None e = refl
    by (Some n) e =
        unhanded j s n (is_removal_of n.user n.number s.event) (unturned s u m n other (find-passes (is_of u m Push) (notices j) n e))
        ∙ (ap (λ b. is_active j n && not b) (no_removal n.user n.number s.event other) ∙ and-true (is_active j n))

-- the turn of a removal ends those that it removes
pub push_active-removed : (j : List Stamped) (at : ℕ) (v : UserId) (ms : List MessageId) (u : UserId) (m : MessageId) → PushesWait j → may_stand j at (PushTurn (Remove v ms)) ≡ true
    → is_push_active (j ++ record { at = at; event = PushTurn (Remove v ms) } ∷ []) u m ≡ (is_push_active j u m && not (removes u m (Remove v ms)))
push_active-removed j at v ms u m h may = push_active-append j (record { at = at; event = PushTurn (Remove v ms) }) u m h may ∙ by (notice_to j u m Push) refl
  where
    by : (o : Option Notice) → notice_to j u m Push ≡ o → option_map_or (stays_active j (record { at = at; event = PushTurn (Remove v ms) })) o false ≡ (option_map_or (is_active j) o false && not (removes u m (Remove v ms)))
    by None e = refl
    by (Some n) e =
        let is = of_parts u m Push n (find-passes (is_of u m Push) (notices j) n e) in
        unhanded j (record { at = at; event = PushTurn (Remove v ms) }) n (removes n.user n.number (Remove v ms)) (unturned-removal at v ms n)
        ∙ (λ i. is_active j n && not (removes (is.user i) (is.number i) (Remove v ms)))

-- the turn of a notice makes its push active, where it has no bar and the switch is on, and no other
pub push_active-pushed : (j : List Stamped) (at : ℕ) (v : UserId) (k : MessageId) (n : Notice) (u : UserId) (m : MessageId) → PushesWait j → may_stand j at (PushTurn (Notify v k)) ≡ true → IsQueuedPush j v k n
    → is_push_active (j ++ record { at = at; event = PushTurn (Notify v k) } ∷ []) u m ≡ (is_push_active j u m || ((v.0 == u.0 && k.0 == m.0) && (is_none (cause_of_bar j n) && switch_on j v Push)))
push_active-pushed j at v k n u m h may queued = push_active-append j (record { at = at; event = PushTurn (Notify v k) }) u m h may ∙ by (v.0 == u.0 && k.0 == m.0) refl (notice_to j u m Push) refl
  where
    s : Stamped
    s = record { at = at; event = PushTurn (Notify v k) }

    here : (v.0 == u.0 && k.0 == m.0) ≡ true → notice_to j u m Push ≡ Some n
    here e =
        let parts = and_parts (v.0 == u.0) (k.0 == m.0) e in
        let user = same_user v u parts.0 in
        let message = same_message k m parts.1 in
        (λ i. notice_to j (sym user i) (sym message i) Push) ∙ queued.notice

    now : (b : Bool) → (v.0 == u.0 && k.0 == m.0) ≡ b → (x : Notice) → notice_to j u m Push ≡ Some x → is_handed_now j (record { at = at; event = PushTurn (Notify v k) }) x ≡ (b && (is_none (cause_of_bar j n) && switch_on j v Push))
    now false e x found =
        ap (λ t. same_way x.way Push && (t && (same_account (account_of j x) Ready && switch_on j x.user x.way))) (push_turn-at at v k u m x (find-passes (is_of u m Push) (notices j) x found) ∙ e)
        ∙ and-false (same_way x.way Push)
    now true e x found =
        let same : x ≡ n = only x n (sym found ∙ here e) in
        ap (λ x. is_handed_now j (record { at = at; event = PushTurn (Notify v k) }) x) same
        ∙ (λ i. same_way (queued.is.way i) Push && ((push_turn-of at v k n ∙ queued.is_of_it) i && ((ready-is j n ∙ ap (λ b. b && is_none (cause_of_bar j n)) queued.queued) i && switch_on j (queued.is.user i) (queued.is.way i))))
      where
        only : (x n : Notice) → Some x ≡ Some n → x ≡ n
        only x n e = cc

    by : (b : Bool) → (v.0 == u.0 && k.0 == m.0) ≡ b → (o : Option Notice) → notice_to j u m Push ≡ o
        → option_map_or (stays_active j (record { at = at; event = PushTurn (Notify v k) })) o false ≡ (option_map_or (is_active j) o false || (b && (is_none (cause_of_bar j n) && switch_on j v Push)))
    by true e None f = let no : Some n ≡ None = sym (here e) ∙ f in absurd (cc)
    by false e None f = refl
    by b e (Some x) f = (λ i. and-true (is_active j x) i || now b e x f i)

-- ---- an event that is no push turn, whether it may stand or not

removes-left : (j : List Stamped) (s : Stamped) (n : Notice) → PushesWait j → is_push_turn s.event ≡ false → IsOwed j n → n.way ≡ Push
    → list_any (removes n.user n.number) (waiting_items (j ++ s ∷ [])) ≡ (list_any (removes n.user n.number) (waiting_items j) || revokes_now j s n)
removes-left j s n h other owed push =
    let test = removes n.user n.number in
    ap (list_any test) (waiting_items-other j s h other)
    ∙ (list_any-append test (waiting_items j) (items_added j s ++ removals_added j s)
    ∙ ap (λ b. list_any test (waiting_items j) || b) (list_any-append test (items_added j s) (removals_added j s)
    ∙ (λ i. (any_removes-named n.user n.number (items_added j s) ∙ ap (nat_lt 0) (added-unremoved j s n.user n.number)) i || added-removes j s n owed push i)))

-- it leaves a notice active or not
is_active-left : (j : List Stamped) (s : Stamped) (n : Notice) → PushesWait j → is_push_turn s.event ≡ false → IsOwed j n → is_active (j ++ s ∷ []) n ≡ is_active j n
is_active-left j s n h other owed = by n.way refl
  where
    by : (w : Way) → n.way ≡ w → is_active (j ++ s ∷ []) n ≡ is_active j n
    by Mail e =
        ap (λ o. is_some o && not (is_removal_written (j ++ s ∷ []) n)) (unpushed-unhanded (j ++ s ∷ []) n e)
        ∙ sym (ap (λ o. is_some o && not (is_removal_written j n)) (unpushed-unhanded j n e))
    by Push e =
        let placed = owed-placed j n owed in
        let now = unturned_now j s n (λ push. ap (λ (w : Way). is_turn_of n.user n.number w s.event) push ∙ no_turn n.user n.number s.event other) in
        (λ i. (ap is_some (handed_at-append j s n placed) ∙ or_now (handed_at j n) (is_handed_now j s n) (occurrence j s)) i
        && not (is_revoked-append j s n placed i && not (removes-left j s n h other owed e i)))
        ∙ (one_more (is_some (handed_at j n)) (is_revoked j n) (is_handed_now j s n) (revokes_now j s n) false (list_any (removes n.user n.number) (waiting_items j)) (record {
          revoked_handed = revoked-was_handed j n;
          revokes_handed = revokes-was_handed j s n;
          once = revoked-once j s n;
          handed_once = handed-once j s n e;
          first_revoked = λ (never : false ≡ true). absurd (cc);
          first_alone = λ (never : false ≡ true). absurd (cc);
        })
        ∙ ((λ i. and-true (is_active j n) i || now i) ∙ or-false (is_active j n)))

-- and the push of a user and a message
pub push_active-left : (j : List Stamped) (s : Stamped) (u : UserId) (m : MessageId) → PushesWait j → is_push_turn s.event ≡ false → is_push_active (j ++ s ∷ []) u m ≡ is_push_active j u m
push_active-left j s u m h other =
    ap (λ ns. option_map_or (is_active (j ++ s ∷ [])) (find (is_of u m Push) ns) false) (notices-append j s)
    ∙ (ap (λ o. option_map_or (is_active (j ++ s ∷ [])) o false) (find-append (is_of u m Push) (notices j) (owed_by (occurrence j s)))
    ∙ by (notice_to j u m Push) refl (find (is_of u m Push) (owed_by (occurrence j s))) refl)
  where
    by : (o : Option Notice) → notice_to j u m Push ≡ o → (new : Option Notice) → find (is_of u m Push) (owed_by (occurrence j s)) ≡ new
        → option_map_or (is_active (j ++ s ∷ [])) (option_or o new) false ≡ option_map_or (is_active j) o false
    by (Some n) e new f = is_active-left j s n h other (found-owed j u m Push n e)
    by None e None f = refl
    by None e (Some n) f = is_active-new j s n (find_all (IsOwedBy (occurrence j s)) (is_of u m Push) (owed_by (occurrence j s)) n (owed_by-each (occurrence j s)) f)
