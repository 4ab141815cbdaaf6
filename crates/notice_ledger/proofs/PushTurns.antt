-- Where push notices stand after an event: a push turn hands its notice over or switches it off, and no other event does.
use Rattle.std.proofs.Common.{◌≡◌, ℕ, Bool, true, false, ◌&&◌, ◌||◌, cond, List, [], ◌∷◌, ◌++◌, refl, sym, ap, ◌∙◌}
use Rattle.std.specs.Prelude.{Option, Some, None, find, is_some, if◌then◌else◌}
use Rattle.std.specs.Option.{option_map_or, option_or}
use Rattle.std.proofs.Math.Bool.{and-false, or-false}
use Rattle.std.proofs.lemmas.List.Folds.{find-append}
use Rattle.chat_model.specs.declared.event.Stamped.{Stamped}
use Rattle.chat_model.specs.declared.event.Event.TheVariants.{PushTurn}
use Rattle.chat_model.specs.declared.ids.UserId.{UserId}
use Rattle.chat_model.specs.declared.ids.MessageId.{MessageId}
use Rattle.chat_model.specs.declared.push_item.PushItem.TheVariants.{Notify}
use Rattle.chat_model.specs.declared.row.Cause.{Cause}
use Rattle.chat_model.specs.declared.row.Cause.TheVariants.{SwitchedOff}
use Rattle.chat_model.specs.declared.trigger.Way.{Way}
use Rattle.chat_model.specs.declared.trigger.Way.TheVariants.{Push}
use Rattle.notice_ledger.specs.declared.accounts.Account.{Account}
use Rattle.notice_ledger.specs.declared.accounts.Account.TheVariants.{NotOwed, Flight, Held, Ready, Handed, Cancelled, LiveQueue}
use Rattle.notice_ledger.specs.Past.Journal.{occurrence}
use Rattle.notice_ledger.specs.Past.Owed.{Notice, is_of, notices, notice_to, owed_by, cause_of_bar, switch_on, decided, account_of, account, is_handed}
use Rattle.notice_ledger.specs.Past.Audit.{same_account}
use Rattle.notice_ledger.specs.Past.Pushes.{is_push_turn}
use Rattle.notice_ledger.proofs.Appended.{notices-append}
use Rattle.notice_ledger.proofs.Found.{find-passes}
use Rattle.notice_ledger.proofs.OneMore.{account-append, account-append_new}
use Rattle.notice_ledger.proofs.PushesWait.{unturned}
use Rattle.notice_ledger.proofs.PushNotices.{IsQueuedPush, push_turn-of}
use Rattle.notice_ledger.proofs.Queued.{queued-account}
use Rattle.notice_ledger.proofs.Standing.{is_turn, is_readying, is_clearing, is_dealing, barring, barred_or, moved_by}

-- a notice stays owed
pub notice_to-append : (j : List Stamped) (s : Stamped) (u : UserId) (m : MessageId) (w : Way) (n : Notice) → notice_to j u m w ≡ Some n → notice_to (j ++ s ∷ []) u m w ≡ Some n
notice_to-append j s u m w n found =
    ap (find (is_of u m w)) (notices-append j s)
    ∙ (find-append (is_of u m w) (notices j) (owed_by (occurrence j s)) ∙ ap (λ o. option_or o (find (is_of u m w) (owed_by (occurrence j s)))) found)

-- a notice is handed where it was, or where it is ready and its turn hands it over
pub handed-moved : (tn rd cl dl : Bool) (c : Option Cause) (decision a : Account) → is_handed (moved_by tn rd cl dl c decision a) ≡ (is_handed a || (tn && (same_account a Ready && is_handed decision)))
handed-moved true rd cl dl c decision Ready = refl
handed-moved false rd cl dl None decision Ready = refl
handed-moved false rd cl dl (Some cause) decision Ready = refl
handed-moved tn rd cl dl c decision Held = by rd cl c ∙ sym (and-false tn)
  where
    by : (rd cl : Bool) (c : Option Cause) → is_handed (barred_or c (if rd then Ready else if cl then LiveQueue else Held)) ≡ false
    by rd cl (Some cause) = refl
    by true cl None = refl
    by false true None = refl
    by false false None = refl
handed-moved tn rd cl dl c decision Flight = by rd cl dl c ∙ sym (and-false tn)
  where
    by : (rd cl dl : Bool) (c : Option Cause) → is_handed (barred_or c (if rd then Ready else if cl then LiveQueue else if dl then Held else Flight)) ≡ false
    by rd cl dl (Some cause) = refl
    by true cl dl None = refl
    by false true dl None = refl
    by false false true None = refl
    by false false false None = refl
handed-moved tn rd cl dl None decision LiveQueue = sym (and-false tn)
handed-moved tn rd cl dl (Some cause) decision LiveQueue = sym (and-false tn)
handed-moved tn rd cl dl c decision Handed = refl
handed-moved tn rd cl dl c decision NotOwed = sym (and-false tn)
handed-moved tn rd cl dl c decision (Cancelled cause) = sym (and-false tn)

not_handed : (b : Bool) → is_handed (cond b Flight NotOwed) ≡ false
not_handed true = refl
not_handed false = refl

-- an event that is no push turn hands no push over
pub is_handed-same : (j : List Stamped) (s : Stamped) (u : UserId) (m : MessageId) → is_push_turn s.event ≡ false → is_handed (account (j ++ s ∷ []) u m Push) ≡ is_handed (account j u m Push)
is_handed-same j s u m other = by (notice_to j u m Push) refl
  where
    by : (o : Option Notice) → notice_to j u m Push ≡ o → is_handed (account (j ++ s ∷ []) u m Push) ≡ is_handed (option_map_or (account_of j) o NotOwed)
    by None e = ap is_handed (account-append_new j s u m Push e) ∙ not_handed (is_some (find (is_of u m Push) (owed_by (occurrence j s))))
    by (Some n) e =
        ap is_handed (account-append j s u m Push n e)
        ∙ (handed-moved (is_turn s n) (is_readying s n) (is_clearing s n) (is_dealing s n) (barring j s n) (decided n (occurrence j s)) (account_of j n)
        ∙ (ap (λ t. is_handed (account_of j n) || (t && (same_account (account_of j n) Ready && is_handed (decided n (occurrence j s))))) (unturned s u m n other (find-passes (is_of u m Push) (notices j) n e))
        ∙ or-false (is_handed (account_of j n))))

-- where the notice of a push turn stands after it: a bar before the turn has cancelled it, else the switch decides
pub account-pushed : (j : List Stamped) (at : ℕ) (u : UserId) (m : MessageId) (n : Notice) → IsQueuedPush j u m n
    → account (j ++ record { at = at; event = PushTurn (Notify u m) } ∷ []) u m Push ≡ option_map_or Cancelled (cause_of_bar j n) (if switch_on j u Push then Handed else Cancelled SwitchedOff)
account-pushed j at u m n of_it =
    let s : Stamped = record { at = at; event = PushTurn (Notify u m) } in
    let turned : is_turn s n ≡ true = push_turn-of at u m n ∙ of_it.is_of_it in
    let on : switch_on j n.user n.way ≡ switch_on j u Push = (λ i. switch_on j (of_it.is.user i) (of_it.is.way i)) in
    account-append j s u m Push n of_it.notice
    ∙ ((λ i. moved_by (turned i) (is_readying s n) (is_clearing s n) (is_dealing s n) (barring j s n) (if on i then Handed else Cancelled SwitchedOff) (queued-account j n of_it.queued i))
    ∙ by (is_readying s n) (is_clearing s n) (is_dealing s n) (barring j s n) (if switch_on j u Push then Handed else Cancelled SwitchedOff) (cause_of_bar j n))
  where
    by : (rd cl dl : Bool) (b : Option Cause) (decision : Account) (c : Option Cause) → moved_by true rd cl dl b decision (option_map_or Cancelled c Ready) ≡ option_map_or Cancelled c decision
    by rd cl dl b decision None = refl
    by rd cl dl b decision (Some cause) = refl
