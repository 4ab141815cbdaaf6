use Rattle.std.proofs.Common.{ℕ, List, Some, sym, ap, refl, ◌∙◌, subst}
use Rattle.std.proofs.lemmas.Bool.{and_parts}
use Rattle.std.specs.Option.{option_map_or}
use Rattle.std.specs.Prelude.{Option, slice_get, false, ◌≡◌, true, nat_le, ◌++◌, ◌∷◌, [], Result, IfOk}
use Rattle.chat_model.specs.declared.memory.OutOfMemory.{OutOfMemory}
use Rattle.chat_model.specs.Rows.{changed_all}
use Rattle.chat_model.specs.declared.event.Stamped.{Stamped}
use Rattle.chat_model.specs.declared.event.Event.{Event}
use Rattle.chat_model.specs.declared.event.Event.TheVariants.{Restart, Asked, Absorbed, MailTurn, PushTurn}
use Rattle.notice_ledger.specs.Lawful.{lawful, is_lawful_after}
use Rattle.notice_ledger.specs.Past.Journal.{last_stamp}
use Rattle.notice_ledger.specs.Past.Lawful.{may_stand}
use Rattle.notice_ledger.specs.Rows.{rows}
use Rattle.chat_model.specs.declared.push_item.PushItem.{PushItem}
use Rattle.notice_ledger.specs.Past.Pushes.{is_push_turn, same_item}
use Rattle.notice_ledger.proofs.PushesWait.{turned_first, same_item-exact}
use Rattle.book_tables.specs.declared.tables.Tables.{Tables}
use Rattle.book_tables.specs.declared.prepared.Prepared.{Prepared}
use Rattle.book_tables.specs.Tables.{StandsFor, IsOldest}
use Rattle.book_tables.specs.Prepared.{Follows, FollowsAll, IsPreparedFor, MayFollow, changes_of}
use Rattle.notice_ledger.proofs.LawfulLemmas.{lawful-lawful}
use Rattle.book_tables.proofs.Steps.{if_ok_then}
use Rattle.book_tables.proofs.RowsAfter.{changes-kept}
use Rattle.book_tables.proofs.tables.Tables.prepare.Goals as goal

-- what was prepared for the event, of each journal for which the tables stand
module _ (t : Tables) (s : Stamped) (e : Event) (turn : (j : List Stamped) → StandsFor t j → is_push_turn e ≡ true → may_stand (lawful j) s.at e ≡ true) (p : Prepared) (is : s.event ≡ e) (follows : FollowsAll t (record { at = s.at; event = e }) p) where
  prepared : (j : List Stamped) → StandsFor t j → IsPreparedFor j s p
  prepared j stands =
      subst (λ (x : Event). Follows (lawful j) (record { at = s.at; event = x }) p) (sym is) (follows (lawful j) stands (lawful-lawful j, turn j stands))

  -- it gives the rows of the journal with the event
  kept : (j : List Stamped) → StandsFor t j → is_lawful_after j s ≡ true → changed_all (changes_of p) (rows j) ≡ rows (j ++ s ∷ [])
  kept j stands next = changes-kept j s p next (prepared j stands)

-- the two clauses, of what follows from a fact on an `Ok`
module _ (t : Tables) (s : Stamped) (e : Event) (turn : (j : List Stamped) → StandsFor t j → is_push_turn e ≡ true → may_stand (lawful j) s.at e ≡ true) (is : s.event ≡ e) (result : Result Prepared OutOfMemory) (follows : IfOk result (λ p. FollowsAll t (record { at = s.at; event = e }) p)) where
  all_prepared : IfOk result (λ p. (j : List Stamped) → StandsFor t j → IsPreparedFor j s p)
  all_prepared =
      if_ok_then (λ (p : Prepared). FollowsAll t (record { at = s.at; event = e }) p)
      (λ (p : Prepared). (j : List Stamped) → StandsFor t j → IsPreparedFor j s p) (λ p f. prepared t s e turn p is f) result follows

  all_kept : IfOk result (λ p. (j : List Stamped) → StandsFor t j → is_lawful_after j s ≡ true → changed_all (changes_of p) (rows j) ≡ rows (j ++ s ∷ []))
  all_kept =
      if_ok_then (λ (p : Prepared). FollowsAll t (record { at = s.at; event = e }) p)
      (λ (p : Prepared). (j : List Stamped) → StandsFor t j → is_lawful_after j s ≡ true → changed_all (changes_of p) (rows j) ≡ rows (j ++ s ∷ [])) (λ p f. kept t s e turn p is f) result follows

-- the item of a turn that may come waits longest
oldest : (t : Tables) (s : Stamped) (item : PushItem) → s.event ≡ PushTurn item → MayFollow t s → IsOldest t item
oldest t s item is may =
    let j = may.0 in
    let stand = (and_parts (nat_le (last_stamp (lawful j)) s.at) (may_stand (lawful j) s.at s.event) may.2).1 in
    (j, may.1, turned_first (lawful j) s.at item (subst (λ (e : Event). may_stand (lawful j) s.at e ≡ true) is stand))

-- so the turn of the item that waits longest may come
turned : (t : Tables) (item : PushItem) (waits : IsOldest t item) (at : ℕ) (j : List Stamped) → StandsFor t j → may_stand (lawful j) at (PushTurn item) ≡ true
turned t item waits at j stands =
    ap (λ (o : Option PushItem). option_map_or (same_item item) o false) (ap (λ (is : List PushItem). slice_get is 0) (sym stands.items ∙ waits.1.items) ∙ waits.2) ∙ (same_item-exact item item).1 refl

pub returns-in-Restart-clause-prepared : goal.returns-in-Restart-clause-prepared
returns-in-Restart-clause-prepared c = all_prepared c.args.self.now c.args.event.now Restart (λ j stands no. absurd (cc)) c.in-Restart.is c.prepare_start.result c.prepare_start.ensures

pub returns-in-Restart-clause-changes : goal.returns-in-Restart-clause-changes
returns-in-Restart-clause-changes c = all_kept c.args.self.now c.args.event.now Restart (λ j stands no. absurd (cc)) c.in-Restart.is c.prepare_start.result c.prepare_start.ensures

pub returns-in-Absorbed-clause-prepared : goal.returns-in-Absorbed-clause-prepared
returns-in-Absorbed-clause-prepared c = all_prepared c.args.self.now c.args.event.now (Absorbed c.in-Absorbed.outcome) (λ j stands no. absurd (cc)) c.in-Absorbed.is c.prepare_absorbed.result c.prepare_absorbed.ensures

pub returns-in-Absorbed-clause-changes : goal.returns-in-Absorbed-clause-changes
returns-in-Absorbed-clause-changes c = all_kept c.args.self.now c.args.event.now (Absorbed c.in-Absorbed.outcome) (λ j stands no. absurd (cc)) c.in-Absorbed.is c.prepare_absorbed.result c.prepare_absorbed.ensures

pub returns-in-Asked-clause-prepared : goal.returns-in-Asked-clause-prepared
returns-in-Asked-clause-prepared c = all_prepared c.args.self.now c.args.event.now (Asked c.in-Asked.request) (λ j stands no. absurd (cc)) c.in-Asked.is c.prepare_asked.result c.prepare_asked.ensures

pub returns-in-Asked-clause-changes : goal.returns-in-Asked-clause-changes
returns-in-Asked-clause-changes c = all_kept c.args.self.now c.args.event.now (Asked c.in-Asked.request) (λ j stands no. absurd (cc)) c.in-Asked.is c.prepare_asked.result c.prepare_asked.ensures

pub returns-in-MailTurn-clause-prepared : goal.returns-in-MailTurn-clause-prepared
returns-in-MailTurn-clause-prepared c = all_prepared c.args.self.now c.args.event.now (MailTurn c.in-MailTurn.user) (λ j stands no. absurd (cc)) c.in-MailTurn.is c.prepare_mails.result c.prepare_mails.ensures

pub returns-in-MailTurn-clause-changes : goal.returns-in-MailTurn-clause-changes
returns-in-MailTurn-clause-changes c = all_kept c.args.self.now c.args.event.now (MailTurn c.in-MailTurn.user) (λ j stands no. absurd (cc)) c.in-MailTurn.is c.prepare_mails.result c.prepare_mails.ensures

pub returns-in-PushTurn-clause-prepared : goal.returns-in-PushTurn-clause-prepared
returns-in-PushTurn-clause-prepared c = all_prepared c.args.self.now c.args.event.now (PushTurn c.in-PushTurn.item) (λ j stands is. turned c.args.self.now c.in-PushTurn.item (oldest c.args.self.now c.args.event.now c.in-PushTurn.item c.in-PushTurn.is c.requires) c.args.event.now.at j stands) c.in-PushTurn.is c.prepare_turn.result c.prepare_turn.ensures

pub returns-in-PushTurn-clause-changes : goal.returns-in-PushTurn-clause-changes
returns-in-PushTurn-clause-changes c = all_kept c.args.self.now c.args.event.now (PushTurn c.in-PushTurn.item) (λ j stands is. turned c.args.self.now c.in-PushTurn.item (oldest c.args.self.now c.args.event.now c.in-PushTurn.item c.in-PushTurn.is c.requires) c.args.event.now.at j stands) c.in-PushTurn.is c.prepare_turn.result c.prepare_turn.ensures

pub prepare_turn-requires : goal.prepare_turn-requires
prepare_turn-requires c = oldest c.args.self.now c.args.event.now c.in-PushTurn.item c.in-PushTurn.is c.requires
