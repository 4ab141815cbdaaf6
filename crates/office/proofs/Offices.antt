-- What keeps an office one: a lawful event that was kept and followed.
use Rattle.std.proofs.Common.{◌≡◌, ℕ, ◌≤◌, Bool, true, false, ◌&&◌, ◌==◌, List, [], ◌∷◌, ◌++◌, Option, Some, None, max, refl, sym, ap, ◌∙◌, arith}
use Rattle.std.specs.Prelude.{IfSome, option_map, nat_le}
use Rattle.std.specs.Option.{option_map_or}
use Rattle.std.proofs.lemmas.Bool.{eq-eqb}
use Rattle.std.proofs.lemmas.Bool.Decides.{nat_tests}
use Rattle.chat_model.specs.declared.event.Stamped.{Stamped}
use Rattle.chat_model.specs.declared.event.Event.TheVariants.{Restart, Asked, MailTurn, PushTurn}
use Rattle.chat_model.specs.declared.push_item.PushItem.{PushItem}
use Rattle.chat_model.specs.declared.ids.UserId.{UserId}
use Rattle.chat_model.specs.declared.request.Request.{Request}
use Rattle.chat_model.specs.declared.request.Refusal.{Refusal}
use Rattle.chat_model.specs.declared.row.RowChange.{RowChange}
use Rattle.chat_model.specs.Rows.{changed_all}
use Rattle.keeper.specs.declared.keeper.Kept.{Kept}
use Rattle.keeper.specs.Kept.{committed}
use Rattle.notice_ledger.specs.Journal.{stamp}
use Rattle.notice_ledger.specs.Past.Journal.{last_stamp}
use Rattle.notice_ledger.specs.Refusals as any
use Rattle.notice_ledger.specs.Due.{DueUser, first_due}
use Rattle.notice_ledger.specs.InOrder.{in_order}
use Rattle.notice_ledger.proofs.InOrder.{in_order-may_stand}
use Rattle.notice_ledger.specs.Rows.{rows}
use Rattle.notice_ledger.specs.Lawful.{lawful, is_lawful_after}
use Rattle.notice_ledger.specs.Past.Lawful.{may_stand}
use Rattle.notice_ledger.specs.Past.Pushes.{same_item}
use Rattle.notice_ledger.specs.Pushes.{oldest_item}
use Rattle.notice_ledger.proofs.PushesWait.{same_item-exact}
use Rattle.book_tables.specs.declared.tables.Tables.{Tables}
use Rattle.book_tables.specs.Tables.{StandsFor}
use Rattle.office.specs.Office.{IsOffice, KeptStandsFor, push_turn}

-- what is kept stands for the journal with the event, once the event's changes are kept
kept_after : (told : Option Kept) (j : List Stamped) (s : Stamped) (cs : List RowChange) → changed_all cs (rows j) ≡ rows (j ++ s ∷ []) → IfSome told (KeptStandsFor j) → IfSome (option_map (committed s cs) told) (KeptStandsFor (j ++ s ∷ []))
kept_after None j s cs are kept = tt
kept_after (Some k) j s cs are kept = (ap (λ x. x ++ s ∷ []) kept.0, ap (changed_all cs) kept.1 ∙ are)

-- a lawful event that was kept and applied
pub office_after : (new : Tables) (j : List Stamped) (s : Stamped) (told : Option Kept) (cs : List RowChange) → IfSome told (KeptStandsFor j) → changed_all cs (rows j) ≡ rows (j ++ s ∷ []) → StandsFor new (j ++ s ∷ [])
    → IsOffice (option_map (committed s cs) told) (j ++ s ∷ []) new
office_after new j s told cs kept are stands = record {
  tables = stands;
  kept = kept_after told j s cs are kept;
}

-- what is kept stands for the loaded journal, where the loaded rows are that journal's
loaded_kept : (told : Option Kept) (loaded : Kept) → IfSome told (λ k. loaded ≡ k) → loaded.rows ≡ rows loaded.journal → IfSome told (KeptStandsFor loaded.journal)
loaded_kept None loaded same agree = tt
loaded_kept (Some k) loaded same agree = (ap (λ (x : Kept). x.journal) (sym same), ap (λ (x : Kept). x.rows) (sym same) ∙ agree)

-- an office over what was loaded, before its restart
pub loaded_office : (told : Option Kept) (loaded : Kept) (t : Tables) → StandsFor t loaded.journal → IfSome told (λ k. loaded ≡ k) → loaded.rows ≡ rows loaded.journal → IsOffice told loaded.journal t
loaded_office told loaded t stands same agree = record { tables = stands; kept = loaded_kept told loaded same agree }

pub both_hold : (a b : Bool) → a ≡ true → b ≡ true → (a && b) ≡ true
both_hold a b h k = rw (h, k)

pub not_below : (last now at : ℕ) → at ≡ max now last → nat_le last at ≡ true
not_below last now at e = grind (arith, nat_tests)

-- a request that is not refused is lawful once its lists are in order, at a stamp that is not below the last one
pub asked_lawful : (j : List Stamped) (now at : ℕ) (r : Request) → any.refusal j r ≡ None → at ≡ stamp j now → is_lawful_after j (record { at = at; event = Asked (in_order r) }) ≡ true
asked_lawful j now at r granted stamped =
    both_hold (nat_le (last_stamp (lawful j)) at) (may_stand (lawful j) at (Asked (in_order r))) (not_below (last_stamp (lawful j)) now at stamped) (in_order-may_stand (lawful j) at r granted)

due_now : (u : UserId) (at : ℕ) (d : DueUser) → d.user ≡ u → d.due ≤ at → (d.user.0 == u.0 && nat_le d.due at) ≡ true
due_now u at d e h = both_hold (d.user.0 == u.0) (nat_le d.due at) (eq-eqb d.user.0 u.0 (ap (λ (v : UserId). v.0) e)) (grind (arith, nat_tests))

-- the mail turn of the user with the least due moment is lawful once it is due
pub turn_lawful : (j : List Stamped) (now at : ℕ) (u : UserId) (d : DueUser) → first_due j ≡ Some d → d.user ≡ u → d.due ≤ at → at ≡ stamp j now → is_lawful_after j (record { at = at; event = MailTurn u }) ≡ true
turn_lawful j now at u d first e h stamped =
    both_hold (nat_le (last_stamp (lawful j)) at) (may_stand (lawful j) at (MailTurn u)) (not_below (last_stamp (lawful j)) now at stamped)
    (ap (λ o. option_map_or (λ d. d.user.0 == u.0 && nat_le d.due at) o false) first ∙ due_now u at d e h)

-- the push turn of the item that waits longest is lawful at a stamp that is not below the last one
pub push_turn_lawful : (j : List Stamped) (now at : ℕ) (item : PushItem) → oldest_item j ≡ Some item → at ≡ stamp j now → is_lawful_after j (push_turn at item) ≡ true
push_turn_lawful j now at item oldest stamped =
    both_hold (nat_le (last_stamp (lawful j)) at) (may_stand (lawful j) at (PushTurn item)) (not_below (last_stamp (lawful j)) now at stamped)
    (ap (λ o. option_map_or (same_item item) o false) oldest ∙ (same_item-exact item item).1 refl)

-- a restart is lawful at a stamp that is not below the last one
pub restart_lawful : (j : List Stamped) (now at : ℕ) → at ≡ stamp j now → is_lawful_after j (record { at = at; event = Restart }) ≡ true
restart_lawful j now at stamped = both_hold (nat_le (last_stamp (lawful j)) at) true (not_below (last_stamp (lawful j)) now at stamped) refl

pub no_refusal : (o : Option Refusal) → ((n : Refusal) → o ≡ Some n → ⊥) → o ≡ None
no_refusal None h = refl
no_refusal (Some n) h = absurd (h n refl)
