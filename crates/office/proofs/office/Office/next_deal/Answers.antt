use Rattle.std.proofs.Common.{◌≡◌, ℕ, ◌^◌, ◌<◌, List, length, sym, ap, subst, arith}
use Rattle.std.specs.Prelude.{Some, slice_get}
use Rattle.std.proofs.lemmas.Option.{slice_get_within}
use Rattle.chat_model.specs.declared.deal.Deal.{Deal}
use Rattle.chat_model.specs.declared.event.Stamped.{Stamped}
use Rattle.chat_model.specs.declared.ids.DealNo.{DealNo}
use Rattle.notice_ledger.specs.Past.Deals.{deals}
use Rattle.notice_ledger.specs.Lawful.{lawful}
use Rattle.notice_ledger.proofs.DealLemmas.{deal-at}
use Rattle.office.specs.Deals.{CanBeDealt}
use Rattle.office.proofs.office.Office.next_deal.Goals as goal

-- a deal of the journal can be dealt, where there are not too many for a number to follow it
can_be_dealt : (past : List Stamped) (k : DealNo) (d : Deal) → slice_get (deals past) k.0 ≡ Some d → length (deals past) < 2 ^ 64 → CanBeDealt k d
can_be_dealt past k d found few =
    let at = deal-at past k.0 d found in
    let within = slice_get_within (deals past) k.0 d found in
    let number_of : ℕ → DealNo = λ n. record { 0 = n } in
    record {
      number = ap number_of at.0;
      ascending = at.1;
      not_last = omega (arith, at.0, within, few);
    }

pub returns-in_ok-copy-in-Some-clause-can_be_dealt : goal.returns-in_ok-copy-in-Some-clause-can_be_dealt
returns-in_ok-copy-in-Some-clause-can_be_dealt g c =
    let t = c.self.inside.tables in
    let past = lawful c.self.inside.journal.items in
    let few : length (deals past) < 2 ^ 64 = omega (arith, t.deals.small, t.deals.ok.0, ap length c.self.invariant.tables.deals) in
    subst (CanBeDealt c.args.number) (sym c.in_ok-copy-in-Some.ensures)
    (can_be_dealt past c.args.number c.in-Some.deal.now (sym (c.in-Some.ensures.deal c.self.inside.journal.items c.self.invariant.tables)) few)
