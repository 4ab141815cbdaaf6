use Rattle.std.proofs.Common.{◌≡◌, true, sym, ap, ◌∙◌, subst}
use Rattle.notice_ledger.specs.Deals.{is_fresh}
use Rattle.notice_ledger.specs.Lawful.{is_lawful_after}
use Rattle.office.specs.Office.{OfficeSeen, fresh_after}
use Rattle.office.proofs.Reaching.{fresh-more}
use Rattle.office.proofs.office.Office.record.Goals as goal

pub invariant_of-self-2 : goal.invariant_of-self-2
invariant_of-self-2 g c =
    let s = c.args.stamped in
    let next = subst (λ (o : OfficeSeen g.row.K.Denot). is_lawful_after o.journal s ≡ true) (sym c.self.view_is) c.requires.lawful in
    record {
      tables = c.in_ok-record_event.ensures.office.tables;
      kept = c.in_ok-record_event.ensures.office.kept;
      unused_is =
          c.unused_after-unused.ensures
          ∙ (ap (λ fresh. fresh_after fresh s.event) c.self.invariant.unused_is
          ∙ sym (ap is_fresh c.in_ok-record_event.ensures.ok ∙ fresh-more c.self.inside.journal.items s next));
    }
