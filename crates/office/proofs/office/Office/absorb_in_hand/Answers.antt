use Rattle.std.proofs.Common.{◌≡◌, Some, ap, ◌∙◌, rules}
use Rattle.office.specs.Office.{OfficeSeen}
use Rattle.office.proofs.Reaching.{reached-absorbed}
use Rattle.office.proofs.office.Office.absorb_in_hand.Goals as goal

pub returns-clause-reached : goal.returns-clause-reached
returns-clause-reached g c =
    let held : c.args.self.now.in_hand ≡ Some c.in-Some.outcome = search rules in
    let added = ap (λ (o : OfficeSeen g.row.K.Denot). o.journal) c.self-2.view_is ∙ c.in_ok-record.ensures.ok in
    reached-absorbed c.args.self.now.journal c.self-2.inside.journal.items c.args.now c.stamp-at.result c.in-Some.outcome c.in_ok-copy.field-0 c.args.self.now.in_hand c.take.new.self
    c.stamp-at.ensures c.in_ok-copy.ensures held c.take.ensures.after added
