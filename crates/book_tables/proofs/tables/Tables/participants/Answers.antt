use Rattle.std.proofs.Common.{ap, ◌∙◌}
use Rattle.book_tables.specs.Gathered.{took_part_from}
use Rattle.book_tables.proofs.Addressed.{senders-take_part}
use Rattle.book_tables.proofs.tables.Tables.participants.Goals as goal

pub returns : goal.returns
returns c = λ past u h.
    let channel = c.args.channel in let topic = c.args.topic.now in
    c.set_of.ensures u
    ∙ (c.in_ok-users.ensures u
    ∙ ((λ i. took_part_from (c.deref-2.ensures.value i) u channel topic 1 (c.deref.ensures.value i)) ∙ senders-take_part c.args.self.now past h u channel topic))
