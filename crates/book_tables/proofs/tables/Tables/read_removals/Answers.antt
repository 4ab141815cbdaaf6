use Rattle.std.proofs.Common.{◌≡◌, List, ◌∙◌, subst}
use Rattle.book_tables.specs.Bars.{revoked_in}
use Rattle.book_tables.specs.declared.tables.Waiting.{Waiting}
use Rattle.book_tables.specs.Notices.{IsInOrder, AreNumbered}
use Rattle.revocation.specs.Removals.{removals_of}
use Rattle.book_tables.proofs.Ordered.{active_in_order, active_numbered_so}
use Rattle.book_tables.proofs.Revoking.{read-removals}
use Rattle.book_tables.proofs.tables.Tables.read_removals.Goals as goal

pub returns : goal.returns
returns c = λ past at holds ascends.
    let t = c.args.self.now in let u = c.args.user in let ms = c.args.messages.now in
    c.into_vec.ensures
    ∙ (subst (λ (vs : List Waiting). IsInOrder vs → AreNumbered vs → c.in_ok-items.items ≡ removals_of u (revoked_in vs u ms)) c.deref.ensures.value c.in_ok-items.ensures (active_in_order t past holds) (active_numbered_so t past holds)
    ∙ read-removals t past holds at u ms ascends)
