use Rattle.std.proofs.Common.{◌≡◌, true, [], ◌∷◌, ◌++◌, ap, ◌∙◌, refl, subst}
use Rattle.chat_model.specs.declared.push_item.PushItem.TheVariants.{Notify}
use Rattle.notice_ledger.specs.Lawful.{is_lawful_after}
use Rattle.notice_ledger.specs.Pushes.{oldest_item}
use Rattle.book_tables.specs.Tables.{IsVerdict}
use Rattle.book_tables.specs.declared.pushes.PushVerdict.TheVariants.{Hand, Drop}
use Rattle.office.specs.Office.{OfficeSeen, push_turn}
use Rattle.office.proofs.office.Office.notice_answer.Goals as goal

pub push_verdict-requires : goal.push_verdict-requires
push_verdict-requires g c =
    (c.self.inside.journal.items, c.self.invariant.tables, ap (λ (o : OfficeSeen g.row.K.Denot). oldest_item o.journal) c.self.view_is ∙ c.requires)

pub returns-in-Hand : goal.returns-in-Hand
returns-in-Hand g c = λ at next.
    let u = c.args.user in let m = c.args.message in
    let P : OfficeSeen g.row.K.Denot → Type 0 = λ o. is_lawful_after o.journal (push_turn at (Notify u m)) ≡ true → IsVerdict (o.journal ++ push_turn at (Notify u m) ∷ []) u m (Hand c.in-Hand.trigger) in
    let answered = subst P c.self.view_is (c.in-Hand.ensures c.self.inside.journal.items at c.self.invariant.tables) next in
    (c.requires, refl, answered.0, answered.1)

pub returns-in-Drop : goal.returns-in-Drop
returns-in-Drop g c = λ at next.
    let u = c.args.user in let m = c.args.message in
    let P : OfficeSeen g.row.K.Denot → Type 0 = λ o. is_lawful_after o.journal (push_turn at (Notify u m)) ≡ true → IsVerdict (o.journal ++ push_turn at (Notify u m) ∷ []) u m (Drop c.in-Drop.cause) in
    (c.requires, refl, subst P c.self.view_is (c.in-Drop.ensures c.self.inside.journal.items at c.self.invariant.tables) next)
