use Rattle.std.proofs.Common.{List, sym, ◌∙◌, subst}
use Rattle.book_tables.specs.declared.tables.Waiting.{Waiting}
use Rattle.book_tables.specs.Notices.{IsInOrder, AreNumbered, IsOnly, NonePasses}
use Rattle.book_tables.specs.Bars.{is_of_pair}
use Rattle.book_tables.proofs.Sought.{remove-only, none-gone}
use Rattle.book_tables.proofs.bars.take_of_pair.Goals as goal

pub returns-in-Some : goal.returns-in-Some
returns-in-Some c = λ order numbered.
    let test = is_of_pair c.args.pair c.args.way in let ws = c.args.notices.now.items in
    let only = subst (λ (vs : List Waiting). IsOnly test vs c.in-Some.place) c.deref.ensures.value (c.in-Some.ensures.found (subst IsInOrder (sym c.deref.ensures.value) order) (subst AreNumbered (sym c.deref.ensures.value) numbered)) in
    c.remove.ensures.by_index.2 ∙ remove-only test ws c.in-Some.place only

pub returns-in_default : goal.returns-in_default
returns-in_default c = λ order numbered.
    let test = is_of_pair c.args.pair c.args.way in let ws = c.args.notices.now.items in
    let none = subst (λ (vs : List Waiting). NonePasses test vs) c.deref.ensures.value (c.in_default.ensures.found (subst IsInOrder (sym c.deref.ensures.value) order) (subst AreNumbered (sym c.deref.ensures.value) numbered)) in
    sym (none-gone test ws none)
