use Rattle.std.proofs.Common.{List, not, sym, ap, ◌∙◌, subst}
use Rattle.book_tables.specs.declared.tables.Waiting.{Waiting}
use Rattle.book_tables.specs.Notices.{barred_by, IsInOrder, AreNumbered, IsOnly, NonePasses}
use Rattle.book_tables.specs.Bars.{is_of_pair}
use Rattle.book_tables.proofs.Barring.{barred-ready, barred-undecided, barred-none, only-at}
use Rattle.book_tables.proofs.bars.bar_waiting.Goals as goal

pub returns-then-is_ready : goal.returns-then-is_ready
returns-then-is_ready c = λ order numbered.
    let ws = c.args.waiting.now.items in let test = is_of_pair c.args.pair c.args.way in
    let only = subst (λ (vs : List Waiting). IsOnly test vs c.in-Some.place) c.deref.ensures.value (c.in-Some.ensures.found (subst IsInOrder (sym c.deref.ensures.value) order) (subst AreNumbered (sym c.deref.ensures.value) numbered)) in
    barred-ready test c.args.cause ws c.in-Some.place c.index.result.now c.barred_by.result only c.index.ensures (ap not (sym c.is_ready.ensures ∙ c.if-is_ready.true))
    (c.barred_by.ensures ∙ ap (barred_by c.args.cause) (c.index-then-is_ready.ensures ∙ only-at test ws c.in-Some.place c.index.result.now c.index-then-is_ready.result.now only c.index.ensures))

pub returns-else-is_ready : goal.returns-else-is_ready
returns-else-is_ready c = λ order numbered.
    let ws = c.args.waiting.now.items in let test = is_of_pair c.args.pair c.args.way in
    let only = subst (λ (vs : List Waiting). IsOnly test vs c.in-Some.place) c.deref.ensures.value (c.in-Some.ensures.found (subst IsInOrder (sym c.deref.ensures.value) order) (subst AreNumbered (sym c.deref.ensures.value) numbered)) in
    c.remove.ensures.by_index.2 ∙ barred-undecided test c.args.cause ws c.in-Some.place c.index.result.now only c.index.ensures (ap not (sym c.is_ready.ensures ∙ c.if-is_ready.false))

pub returns-in_default : goal.returns-in_default
returns-in_default c = λ order numbered.
    let ws = c.args.waiting.now.items in let test = is_of_pair c.args.pair c.args.way in
    let none = subst (λ (vs : List Waiting). NonePasses test vs) c.deref.ensures.value (c.in_default.ensures.found (subst IsInOrder (sym c.deref.ensures.value) order) (subst AreNumbered (sym c.deref.ensures.value) numbered)) in
    sym (barred-none test c.args.cause ws none)
