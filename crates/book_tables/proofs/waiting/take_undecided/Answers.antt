use Rattle.std.proofs.Common.{◌∷◌, [], List, sym, ap, ◌∙◌, subst}
use Rattle.std.specs.Prelude.{option_to_list}
use Rattle.book_tables.specs.declared.tables.Waiting.{Waiting}
use Rattle.book_tables.specs.Notices.{is_undecided_at, IsInOrder, IsOnly, NonePasses}
use Rattle.book_tables.proofs.Sought.{remove-only, none-gone, filter-none, filter-only}
use Rattle.book_tables.proofs.waiting.take_undecided.Goals as goal

pub returns-in_err-place-clause-taken : goal.returns-in_err-place-clause-taken
returns-in_err-place-clause-taken c = λ order.
    let test = is_undecided_at c.args.deal c.args.user c.args.way in let ws = c.args.waiting.now.items in
    let none = subst (λ (vs : List Waiting). NonePasses test vs) c.deref.ensures.value (c.in_err-place.ensures.found (subst IsInOrder (sym c.deref.ensures.value) order)) in
    ap option_to_list c.from_residual.ensures ∙ sym (filter-none test ws none)

pub returns-in_err-place-clause-rest : goal.returns-in_err-place-clause-rest
returns-in_err-place-clause-rest c = λ order.
    let test = is_undecided_at c.args.deal c.args.user c.args.way in let ws = c.args.waiting.now.items in
    let none = subst (λ (vs : List Waiting). NonePasses test vs) c.deref.ensures.value (c.in_err-place.ensures.found (subst IsInOrder (sym c.deref.ensures.value) order)) in
    sym (none-gone test ws none)

pub returns-clause-taken : goal.returns-clause-taken
returns-clause-taken c = λ order.
    let test = is_undecided_at c.args.deal c.args.user c.args.way in let ws = c.args.waiting.now.items in
    let only = subst (λ (vs : List Waiting). IsOnly test vs c.in_ok-place.place) c.deref.ensures.value (c.in_ok-place.ensures.found (subst IsInOrder (sym c.deref.ensures.value) order)) in
    ap (λ (w : Waiting). w ∷ []) c.remove.ensures.value ∙ sym (filter-only test ws c.in_ok-place.place c.remove.result only)

pub returns-clause-rest : goal.returns-clause-rest
returns-clause-rest c = λ order.
    let test = is_undecided_at c.args.deal c.args.user c.args.way in let ws = c.args.waiting.now.items in
    let only = subst (λ (vs : List Waiting). IsOnly test vs c.in_ok-place.place) c.deref.ensures.value (c.in_ok-place.ensures.found (subst IsInOrder (sym c.deref.ensures.value) order)) in
    c.remove.ensures.by_index.2 ∙ remove-only test ws c.in_ok-place.place only
