use Rattle.std.proofs.Common.{ℕ, ◌&&◌, sym, ◌∙◌, subst}
use Rattle.std.specs.Prelude.{Option}
use Rattle.book_tables.specs.declared.tables.Waiting.{Waiting}
use Rattle.book_tables.specs.Notices.{is_at, is_ready, is_ready_of, IsFound}
use Rattle.book_tables.proofs.Sought.{none-both, only-both, none-second, none-same, only-same, rows-at}
use Rattle.book_tables.proofs.waiting.find_ready.Goals as goal

pub returns-in_err-place-clause-found : goal.returns-in_err-place-clause-found
returns-in_err-place-clause-found c = λ order numbered.
    let ws = c.args.waiting.now in let u = c.args.user in let m = c.args.message in let way = c.args.way in let k = c.in_ok-deal.deal in
    subst (λ (o : Option ℕ). IsFound (is_ready_of u m way) ws o) (sym c.from_residual-in_err-place.ensures)
    (none-same (λ (w : Waiting). is_at k u way w && is_ready w) (is_ready_of u m way) ws (rows-at k u m way ws c.in_ok-deal.ensures numbered) (none-both (is_at k u way) is_ready ws (c.in_err-place.ensures.found order)))

pub returns-then-is_ready-clause-found : goal.returns-then-is_ready-clause-found
returns-then-is_ready-clause-found c = λ order numbered.
    let ws = c.args.waiting.now in let u = c.args.user in let m = c.args.message in let way = c.args.way in let k = c.in_ok-deal.deal in
    only-same (λ (w : Waiting). is_at k u way w && is_ready w) (is_ready_of u m way) ws c.in_ok-place.place (rows-at k u m way ws c.in_ok-deal.ensures numbered)
    (only-both (is_at k u way) is_ready ws c.in_ok-place.place _ (c.in_ok-place.ensures.found order) (sym c.is_ready.ensures ∙ c.if-is_ready.true))

pub returns-else-is_ready-clause-found : goal.returns-else-is_ready-clause-found
returns-else-is_ready-clause-found c = λ order numbered.
    let ws = c.args.waiting.now in let u = c.args.user in let m = c.args.message in let way = c.args.way in let k = c.in_ok-deal.deal in
    none-same (λ (w : Waiting). is_at k u way w && is_ready w) (is_ready_of u m way) ws (rows-at k u m way ws c.in_ok-deal.ensures numbered)
    (none-second (is_at k u way) is_ready ws c.in_ok-place.place _ (c.in_ok-place.ensures.found order) (sym c.is_ready.ensures ∙ c.if-is_ready.false))
