use Rattle.std.proofs.Common.{not, sym, ap, ◌∙◌}
use Rattle.book_tables.specs.Notices.{is_at, is_undecided}
use Rattle.book_tables.proofs.Sought.{only-both, none-second}
use Rattle.book_tables.proofs.waiting.find_undecided.Goals as goal

pub returns-then-is_ready-clause-found : goal.returns-then-is_ready-clause-found
returns-then-is_ready-clause-found c = λ order.
    none-second (is_at c.args.deal c.args.user c.args.way) is_undecided c.args.waiting.now c.in_ok-place.place _ (c.in_ok-place.ensures.found order) (ap not (sym c.is_ready.ensures ∙ c.if-is_ready.true))

pub returns-else-is_ready-clause-found : goal.returns-else-is_ready-clause-found
returns-else-is_ready-clause-found c = λ order.
    only-both (is_at c.args.deal c.args.user c.args.way) is_undecided c.args.waiting.now c.in_ok-place.place _ (c.in_ok-place.ensures.found order) (ap not (sym c.is_ready.ensures ∙ c.if-is_ready.false))
