use Rattle.std.proofs.Common.{not, sym, ap, ◌∙◌}
use Rattle.std.specs.Prelude.{option_to_list}
use Rattle.book_tables.specs.Notices.{is_barred}
use Rattle.book_tables.specs.Bars.{is_of_pair, is_unbarred_of}
use Rattle.book_tables.proofs.Sought.{none-both, only-both, none-second, filter-none, filter-only}
use Rattle.book_tables.proofs.bars.unbarred_of_pair.Goals as goal

pub returns-in_err-place : goal.returns-in_err-place
returns-in_err-place c = λ order numbered.
    let ws = c.args.notices.now in let p = c.args.pair in let way = c.args.way in
    ap option_to_list c.from_residual.ensures
    ∙ sym (filter-none (is_unbarred_of p way) ws (none-both (is_of_pair p way) (λ w. not (is_barred w)) ws (c.in_err-place.ensures.found order numbered)))

pub returns-then-is_barred : goal.returns-then-is_barred
returns-then-is_barred c = λ order numbered.
    let ws = c.args.notices.now in let p = c.args.pair in let way = c.args.way in
    sym (filter-none (is_unbarred_of p way) ws
    (none-second (is_of_pair p way) (λ w. not (is_barred w)) ws c.in_ok-place.place _ (c.in_ok-place.ensures.found order numbered) (ap not (sym c.is_barred.ensures ∙ c.if-is_barred.true))))

pub returns-else-is_barred : goal.returns-else-is_barred
returns-else-is_barred c = λ order numbered.
    let ws = c.args.notices.now in let p = c.args.pair in let way = c.args.way in
    sym (filter-only (is_unbarred_of p way) ws c.in_ok-place.place _
    (only-both (is_of_pair p way) (λ w. not (is_barred w)) ws c.in_ok-place.place _ (c.in_ok-place.ensures.found order numbered) (ap not (sym c.is_barred.ensures ∙ c.if-is_barred.false))))
