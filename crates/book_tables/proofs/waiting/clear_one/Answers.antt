use Rattle.std.proofs.Common.{false, ◌∷◌, [], List, map, ap, sym, ◌∙◌}
use Rattle.book_tables.specs.declared.tables.Waiting.{Waiting}
use Rattle.book_tables.specs.Notices.{moved, put_in_order, put_all_in_order}
use Rattle.book_tables.proofs.waiting.clear_one.Goals as goal

pub returns-in-Some-clause-cleared : goal.returns-in-Some-clause-cleared
returns-in-Some-clause-cleared c = λ order sorted.
    let vs = c.args.cleared.now.items in
    c.put_in_order.ensures.items sorted
    ∙ (ap (λ (w : Waiting). put_in_order w vs) c.moved.ensures
    ∙ ap (λ (ws : List Waiting). put_all_in_order (map (moved false) ws) vs) (c.in-Some.ensures.taken order))

pub returns-in_default-clause-cleared : goal.returns-in_default-clause-cleared
returns-in_default-clause-cleared c = λ order sorted.
    ap (λ (ws : List Waiting). put_all_in_order (map (moved false) ws) c.args.cleared.now.items) (c.in_default.ensures.taken order)
