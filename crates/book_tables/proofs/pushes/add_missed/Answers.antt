use Rattle.std.proofs.Common.{◌++◌, ◌∷◌, [], List, map, sym, ap, ◌∙◌}
use Rattle.std.proofs.lemmas.List.{append-nil}
use Rattle.chat_model.specs.declared.trigger.Way.TheVariants.{Push}
use Rattle.book_tables.specs.declared.pushes.PushKey.{PushKey}
use Rattle.book_tables.specs.declared.tables.Waiting.{Waiting}
use Rattle.book_tables.specs.Notices.{is_undecided_at}
use Rattle.book_tables.specs.Pushes.{push_of}
use Rattle.book_tables.proofs.Sought.{filter-only, filter-none}
use Rattle.book_tables.proofs.pushes.add_missed.Goals as goal

pub returns-in_ok-push : goal.returns-in_ok-push
returns-in_ok-push c = λ order.
    let test = is_undecided_at c.args.deal c.args.user Push in let ws = c.args.waiting.now in let before = c.args.pushes.now.items in
    c.in_ok-push.ensures.items
    ∙ (ap (λ (p : PushKey). before ++ p ∷ []) c.of.ensures
    ∙ ap (λ (vs : List Waiting). before ++ map push_of vs) (sym (filter-only test ws c.in-Some.place _ (c.in-Some.ensures.found order))))

pub returns-in_default : goal.returns-in_default
returns-in_default c = λ order.
    let test = is_undecided_at c.args.deal c.args.user Push in let ws = c.args.waiting.now in let before = c.args.pushes.now.items in
    sym (append-nil before) ∙ ap (λ (vs : List Waiting). before ++ map push_of vs) (sym (filter-none test ws (c.in_default.ensures.found order)))
