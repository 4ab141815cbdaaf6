use Rattle.std.proofs.Common.{Bool, ◌++◌, List, take, get_or, sym, ap, ◌∙◌}
use Rattle.std.specs.List.{flat_map}
use Rattle.std.proofs.lemmas.List.{append_assoc, take_more, take_all}
use Rattle.chat_model.specs.declared.row.RowChange.{RowChange}
use Rattle.chat_model.specs.declared.trigger.Way.TheVariants.{Mail, Push}
use Rattle.book_tables.specs.declared.pushes.PushKey.{PushKey}
use Rattle.book_tables.specs.declared.tables.Waiting.{Waiting}
use Rattle.book_tables.specs.Bars.{is_unbarred_of, unbarred_tests}
use Rattle.book_tables.specs.Prepared.{removes_where}
use Rattle.book_tables.proofs.Barring.{unbarred-more}
use Rattle.book_tables.proofs.bars.remove_all_barred.Goals as goal

pub loop-pair-preserved : goal.loop-pair-preserved
loop-pair-preserved c = λ order numbered.
    let ps = c.args.pairs.now in let i = c.loop-pair.pair-index in
    let none : PushKey = record { user = record { 0 = 0 }; message = record { 0 = 0 } } in let p = get_or ps i none in let start = c.args.changes.now.items in
    let f : (Waiting → Bool) → List RowChange = λ test. removes_where test c.args.waiting.now in
    let so_far = flat_map f (unbarred_tests (take i ps)) in
    c.in_ok-remove_barred-2.ensures order numbered
    ∙ (ap (λ (cs : List RowChange). cs ++ f (is_unbarred_of p Push)) (c.in_ok-remove_barred.ensures order numbered ∙ ap (λ (cs : List RowChange). cs ++ f (is_unbarred_of p Mail)) (c.loop-pair.invariant order numbered))
    ∙ (ap (λ (cs : List RowChange). cs ++ f (is_unbarred_of p Push)) (append_assoc start so_far (f (is_unbarred_of p Mail)))
    ∙ (append_assoc start (so_far ++ f (is_unbarred_of p Mail)) (f (is_unbarred_of p Push))
    ∙ ap (λ (cs : List RowChange). start ++ cs) (unbarred-more f (take i ps) p ∙ ap (λ qs. flat_map f (unbarred_tests qs)) (sym (take_more ps i none c.loop-pair-test.true))))))
