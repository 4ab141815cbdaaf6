use Rattle.std.proofs.Common.{sym, ◌∙◌}
use Rattle.std.specs.declared.cmp.Ordering.TheVariants.{Less, Equal, Greater}
use Rattle.office.proofs.Differences.{differ_less, differ_greater, differ_equal, differ_first, differ_second, same_lists, keys_compare, same_fronts, rows_differ}
use Rattle.office.proofs.difference.first_difference.Goals as goal

pub returns-in-Less : goal.returns-in-Less
returns-in-Less c =
    let xs = c.args.kept in let ys = c.args.replayed in let n = c.common-at.result in
    let same = same_fronts xs ys c.as_slice.result.now c.as_slice-2.result.now n c.as_slice.ensures c.as_slice-2.ensures c.common-at.ensures.same in
    let less = keys_compare c.key.result c.key-in-Some-Some.result c.in-Some-Some.x c.in-Some-Some.y Less c.key.ensures c.key-in-Some-Some.ensures c.in-Less.ensures in
    differ_less xs ys n c.requires.kept c.requires.replayed same c.in-Some-Some.x c.in-Some-Some.y (sym c.in-Some-Some.ensures) (sym c.in-Some-Some.ensures') less

pub returns-in-Greater : goal.returns-in-Greater
returns-in-Greater c =
    let xs = c.args.kept in let ys = c.args.replayed in let n = c.common-at.result in
    let same = same_fronts xs ys c.as_slice.result.now c.as_slice-2.result.now n c.as_slice.ensures c.as_slice-2.ensures c.common-at.ensures.same in
    let greater = keys_compare c.key.result c.key-in-Some-Some.result c.in-Some-Some.x c.in-Some-Some.y Greater c.key.ensures c.key-in-Some-Some.ensures c.in-Greater.ensures in
    differ_greater xs ys n c.requires.kept c.requires.replayed same c.in-Some-Some.x c.in-Some-Some.y (sym c.in-Some-Some.ensures) (sym c.in-Some-Some.ensures') greater

pub returns-in-Equal : goal.returns-in-Equal
returns-in-Equal c =
    let xs = c.args.kept in let ys = c.args.replayed in let n = c.common-at.result in
    let same = same_fronts xs ys c.as_slice.result.now c.as_slice-2.result.now n c.as_slice.ensures c.as_slice-2.ensures c.common-at.ensures.same in
    let equal = keys_compare c.key.result c.key-in-Some-Some.result c.in-Some-Some.x c.in-Some-Some.y Equal c.key.ensures c.key-in-Some-Some.ensures c.in-Equal.ensures in
    let differ = rows_differ xs ys c.as_slice.result.now c.as_slice-2.result.now n c.in-Some-Some.x c.in-Some-Some.y c.as_slice.ensures c.as_slice-2.ensures c.in-Some-Some.ensures c.in-Some-Some.ensures' c.common-at.ensures.differ in
    differ_equal xs ys n c.requires.kept c.requires.replayed same c.in-Some-Some.x c.in-Some-Some.y (sym c.in-Some-Some.ensures) (sym c.in-Some-Some.ensures') equal differ

pub returns-in-Some-None : goal.returns-in-Some-None
returns-in-Some-None c =
    let xs = c.args.kept in let ys = c.args.replayed in let n = c.common-at.result in
    let same = same_fronts xs ys c.as_slice.result.now c.as_slice-2.result.now n c.as_slice.ensures c.as_slice-2.ensures c.common-at.ensures.same in
    differ_first xs ys n c.requires.kept c.requires.replayed same c.in-Some-None.x (sym c.in-Some-None.ensures) (sym c.in-Some-None.ensures')

pub returns-in-None-Some : goal.returns-in-None-Some
returns-in-None-Some c =
    let xs = c.args.kept in let ys = c.args.replayed in let n = c.common-at.result in
    let same = same_fronts xs ys c.as_slice.result.now c.as_slice-2.result.now n c.as_slice.ensures c.as_slice-2.ensures c.common-at.ensures.same in
    differ_second xs ys n c.requires.kept c.requires.replayed same c.in-None-Some.y (sym c.row_from.ensures ∙ c.in-None-Some.is-0) (sym c.in-None-Some.ensures)

pub returns-in-None-None : goal.returns-in-None-None
returns-in-None-None c =
    let xs = c.args.kept in let ys = c.args.replayed in let n = c.common-at.result in
    let same = same_fronts xs ys c.as_slice.result.now c.as_slice-2.result.now n c.as_slice.ensures c.as_slice-2.ensures c.common-at.ensures.same in
    same_lists xs ys n c.requires.kept c.requires.replayed same (sym c.row_from.ensures ∙ c.in-None-None.is-0) (sym c.in-None-None.ensures)
