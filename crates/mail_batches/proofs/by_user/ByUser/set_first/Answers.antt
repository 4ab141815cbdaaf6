use Rattle.std.proofs.Common.{◌≡◌, ◌==◌, cond, length, sym, ap, ◌∙◌, arith}
use Rattle.mail_batches.specs.ByUser.{values_of, with_first}
use Rattle.mail_batches.proofs.Stretches.{stretch_of, values-set, values-empty}
use Rattle.mail_batches.proofs.by_user.ByUser.set_first.Goals as goal

pub returns-then-place-clause-values : goal.returns-then-place-clause-values
returns-then-place-clause-values g c v =
    let u = c.args.user.0 in let p = c.find_stretch-place.result in let f = c.find_stretch-place.ensures in
    let us = c.self.inside.users.items in let xs = c.self.inside.values.items in
    let s = stretch_of u p.from p.to c.deref.result.now us c.deref.ensures.value (record { order = f.order; within = f.within; before = f.before; at = f.at; behind = f.behind }) in
    let same : length us ≡ length xs = omega (arith, c.self.invariant) in
    values-set v u c.args.value p.from p.to us xs same s (omega arith)
    ∙ ap (λ l. cond (v == u) (with_first c.args.value (values_of v l.entries)) (values_of v l.entries)) c.self.view_is

pub returns-else-place-clause-values : goal.returns-else-place-clause-values
returns-else-place-clause-values g c v =
    let u = c.args.user.0 in let p = c.find_stretch-place.result in let f = c.find_stretch-place.ensures in
    let us = c.self.inside.users.items in let xs = c.self.inside.values.items in
    let s = stretch_of u p.from p.to c.deref.result.now us c.deref.ensures.value (record { order = f.order; within = f.within; before = f.before; at = f.at; behind = f.behind }) in
    let same : length us ≡ length xs = omega (arith, c.self.invariant) in
    ap (λ l. values_of v l.entries) (sym c.self.view_is)
    ∙ (values-empty v u c.args.value p.from p.to us xs same s (omega arith)
    ∙ ap (λ l. cond (v == u) (with_first c.args.value (values_of v l.entries)) (values_of v l.entries)) c.self.view_is)
