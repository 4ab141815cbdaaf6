use Rattle.std.proofs.Common.{◌≡◌, ◌==◌, cond, ◌++◌, [], take, drop, length, ap, ◌∙◌, arith}
use Rattle.std.specs.List.{zip}
use Rattle.mail_batches.specs.ByUser.{values_of, ascends}
use Rattle.mail_batches.proofs.Stretches.{stretch_of, ascends-cut, values-cut}
use Rattle.mail_batches.proofs.by_user.ByUser.remove.Goals as goal

pub invariant_of-self : goal.invariant_of-self
invariant_of-self g c =
    let u = c.args.user.0 in let p = c.find_stretch-place.result in let f = c.find_stretch-place.ensures in
    let us = c.self.inside.users.items in
    let s = stretch_of u p.from p.to c.deref.result.now us c.deref.ensures.value (record { order = f.order; within = f.within; before = f.before; at = f.at; behind = f.behind }) in
    (omega arith, ap ascends c.cut.ensures.items ∙ ascends-cut c.args.user.0 p.from p.to us c.self.invariant.1 s, omega arith, omega arith)

pub returns-clause-values : goal.returns-clause-values
returns-clause-values g c v =
    let u = c.args.user.0 in let p = c.find_stretch-place.result in let f = c.find_stretch-place.ensures in
    let us = c.self.inside.users.items in let xs = c.self.inside.values.items in
    let s = stretch_of u p.from p.to c.deref.result.now us c.deref.ensures.value (record { order = f.order; within = f.within; before = f.before; at = f.at; behind = f.behind }) in
    let same : length us ≡ length xs = omega (arith, c.self.invariant) in
    ap (λ vs. values_of v (zip vs c.cut-2.new.items.items)) c.cut.ensures.items
    ∙ (ap (λ ys. values_of v (zip (take p.from us ++ drop p.to us) ys)) c.cut-2.ensures.items
    ∙ (values-cut v u p.from p.to us xs same s
    ∙ ap (λ l. cond (v == u) [] (values_of v l.entries)) c.self.view_is))
