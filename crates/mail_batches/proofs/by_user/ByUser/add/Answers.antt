use Rattle.std.proofs.Common.{◌≡◌, ◌==◌, cond, ◌++◌, ◌∷◌, [], take, drop, length, ap, ◌∙◌, arith}
use Rattle.std.specs.List.{zip}
use Rattle.mail_batches.specs.ByUser.{values_of, ascends}
use Rattle.mail_batches.proofs.Stretches.{stretch_of, ascends-insert, values-insert}
use Rattle.mail_batches.proofs.by_user.ByUser.add.Goals as goal

pub invariant_of-self : goal.invariant_of-self
invariant_of-self g c =
    let u = c.args.user.0 in let p = c.find_stretch-place.result in let f = c.find_stretch-place.ensures in
    let us = c.self.inside.users.items in
    let s = stretch_of u p.from p.to c.deref.result.now us c.deref.ensures.value (record { order = f.order; within = f.within; before = f.before; at = f.at; behind = f.behind }) in
    (omega arith, ap ascends c.insert.ensures.items ∙ ascends-insert c.args.user p.from p.to us c.self.invariant.1 s, omega arith, omega arith)

pub returns-clause-values : goal.returns-clause-values
returns-clause-values g c v =
    let u = c.args.user.0 in let p = c.find_stretch-place.result in let f = c.find_stretch-place.ensures in
    let us = c.self.inside.users.items in let xs = c.self.inside.values.items in
    let s = stretch_of u p.from p.to c.deref.result.now us c.deref.ensures.value (record { order = f.order; within = f.within; before = f.before; at = f.at; behind = f.behind }) in
    let same : length us ≡ length xs = omega (arith, c.self.invariant) in
    ap (λ vs. values_of v (zip vs c.insert-2.new.items.items)) c.insert.ensures.items
    ∙ (ap (λ ys. values_of v (zip (take p.to us ++ c.args.user ∷ drop p.to us) ys)) c.insert-2.ensures.items
    ∙ (values-insert v c.args.user c.args.value p.from p.to us xs same s
    ∙ ap (λ l. cond (v == u) (values_of v l.entries ++ c.args.value ∷ []) (values_of v l.entries)) c.self.view_is))
