use Rattle.std.proofs.Common.{◌≡◌, ◌-◌, take, drop, length, ap, ◌∙◌, arith}
use Rattle.mail_batches.specs.ByUser.{values_of}
use Rattle.mail_batches.proofs.Stretches.{stretch_of, values-stretch}
use Rattle.mail_batches.proofs.by_user.ByUser.of.Goals as goal

pub returns : goal.returns
returns g c =
    let u = c.args.user.0 in let p = c.find_stretch-place.result in let f = c.find_stretch-place.ensures in
    let us = c.self.inside.users.items in let xs = c.self.inside.values.items in
    let s = stretch_of u p.from p.to c.deref.result.now us c.deref.ensures.value (record { order = f.order; within = f.within; before = f.before; at = f.at; behind = f.behind }) in
    let same : length us ≡ length xs = omega (arith, c.self.invariant) in
    ap (λ ys. take (p.to - p.from) (drop p.from ys)) c.deref-2.ensures.value
    ∙ (values-stretch u p.from p.to us xs same s ∙ ap (λ l. values_of u l.entries) c.self.view_is)
