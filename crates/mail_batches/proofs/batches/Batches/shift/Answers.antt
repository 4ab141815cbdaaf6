use Rattle.std.proofs.Common.{◌≡◌, ◌≤◌, ◌+◌, ◌^◌, Some, None, slice_get, sym, ap, ◌∙◌, subst, Option, ℕ, arith}
use Rattle.std.specs.Prelude.{IfSome}
use Rattle.mail_batches.specs.ByUser.{values_of}
use Rattle.mail_batches.specs.Batches.{due_of, shifted}
use Rattle.mail_batches.proofs.Waits.{due-waiting, shifted-waiting, not_shifted-waiting}
use Rattle.mail_batches.proofs.batches.Batches.shift.Goals as goal
use Rattle.mail_batches.proofs.batches.Batches.shift.Goals.{In-Some}

-- the due moment lies where it was asked to lie
between : (c : In-Some) → (c.args.old ≤ c.in-Some.due) × (c.in-Some.due ≤ c.args.old + 2 ^ 37)
between c =
    let due : due_of c.args.self.now c.args.user ≡ Some c.in-Some.due = ap (λ w. due_of w c.args.user) (sym c.self.view_is) ∙ (due-waiting c.self.inside.rows c.self.inside.dues c.args.user ∙ (sym c.first.ensures ∙ c.in-Some.is)) in
    subst (λ (o : Option ℕ). IfSome o (λ due. (c.args.old ≤ due) × (due ≤ c.args.old + 2 ^ 37))) due c.requires.between

pub overflow_sub-due : goal.overflow_sub-due
overflow_sub-due c = (between (goal.at.overflow_sub-due c).In-Some).0

pub overflow_add-due : goal.overflow_add-due
overflow_add-due c = let range = between (goal.at.overflow_add-due c).In-Some in omega (arith, c.requires.new, range.1)

pub returns-in-Some : goal.returns-in-Some
returns-in-Some c =
    let has : slice_get (values_of c.args.user.0 c.self.inside.dues.entries) 0 ≡ Some c.in-Some.due = sym c.first.ensures ∙ c.in-Some.is in
    shifted-waiting c.self.inside.rows c.self.inside.dues c.set_first.new.self c.args.user c.args.old c.args.new c.in-Some.due has c.set_first.ensures.values
    ∙ ap (λ w. shifted w c.args.user c.args.old c.args.new) c.self.view_is

pub returns-in_default : goal.returns-in_default
returns-in_default c =
    let none : slice_get (values_of c.args.user.0 c.self.inside.dues.entries) 0 ≡ None = sym c.first.ensures ∙ c.in_default.is in
    sym c.self.view_is
    ∙ (not_shifted-waiting c.self.inside.rows c.self.inside.dues c.args.user c.args.old c.args.new none
    ∙ ap (λ w. shifted w c.args.user c.args.old c.args.new) c.self.view_is)
