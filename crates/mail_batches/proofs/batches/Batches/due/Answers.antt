use Rattle.std.proofs.Common.{◌≡◌, sym, ap, ◌∙◌, subst, Option, ℕ}
use Rattle.std.specs.Prelude.{IsNone}
use Rattle.mail_batches.specs.ByUser.{values_of}
use Rattle.mail_batches.specs.Batches.{due_of, rows_of}
use Rattle.mail_batches.proofs.Waits.{due-waiting, rows-waiting, none-waiting}
use Rattle.mail_batches.proofs.batches.Batches.due.Goals as goal

pub returns-clause-due : goal.returns-clause-due
returns-clause-due c = c.first.ensures ∙ (sym (due-waiting c.self.inside.rows c.self.inside.dues c.args.user) ∙ ap (λ w. due_of w c.args.user) c.self.view_is)

pub returns-clause-none : goal.returns-clause-none
returns-clause-none c =
    let u = c.args.user.0 in let r = c.self.inside.rows in let d = c.self.inside.dues in
    let rows : rows_of c.args.self.now c.args.user ≡ values_of u r.entries = ap (λ w. rows_of w c.args.user) (sym c.self.view_is) ∙ rows-waiting r d c.args.user c.self.invariant.0 in
    let none = none-waiting (values_of u d.entries) (values_of u r.entries) (c.self.invariant.0 u) in
    (λ h. rows ∙ none.0 (subst (λ (o : Option ℕ). IsNone o) c.first.ensures h), λ e. subst (λ (o : Option ℕ). IsNone o) (sym c.first.ensures) (none.1 (sym rows ∙ e)))
