use Rattle.std.proofs.Common.{◌≡◌, ◌∷◌, [], List, sym, ap, ◌∙◌, subst}
use Rattle.std.specs.Prelude.{Result, Ok, Err, IfOk}
use Rattle.std.specs.List.{flat_map}
use Rattle.book_tables.specs.Bars.{revoked_in}
use Rattle.book_tables.specs.declared.tables.Waiting.{Waiting}
use Rattle.book_tables.specs.Notices.{IsInOrder, AreNumbered}
use Rattle.revocation.specs.Removals.{removals_of}
use Rattle.book_tables.proofs.Ordered.{active_in_order, active_numbered_so}
use Rattle.book_tables.proofs.Revoking.{delete-removals}
use Rattle.book_tables.proofs.tables.Tables.delete_removals.Goals as goal

-- what holds of what was made, once something else does
once_given : {T E : Type 0} (A B : Type 0) (P Q : T → Type 0) (r : Result T E) → (A → B → IfOk r P) → ((x : T) → (A → B → P x) → Q x) → IfOk r Q
once_given A B P Q (Ok x) made so = so x made
once_given A B P Q (Err e) made so = tt

pub returns : goal.returns
returns c =
    let t = c.args.self.now in let m = c.args.message in let ws = c.deref.result.now in
    once_given (IsInOrder ws) (AreNumbered ws) (λ items. items.items ≡ flat_map (λ u. removals_of u (revoked_in ws u (m ∷ []))) c.args.users.now) _ c.removals_gone.result c.removals_gone.ensures (λ items made past at user holds concerned.
    subst (λ (vs : List Waiting). IsInOrder vs → AreNumbered vs → items.items ≡ flat_map (λ u. removals_of u (revoked_in vs u (m ∷ []))) c.args.users.now) c.deref.ensures.value made (active_in_order t past holds) (active_numbered_so t past holds)
    ∙ (ap (flat_map (λ u. removals_of u (revoked_in t.active.items u (m ∷ [])))) concerned
    ∙ delete-removals t past holds at user m))
