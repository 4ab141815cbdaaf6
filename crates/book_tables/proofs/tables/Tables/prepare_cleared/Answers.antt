use Rattle.std.proofs.Common.{◌++◌, List, refl, sym, ap, ◌∙◌, subst}
use Rattle.std.specs.List.{flat_map}
use Rattle.chat_model.specs.declared.ids.DealNo.{DealNo}
use Rattle.chat_model.specs.declared.row.RowChange.{RowChange}
use Rattle.book_tables.specs.declared.prepared.Effect.TheVariants as effect
use Rattle.book_tables.specs.declared.tables.Waiting.{Waiting}
use Rattle.book_tables.specs.Notices.{named_by, IsInOrder}
use Rattle.book_tables.specs.Prepared.{removes_where}
use Rattle.book_tables.proofs.Following.{changes-cleared}
use Rattle.book_tables.proofs.Ordered.{in_order}
use Rattle.book_tables.proofs.Steps.{as_made}
use Rattle.book_tables.proofs.tables.Tables.prepare_cleared.Goals as goal

pub returns : goal.returns
returns c = λ past h next.
    let t = c.args.self.now in
    let made = λ (ks : List DealNo) (ws : List Waiting). flat_map (λ test. removes_where test ws) (named_by c.args.user ks) in
    let order : IsInOrder c.deref.result.now = subst IsInOrder (sym c.deref.ensures.value) (in_order t past h) in
    record {
      at = refl;
      changes = as_made _ (c.in_ok-remove_all_cleared.ensures order
          ∙ (ap (λ (cs : List RowChange). cs ++ made c.as_slice.result.now c.deref.result.now) c.new-changes.ensures.items
          ∙ (λ i. made (c.as_slice.ensures i) (c.deref.ensures.value i))))
          (changes-cleared t past h c.args.at c.args.user c.args.deals.now c.args.queue next);
      effect = ap (λ (ks : List DealNo). effect.Cleared c.args.user ks) c.in_ok-deals.ensures;
    }
