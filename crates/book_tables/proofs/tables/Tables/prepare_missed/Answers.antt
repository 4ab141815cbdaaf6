use Rattle.std.proofs.Common.{◌++◌, List, map, refl, sym, ap, ◌∙◌, subst}
use Rattle.std.specs.Prelude.{filter}
use Rattle.std.specs.List.{flat_map}
use Rattle.chat_model.specs.declared.ids.DealNo.{DealNo}
use Rattle.chat_model.specs.declared.row.RowChange.{RowChange}
use Rattle.chat_model.specs.declared.trigger.Way.TheVariants.{Push}
use Rattle.book_tables.specs.declared.tables.Waiting.{Waiting}
use Rattle.book_tables.specs.Notices.{named_by, is_undecided_at, readied, IsInOrder}
use Rattle.book_tables.specs.Prepared.{puts_where}
use Rattle.book_tables.specs.Pushes.{push_of}
use Rattle.book_tables.proofs.Following.{changes-missed}
use Rattle.book_tables.proofs.ReadyPushes.{items-missed}
use Rattle.book_tables.proofs.Ordered.{in_order}
use Rattle.book_tables.proofs.Steps.{as_made}
use Rattle.book_tables.proofs.tables.Tables.prepare_missed.Goals as goal

pub returns : goal.returns
returns c = λ past h next.
    let t = c.args.self.now in
    let made = λ (ks : List DealNo) (ws : List Waiting). flat_map (λ test. puts_where test readied ws) (named_by c.args.user ks) in
    let order : IsInOrder c.deref.result.now = subst IsInOrder (sym c.deref.ensures.value) (in_order t past h) in
    let order_again : IsInOrder c.deref-2.result.now = subst IsInOrder (sym c.deref-2.ensures.value) (in_order t past h) in
    record {
      at = refl;
      changes = as_made _ (c.in_ok-put_all_missed.ensures order
          ∙ (ap (λ (cs : List RowChange). cs ++ made c.as_slice.result.now c.deref.result.now) c.new-changes.ensures.items
          ∙ (λ i. made (c.as_slice.ensures i) (c.deref.ensures.value i))))
          (changes-missed t past h c.args.at c.args.user c.args.deals.now next);
      effect = (
        refl,
        c.in_ok-deals.ensures,
        items-missed t past h c.args.at c.args.user c.args.deals.now _ _ c.once_each-pushes.ensures
            (c.in_ok-pushes.ensures order_again ∙ (λ i. flat_map (λ k. map push_of (filter (is_undecided_at k c.args.user Push) (c.deref-2.ensures.value i))) (c.as_slice-2.ensures i))),
      );
    }
