use Rattle.std.proofs.Common.{◌≡◌, List, ◌++◌, refl, sym, ap, ◌∙◌, subst}
use Rattle.std.specs.List.{AllByRecursion, flat_map}
use Rattle.chat_model.specs.declared.event.Stamped.{Stamped}
use Rattle.chat_model.specs.declared.event.Event.TheVariants.{Asked}
use Rattle.chat_model.specs.declared.request.Request.TheVariants.{Read}
use Rattle.chat_model.specs.declared.row.RowChange.{RowChange}
use Rattle.notice_ledger.specs.Past.Owed.{notices}
use Rattle.notice_ledger.proofs.PushItems.{items_by-revoked}
use Rattle.notice_ledger.proofs.Revoked.{removals_by-last}
use Rattle.book_tables.specs.declared.pushes.PushKey.{PushKey}
use Rattle.book_tables.specs.declared.tables.Waiting.{Waiting}
use Rattle.book_tables.specs.Bars.{pairs_read, unbarred_tests, cancelled_by}
use Rattle.book_tables.specs.Notices.{IsInOrder, AreNumbered}
use Rattle.book_tables.specs.Prepared.{removes_where, is_barred_at}
use Rattle.book_tables.specs.Pushes.{has_push}
use Rattle.book_tables.proofs.CancelledBy.{cancelled-pairs, read-apart, read-bars}
use Rattle.book_tables.proofs.Following.{changes-read}
use Rattle.book_tables.proofs.Ordered.{in_order, numbered_so, cleared_in_order, cleared_numbered_so}
use Rattle.book_tables.proofs.Steps.{as_made}
use Rattle.book_tables.proofs.tables.Tables.prepare_read.Goals as goal

pub returns : goal.returns
returns c = λ past h next.
    let t = c.args.self.now in let u = c.args.user in let ms = c.args.messages.now in let s : Stamped = record { at = c.args.at; event = Asked (Read u ms) } in
    let gone = λ (ps : List PushKey). flat_map (λ test. removes_where test t.waiting.items) (unbarred_tests ps) in
    let pairs : c.in_ok-pairs.pairs.items ≡ pairs_read u ms = c.in_ok-pairs.ensures in
    let made = subst (λ (vs : List Waiting). IsInOrder vs → AreNumbered vs → c.remove_all_barred.new.changes.items ≡ c.new-changes.result.items ++ flat_map (λ test. removes_where test vs) (unbarred_tests c.deref-2.result.now))
    c.deref.ensures.value c.in_ok-remove_all_barred.ensures (in_order t past h) (numbered_so t past h) in
    record {
      at = refl;
      changes = as_made _ (made
          ∙ (ap (λ ps. c.new-changes.result.items ++ gone ps) (c.deref-2.ensures.value ∙ pairs) ∙ ap (λ (cs : List RowChange). cs ++ gone (pairs_read u ms)) c.new-changes.ensures.items))
          (changes-read t past h c.args.at u ms next);
      effect = (
        refl,
        refl,
        subst (λ (ps : List PushKey). AllByRecursion (λ n. has_push ps n.user n.number ≡ is_barred_at past s n) (notices past)) (sym pairs) (read-bars past c.args.at u ms),
        subst (λ (vs : List Waiting). IsInOrder vs → AreNumbered vs → IsInOrder c.deref-4.result.now → AreNumbered c.deref-4.result.now → c.cancelled_by.result ≡ cancelled_by vs c.deref-4.result.now c.deref-5.result.now)
            c.deref-3.ensures.value c.cancelled_by.ensures (in_order t past h) (numbered_so t past h)
            (subst IsInOrder (sym c.deref-4.ensures.value) (cleared_in_order t past h)) (subst AreNumbered (sym c.deref-4.ensures.value) (cleared_numbered_so t past h))
            ∙ ((λ i. cancelled_by t.waiting.items (c.deref-4.ensures.value i) ((c.deref-5.ensures.value ∙ pairs) i))
            ∙ cancelled-pairs t past h s (pairs_read u ms) (read-apart u ms c.requires) (read-bars past c.args.at u ms)),
        c.in_ok-read_removals.ensures past c.args.at h c.requires ∙ (removals_by-last past s ∙ sym (items_by-revoked past s (λ n. refl))),
      );
    }
