use Rattle.std.proofs.Common.{◌≡◌, ◌<◌, List, Some, length, sym, ap, ◌∙◌, subst}
use Rattle.chat_model.specs.declared.trigger.Way.TheVariants.{Push}
use Rattle.notice_ledger.specs.Lawful.{lawful}
use Rattle.book_tables.specs.declared.tables.Waiting.{Waiting}
use Rattle.book_tables.specs.Notices.{is_ready_of, IsInOrder, AreNumbered, NonePasses, IsOnly}
use Rattle.book_tables.specs.Tables.{notice_kept}
use Rattle.book_tables.proofs.Ordered.{in_order, numbered_so}
use Rattle.book_tables.proofs.NextPush.{next_notice, next_has, next_passes, found_push}
use Rattle.book_tables.proofs.Sought.{gets, none-has, only-is}
use Rattle.book_tables.proofs.tables.Tables.next_push.Goals as goal

pub unreachable-requires : goal.unreachable-requires
unreachable-requires c =
    let t = c.args.self.now in let u = c.args.user in let m = c.args.message in let waits = c.requires in let j = waits.0 in let stands = waits.1 in
    let none = subst (λ (vs : List Waiting). IsInOrder vs → AreNumbered vs → NonePasses (is_ready_of u m Push) vs) c.deref.ensures.value c.in-None.ensures.found (in_order t (lawful j) stands) (numbered_so t (lawful j) stands) in
    none-has (is_ready_of u m Push) t.waiting.items (notice_kept (lawful j) (next_notice t u m waits j stands)) none (next_has t u m waits j stands) (next_passes t u m waits j stands)

pub returns : goal.returns
returns c = λ j stands.
    let t = c.args.self.now in let u = c.args.user in let m = c.args.message in let waits = c.requires in let ws = t.waiting.items in let place = c.in-Some.place in
    let only = subst (λ (vs : List Waiting). IsInOrder vs → AreNumbered vs → IsOnly (is_ready_of u m Push) vs place) c.deref.ensures.value c.in-Some.ensures.found (in_order t (lawful j) stands) (numbered_so t (lawful j) stands) in
    let within : place < length ws = subst (λ (vs : List Waiting). place < length vs) c.deref.ensures.value c.in-Some.ensures.within in
    let x = c.index.result.now in let kept = notice_kept (lawful j) (next_notice t u m waits j stands) in
    let same : x ≡ kept = only-is (is_ready_of u m Push) ws place x kept only (gets ws place x within ∙ ap Some (sym c.index.ensures)) (next_has t u m waits j stands) (next_passes t u m waits j stands) in
    found_push t u m waits j stands x same
