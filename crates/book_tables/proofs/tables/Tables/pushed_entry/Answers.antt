use Rattle.std.proofs.Common.{◌≡◌, true, false, [], ◌∷◌, Some, None, sym, ap, ◌∙◌}
use Rattle.std.specs.Prelude.{if◌then◌else◌}
use Rattle.chat_model.specs.declared.entry.Entry.{Entry}
use Rattle.chat_model.specs.declared.trigger.Way.TheVariants.{Push}
use Rattle.notice_ledger.specs.Lawful.{lawful}
use Rattle.notice_ledger.specs.Past.Values.{numbered, settings}
use Rattle.notice_ledger.specs.Past.Owed.{cause_of_bar}
use Rattle.notice_ledger.specs.Past.Outbox.{push_entry}
use Rattle.book_tables.specs.declared.tables.Message.{Message}
use Rattle.book_tables.specs.Tables.{message_kept, notice_kept}
use Rattle.book_tables.proofs.NextPush.{hands_so, drops_so, next_notice, next_message, next_entries, next_judged, found_same}
use Rattle.book_tables.proofs.tables.Tables.pushed_entry.Goals as goal

none_some : {a : Message} → None ≡ Some a → ⊥
none_some e = cc

same_message : {a b : Message} → Some a ≡ Some b → a ≡ b
same_message e = cc

pub unreachable-requires : goal.unreachable-requires
unreachable-requires c =
    let t = c.args.self.now in let u = c.args.user in let m = c.args.message in let waits = c.requires in
    none_some (c.in-None.ensures ∙ (ap (numbered m.0) c.deref.ensures.value ∙ next_message t u m waits waits.0 waits.1))

pub returns-in_ok-push_entry-in-Some : goal.returns-in_ok-push_entry-in-Some
returns-in_ok-push_entry-in-Some c = λ j stands.
    let t = c.args.self.now in let u = c.args.user in let m = c.args.message in let waits = c.requires in let n = next_notice t u m waits j stands in
    let found = c.next_push-notice.ensures j stands in
    let notice : c.next_push-notice.result ≡ notice_kept (lawful j) n = found.kept ∙ ap (notice_kept (lawful j)) (found_same t u m waits j stands c.next_push-notice.result found) in
    let sent : c.in-Some.sent.now ≡ message_kept n.message = same_message (c.in-Some.ensures ∙ (ap (numbered m.0) c.deref.ensures.value ∙ next_message t u m waits j stands)) in
    let on = hands_so (cause_of_bar (lawful j) n) (settings (lawful j) u) (sym (next_judged t u m waits j stands c.next_push-notice.result found) ∙ (sym (c.judge_push.ensures (lawful j) stands) ∙ c.in-Hand.is)) in
    ap (λ (e : Entry). e ∷ []) (c.in_ok-push_entry-in-Some.ensures (lawful j) n stands notice sent)
    ∙ sym (next_entries t u m waits j stands c.args.at ∙ ap (λ b. if b then push_entry (lawful j) c.args.at n ∷ [] else []) on)

pub returns-in-Drop : goal.returns-in-Drop
returns-in-Drop c = λ j stands.
    let t = c.args.self.now in let u = c.args.user in let m = c.args.message in let waits = c.requires in let n = next_notice t u m waits j stands in
    let off = drops_so (cause_of_bar (lawful j) n) (settings (lawful j) u) c.in-Drop.field-0 (sym (next_judged t u m waits j stands c.next_push-notice.result (c.next_push-notice.ensures j stands)) ∙ (sym (c.judge_push.ensures (lawful j) stands) ∙ c.in-Drop.is)) in
    sym (next_entries t u m waits j stands c.args.at ∙ ap (λ b. if b then push_entry (lawful j) c.args.at n ∷ [] else []) off)
