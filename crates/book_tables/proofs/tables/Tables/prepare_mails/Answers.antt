use Rattle.std.proofs.Common.{◌≡◌, ◌+◌, ◌++◌, List, length, map, refl, ap, ◌∙◌, arith}
use Rattle.chat_model.specs.declared.row.RowChange.{RowChange}
use Rattle.chat_model.specs.declared.row.RowChange.TheVariants.{Put}
use Rattle.chat_model.specs.declared.entry.Entry.{Entry}
use Rattle.chat_model.specs.declared.ids.MessageId.{MessageId}
use Rattle.notice_ledger.specs.Past.Rows.{outbox_rows_from}
use Rattle.book_tables.specs.Prepared.{removed_mail}
use Rattle.book_tables.proofs.Following.{changes-mails}
use Rattle.book_tables.proofs.Steps.{as_made}
use Rattle.book_tables.proofs.tables.Tables.prepare_mails.Goals as goal

pub put_entries-requires : goal.put_entries-requires
put_entries-requires c =
    omega (arith, c.args.self.now.outbox.small, c.args.self.now.outbox.ok.0, c.in_ok-entries.entries.small, c.in_ok-entries.entries.ok.0, c.len.ensures, ap length c.deref.ensures.value)

pub returns : goal.returns
returns c = λ past h next.
    let t = c.args.self.now in let u = c.args.user in let es = c.in_ok-entries.entries.items in
    let many : c.len.result ≡ length t.outbox.items = omega (arith, c.len.ensures, t.outbox.ok.0) in
    let made = c.in_ok-entries.ensures past h in record {
      at = refl;
      changes = as_made _ (c.in_ok-put_entries.ensures
          ∙ (ap (λ (xs : List Entry). c.remove_mails.new.changes.items ++ map Put (outbox_rows_from (c.len.result + 1) xs)) c.deref.ensures.value
          ∙ ap (λ (cs : List RowChange). cs ++ map Put (outbox_rows_from (c.len.result + 1) es))
          (c.in_ok-remove_mails.ensures
          ∙ (ap (λ (cs : List RowChange). cs ++ map (removed_mail u) c.rows.result.now) c.new-changes.ensures.items
          ∙ ap (λ (ms : List MessageId). map (removed_mail u) ms) c.rows.ensures))))
          (changes-mails t past h c.args.at u c.len.result es many made next);
      effect = (refl, made, c.handed_over.ensures past h, c.switched_off.ensures past h);
    }
