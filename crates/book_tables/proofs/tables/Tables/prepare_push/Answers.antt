use Rattle.std.proofs.Common.{◌≡◌, ◌++◌, ◌∷◌, [], List, length, refl, sym, ap, ◌∙◌, subst, arith}
use Rattle.chat_model.specs.declared.row.RowChange.{RowChange}
use Rattle.chat_model.specs.declared.row.RowChange.TheVariants.{Remove}
use Rattle.chat_model.specs.declared.row.RowKey.TheVariants as key
use Rattle.chat_model.specs.declared.trigger.Way.TheVariants.{Push}
use Rattle.chat_model.specs.declared.push_item.PushItem.TheVariants.{Notify}
use Rattle.chat_model.specs.declared.event.Stamped.{Stamped}
use Rattle.notice_ledger.specs.Past.Outbox.{push_entries}
use Rattle.book_tables.specs.Prepared.{turn_rows}
use Rattle.book_tables.specs.Tables.{Holds, switched_at_push}
use Rattle.book_tables.proofs.PushTurned.{changes-push}
use Rattle.book_tables.proofs.Steps.{as_made}
use Rattle.book_tables.proofs.tables.Tables.prepare_push.Goals as goal

pub put_turn-requires : goal.put_turn-requires
put_turn-requires c = omega (arith, c.args.self.now.outbox.small, c.args.self.now.outbox.ok.0, c.len.ensures)

pub returns : goal.returns
returns c = λ past h next.
    let t = c.args.self.now in let u = c.args.user in let m = c.args.message in
    let stands = subst (Holds t) (sym next.0) h in
    let many : c.len.result ≡ length t.outbox.items = omega (arith, c.len.ensures, t.outbox.ok.0) in
    let made = c.in_ok-entry.ensures past stands ∙ ap (λ (j : List Stamped). push_entries j c.args.at (Notify u m)) next.0 in record {
      at = refl;
      changes = as_made _ (c.in_ok-put_turn.ensures
          ∙ ap (λ (cs : List RowChange). cs ++ turn_rows (record { user = u; message = m }) c.len.result c.in_ok-entry.entry)
          (c.in_ok-push.ensures.items ∙ ap (λ (cs : List RowChange). cs ++ Remove (key.Pending u m Push) ∷ []) c.new-changes.ensures.items))
          (changes-push t past h c.args.at u m c.len.result c.in_ok-entry.entry many made next);
      effect = (refl, refl, made, c.push_off-off.ensures past stands ∙ ap (λ (j : List Stamped). switched_at_push j u m) next.0);
    }
