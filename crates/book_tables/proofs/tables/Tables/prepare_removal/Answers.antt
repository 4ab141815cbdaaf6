use Rattle.std.proofs.Common.{◌≡◌, List, [], ◌++◌, ◌∷◌, ◌+◌, length, map, refl, sym, ap, ◌∙◌, arith}
use Rattle.std.specs.Prelude.{false}
use Rattle.chat_model.specs.declared.row.Row.TheVariants as row
use Rattle.chat_model.specs.declared.row.RowChange.{RowChange}
use Rattle.chat_model.specs.declared.row.RowChange.TheVariants.{Put}
use Rattle.book_tables.specs.Prepared.{removed_push}
use Rattle.book_tables.proofs.PushTurned.{changes-removal}
use Rattle.book_tables.proofs.Steps.{as_made}
use Rattle.book_tables.proofs.tables.Tables.prepare_removal.Goals as goal

pub returns : goal.returns
returns c = λ past h next.
    let t = c.args.self.now in let u = c.args.user in let ms = c.args.messages.now in
    let many : c.len.result ≡ length t.outbox.items = omega (arith, c.len.ensures, t.outbox.ok.0) in
    let made = c.in_ok-entry.ensures past h in
    let copied : c.in_ok-copy.field-0 ≡ c.in_ok-entry.entry = c.in_ok-copy.ensures in
    record {
      at = refl;
      changes = as_made _ (c.in_ok-push.ensures.items
          ∙ (ap (λ (cs : List RowChange). cs ++ Put (row.Outbox (record { 0 = c.len.result + 1 }) c.in_ok-copy.field-0 false) ∷ [])
          (c.in_ok-remove_active.ensures ∙ (ap (λ (cs : List RowChange). cs ++ map (removed_push u) c.as_slice.result.now) c.new-changes.ensures.items ∙ ap (map (removed_push u)) c.as_slice.ensures))
          ∙ ap (λ e. map (removed_push u) ms ++ Put (row.Outbox (record { 0 = c.len.result + 1 }) e false) ∷ []) copied))
          (changes-removal t past h c.args.at u ms c.len.result c.in_ok-entry.entry many made next);
      effect = (refl, c.in_ok-messages.ensures, made);
    }
