use Rattle.std.proofs.Common.{◌≡◌, ℕ, ◌+◌, ◌++◌, ◌∷◌, [], List, length, map, refl, sym, ap, ◌∙◌, arith}
use Rattle.chat_model.specs.declared.row.Row.TheVariants as row
use Rattle.chat_model.specs.declared.row.RowChange.{RowChange}
use Rattle.chat_model.specs.declared.row.RowChange.TheVariants.{Put}
use Rattle.std.specs.Prelude.{false, not}
use Rattle.chat_model.specs.declared.ids.UserId.{UserId}
use Rattle.notice_ledger.specs.Past.Owed.{owed_by}
use Rattle.book_tables.specs.Notices.{is_barred}
use Rattle.book_tables.specs.declared.tables.Waiting.{Waiting}
use Rattle.notice_ledger.specs.Past.Journal.{occurrence}
use Rattle.book_tables.specs.Tables.{send_of}
use Rattle.book_tables.specs.Prepared.{notice_row, puts_where}
use Rattle.book_tables.specs.declared.prepared.Effect.TheVariants as effect
use Rattle.book_tables.proofs.Following.{changes-send, effect-send, puts-flight}
use Rattle.book_tables.proofs.Steps.{as_made}
use Rattle.book_tables.proofs.tables.Tables.prepare_send.Goals as goal

pub returns : goal.returns
returns c = λ past h next.
    let t = c.args.self.now in let k = c.args.message in let ws = c.in_ok-waiting.waiting.items in
    let many : c.len.result ≡ length t.messages.items = omega (arith, c.len.ensures, t.messages.ok.0) in
    let goes = λ (u : UserId). c.in_ok-addressees.ensures past u h in
    let owed = c.in_ok-waiting.ensures past c.args.at h goes in record {
      at = refl;
      changes = as_made _ (c.in_ok-put_notices.ensures
          ∙ (ap (λ (cs : List RowChange). c.push.new.self.items ++ cs) (ap (puts_where (λ w. not (is_barred w)) (λ w. w)) (c.deref-2.ensures.value ∙ owed) ∙ (puts-flight (owed_by (occurrence past (send_of c.args.at k))) ∙ ap (map (λ w. Put (notice_row w))) (sym owed)))
          ∙ (ap (λ (cs : List RowChange). cs ++ map (λ w. Put (notice_row w)) ws) (c.in_ok-push.ensures.items ∙ ap (λ (cs : List RowChange). cs ++ Put (row.Message (record { 0 = c.len.result + 1 }) k.sender c.in_ok-copy.field-0 false) ∷ []) c.new-changes.ensures.items)
          ∙ ap (λ (x : List ℕ). Put (row.Message (record { 0 = c.len.result + 1 }) k.sender x false) ∷ map (λ w. Put (notice_row w)) ws) c.in_ok-copy.ensures)))
          (changes-send t past h c.args.at k c.len.result ws many owed next);
      effect = effect-send past c.args.at k.sender k.to k.text (effect.Message k c.in_ok-addressees.addressees c.in_ok-waiting.waiting c.in_ok-deal.deal) (refl, goes, owed, c.in_ok-deal.ensures (occurrence past (send_of c.args.at k)) h (c.deref.ensures.value ∙ owed));
    }
