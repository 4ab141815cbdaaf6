use Rattle.std.proofs.Common.{◌≡◌, ℕ, ◌+◌, ◌++◌, ◌∷◌, [], List, length, refl, ap, ◌∙◌, arith}
use Rattle.chat_model.specs.declared.row.Row.TheVariants as row
use Rattle.chat_model.specs.declared.row.RowChange.{RowChange}
use Rattle.chat_model.specs.declared.row.RowChange.TheVariants.{Put}
use Rattle.chat_model.specs.declared.settings.Settings.{Settings}
use Rattle.notice_ledger.specs.Past.Values.{people}
use Rattle.book_tables.specs.declared.prepared.Effect.TheVariants as effect
use Rattle.book_tables.proofs.Standing.{names_long}
use Rattle.book_tables.proofs.Following.{changes-user}
use Rattle.book_tables.proofs.Steps.{as_made}
use Rattle.book_tables.proofs.tables.Tables.prepare_user.Goals as goal

pub returns : goal.returns
returns c = λ past h next.
    let t = c.args.self.now in let name = c.args.name.now in let bot = c.args.bot in
    let many : c.len.result ≡ length t.names.items = omega (arith, c.len.ensures, t.names.ok.0) in record {
      at = refl;
      changes = as_made _ (c.in_ok-push.ensures.items
          ∙ (ap (λ (cs : List RowChange). cs ++ Put (row.User (record { 0 = c.len.result + 1 }) c.in_ok-copy.field-0 bot c.default.result) ∷ []) c.new-changes.ensures.items
          ∙ (ap (λ (x : List ℕ). Put (row.User (record { 0 = c.len.result + 1 }) x bot c.default.result) ∷ []) c.in_ok-copy.ensures
          ∙ ap (λ (s : Settings). Put (row.User (record { 0 = c.len.result + 1 }) name bot s) ∷ []) c.default.ensures)))
          (changes-user t past h c.args.at name bot c.len.result many next);
      effect = ap (λ n. effect.User (record { id = record { 0 = n + 1 }; name = c.in_ok-copy-2.field-0 }) bot) (many ∙ names_long t past h)
          ∙ ap (λ (x : List ℕ). effect.User (record { id = record { 0 = length (people past) + 1 }; name = x }) bot) c.in_ok-copy-2.ensures;
    }
