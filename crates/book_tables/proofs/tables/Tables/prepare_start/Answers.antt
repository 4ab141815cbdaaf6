use Rattle.std.proofs.Common.{◌++◌, List, map, refl, ap, ◌∙◌}
use Rattle.std.specs.Prelude.{filter}
use Rattle.chat_model.specs.declared.row.RowChange.{RowChange}
use Rattle.book_tables.specs.declared.tables.Waiting.{Waiting}
use Rattle.book_tables.specs.Notices.{is_undecided, is_undecided_push, readied}
use Rattle.book_tables.specs.Prepared.{puts_where}
use Rattle.book_tables.specs.Pushes.{push_of}
use Rattle.book_tables.proofs.Following.{changes-start}
use Rattle.book_tables.proofs.ReadyPushes.{items-start}
use Rattle.book_tables.proofs.Steps.{as_made}
use Rattle.book_tables.proofs.tables.Tables.prepare_start.Goals as goal

pub returns : goal.returns
returns c = λ past h next.
    let t = c.args.self.now in let at = c.args.at in record {
      at = refl;
      changes = as_made _ (c.in_ok-put_ready.ensures
          ∙ (ap (λ (cs : List RowChange). cs ++ puts_where is_undecided readied c.deref.result.now) c.new-changes.ensures.items
          ∙ ap (λ (ws : List Waiting). puts_where is_undecided readied ws) c.deref.ensures.value))
          (changes-start t past h at next);
      effect = items-start t past h at _ _ c.once_each-pushes.ensures (c.in_ok-undecided_pushes.ensures ∙ ap (λ (ws : List Waiting). map push_of (filter is_undecided_push ws)) c.deref-2.ensures.value);
    }
