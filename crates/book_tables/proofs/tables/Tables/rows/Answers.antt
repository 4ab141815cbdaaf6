use Rattle.std.proofs.Common.{◌++◌, not, List, map, subst, sym, ap, ◌∙◌}
use Rattle.chat_model.specs.declared.entry.Entry.{Entry}
use Rattle.chat_model.specs.declared.row.Row.{Row}
use Rattle.chat_model.specs.declared.row.RowChange.{RowChange}
use Rattle.chat_model.specs.declared.row.RowChange.TheVariants.{Put}
use Rattle.chat_model.specs.Rows.{changed_all, IsAscending}
use Rattle.chat_model.proofs.Rows.{IsAscending-nil}
use Rattle.notice_ledger.specs.Lawful.{lawful}
use Rattle.notice_ledger.specs.Past.Values.{people}
use Rattle.notice_ledger.specs.Past.Rows.{user_rows_from, outbox_rows_from}
use Rattle.book_tables.specs.declared.tables.Waiting.{Waiting}
use Rattle.book_tables.specs.Prepared.{active_row, puts_where}
use Rattle.book_tables.specs.Notices.{is_barred}
use Rattle.book_tables.specs.Pushes.{push_of}
use Rattle.book_tables.proofs.RowLists.{rows_put}
use Rattle.book_tables.proofs.tables.Tables.rows.Goals as goal

pub change_all-requires-clause-ascending : goal.change_all-requires-clause-ascending
change_all-requires-clause-ascending c = subst IsAscending (sym (c.reserve.ensures.items ∙ c.new-rows.ensures.items)) IsAscending-nil

pub returns : goal.returns
returns c = λ j stands.
    let past = lawful j in
    let users = c.in_ok-put_users.ensures past stands ∙ ap (λ (cs : List RowChange). cs ++ map Put (user_rows_from past 1 (people past))) c.new-puts.ensures.items in
    let waits = c.in_ok-put_notices.ensures ∙ ap (λ (ws : List Waiting). c.put_messages.new.puts.items ++ puts_where (λ w. not (is_barred w)) (λ w. w) ws) c.deref.ensures.value in
    let active = c.in_ok-put_active.ensures ∙ ap (λ (ws : List Waiting). c.put_notices.new.changes.items ++ map (λ w. Put (active_row (push_of w))) ws) c.deref-2.ensures.value in
    let entries = c.in_ok-put_entries.ensures ∙ ap (λ (es : List Entry). c.put_active.new.changes.items ++ map Put (outbox_rows_from 1 es)) c.deref-3.ensures.value in
    c.from.ensures
    ∙ (c.change_all.ensures.items
    ∙ (ap (λ (rs : List Row). changed_all c.put_entries.new.changes.items rs) (c.reserve.ensures.items ∙ c.new-rows.ensures.items)
    ∙ rows_put c.args.self.now past stands c.put_users.new.puts.items c.put_messages.new.puts.items c.put_notices.new.changes.items c.put_active.new.changes.items c.put_entries.new.changes.items users (c.in_ok-put_messages.ensures past stands) waits active entries))
