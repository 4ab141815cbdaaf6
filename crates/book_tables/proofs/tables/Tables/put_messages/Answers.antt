use Rattle.std.proofs.Common.{◌≡◌, ℕ, ◌+◌, ◌≤◌, ◌++◌, ◌∷◌, [], List, length, map, take, append_assoc, sym, ap, ◌∙◌, arith}
use Rattle.std.proofs.lemmas.List.{map-append, take_all}
use Rattle.chat_model.specs.declared.row.Row.{Row}
use Rattle.chat_model.specs.declared.row.Row.TheVariants as row
use Rattle.chat_model.specs.declared.row.RowChange.{RowChange}
use Rattle.chat_model.specs.declared.row.RowChange.TheVariants.{Put}
use Rattle.notice_ledger.specs.Past.Values.{messages}
use Rattle.book_tables.specs.declared.tables.Message.{Message}
use Rattle.book_tables.specs.Tables.{message_kept}
use Rattle.book_tables.proofs.Standing.{messages_long}
use Rattle.book_tables.proofs.Steps.{at_mapped}
use Rattle.book_tables.proofs.RowLists.{rows_by, rows_by-next, rows_by-long, message_row, message_rows-by}
use Rattle.book_tables.proofs.tables.Tables.put_messages.Goals as goal

pub loop-i-preserved : goal.loop-i-preserved
loop-i-preserved c = λ past h.
    let xs = c.deref-message-items.result.now in let i = c.loop-i.i in let x = c.message-item.result in
    let ms = messages past in let rs = rows_by (message_row past) 1 ms in let start = c.args.puts.now.items in
    let sent = at_mapped message_kept xs ms i x (c.deref-message-items.ensures.value ∙ h.messages) c.loop-i-test.true c.message-item.is in
    let made : row.Message (record { 0 = 1 + i }) x.sender c.in_ok-copy.field-0 c.is_deleted.result ≡ message_row past (1 + i) sent.from =
    ap (λ (n : List ℕ). row.Message (record { 0 = 1 + i }) x.sender n c.is_deleted.result) c.in_ok-copy.ensures
    ∙ (ap (λ (m : Message). row.Message (record { 0 = 1 + i }) m.sender m.text c.is_deleted.result) sent.is ∙ ap (row.Message (record { 0 = 1 + i }) sent.from.sender sent.from.text) (c.is_deleted.ensures past h)) in
    c.in_ok-push.ensures.items
    ∙ (ap (λ (cs : List RowChange). cs ++ Put (row.Message (record { 0 = 1 + i }) x.sender c.in_ok-copy.field-0 c.is_deleted.result) ∷ []) (c.loop-i.invariant past h)
    ∙ (append_assoc start (map Put (take i rs)) (Put (row.Message (record { 0 = 1 + i }) x.sender c.in_ok-copy.field-0 c.is_deleted.result) ∷ [])
    ∙ ap (λ (cs : List RowChange). start ++ cs)
    (ap (λ (r : Row). map Put (take i rs) ++ Put r ∷ []) made
    ∙ (sym (map-append Put (take i rs) (message_row past (1 + i) sent.from ∷ [])) ∙ ap (map Put) (sym (rows_by-next (message_row past) 1 ms i sent.from sent.at))))))

pub returns : goal.returns
returns c = λ past h.
    let ms = messages past in let rs = rows_by (message_row past) 1 ms in
    let long : length rs ≤ c.loop-i.i = omega (arith, rows_by-long (message_row past) 1 ms, c.loop-i-test.false, ap length c.deref-message-items.ensures.value, messages_long c.args.self.now past h) in
    c.loop-i.invariant past h ∙ ap (λ (rows : List Row). c.args.puts.now.items ++ map Put rows) (take_all c.loop-i.i rs long ∙ sym (message_rows-by past 1 ms))
