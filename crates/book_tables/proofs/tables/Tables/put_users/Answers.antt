use Rattle.std.proofs.Common.{◌≡◌, ℕ, ◌+◌, ◌<◌, ◌≤◌, ◌++◌, ◌∷◌, [], Bool, List, length, map, take, get_or, append_assoc, sym, ap, ◌∙◌, arith}
use Rattle.std.proofs.lemmas.List.{map-append, take_all}
use Rattle.chat_model.specs.declared.row.Row.{Row}
use Rattle.chat_model.specs.declared.row.Row.TheVariants as row
use Rattle.chat_model.specs.declared.row.RowChange.{RowChange}
use Rattle.chat_model.specs.declared.row.RowChange.TheVariants.{Put}
use Rattle.chat_model.specs.declared.ids.UserId.{UserId}
use Rattle.chat_model.specs.declared.settings.Settings.{Settings}
use Rattle.notice_ledger.specs.Past.Values.{people, settings}
use Rattle.book_tables.proofs.Standing.{names_long}
use Rattle.book_tables.proofs.RowLists.{rows_by, rows_by-next, rows_by-long, user_row, user_rows-by, named_at, bot_at}
use Rattle.book_tables.proofs.tables.Tables.put_users.Goals as goal

same_id : (u : UserId) (n : ℕ) → u.0 ≡ n → u ≡ record { 0 = n }
same_id u n e = ap (λ k. let v : UserId = record { 0 = k } in v) e

pub loop-name-preserved : goal.loop-name-preserved
loop-name-preserved c = λ past h.
    let t = c.args.self.now in let xs = c.deref-name-items.result.now in let i = c.loop-name.name-index in let x = c.name-item.result in
    let ps = people past in let rs = rows_by (user_row past) 1 ps in let start = c.args.puts.now.items in
    let there : i < length ps = omega (arith, c.loop-name-test.true, ap length c.deref-name-items.ensures.value, names_long t past h) in
    let named = named_at 1 ps i x there (c.name-item.is ∙ ap (λ ns. get_or ns i x) (c.deref-name-items.ensures.value ∙ h.names)) in
    let made : row.User x.id c.in_ok-copy.field-0 c.is_bot.result c.settings.result ≡ user_row past (1 + i) named.person =
    ap (λ (u : UserId). row.User u c.in_ok-copy.field-0 c.is_bot.result c.settings.result) (same_id x.id (1 + i) named.id)
    ∙ (ap (λ (n : List ℕ). row.User (record { 0 = 1 + i }) n c.is_bot.result c.settings.result) (c.in_ok-copy.ensures ∙ named.name)
    ∙ (ap (λ (b : Bool). row.User (record { 0 = 1 + i }) named.person.name b c.settings.result) (c.is_bot.ensures past h ∙ bot_at past i x.id named.person named.id named.at)
    ∙ ap (λ (s : Settings). row.User (record { 0 = 1 + i }) named.person.name named.person.bot s) (c.settings.ensures past h ∙ ap (settings past) (same_id x.id (1 + i) named.id)))) in
    c.in_ok-push.ensures.items
    ∙ (ap (λ (cs : List RowChange). cs ++ Put (row.User x.id c.in_ok-copy.field-0 c.is_bot.result c.settings.result) ∷ []) (c.loop-name.invariant past h)
    ∙ (append_assoc start (map Put (take i rs)) (Put (row.User x.id c.in_ok-copy.field-0 c.is_bot.result c.settings.result) ∷ [])
    ∙ ap (λ (cs : List RowChange). start ++ cs)
    (ap (λ (r : Row). map Put (take i rs) ++ Put r ∷ []) made
    ∙ (sym (map-append Put (take i rs) (user_row past (1 + i) named.person ∷ [])) ∙ ap (map Put) (sym (rows_by-next (user_row past) 1 ps i named.person named.at))))))

pub returns : goal.returns
returns c = λ past h.
    let ps = people past in let rs = rows_by (user_row past) 1 ps in
    let long : length rs ≤ c.loop-name.name-index = omega (arith, rows_by-long (user_row past) 1 ps, c.loop-name-test.false, ap length c.deref-name-items.ensures.value, names_long c.args.self.now past h) in
    c.loop-name.invariant past h ∙ ap (λ (rows : List Row). c.args.puts.now.items ++ map Put rows) (take_all c.loop-name.name-index rs long ∙ sym (user_rows-by past 1 ps))
