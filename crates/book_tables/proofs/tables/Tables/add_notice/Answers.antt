use Rattle.std.proofs.Common.{◌≡◌, ℕ, ◌+◌, ◌++◌, sym, Bool, ◌&&◌, length, refl, ap, ◌∙◌, arith}
use Rattle.std.specs.Prelude.{Option, Some, None, option_to_list}
use Rattle.std.proofs.lemmas.List.{append-nil}
use Rattle.chat_model.specs.declared.ids.GroupId.{GroupId}
use Rattle.chat_model.specs.declared.trigger.Trigger.{Trigger}
use Rattle.notice_ledger.specs.Past.Triggers.{came_by}
use Rattle.chat_model.specs.declared.trigger.Way.TheVariants.{Push}
use Rattle.chat_model.specs.declared.settings.Settings.{Settings}
use Rattle.notice_ledger.specs.Past.Values.{settings}
use Rattle.notice_ledger.specs.Past.Owed.{same_way}
use Rattle.chat_model.specs.declared.row.Stage.TheVariants.{Flight}
use Rattle.book_tables.specs.declared.tables.Waiting.{Waiting}
use Rattle.book_tables.proofs.Following.{notice-kept}
use Rattle.book_tables.proofs.tables.Tables.add_notice.Goals as goal

pub returns-in_ok-push-in-Some : goal.returns-in_ok-push-in-Some
returns-in_ok-push-in-Some c = λ past at message h mentioned found settled.
    let t = c.args.self.now in let u = c.args.user in let w = c.args.way in let tr = c.in-Some.trigger in
    let many : c.len.result ≡ length t.messages.items = omega (arith, c.len.ensures, t.messages.ok.0) in
    let dealt : c.len-in-Some.result ≡ length t.messages.items = omega (arith, c.len-in-Some.ensures, t.messages.ok.0) in
    let made : ℕ → Option GroupId → ℕ → Bool → Option Waiting = λ number via deal online. Some (record { user = u; message = record { 0 = number + 1 }; way = w; trigger = tr; via = via; deal = record { 0 = deal }; online = online; stage = Flight; barred = None }) in
    let online = same_way w Push && (settings past u).push_online in
    let start = c.args.owed.now.items in
    c.in_ok-push-in-Some.ensures.items ∙ ap (λ (o : Option Waiting). start ++ option_to_list o)
    (ap (made c.len.result c.via.result c.len-in-Some.result) (c.pushes_online.ensures ∙ ap (λ (x : Settings). same_way w Push && x.push_online) settled)
    ∙ (ap (λ n. made n c.via.result c.len-in-Some.result online) many
    ∙ (ap (λ v. made (length t.messages.items) v c.len-in-Some.result online) (c.via.ensures past message.text h mentioned)
    ∙ (ap (λ n. made (length t.messages.items) (came_by past message.text u tr) n online) dealt
    ∙ notice-kept t past h at message u w (Some tr) (λ (x : Trigger). let v : Waiting = record { user = u; message = record { 0 = length t.messages.items + 1 }; way = w; trigger = x; via = came_by past message.text u x; deal = record { 0 = length t.messages.items }; online = same_way w Push && (settings past u).push_online; stage = Flight; barred = None } in v) (c.in-Some.ensures ∙ found) (λ x. refl)))))

pub returns-in-None : goal.returns-in-None
returns-in-None c = λ past at message h mentioned found settled.
    let t = c.args.self.now in let u = c.args.user in let w = c.args.way in
    sym (append-nil c.args.owed.now.items)
    ∙ ap (λ (o : Option Waiting). c.args.owed.now.items ++ option_to_list o)
    (notice-kept t past h at message u w None (λ (x : Trigger). let v : Waiting = record { user = u; message = record { 0 = length t.messages.items + 1 }; way = w; trigger = x; via = came_by past message.text u x; deal = record { 0 = length t.messages.items }; online = same_way w Push && (settings past u).push_online; stage = Flight; barred = None } in v) (c.in-None.ensures ∙ found) (λ x. refl))
