use Rattle.std.proofs.Common.{◌≡◌, ℕ, ◌+◌, List, [], ◌∷◌, length, map, refl, ap, ◌∙◌, arith}
use Rattle.chat_model.specs.Ascending.{ascending_once_by}
use Rattle.chat_model.specs.declared.deal.Deal.{Deal}
use Rattle.chat_model.specs.declared.ids.UserId.{UserId}
use Rattle.notice_ledger.specs.Past.Values.{messages, deal_count}
use Rattle.notice_ledger.specs.Past.Owed.{Notice, owed_by}
use Rattle.book_tables.specs.declared.tables.Waiting.{Waiting}
use Rattle.book_tables.specs.Tables.{in_flight}
use Rattle.book_tables.proofs.Standing.{messages_long, messages_dealt}
use Rattle.book_tables.proofs.tables.Tables.deal_of.Goals as goal

abbrev made : ℕ → ℕ → List UserId → Deal
made number message users = record { number = record { 0 = number }; message = record { 0 = message + 1 }; users = users }

users_kept : (ns : List Notice) → map (λ (w : Waiting). w.user) (map in_flight ns) ≡ map (λ (n : Notice). n.user) ns
users_kept [] = refl
users_kept (n ∷ ns) = ap (λ us. n.user ∷ us) (users_kept ns)

pub returns : goal.returns
returns c = λ o h owed.
    let t = c.args.self.now in
    let ascending : List UserId → List UserId = ascending_once_by (λ u. u.0) in
    let number : c.len.result ≡ deal_count o.past = omega (arith, c.len.ensures, t.messages.ok.0, messages_dealt t o.past h) in
    let message : c.len-2.result ≡ length (messages o.past) = omega (arith, c.len-2.ensures, t.messages.ok.0, messages_long t o.past h) in
    let users = c.ascending_users.ensures ∙ ap ascending (c.in_ok-users.ensures ∙ (ap (map (λ (w : Waiting). w.user)) owed ∙ users_kept (owed_by o))) in
    ap (λ n. made n c.len-2.result c.ascending_users.result) number
    ∙ (ap (λ n. made (deal_count o.past) n c.ascending_users.result) message ∙ ap (made (deal_count o.past) (length (messages o.past))) users)
