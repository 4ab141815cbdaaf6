use Rattle.std.proofs.Common.{◌≡◌, ◌+◌, length, ap, ◌∙◌, arith}
use Rattle.chat_model.specs.declared.request.Answer.TheVariants as answer
use Rattle.notice_ledger.specs.Past.Values.{messages, deal_count}
use Rattle.book_tables.proofs.Standing.{messages_long, messages_dealt}
use Rattle.book_tables.proofs.tables.Tables.sent.Goals as goal

pub returns : goal.returns
returns c = λ past h.
    let many : c.len.result ≡ length (messages past) = omega (arith, c.len.ensures, c.args.self.now.messages.ok.0, messages_long c.args.self.now past h) in
    let dealt : c.len-2.result ≡ deal_count past = omega (arith, c.len-2.ensures, c.args.self.now.messages.ok.0, messages_dealt c.args.self.now past h) in
    ap (λ n. answer.Sent (record { 0 = n + 1 }) (record { 0 = c.len-2.result })) many
    ∙ ap (λ n. answer.Sent (record { 0 = length (messages past) + 1 }) (record { 0 = n })) dealt
