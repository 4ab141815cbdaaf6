use Rattle.std.proofs.Common.{◌≡◌, ◌+◌, length, sym, ap, ◌∙◌, arith}
use Rattle.chat_model.specs.declared.request.Answer.TheVariants as answer
use Rattle.notice_ledger.specs.Past.Values.{people, groups}
use Rattle.notice_ledger.specs.Lawful.{lawful}
use Rattle.book_tables.specs.Answers.{answer_of}
use Rattle.book_tables.proofs.Standing.{names_long, groups_long}
use Rattle.book_tables.proofs.tables.Tables.answer.Goals as goal

pub returns-in-AddUser : goal.returns-in-AddUser
returns-in-AddUser c = λ j h.
    let many : c.len.result ≡ length (people (lawful j)) = omega (arith, c.len.ensures, c.args.self.now.names.ok.0, names_long c.args.self.now (lawful j) h) in
    ap (λ n. answer.User (record { 0 = n + 1 })) many ∙ ap (answer_of j) (sym c.in-AddUser.is)

pub returns-in-AddGroup : goal.returns-in-AddGroup
returns-in-AddGroup c = λ j h.
    let many : c.len-in-AddGroup.result ≡ length (groups (lawful j)) = omega (arith, c.len-in-AddGroup.ensures, c.args.self.now.groups.ok.0, groups_long c.args.self.now (lawful j) h) in
    ap (λ n. answer.Group (record { 0 = n + 1 })) many ∙ ap (answer_of j) (sym c.in-AddGroup.is)

pub returns-in-Send : goal.returns-in-Send
returns-in-Send c = λ j h. c.sent.ensures (lawful j) h ∙ ap (answer_of j) (sym c.in-Send.is)

pub returns-in-Direct : goal.returns-in-Direct
returns-in-Direct c = λ j h. c.sent-in-Direct.ensures (lawful j) h ∙ ap (answer_of j) (sym c.in-Direct.is)
