use Rattle.std.proofs.Common.{◌≡◌, ℕ, ◌+◌, ◌-◌, ◌≤◌, List, [], ◌∷◌, ◌++◌, length, sym, ap, ◌∙◌, refl, subst, arith}
use Rattle.chat_model.specs.declared.event.Stamped.{Stamped}
use Rattle.chat_model.specs.declared.event.Event.TheVariants.{MailTurn}
use Rattle.notice_ledger.specs.Past.Outbox as past
use Rattle.notice_ledger.specs.Lawful.{lawful}
use Rattle.notice_ledger.proofs.LawfulLemmas.{lawful-next}
use Rattle.book_tables.specs.Tables.{found_due}
use Rattle.book_tables.proofs.Following.{outbox-mails}
use Rattle.office.proofs.Offices.{turn_lawful}
use Rattle.office.proofs.Reaching.{reached-kept}
use Rattle.office.proofs.office.Office.mail_turn.Goals as goal
use Rattle.office.proofs.office.Office.mail_turn.Goals.{After-entries}
use Rattle.office.proofs.office.Office.mail_turn.Given.{Over}

-- the outbox grew by the entries of the turn
grown : (g : Over) (c : After-entries g) → c.entries.result ≡ c.entries-before.result + length (past.mail_entries (lawful c.args.self.now.journal) c.stamp-at.result c.in-Some.first.user)
grown g c =
    let j = c.args.self.now.journal in let u = c.in-Some.first.user in
    let event : Stamped = record { at = c.stamp-at.result; event = MailTurn u } in
    let next = turn_lawful j c.args.now c.stamp-at.result u (found_due c.in-Some.first) (sym c.in-Some.ensures) refl (subst (λ n. c.in-Some.first.due ≤ n) c.seconds.ensures.value c.if-seconds-first.false) c.stamp-at.ensures in
    c.entries.ensures
    ∙ (ap (λ (k : List Stamped). length (past.outbox k)) (ap lawful c.in_ok-record.ensures.ok ∙ lawful-next j event next)
    ∙ (outbox-mails (lawful j) c.stamp-at.result u ∙ ap (λ n. n + length (past.mail_entries (lawful j) c.stamp-at.result u)) (sym c.entries-before.ensures)))

pub overflow_sub-entries : goal.overflow_sub-entries
overflow_sub-entries g c = omega (arith, grown g c)

pub returns-clause-answered : goal.returns-clause-answered
returns-clause-answered g c =
    let j = c.args.self.now.journal in let u = c.in-Some.first.user in
    let made : c.entries.result - c.entries-before.result ≡ length (past.mail_entries (lawful j) c.stamp-at.result u) = omega (arith, grown g c) in (
      found_due c.in-Some.first,
      record { first = sym c.in-Some.ensures; by_now = subst (λ n. c.in-Some.first.due ≤ n) (c.seconds.ensures.value ∙ c.stamp-at.ensures) c.if-seconds-first.false },
      refl,
      c.in_ok-record.ensures.ok ∙ ap (λ (n : ℕ). j ++ record { at = n; event = MailTurn u } ∷ []) c.stamp-at.ensures,
      made ∙ ap (λ n. length (past.mail_entries (lawful j) n u)) c.stamp-at.ensures,
      c.dropped-dropped.ensures,
    )

pub returns-clause-reached : goal.returns-clause-reached
returns-clause-reached g c =
    let s : Stamped = record { at = c.stamp-at.result; event = MailTurn c.in-Some.first.user } in
    reached-kept c.args.self.now.journal c.record.new.self.journal s c.args.self.now.in_hand c.record.new.self.in_hand refl refl c.in_ok-record.ensures.ok c.record.ensures.in_hand
