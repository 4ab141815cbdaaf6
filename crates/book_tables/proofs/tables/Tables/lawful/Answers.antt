use Rattle.std.proofs.Common.{◌≡◌, ℕ, true, ◌&&◌, sym, ap, ◌∙◌, arith}
use Rattle.std.specs.Prelude.{nat_le}
use Rattle.std.specs.Ordering.{nat_cmp, is_le}
use Rattle.std.proofs.lemmas.Bool.Decides.{nat_tests}
use Rattle.chat_model.specs.declared.event.Event.{Event}
use Rattle.notice_ledger.specs.Lawful.{lawful}
use Rattle.notice_ledger.specs.Past.Journal.{last_stamp}
use Rattle.notice_ledger.specs.Past.Lawful.{may_stand}
use Rattle.book_tables.proofs.tables.Tables.lawful.Goals as goal

not_above : (a b : ℕ) → is_le (nat_cmp a b) ≡ nat_le a b
not_above a b = grind (arith, nat_tests)

pub returns-in-PushTurn : goal.returns-in-PushTurn
returns-in-PushTurn c = λ j stands.
    let s = c.args.event.now in let past = lawful j in
    let low : nat_le (last_stamp past) s.at ≡ true = ap (λ n. nat_le n s.at) (sym stands.last) ∙ (sym (not_above c.args.self.now.last s.at) ∙ (sym c.le.ensures ∙ c.if-le.true)) in
    c.is_oldest.ensures j s.at stands ∙ (ap (λ (e : Event). may_stand past s.at e) (sym c.in-PushTurn.is) ∙ sym (ap (λ b. b && may_stand past s.at s.event) low))
