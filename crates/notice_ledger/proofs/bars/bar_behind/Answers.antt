use Rattle.std.proofs.Common.{◌≡◌, ℕ, ◌&&◌, length, take, sym, ap, ◌∙◌, arith}
use Rattle.std.specs.Prelude.{Option, Some, option_and_then, option_map, is_some, nat_lt}
use Rattle.std.proofs.lemmas.Bool.{and_from, lt-ltb}
use Rattle.std.proofs.Math.Bool.{and-false}
use Rattle.std.proofs.lemmas.List.{length-take-le}
use Rattle.chat_model.specs.declared.row.Cause.{Cause}
use Rattle.notice_ledger.specs.declared.bars.FoundBar.{FoundBar}
use Rattle.notice_ledger.specs.Past.Journal.{occurrence}
use Rattle.notice_ledger.specs.Past.Owed.{bar_cause}
use Rattle.notice_ledger.specs.Plain.{bar_found}
use Rattle.notice_ledger.proofs.Appended.{first_behind-nil}
use Rattle.notice_ledger.proofs.Search.{none-before, none-next, found-next, none-all}
use Rattle.notice_ledger.proofs.SlowBars.{bars}
use Rattle.notice_ledger.proofs.bars.bar_behind.Goals as goal
use Rattle.notice_ledger.proofs.bars.bar_behind.Goals.{then-place-i+in_default, else-place-i}

pub loop-i-init : goal.loop-i-init
loop-i-init c = first_behind-nil c.args.place (bars c.args.notice.now)

pub loop-i-preserved : goal.loop-i-preserved
loop-i-preserved c =
    let n = c.args.notice.now in let j = c.args.journal.now in let i = c.loop-i.i in
    elim c.if-place-i.branch [
      | then-place-i+in_default w ↦
          let s = w.index-journal-i.result in
          none-next c.args.place (bars n) j i s c.loop-i-test.true w.index-journal-i.is c.loop-i.invariant
          (ap (λ (o : Option Cause). nat_lt c.args.place i && is_some o) (sym w.in_default.ensures) ∙ and-false (nat_lt c.args.place i))
      | else-place-i w ↦ none-before c.args.place (bars n) j i c.loop-i-test.true w.if-place-i.false
    ]

pub returns-in-Some : goal.returns-in-Some
returns-in-Some c =
    let n = c.args.notice.now in let j = c.args.journal.now in let i = c.loop-i.i in let s = c.index-journal-i.result in
    let long : length (take i j) ≡ i = length-take-le i j (omega (arith, c.loop-i-test.true)) in
    let barred : bar_cause n.user n.message n.way (occurrence (take i j) s) ≡ Some c.in-Some.cause = sym c.in-Some.ensures in
    ap (λ (k : ℕ). let b : FoundBar = record { place = k; cause = c.in-Some.cause } in Some b) (sym long)
    ∙ sym (ap (option_and_then (bar_found n)) (found-next c.args.place (bars n) j i s c.loop-i-test.true c.index-journal-i.is c.loop-i.invariant
    (and_from (nat_lt c.args.place i) (bars n (occurrence (take i j) s)) (lt-ltb c.args.place i c.if-place-i.true) (ap is_some barred)))
    ∙ ap (option_map (λ (k : Cause). let b : FoundBar = record { place = length (take i j); cause = k } in b)) barred)

pub returns : goal.returns
returns c = let n = c.args.notice.now in sym (ap (option_and_then (bar_found n)) (none-all c.args.place (bars n) c.args.journal.now c.loop-i.i c.loop-i-test.false c.loop-i.invariant))
