use Rattle.std.proofs.Common.{◌≡◌, ℕ, ◌&&◌, length, take, sym, ap, ◌∙◌, arith}
use Rattle.std.proofs.lemmas.List.{length-take-le}
use Rattle.std.specs.Prelude.{Option, Some, option_map, nat_lt}
use Rattle.chat_model.specs.declared.event.Stamped.{Stamped}
use Rattle.notice_ledger.specs.declared.accounts.Account.{Account}
use Rattle.notice_ledger.specs.declared.turns.FoundTurn.{FoundTurn}
use Rattle.notice_ledger.specs.Past.Owed.{is_turn_of}
use Rattle.notice_ledger.specs.Plain.{decided_unbarred_kept, turn_found}
use Rattle.notice_ledger.proofs.Appended.{first_behind-nil}
use Rattle.notice_ledger.proofs.Search.{none-next, found-next, none-all}
use Rattle.notice_ledger.proofs.turns.turn_behind.Goals as goal

pub loop-i-init : goal.loop-i-init
loop-i-init c = let n = c.args.notice.now in first_behind-nil c.args.place (λ o. is_turn_of n.user n.message n.way o.event)

pub loop-i-preserved : goal.loop-i-preserved
loop-i-preserved c =
    let n = c.args.notice.now in
    let same = ap (λ (t : Stamped). nat_lt c.args.place c.loop-i.i && is_turn_of n.user n.message n.way t.event) c.index-journal-i.is in
    none-next c.args.place (λ o. is_turn_of n.user n.message n.way o.event) c.args.journal.now c.loop-i.i c.index-journal-i.result c.loop-i-test.true c.index-journal-i.is c.loop-i.invariant (same ∙ (sym c.is_turn_behind.ensures ∙ c.if-is_turn_behind.false))

pub returns-then-is_turn_behind : goal.returns-then-is_turn_behind
returns-then-is_turn_behind c =
    let n = c.args.notice.now in
    let same = ap (λ (t : Stamped). nat_lt c.args.place c.loop-i.i && is_turn_of n.user n.message n.way t.event) c.index-journal-i.is in
    let past = take c.loop-i.i c.args.journal.now in
    let long : length past ≡ c.loop-i.i = length-take-le c.loop-i.i c.args.journal.now (omega (arith, c.loop-i-test.true)) in
    ap (λ (d : Option Account). let t : FoundTurn = record { place = c.loop-i.i; decided = d } in Some t) c.decided_unbarred.ensures
    ∙ (ap (λ (k : ℕ). let t : FoundTurn = record { place = k; decided = decided_unbarred_kept past n } in Some t) (sym long)
    ∙ sym (ap (option_map (turn_found n)) (found-next c.args.place (λ o. is_turn_of n.user n.message n.way o.event) c.args.journal.now c.loop-i.i c.index-journal-i.result c.loop-i-test.true c.index-journal-i.is c.loop-i.invariant (same ∙ (sym c.is_turn_behind.ensures ∙ c.if-is_turn_behind.true)))))

pub returns : goal.returns
returns c = let n = c.args.notice.now in sym (ap (option_map (turn_found n)) (none-all c.args.place (λ o. is_turn_of n.user n.message n.way o.event) c.args.journal.now c.loop-i.i c.loop-i-test.false c.loop-i.invariant))
