use Rattle.std.proofs.Common.{◌≡◌, ℕ, ◌&&◌, Bool, not, Some, take, length, sym, ap, ◌∙◌, arith}
use Rattle.std.specs.Prelude.{option_map, nat_lt}
use Rattle.std.proofs.lemmas.List.{length-take-le}
use Rattle.notice_ledger.specs.declared.owed.Owed.{Owed}
use Rattle.notice_ledger.specs.declared.readiness.Spot.{Spot}
use Rattle.notice_ledger.specs.Past.Journal.{Occurrence, some_behind}
use Rattle.notice_ledger.specs.Past.Owed.{readies, clears}
use Rattle.notice_ledger.specs.Plain.{spot_of, cleared_kept}
use Rattle.notice_ledger.proofs.Appended.{first_behind-nil}
use Rattle.notice_ledger.proofs.Search.{none-next, found-next, none-all}
use Rattle.notice_ledger.proofs.readiness.ready.Goals as goal

-- an event makes the notice ready, and none behind the owing one cleared it before
abbrev test : Owed → Occurrence → Bool
test n o = readies n.user n.deal n.online o.event && not (some_behind n.place (λ p. clears n.user n.deal p.event) o.past)

pub loop-i-init : goal.loop-i-init
loop-i-init c = first_behind-nil c.args.notice.now.place (test c.args.notice.now)

pub loop-i-preserved : goal.loop-i-preserved
loop-i-preserved c =
    let n = c.args.notice.now in let past = take c.loop-i.i c.args.journal.now in let s = c.index-journal-i.result in
    let long : length past ≡ c.loop-i.i = length-take-le c.loop-i.i c.args.journal.now (omega arith) in
    none-next n.place (test n) c.args.journal.now c.loop-i.i s c.loop-i-test.true c.index-journal-i.is c.loop-i.invariant
    (ap (λ i. nat_lt n.place i && (readies n.user n.deal n.online s.event && not (cleared_kept past n))) (sym long) ∙ (sym c.is_ready_at.ensures ∙ c.if-is_ready_at.false))

pub returns-then-is_ready_at : goal.returns-then-is_ready_at
returns-then-is_ready_at c =
    let n = c.args.notice.now in let past = take c.loop-i.i c.args.journal.now in let s = c.index-journal-i.result in
    let long : length past ≡ c.loop-i.i = length-take-le c.loop-i.i c.args.journal.now (omega arith) in
    ap (λ (i : ℕ). let spot : Spot = record { place = i; at = s.at } in Some spot) (sym long)
    ∙ sym (ap (option_map spot_of) (found-next n.place (test n) c.args.journal.now c.loop-i.i s c.loop-i-test.true c.index-journal-i.is c.loop-i.invariant
    (ap (λ i. nat_lt n.place i && (readies n.user n.deal n.online s.event && not (cleared_kept past n))) (sym long) ∙ (sym c.is_ready_at.ensures ∙ c.if-is_ready_at.true))))

pub returns : goal.returns
returns c = sym (ap (option_map spot_of) (none-all c.args.notice.now.place (test c.args.notice.now) c.args.journal.now c.loop-i.i c.loop-i-test.false c.loop-i.invariant))
