use Rattle.std.proofs.Common.{◌≡◌, ◌-◌, Option, map, set, sym, ◌∙◌, subst}
use Rattle.std.specs.Prelude.{IfSome}
use Rattle.book_tables.specs.declared.preferences.Preferences.{Preferences}
use Rattle.book_tables.specs.Preferences.{preferred, HasPlaceFor}
use Rattle.book_tables.proofs.Numbered.{numbered-from_zero, changed_at-same, map-set_at, slice_get-set, slice_get-past}
use Rattle.book_tables.proofs.preferences.reserve_preference.Goals.{After-reserve}
use Rattle.book_tables.proofs.preferences.reserve_preference.Goals as goal

-- room changes nothing that a user set
stays : (c : After-reserve) → map preferred (set c.args.all.now (c.args.number - 1) c.reserve.new.self) ≡ map preferred c.args.all.now
stays c =
    let d = c.index-all-i.result in let i = c.args.number - 1 in let ps = c.args.all.now in
    map-set_at preferred (λ p. p) i ps c.reserve.new.self d c.if-i-all.true c.reserve.ensures.same
    ∙ changed_at-same i (map preferred ps)

pub returns-in_err-reserve-clause-same : goal.returns-in_err-reserve-clause-same
returns-in_err-reserve-clause-same c = stays (goal.at.returns-in_err-reserve-clause-same c).After-reserve

pub returns-in_ok-reserve-clause-same : goal.returns-in_ok-reserve-clause-same
returns-in_ok-reserve-clause-same c = stays (goal.at.returns-in_ok-reserve-clause-same c).After-reserve

pub returns-in_ok-reserve-clause-place : goal.returns-in_ok-reserve-clause-place
returns-in_ok-reserve-clause-place c =
    let i = c.args.number - 1 in let ps = c.args.all.now in let y : Preferences = c.reserve.new.self in
    subst (λ (o : Option Preferences). IfSome o (HasPlaceFor c.args.change.now)) (sym (numbered-from_zero c.args.number (set ps i y) c.if-number-eq0.false ∙ slice_get-set i ps y c.if-i-all.true)) c.in_ok-reserve.ensures.ok

pub returns-else-i-all-clause-place : goal.returns-else-i-all-clause-place
returns-else-i-all-clause-place c =
    subst (λ (o : Option Preferences). IfSome o (HasPlaceFor c.args.change.now)) (sym (numbered-from_zero c.args.number c.args.all.now c.if-number-eq0.false ∙ slice_get-past (c.args.number - 1) c.args.all.now c.if-i-all.false)) tt
