use Rattle.std.proofs.Common.{◌-◌, map, sym, ◌∙◌, arith}
use Rattle.std.proofs.lemmas.List.{length-map}
use Rattle.book_tables.specs.Preferences.{preferred, preferred_after}
use Rattle.book_tables.proofs.Numbered.{changed_numbered-from_zero, changed_at-past, map-set_at}
use Rattle.book_tables.proofs.preferences.change_preference.Goals as goal

pub returns-then-i-all : goal.returns-then-i-all
returns-then-i-all c =
    let d = c.index-all-i.result in let i = c.args.number - 1 in let ps = c.args.all.now in
    map-set_at preferred (preferred_after c.args.change) i ps c.change.new.self d c.if-i-all.true c.change.ensures
    ∙ sym (changed_numbered-from_zero c.args.number (preferred_after c.args.change) (map preferred ps) c.if-number-eq0.false)

pub returns-else-i-all : goal.returns-else-i-all
returns-else-i-all c =
    let ps = c.args.all.now in
    sym (changed_numbered-from_zero c.args.number (preferred_after c.args.change) (map preferred ps) c.if-number-eq0.false
    ∙ changed_at-past (c.args.number - 1) (preferred_after c.args.change) (map preferred ps) (simp length-map (omega (arith, c.if-i-all.false))))
