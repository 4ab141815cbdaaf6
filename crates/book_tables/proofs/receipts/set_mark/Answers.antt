use Rattle.std.proofs.Common.{◌-◌, Bool, true, refl, sym, ◌∙◌, arith}
use Rattle.book_tables.proofs.Numbered.{set_at, changed_numbered-from_zero, changed_at-past}
use Rattle.book_tables.proofs.receipts.set_mark.Goals as goal

abbrev marked : Bool → Bool
marked mark = true

pub returns-then-i-marks : goal.returns-then-i-marks
returns-then-i-marks c =
    set_at marked (c.args.number - 1) c.args.marks.now true true c.if-i-marks.true refl ∙ sym (changed_numbered-from_zero c.args.number marked c.args.marks.now c.if-number-eq0.false)

pub returns-else-i-marks : goal.returns-else-i-marks
returns-else-i-marks c =
    sym (changed_numbered-from_zero c.args.number marked c.args.marks.now c.if-number-eq0.false ∙ changed_at-past (c.args.number - 1) marked c.args.marks.now (omega (arith, c.if-i-marks.false)))
