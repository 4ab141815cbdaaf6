use Rattle.std.proofs.Common.{◌<◌, true, length, refl, sym, ◌∙◌, subst, arith}
use Rattle.book_tables.specs.Batched.{AreReadied, period_in}
use Rattle.book_tables.specs.Notices.{moved, readied}
use Rattle.book_tables.proofs.Readied.{notices-then, readied-then, same_periods}
use Rattle.book_tables.proofs.Sought.{got, at_place, in_place-next, in_place-long}
use Rattle.book_tables.proofs.tables.Tables.ready_all.Goals as goal

pub loop-place-preserved : goal.loop-place-preserved
loop-place-preserved c =
    let old = c.args.self.now in let now = c.loop-place.self in let new = c.move_on.new.self in let i = c.loop-place.place in
    let inv = c.loop-place.invariant in
    let long = in_place-long readied old.waiting.items now.waiting.items i inv.waiting in
    let within : i < length now.waiting.items = omega (arith, c.loop-place-test.true, long) in
    record {
      rest = notices-then old now new inv.rest c.move_on.ensures.rest;
      waiting = at_place now.waiting.items i within (λ x there.
          c.move_on.ensures.waiting x there ∙ in_place-next readied old.waiting.items now.waiting.items i x (moved true x) inv.waiting (omega (arith, long, within)) (sym (got now.waiting.items i x x there)) refl);
      batches = readied-then (period_in old.preferences.items) c.args.at now.waiting.items new.waiting.items old.batches now.batches new.batches inv.batches
          (subst (λ q. AreReadied q c.args.at new.waiting.items now.batches new.batches) (same_periods old now inv.rest) c.move_on.ensures.batches);
      room = at_place now.waiting.items i within (λ x there. let spare = c.move_on.ensures.spare x there in let room = inv.room in omega (arith, spare, room));
    }
