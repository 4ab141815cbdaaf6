use Rattle.std.proofs.Common.{arith}
use Rattle.chat_model.proofs.PlaceLemmas.{place_above, place_up_to, place_within}
use Rattle.chat_model.proofs.places.place.Goals as goal

pub loop-low-init : goal.loop-low-init
loop-low-init c = record { from = omega arith; to = place_within c.args.key c.args.rows.now; within = omega arith }

pub loop-low-preserved-then-is_below : goal.loop-low-preserved-then-is_below
loop-low-preserved-then-is_below c = record {
  from = place_above c.args.key c.args.rows.now _ c.index-rows-middle.result c.is_below.result c.requires (omega arith) c.index-rows-middle.is c.is_below.ensures c.if-is_below.true;
  to = c.loop-low.invariant.to;
  within = c.loop-low.invariant.within;
}

pub loop-low-preserved : goal.loop-low-preserved
loop-low-preserved c = record {
  from = c.loop-low.invariant.from;
  to = place_up_to c.args.key c.args.rows.now _ c.index-rows-middle.result c.is_below.result c.requires (omega arith) c.index-rows-middle.is c.is_below.ensures c.if-is_below.false;
  within = omega arith;
}
