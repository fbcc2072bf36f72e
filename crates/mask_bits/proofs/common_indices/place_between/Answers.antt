use Rattle.mask_bits.proofs.Common.{◌+◌, ◌-◌, ◌/◌, map, arith, length-map}
use Rattle.mask_bits.proofs.Lists.Places.AscendingLemmas.{rises_to}
use Rattle.mask_bits.proofs.common_indices.place_between.Goals as goal

pub loop-low-preserved-then-number_at-least : goal.loop-low-preserved-then-number_at-least
loop-low-preserved-then-number_at-least g c =
    let row = g.N.RowIndex.row_number in
    let list = c.args.list.now in
    let middle = c.loop-low.low + (c.loop-low.high - c.loop-low.low) / 2 in
    let so_far = c.loop-low.invariant in
    record {
      order = omega arith;
      within = so_far.within;
      before = λ ascending below k h.
          omega (arith, rises_to (map row list) k middle ascending (omega arith) (omega (arith, length-map list row, so_far.within)), c.number_at.ensures.index, c.if-number_at-least.true);
      after = so_far.after;
    }

pub loop-low-preserved : goal.loop-low-preserved
loop-low-preserved g c =
    let row = g.N.RowIndex.row_number in
    let list = c.args.list.now in
    let middle = c.loop-low.low + (c.loop-low.high - c.loop-low.low) / 2 in
    let so_far = c.loop-low.invariant in
    record {
      order = omega arith;
      within = omega (arith, so_far.within);
      before = so_far.before;
      after = λ ascending above k h inside.
          omega (arith, rises_to (map row list) middle k ascending h (omega (arith, length-map list row)), c.number_at.ensures.index, c.if-number_at-least.false);
    }
