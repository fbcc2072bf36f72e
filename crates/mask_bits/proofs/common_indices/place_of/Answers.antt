use Rattle.mask_bits.proofs.Common.{map, arith, length-map}
use Rattle.mask_bits.proofs.Lists.Places.AscendingLemmas.{rises_to}
use Rattle.mask_bits.proofs.common_indices.place_of.Goals as goal
use Rattle.mask_bits.proofs.common_indices.place_of.Goals.{then-loop-high-test+else-number_at-least, else-loop-high-test}

pub loop-high-preserved : goal.loop-high-preserved
loop-high-preserved g c =
    let row = g.N.RowIndex.row_number in
    let list = c.args.list.now in
    let so_far = c.loop-high.invariant in
    record {
      from = omega (arith, so_far.from, c.saturating_add-high.ensures, c.loop-high.auto.high-fits);
      order = omega (arith, so_far.from, so_far.order, c.saturating_add-high.ensures, c.loop-high-test.true);
      within = omega arith;
      before = λ ascending below k h.
          omega (arith, rises_to (map row list) k c.loop-high.high ascending (omega arith) (omega (arith, length-map list row)), c.number_at.ensures.index, c.if-number_at-least.true);
    }

pub returns-clause-split : goal.returns-clause-split
returns-clause-split g c = λ ascending below.
    let row = g.N.RowIndex.row_number in
    let list = c.args.list.now in
    c.place_between.ensures.split ascending (c.loop-high.invariant.before ascending below) (elim c.loop-high-test.branch [
      | then-loop-high-test+else-number_at-least w ↦ λ k h inside.
          omega (arith, rises_to (map row list) c.loop-high.high k ascending (omega (arith, w.loop-high-test.true, c.min.ensures)) (omega (arith, length-map list row)), w.number_at.ensures.index, w.if-number_at-least.false)
      | else-loop-high-test w ↦ λ k h inside. absurd (omega (arith, w.loop-high-test.false, c.min.ensures))
    ])
