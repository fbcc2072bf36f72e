use Rattle.vortex_mask.proofs.Common.{arith}
use Rattle.vortex_mask.proofs.Masks.FoldLemmas.{fold_more}
use Rattle.vortex_mask.proofs.mask.Mask.intersect_all_by_rank.Goals as goal

pub loop-mask-preserved : goal.loop-mask-preserved
loop-mask-preserved c =
    let made = c.in_ok-narrowed-2.ensures in
    record {
      fold = fold_more c.args.self.now c.args.masks.now c.loop-mask.mask-index c.loop-mask.narrowed c.mask-item.result c.in_ok-narrowed-2.narrowed c.loop-mask-test.true c.mask-item.is c.loop-mask.invariant.fold made.list made.variant;
      alone = λ first. absurd (omega (arith, first));
    }
