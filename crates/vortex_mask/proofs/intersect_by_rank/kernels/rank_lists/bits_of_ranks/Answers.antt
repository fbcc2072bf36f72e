use Rattle.vortex_mask.proofs.Common.{◌-◌, ◌<◌, get_or, arith, one_shl}
use Rattle.vortex_mask.proofs.Kernels.RankWordLemmas.{gathered-more, gathered-split, gathered-bits}
use Rattle.vortex_mask.proofs.intersect_by_rank.kernels.rank_lists.bits_of_ranks.Goals as goal

pub loop-next-preserved : goal.loop-next-preserved
loop-next-preserved c =
    let few : get_or c.args.ranks.now c.loop-next.next 0 - c.args.at < 64 = omega (arith, c.if-ranks-next.true, c.requires.few) in
    gathered-more c.args.ranks.now c.args.at c.args.end c.loop-next.next c.loop-next.bits _ c.loop-next-test.true c.if-ranks-next.true
    (one_shl (get_or c.args.ranks.now c.loop-next.next 0 - c.args.at) 64 few) c.loop-next.invariant

pub returns-else-ranks-next-clause-bits : goal.returns-else-ranks-next-clause-bits
returns-else-ranks-next-clause-bits c =
    gathered-bits c.args.ranks.now c.args.at c.args.end c.loop-next.next c.loop-next.bits c.requires.few c.requires.ascending (λ h. c.if-ranks-next.false) c.loop-next.invariant

pub returns-else-ranks-next-clause-passed : goal.returns-else-ranks-next-clause-passed
returns-else-ranks-next-clause-passed c =
    gathered-split c.args.ranks.now c.args.at c.args.end c.loop-next.next c.loop-next.bits c.requires.ascending (λ h. c.if-ranks-next.false) c.loop-next.invariant
