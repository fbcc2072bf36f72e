use Rattle.vortex_mask.proofs.Common.{arith}
use Rattle.vortex_mask.proofs.Kernels.RankWordLemmas.{gathered-three}
use Rattle.vortex_mask.proofs.intersect_by_rank.kernels.rank_lists.with_three.Goals as goal

pub returns : goal.returns
returns c =
    let ranks = c.args.ranks.now in
    let next = c.args.next.now in
    gathered-three ranks c.args.at c.args.end next c.args.bits c.bit_below-first.result c.bit_below-second.result c.bit_below-third.result c.requires.ascending (omega arith) c.requires.gathered
    c.bit_below-first.ensures.below c.bit_below-first.ensures.past c.bit_below-second.ensures.below c.bit_below-second.ensures.past c.bit_below-third.ensures.below c.bit_below-third.ensures.past
