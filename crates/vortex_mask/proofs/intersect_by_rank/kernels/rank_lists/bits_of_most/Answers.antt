use Rattle.vortex_mask.proofs.Kernels.RankWordLemmas.{gathered_none, gathered-four}
use Rattle.vortex_mask.proofs.intersect_by_rank.kernels.rank_lists.bits_of_most.Goals as goal

pub returns-then-next-ranks : goal.returns-then-next-ranks
returns-then-next-ranks c = gathered_none c.args.ranks.now c.args.at c.args.end c.args.next.now c.requires.ordered c.requires.from

pub returns-then-next-ranks-2 : goal.returns-then-next-ranks-2
returns-then-next-ranks-2 c = gathered_none c.args.ranks.now c.args.at c.args.end c.args.next.now c.requires.ordered c.requires.from

pub loop-next-init : goal.loop-next-init
loop-next-init c = gathered_none c.args.ranks.now c.args.at c.args.end c.args.next.now c.requires.ordered c.requires.from

pub loop-next-preserved : goal.loop-next-preserved
loop-next-preserved c =
    gathered-four c.args.ranks.now c.args.at c.args.end c.loop-next.next c.loop-next.bits c.requires.ascending c.requires.few c.loop-next-test.true c.if-ranks-next-3.true c.loop-next.invariant
