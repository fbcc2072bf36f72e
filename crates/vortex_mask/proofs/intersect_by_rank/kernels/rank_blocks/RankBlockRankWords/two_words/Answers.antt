use Rattle.vortex_mask.proofs.Common.{◌+◌, arith, get_or}
use Rattle.vortex_mask.proofs.Kernels.RankBlockLemmas.{ranks-read}
use Rattle.vortex_mask.proofs.intersect_by_rank.kernels.rank_blocks.RankBlockRankWords.two_words.Goals as goal

pub returns-clause-first : goal.returns-clause-first
returns-clause-first c =
    ranks-read c.args.self.now.holds (c.args.self.now.base + c.args.at) c.args.at (get_or c.args.ones 0 0) c.word_inside.result (omega arith) (omega arith) (omega arith) (omega arith) c.word_inside.ensures

pub returns-clause-second : goal.returns-clause-second
returns-clause-second c =
    let next = c.args.at + get_or c.args.ones 0 0 in
    ranks-read c.args.self.now.holds (c.args.self.now.base + c.args.at + get_or c.args.ones 0 0) next (get_or c.args.ones 1 0) c.word_inside-2.result (omega arith) (omega arith) (omega arith) (omega arith) c.word_inside-2.ensures
